use Rattle.std.proofs.Common.{◌≡◌, ℕ, ◌<◌, Some, None, slice_index_or}
use Rattle.wf_base.specs.declared.ids.NodeId.{NodeId}
use Rattle.wf_lattice.specs.declared.kind.NodeKind.TheVariants.{Refs}
use Rattle.wf_system.specs.Shapes.{shape_at}
use Rattle.wf_system.proofs.shaped.elems_fit.Given as goal

abbrev pub invariant-loop-elem : goal.invariant-loop-elem
invariant-loop-elem l = (c : ℕ) (n : NodeId) → c < l.elem-index → slice_index_or l.elems c None ≡ Some n → (shape_at l.shape n.0).kind ≡ Refs
