use Rattle.std.proofs.Common.{◌≢◌, ℕ, ◌<◌, slice_index_or}
use Rattle.wf_base.specs.declared.ids.NodeId.{NodeId}
use Rattle.wf_system.specs.declared.inequality.Guard.TheVariants.{Always}
use Rattle.wf_system.specs.declared.inequality.Inequality.{Inequality}
use Rattle.wf_system.specs.Fits.{Fits}
use Rattle.wf_system.specs.Bodies.{tables_of}
use Rattle.wf_system.proofs.shaped.rows_fit.Given as goal

abbrev pub invariant-loop-row : goal.invariant-loop-row
invariant-loop-row l = (most i : ℕ) (d : Inequality NodeId) → i < l.row-index → Fits (tables_of l.shape most l.side) (slice_index_or l.rows i d) × ((slice_index_or l.rows i d).guard ≢ Always)
