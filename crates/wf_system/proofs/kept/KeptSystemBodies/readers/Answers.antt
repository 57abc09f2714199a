use Rattle.std.proofs.Common.{List, slice_index_or, ap, ◌∙◌, subst}
use Rattle.wf_base.specs.declared.ids.NodeId.{NodeId}
use Rattle.wf_system.specs.declared.inequality.Inequality.{Inequality}
use Rattle.wf_system.specs.Bodies.{System}
use Rattle.wf_system.specs.Kept.{AreKept}
use Rattle.wf_system.proofs.KeptLaws.{readers_kept}
use Rattle.wf_system.proofs.kept.KeptSystemBodies.readers.Goals as goal

pub returns-clause-readers : goal.returns-clause-readers
returns-clause-readers c = readers_kept c.args.self.now c.self.inside.readers c.args.node c.index-as_slice-node.result c.as_slice-list.result.now
    (subst (λ (s : System). AreKept s c.self.inside.readers) c.self.view_is c.self.invariant) c.requires
    (c.index-as_slice-node.is ∙ ap (λ (l : List (List (Inequality NodeId))). slice_index_or l c.args.node.0 c.index-as_slice-node.result) c.as_slice.ensures) c.as_slice-list.ensures
