use Rattle.std.proofs.Common.{List, length, subst}
use Rattle.wf_base.specs.declared.ids.NodeId.{NodeId}
use Rattle.wf_system.specs.declared.inequality.Inequality.{Inequality}
use Rattle.wf_system.specs.Bodies.{system_of}
use Rattle.wf_system.specs.Kept.{AreListed}
use Rattle.wf_system.proofs.KeptLaws.{all_kept}
use Rattle.wf_system.proofs.kept.KeptSystem.new.Goals as goal

pub invariant_of-result : goal.invariant_of-result
invariant_of-result c = all_kept (system_of c.args.shape c.args.threshold c.args.side c.args.rows) c.in_ok-readers.readers c.requires.fits
    (subst (λ (l : List (Inequality NodeId)). AreListed (system_of c.args.shape c.args.threshold c.args.side l) (length l) c.in_ok-readers.readers) c.as_slice.ensures (c.in_ok-readers.ensures c.args.threshold))
