use Rattle.std.proofs.Common.{drop}
use Rattle.wf_classes.proofs.Telling.{Tells}
use Rattle.wf_classes.proofs.closing.release.Given as goal

abbrev pub invariant-loop-wait : goal.invariant-loop-wait
invariant-loop-wait l = Tells l.initial.told l.initial.waiting l.initial.order.items (drop l.wait-index l.told) l.waiting l.order.items
