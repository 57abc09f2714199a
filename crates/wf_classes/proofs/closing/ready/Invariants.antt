use Rattle.wf_classes.specs.Closing.{ListsZeros}
use Rattle.wf_classes.proofs.closing.ready.Given as goal

abbrev pub invariant-loop-i : goal.invariant-loop-i
invariant-loop-i l = ListsZeros l.waiting l.i l.order.items
