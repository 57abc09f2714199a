use Rattle.wf_classes.proofs.WaitLists.{Moved}
use Rattle.wf_classes.proofs.kept.move_to_front.Given as goal

abbrev pub invariant-loop-i : goal.invariant-loop-i
invariant-loop-i l = Moved l.waiting l.initial.files l.files l.i l.kept
