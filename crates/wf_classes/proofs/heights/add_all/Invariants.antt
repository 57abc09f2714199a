use Rattle.wf_classes.specs.Above.{Adds, IsHeightAmong}
use Rattle.wf_classes.proofs.heights.add_all.Given as goal

abbrev pub invariant-loop-c : goal.invariant-loop-c
invariant-loop-c l = Adds l.initial.bits l.bits (IsHeightAmong l.heights l.ids l.c-index)
