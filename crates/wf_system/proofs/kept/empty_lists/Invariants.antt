use Rattle.wf_system.specs.Kept.{AreEmpty}
use Rattle.wf_system.proofs.kept.empty_lists.Given as goal

abbrev pub invariant-loop : goal.invariant-loop
invariant-loop l = AreEmpty l.counter l.lists
