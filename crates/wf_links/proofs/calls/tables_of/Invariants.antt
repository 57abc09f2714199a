use Rattle.std.proofs.Common.{take}
use Rattle.wf_links.specs.Candidates.{AreTables}
use Rattle.wf_links.proofs.calls.tables_of.Given as goal

abbrev pub invariant-loop-callee : goal.invariant-loop-callee
invariant-loop-callee l = AreTables l.types (take l.callee-index l.callees) l.candidates.items l.picks.items
