use Rattle.wf_subtype.proofs.TypeFacts.{IsDeepestOf}
use Rattle.wf_subtype.proofs.types.deepest_of.Given as goal

abbrev pub invariant-loop-r : goal.invariant-loop-r
invariant-loop-r l = IsDeepestOf l.references l.r-index l.deepest
