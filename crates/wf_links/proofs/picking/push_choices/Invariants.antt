use Rattle.wf_links.specs.Candidates.{AreChosen}
use Rattle.wf_links.proofs.picking.push_choices.Given as goal

abbrev pub invariant-loop-n : goal.invariant-loop-n
invariant-loop-n l = AreChosen l.types l.callee l.n l.found.items
