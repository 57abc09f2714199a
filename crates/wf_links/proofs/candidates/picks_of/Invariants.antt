use Rattle.std.proofs.Common.{take}
use Rattle.wf_links.specs.Candidates.{AreTableOf}
use Rattle.wf_links.proofs.candidates.picks_of.Given as goal

abbrev pub invariant-loop-choice : goal.invariant-loop-choice
invariant-loop-choice l = AreTableOf l.candidates (take l.choice-index l.chosen) l.picks.items
