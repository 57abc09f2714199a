use Rattle.std.proofs.Common.{◌≡◌, length}
use Rattle.wf_listing.specs.Lines.{cases_said}
use Rattle.wf_listing.proofs.Cases.{with_front}
use Rattle.wf_listing.proofs.lines.switches.cases_said.Given as goal

abbrev pub invariant-loop-rest : goal.invariant-loop-rest
invariant-loop-rest l = with_front l.cases.items (cases_said l.rest) ≡ cases_said l.words

abbrev pub decreases-loop-rest : goal.decreases-loop-rest
decreases-loop-rest l = length l.rest
