use Rattle.std.proofs.Common.{◌≡◌, ◌≤◌, length}
use Rattle.wf_listing.specs.Reading.{drop_spaces}
use Rattle.wf_listing.proofs.read.drop_spaces.Given as goal

abbrev pub invariant-loop-rest : goal.invariant-loop-rest
invariant-loop-rest l = (drop_spaces l.rest ≡ drop_spaces l.line) × (length l.rest ≤ length l.line)

abbrev pub decreases-loop-rest : goal.decreases-loop-rest
decreases-loop-rest l = length l.rest
