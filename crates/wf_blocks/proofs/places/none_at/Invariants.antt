use Rattle.std.proofs.Common.{◌≡◌, ◌-◌, length, None}
use Rattle.std.specs.Prelude.{replicate}
use Rattle.wf_blocks.specs.Methods.{filled}
use Rattle.wf_blocks.proofs.places.none_at.Given as goal

abbrev pub invariant-loop-all : goal.invariant-loop-all
invariant-loop-all l = filled l.all.items None l.count ≡ replicate l.count None

abbrev pub decreases-loop-all : goal.decreases-loop-all
decreases-loop-all l = l.count - length l.all.items
