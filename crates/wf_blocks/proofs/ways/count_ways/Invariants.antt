use Rattle.std.proofs.Common.{◌≡◌, ℕ, ◌+◌, ◌<◌, length, get_or, take}
use Rattle.std.specs.Prelude.{min, map, is_some}
use Rattle.wf_blocks.specs.Answers.{most, entry_ways, ways_to}
use Rattle.wf_blocks.proofs.ways.count_ways.Given as goal

abbrev pub invariant-loop-place : goal.invariant-loop-place
invariant-loop-place l = (p : ℕ) → p < length l.steps → get_or l.ways p 0 ≡ min most (entry_ways p + ways_to p (take l.place l.steps) (map is_some (take l.place l.counts)))
