use Rattle.std.proofs.Common.{◌≡◌, ℕ, ◌+◌, ◌<◌, length, get_or, take}
use Rattle.std.specs.Prelude.{◌==◌, min, count_by}
use Rattle.wf_blocks.specs.Answers.{most}
use Rattle.wf_blocks.proofs.ways.add_ways.Given as goal

abbrev pub invariant-loop-to : goal.invariant-loop-to
invariant-loop-to l = (p : ℕ) → p < length l.initial.ways → get_or l.ways p 0 ≡ min most (get_or l.initial.ways p 0 + count_by (λ t. t == p) (take l.to-index l.targets))
