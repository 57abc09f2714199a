use Rattle.std.proofs.Common.{◌≡◌, ℕ, List, ◌≤◌, ◌<◌, ◌^◌, ◌+◌, ◌-◌, length}
use Rattle.wf_lattice.specs.Words.{words_of, counted, types_of}
use Rattle.wf_lattice.proofs.words.has_more_types.Given as goal

pub record Counts (words : List ℕ) (k count : ℕ) : Type 0 where
  pub behind_flags : 1 ≤ k
  pub inside : k ≤ length words
  pub few : count < 2 ^ 33
  pub counted : count ≡ counted k (types_of (words_of words))

abbrev pub invariant-loop-k : goal.invariant-loop-k
invariant-loop-k l = Counts l.fn.words l.k l.count

abbrev pub decreases-loop-k : goal.decreases-loop-k
decreases-loop-k l = length l.words + 1 - l.k
