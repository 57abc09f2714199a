use Rattle.std.proofs.Common.{◌≡◌, ℕ, List, ◌≤◌, ◌<◌, ◌^◌, ◌+◌, ◌-◌, false, length}
use Rattle.wf_lattice.specs.Words.{words_of, counted, types_of, both, JoinsBetween}
use Rattle.wf_lattice.specs.Meaning.{types_if}
use Rattle.wf_lattice.proofs.words.join_counted.Given as goal

pub record Counts (value inst mask old new : List ℕ) (k count : ℕ) : Type 0 where
  pub behind_flags : 1 ≤ k
  pub inside : k ≤ length mask
  pub few : count < 2 ^ 33
  pub counted : count ≡ counted k (types_of (words_of value))
  pub joined : JoinsBetween (both (types_if false (words_of value) (words_of inst)) (words_of mask)) 0 k old new

abbrev pub invariant-loop-k : goal.invariant-loop-k
invariant-loop-k l = Counts l.fn.value l.fn.inst l.fn.mask l.fn.into l.into l.k l.count

abbrev pub decreases-loop-k : goal.decreases-loop-k
decreases-loop-k l = length l.mask + 1 - l.k
