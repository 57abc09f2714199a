use Rattle.std.proofs.Common.{◌≡◌}
use Rattle.wf_lattice.specs.Words.{words_of, counted, both, types_of}
use Rattle.wf_lattice.proofs.words.has_more_of_both.Given as goal

abbrev pub invariant-loop-k : goal.invariant-loop-k
invariant-loop-k l = l.count ≡ counted l.k (both (types_of (words_of l.inst)) (words_of l.mask))
