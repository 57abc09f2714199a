use Rattle.wf_lattice.specs.Words.{words_of, types_of, both, JoinsBetween}
use Rattle.wf_lattice.proofs.words.join_both.Given as goal

abbrev pub invariant-loop-k : goal.invariant-loop-k
invariant-loop-k l = JoinsBetween (both (types_of (words_of l.inst)) (words_of l.mask)) 0 l.k l.fn.into l.into
