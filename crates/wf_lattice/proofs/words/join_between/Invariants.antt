use Rattle.std.proofs.Common.{false}
use Rattle.wf_lattice.specs.Words.{words_of, both, JoinsBetween}
use Rattle.wf_lattice.specs.Meaning.{types_if}
use Rattle.wf_lattice.proofs.words.join_between.Given as goal

abbrev pub invariant-loop-k : goal.invariant-loop-k
invariant-loop-k l = JoinsBetween (both (types_if false (words_of l.value) (words_of l.inst)) (words_of l.mask)) l.fn.from l.k l.fn.into l.into
