use Rattle.std.proofs.Common.{◌≡◌, true}
use Rattle.wf_lattice.specs.Words.{words_of, is_empty}
use Rattle.wf_lattice.proofs.words.none_set.Given as goal

abbrev pub invariant-loop-word : goal.invariant-loop-word
invariant-loop-word l = is_empty l.word-index (words_of l.words) ≡ true
