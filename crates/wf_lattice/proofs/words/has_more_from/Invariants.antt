use Rattle.std.proofs.Common.{◌≡◌}
use Rattle.wf_lattice.specs.Words.{words_of, counted, types_of}
use Rattle.wf_lattice.proofs.words.has_more_from.Given as goal

abbrev pub invariant-loop-i : goal.invariant-loop-i
invariant-loop-i l = l.count ≡ counted l.i (types_of (words_of l.fn.words))
