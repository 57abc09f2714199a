use Rattle.std.proofs.Common.{ℕ, ◌<◌, [], slice_index_or}
use Rattle.wf_lattice.specs.Words.{AreWords, words_of}
use Rattle.wf_system.proofs.shaped.rows_are_words.Given as goal

abbrev pub invariant-loop-mask : goal.invariant-loop-mask
invariant-loop-mask l = (u : ℕ) → u < l.mask-index → AreWords (words_of (slice_index_or l.masks u []))
