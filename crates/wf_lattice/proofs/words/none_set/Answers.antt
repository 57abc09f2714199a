use Rattle.std.proofs.Common.{sym, length}
use Rattle.wf_lattice.specs.Words.{words_of}
use Rattle.wf_lattice.proofs.RowLaws.{word_there}
use Rattle.wf_lattice.proofs.words.none_set.Goals as goal

pub returns-then-word-ne0 : goal.returns-then-word-ne0
returns-then-word-ne0 c = sym (word_there (length c.args.words.now) c.loop-word.word-index (words_of c.args.words.now) c.loop-word-test.true c.if-word-ne0.true)
