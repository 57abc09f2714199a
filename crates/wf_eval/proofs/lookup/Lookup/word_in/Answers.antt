use Rattle.std.proofs.Common.{refl}
use Rattle.wf_lattice.specs.Words.{words_of}
use Rattle.wf_lattice.proofs.RowLaws.{within_itself}
use Rattle.wf_eval.proofs.AnswerLaws.{same_word, low_at, high_at}
use Rattle.wf_eval.proofs.lookup.Lookup.word_in.Goals as goal

pub returns : goal.returns
returns c = same_word _ _ (high_at _ _ c.word.ensures c.args.words.now c.word.new.words.words.now c.new-kept.ensures.log c.new-kept.ensures.words refl c.word.new.words.tells (words_of c.args.words.now) (within_itself (words_of c.args.words.now)))
    (low_at _ _ c.word.ensures c.args.words.now c.word.new.words.words.now c.new-kept.ensures.log c.new-kept.ensures.words refl c.word.new.words.tells)
