use Rattle.wf_eval.proofs.AnswerLaws.{tells_more, tells_grow}
use Rattle.std.proofs.Common.{subst, sym, refl}
use Rattle.wf_eval.specs.Kept.{Tells}
use Rattle.wf_eval.proofs.kept_words.KeptWordsWords.word.Goals as goal

pub returns-clause-grows : goal.returns-clause-grows
returns-clause-grows c = λ _. tells_grow c.args.self.now.words.now c.and-self.result.items
    (subst (Tells c.args.self.now.words.now) (sym c.and-self.ensures) (tells_more c.args.self.now.words.now c.args.self.now.log.items c.args.index _ c.args.self.now.tells refl))
