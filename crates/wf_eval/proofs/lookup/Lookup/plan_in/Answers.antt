use Rattle.std.proofs.Common.{refl}
use Rattle.wf_eval.proofs.AnswerLaws.{low_at, high_at}
use Rattle.wf_eval.proofs.lookup.Lookup.plan_in.Goals as goal

pub returns-clause-low : goal.returns-clause-low
returns-clause-low c = low_at _ _ c.plan.ensures.said c.args.words.now c.plan.new.words.words.now c.new-kept.ensures.log c.new-kept.ensures.words refl c.plan.new.words.tells

pub returns-clause-high : goal.returns-clause-high
returns-clause-high c = λ x above. high_at _ _ c.plan.ensures.said c.args.words.now c.plan.new.words.words.now c.new-kept.ensures.log c.new-kept.ensures.words refl c.plan.new.words.tells x above
