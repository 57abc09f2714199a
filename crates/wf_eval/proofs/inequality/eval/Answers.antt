use Rattle.std.proofs.Common.{ℕ}
use Rattle.wf_system.specs.Bodies.{tables_of}
use Rattle.wf_eval.specs.Reading.{rows_of}
use Rattle.wf_eval.specs.Answers.{word_of}
use Rattle.wf_eval.proofs.AnswerLaws.{lies_between, eval_said, none_said, moved_said}
use Rattle.wf_eval.proofs.inequality.eval.Goals as goal

pub returns-then-not-guard-clause-answers : goal.returns-then-not-guard-clause-answers
returns-then-not-guard-clause-answers g c = lies_between (λ (x : ℕ → ℕ). word_of (tables_of c.args.shape.now c.args.threshold c.args.side.now) c.args.ineq (rows_of c.args.shape.now x) c.args.k) (g.W.Words.seen c.args.words.now) (g.W.Words.seen c.guard.new.words) 0
    (moved_said c.args.ineq c.args.k c.new-lookup.result.shape.now c.args.shape.now c.new-lookup.result.most c.args.threshold c.new-lookup.result.side.now c.args.side.now 0 c.new-lookup.ensures.shape c.new-lookup.ensures.most c.new-lookup.ensures.side (none_said c.new-lookup.result.shape.now c.new-lookup.result.most c.new-lookup.result.side.now c.args.ineq c.args.k c.guard.result c.if-not-guard.true c.guard.ensures))

pub returns-clause-bounds : goal.returns-clause-bounds
returns-clause-bounds g c = moved_said c.args.ineq c.args.k c.new-lookup.result.shape.now c.args.shape.now c.new-lookup.result.most c.args.threshold c.new-lookup.result.side.now c.args.side.now c.word.result c.new-lookup.ensures.shape c.new-lookup.ensures.most c.new-lookup.ensures.side (eval_said c.new-lookup.result.shape.now c.new-lookup.result.most c.new-lookup.result.side.now c.args.ineq c.args.k c.guard.result c.plan-plan.result c.word.result c.if-not-guard.false c.guard.ensures c.plan-plan.ensures.said c.word.ensures)

pub returns-clause-answers : goal.returns-clause-answers
returns-clause-answers g c = lies_between (λ (x : ℕ → ℕ). word_of (tables_of c.args.shape.now c.args.threshold c.args.side.now) c.args.ineq (rows_of c.args.shape.now x) c.args.k) (g.W.Words.seen c.args.words.now) (g.W.Words.seen c.word.new.words) c.word.result
    (moved_said c.args.ineq c.args.k c.new-lookup.result.shape.now c.args.shape.now c.new-lookup.result.most c.args.threshold c.new-lookup.result.side.now c.args.side.now c.word.result c.new-lookup.ensures.shape c.new-lookup.ensures.most c.new-lookup.ensures.side (eval_said c.new-lookup.result.shape.now c.new-lookup.result.most c.new-lookup.result.side.now c.args.ineq c.args.k c.guard.result c.plan-plan.result c.word.result c.if-not-guard.false c.guard.ensures c.plan-plan.ensures.said c.word.ensures))
