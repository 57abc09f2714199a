use Rattle.wf_eval.specs.Reading.{span_row}
use Rattle.std.proofs.Common.{ℕ, arith}
use Rattle.wf_eval.proofs.SaidLaws.{any_more, any_found}
use Rattle.wf_eval.proofs.lookup.Lookup.any_of.Goals as goal

pub returns-then-word_of-ne0 : goal.returns-then-word_of-ne0
returns-then-word_of-ne0 g c = any_found (λ (x : ℕ → ℕ). span_row x c.args.at) c.args.at.words c.loop-k.k c.word_of.result (omega arith) c.if-word_of-ne0.true c.loop-k.invariant c.word_of.ensures

pub loop-k-preserved : goal.loop-k-preserved
loop-k-preserved g c = any_more (λ (x : ℕ → ℕ). span_row x c.args.at) c.loop-k.k c.word_of.result c.if-word_of-ne0.false c.loop-k.invariant c.word_of.ensures
