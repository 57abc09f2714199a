use Rattle.wf_eval.specs.Plans.{set_row}
use Rattle.std.proofs.Common.{ℕ, arith}
use Rattle.wf_eval.proofs.SaidLaws.{any_more, any_found}
use Rattle.wf_eval.proofs.lookup.Lookup.has_types.Goals as goal

pub returns-then-set_word-ne0 : goal.returns-then-set_word-ne0
returns-then-set_word-ne0 g c = any_found (λ (x : ℕ → ℕ). set_row c.args.self.now.side.now c.args.set x) c.args.set.words c.loop-k.k c.set_word.result (omega arith) c.if-set_word-ne0.true c.loop-k.invariant c.set_word.ensures

pub loop-k-preserved : goal.loop-k-preserved
loop-k-preserved g c = any_more (λ (x : ℕ → ℕ). set_row c.args.self.now.side.now c.args.set x) c.loop-k.k c.set_word.result c.if-set_word-ne0.false c.loop-k.invariant c.set_word.ensures
