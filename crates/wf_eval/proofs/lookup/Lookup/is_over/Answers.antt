use Rattle.wf_eval.specs.Plans.{set_row}
use Rattle.std.proofs.Common.{ℕ, arith, ap, sym, subst}
use Rattle.wf_lattice.specs.Words.{counted}
use Rattle.wf_eval.specs.Said.{SaidCount}
use Rattle.std.proofs.lemmas.Nat.{ones-le}
use Rattle.wf_eval.proofs.SaidLaws.{count_more, over_early, over_done}
use Rattle.wf_eval.proofs.lookup.Lookup.is_over.Goals as goal

pub returns-then-count-self : goal.returns-then-count-self
returns-then-count-self g c = over_early (set_row c.args.self.now.side.now c.args.set) c.args.self.now.most c.args.set.words c.loop-k.k c.loop-k.count (omega arith) c.if-count-self.true c.loop-k.invariant

pub loop-k-preserved : goal.loop-k-preserved
loop-k-preserved g c = count_more (set_row c.args.self.now.side.now c.args.set) c.loop-k.k c.loop-k.count c.set_word-word.result c.loop-k.invariant c.set_word-word.ensures

pub returns : goal.returns
returns g c = over_done (set_row c.args.self.now.side.now c.args.set) c.args.self.now.most c.args.set.words c.loop-k.count
    (subst (λ (k : ℕ). SaidCount (λ (x : ℕ → ℕ). counted k (set_row c.args.self.now.side.now c.args.set x)) (g.W.Words.seen c.args.words.now) (g.W.Words.seen c.loop-k.words) c.loop-k.count) (omega arith) c.loop-k.invariant)
