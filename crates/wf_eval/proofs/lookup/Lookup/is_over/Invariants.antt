use Rattle.std.proofs.Common.{ℕ}
use Rattle.wf_lattice.specs.Words.{counted}
use Rattle.wf_eval.specs.Said.{SaidCount}
use Rattle.wf_eval.specs.Plans.{set_row}
use Rattle.wf_eval.proofs.lookup.Lookup.is_over.Given as goal

abbrev pub invariant-loop-k : goal.invariant-loop-k
invariant-loop-k g l = SaidCount (λ (x : ℕ → ℕ). counted l.k (set_row l.self.side.now l.set x)) (g.W.Words.seen l.fn.words) (g.W.Words.seen l.words) l.count
