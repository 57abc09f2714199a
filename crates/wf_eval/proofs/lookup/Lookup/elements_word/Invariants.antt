use Rattle.std.proofs.Common.{ℕ}
use Rattle.wf_eval.specs.Said.{SaidWord}
use Rattle.wf_eval.specs.Plans.{elements_row}
use Rattle.wf_eval.proofs.lookup.Lookup.elements_word.Given as goal

abbrev pub invariant-loop-c : goal.invariant-loop-c
invariant-loop-c g l = SaidWord (λ (x : ℕ → ℕ). elements_row l.self.shape.now l.self.side.now l.m x l.c l.k) (g.W.Words.seen l.fn.words) (g.W.Words.seen l.words) l.word
