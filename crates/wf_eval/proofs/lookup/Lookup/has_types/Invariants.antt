use Rattle.std.proofs.Common.{not, false}
use Rattle.wf_lattice.specs.Words.{is_empty}
use Rattle.wf_eval.specs.Said.{SaidBool}
use Rattle.wf_eval.specs.Plans.{set_row}
use Rattle.wf_eval.proofs.lookup.Lookup.has_types.Given as goal

abbrev pub invariant-loop-k : goal.invariant-loop-k
invariant-loop-k g l = SaidBool (λ x. not (is_empty l.k (set_row l.self.side.now l.set x))) (g.W.Words.seen l.fn.words) (g.W.Words.seen l.words) false
