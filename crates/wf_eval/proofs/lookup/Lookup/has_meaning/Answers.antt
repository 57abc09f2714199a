use Rattle.std.proofs.Common.{◌≡◌, ◌≢◌, ℕ, ◌+◌, ◌||◌, true, sym, ◌∙◌, subst}
use Rattle.std.proofs.lemmas.Bool.{and_parts}
use Rattle.wf_lattice.specs.Words.{has_bit}
use Rattle.wf_eval.specs.Said.{SaidBool}
use Rattle.wf_eval.specs.Reading.{span_row}
use Rattle.wf_eval.specs.Plans.{has_meaning}
use Rattle.wf_eval.proofs.SaidLaws.{said_no, said_both}
use Rattle.wf_eval.proofs.SetLaws.{means_parts}
use Rattle.wf_eval.proofs.lookup.Lookup.has_meaning.Goals as goal

pub returns-then-t-eq0 : goal.returns-then-t-eq0
returns-then-t-eq0 g c = subst (λ (t : ℕ). SaidBool (λ (x : ℕ → ℕ). has_meaning c.args.m x t) (g.W.Words.seen c.args.words.now) (g.W.Words.seen c.holds.new.words) c.holds.result) (sym c.if-t-eq0.true) c.holds.ensures

pub returns-then-not-holds : goal.returns-then-not-holds
returns-then-not-holds g c = said_no c.holds-2.result c.if-not-holds.true c.holds-2.ensures
    (λ x h. (and_parts (c.args.m.saturated || has_bit (span_row x c.args.m.of) (c.args.t + 1)) (has_bit (span_row x c.args.m.made) (c.args.t + 1))
    (sym (means_parts c.args.m.saturated (span_row x c.args.m.of) (span_row x c.args.m.made) c.args.t c.if-t-eq0.false) ∙ h)).0)

pub returns : goal.returns
returns g c = said_both c.holds-2.result c.if-not-holds.false c.holds-2.ensures c.bit_of.ensures
    (λ x. means_parts c.args.m.saturated (span_row x c.args.m.of) (span_row x c.args.m.made) c.args.t c.if-t-eq0.false)
