use Rattle.std.proofs.Common.{◌≡◌, true}
use Rattle.wf_system.proofs.shaped.system_fits.Goals as goal

pub returns-then-not-are_shaped : goal.returns-then-not-are_shaped
returns-then-not-are_shaped c = λ most. (λ h. absurd cc, λ f. let fit : c.are_shaped.result ≡ true = (c.are_shaped.ensures most).1 f.shaped in absurd cc)

pub returns : goal.returns
returns c = λ most. (
  λ h. record {
    shaped = (c.are_shaped.ensures most).0 c.if-not-are_shaped.false;
    each = λ q there. ((c.rows_fit.ensures most).0 h q there).0;
    seeds_apart = λ q there. ((c.rows_fit.ensures most).0 h q there).1;
  },
  λ f. (c.rows_fit.ensures most).1 (λ q there. (f.each q there, f.seeds_apart q there)),
)
