use Rattle.std.proofs.Common.{◌≡◌, true}
use Rattle.wf_system.proofs.fit.fits.Goals as goal

pub value_fits-requires : goal.value_fits-requires
value_fits-requires c = λ most. ((c.is_whole.ensures most).0 c.if-not-is_whole.false).1.0

pub returns-then-not-is_whole : goal.returns-then-not-is_whole
returns-then-not-is_whole c = λ most. (λ h. absurd cc, λ f. let whole : c.is_whole.result ≡ true = (c.is_whole.ensures most).1 (f.guard_there, (f.value_there, f.target_there)) in absurd cc)

pub returns-then-guard_fits : goal.returns-then-guard_fits
returns-then-guard_fits c = λ most. (
  λ h. record {
    guard = (c.guard_fits.ensures most).0 c.if-guard_fits.true;
    value = (c.value_fits.ensures most).0 h;
    guard_there = ((c.is_whole.ensures most).0 c.if-not-is_whole.false).0;
    value_there = ((c.is_whole.ensures most).0 c.if-not-is_whole.false).1.0;
    target_there = ((c.is_whole.ensures most).0 c.if-not-is_whole.false).1.1;
  },
  λ f. (c.value_fits.ensures most).1 f.value,
)

pub returns-else-guard_fits : goal.returns-else-guard_fits
returns-else-guard_fits c = λ most. (λ h. absurd cc, λ f. (c.guard_fits.ensures most).1 f.guard)
