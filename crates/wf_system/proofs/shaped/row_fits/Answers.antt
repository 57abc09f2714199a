use Rattle.std.proofs.Common.{◌≡◌, true}
use Rattle.wf_system.proofs.shaped.row_fits.Goals as goal

pub returns-then-not-fits : goal.returns-then-not-fits
returns-then-not-fits c = λ most. (λ h. absurd cc, λ f. let fit : c.fits.result ≡ true = (c.fits.ensures most).1 f.0 in absurd cc)

pub returns : goal.returns
returns c = λ most. (λ h. ((c.fits.ensures most).0 c.if-not-fits.false, c.is_asked.ensures.0 h), λ f. c.is_asked.ensures.1 f.1)
