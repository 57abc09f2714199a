use Rattle.std.proofs.Common.{◌≡◌, true, refl, arith}
use Rattle.wf_system.proofs.FitLaws.{rows_from, row_at, row_more}
use Rattle.wf_system.proofs.shaped.rows_fit.Goals as goal

pub returns-then-not-row_fits : goal.returns-then-not-row_fits
returns-then-not-row_fits c = λ most.
    (λ h. absurd cc, λ all. let fit : c.row_fits.result ≡ true = (c.row_fits.ensures most).1 (row_at c.args.shape.now most c.args.side.now c.args.rows.now all c.loop-row.row-index _ c.loop-row-test.true) in absurd cc)

pub loop-row-preserved : goal.loop-row-preserved
loop-row-preserved c = λ most. row_more c.args.shape.now most c.args.side.now c.args.rows.now c.loop-row.row-index _ c.loop-row-test.true ((c.row_fits.ensures most).0 c.if-not-row_fits.false) (c.loop-row.invariant most)

pub returns : goal.returns
returns c = λ most.
    (λ h. rows_from c.args.shape.now most c.args.side.now c.args.rows.now (λ i d lt. c.loop-row.invariant most i d (omega (arith, lt))), λ all. refl)
