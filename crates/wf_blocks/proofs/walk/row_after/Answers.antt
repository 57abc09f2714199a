use Rattle.std.proofs.Common.{length, arith}
use Rattle.wf_blocks.proofs.WalkLemmas.{operation_fits}
use Rattle.wf_blocks.proofs.walk.row_after.Goals as goal

pub row_behind-requires-clause-fits : goal.row_behind-requires-clause-fits
row_behind-requires-clause-fits c =
    omega (arith, operation_fits c.args.body.now c.args.place (length c.args.row.now) c.in-Some.operation.now c.in-Some.ensures c.requires.sound, c.requires.fits.locals, c.requires.fits.stack)
