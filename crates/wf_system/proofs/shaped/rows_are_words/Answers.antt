use Rattle.std.proofs.Common.{arith}
use Rattle.wf_system.proofs.FitLaws.{masks_are_words}
use Rattle.wf_system.proofs.shaped.rows_are_words.Goals as goal

pub returns : goal.returns
returns c = masks_are_words c.args.masks.now (λ u lt. c.loop-mask.invariant u (omega (arith, lt, c.loop-mask-test.false)))
