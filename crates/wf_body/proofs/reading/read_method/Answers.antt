use Rattle.std.proofs.Common.{ap, length, arith}
use Rattle.wf_body.proofs.Codes.{few_instructions}
use Rattle.wf_body.specs.Sources.{MethodSource}
use Rattle.wf_body.proofs.reading.read_method.Goals as goal

pub shape_method-requires-clause-small : goal.shape_method-requires-clause-small
shape_method-requires-clause-small c =
    omega (arith, few_instructions 0 c.as_slice-2.result.now c.in_ok-placed.placed c.in_ok-placed.ensures.ok.spelled, ap length c.as_slice-2.ensures, ap (λ (s : MethodSource). length s.code.code) c.source.view_is, c.requires.short)
