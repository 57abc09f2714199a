use Rattle.std.proofs.Common.{ap, subst, Err}
use Rattle.wf_refusals.specs.Refusals.IsRefused.{shape}
use Rattle.wf_body.specs.Sources.{MethodSource, Misfits}
use Rattle.wf_body.proofs.reading.shape_method.Goals as goal

pub returns-in-Err-Shape-clause-fault : goal.returns-in-Err-Shape-clause-fault
returns-in-Err-Shape-clause-fault c =
    let misfits = c.in-Err-Shape.ensures.shape (ap Err c.in-Err-Shape.field-0-is) in
    shape c.args.placed.now c.requires.readable (subst (λ (s : MethodSource). Misfits s c.args.placed.now) c.source.view_is misfits)
