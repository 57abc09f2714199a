use Rattle.std.proofs.lemmas.Result.{err_from_is_err_and}
use Rattle.wf_refusals.specs.Refusals.{instruction}
use Rattle.wf_refusals.proofs.Refused.{fault_is}
use Rattle.wf_refusals.proofs.body.read_body.Goals as goal

pub returns-in_err-placed-clause-err : goal.returns-in_err-placed-clause-err
returns-in_err-placed-clause-err c =
    let p = err_from_is_err_and c.from_residual.result c.from_residual.ensures.1 in
    rw (p.1, p.2) (fault_is c.args.pool.now c.args.code.now c.in_err-placed.field-0.0 c.in_err-placed.ensures.err)

pub returns-in-Some-clause-err : goal.returns-in-Some-clause-err
returns-in-Some-clause-err c =
    instruction c.in_ok-placed.placed c.in-Some.refusal c.in_ok-placed.ensures.ok (cc (c.in_ok-refusal.ensures, c.as_slice.ensures, c.in-Some.is))
