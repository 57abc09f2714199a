use Rattle.std.proofs.Common.{◌+◌, arith}
use Rattle.std.proofs.lemmas.Result.{err_from_is_err_and}
use Rattle.wf_inputs.specs.Reading.{summary_on}
use Rattle.wf_inputs.proofs.ReadingOn.{goes_on, fails, ends}
use Rattle.wf_inputs.proofs.read.summary_lines.Goals as goal

pub loop-text-preserved : goal.loop-text-preserved
loop-text-preserved c = (
  goes_on summary_on (c.loop-text.read + 1) c.loop-text.so_far c.in_ok-so_far.so_far c.loop-text.rest.now c.in-Some.text.now c.in-Some.behind.now _ c.in-Some.ensures.lines c.in_ok-so_far.ensures c.loop-text.invariant.0,
  omega (arith, c.in-Some.ensures.shorter),
)

pub returns-in_err-so_far : goal.returns-in_err-so_far
returns-in_err-so_far c =
    let p = err_from_is_err_and c.from_residual.result c.from_residual.ensures.1 in
    rw (p.1, p.2) (fails summary_on (c.loop-text.read + 1) c.loop-text.so_far c.loop-text.rest.now c.in-Some.text.now c.in-Some.behind.now _ c.in_err-so_far.field-0.0 c.in-Some.ensures.lines c.in_err-so_far.ensures c.loop-text.invariant.0)

pub returns : goal.returns
returns c = ends summary_on (c.loop-text.read + 1) c.loop-text.so_far c.loop-text.rest.now _ c.in_default.ensures.lines c.loop-text.invariant.0
