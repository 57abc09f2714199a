use Rattle.std.proofs.lemmas.Result.{err_from_is_err_and}
use Rattle.std.proofs.Common.{◌∙◌}
use Rattle.wf_classfile.proofs.WriteLoops.{interfaces_go_on, interfaces_stop, interfaces_are_done}
use Rattle.wf_classfile.proofs.writer.class.put_interfaces.Goals as goal

pub returns-in_err-put_class_place : goal.returns-in_err-put_class_place
returns-in_err-put_class_place c =
    let p = err_from_is_err_and c.from_residual.result c.from_residual.ensures.1 in
    rw (p.1, p.2) (interfaces_stop c.in_err-put_class_place.field-0.0 c.args.pool.now c.args.interfaces.now c.loop-name.name-index c.name-item.result c.as_slice.result.now _ _ c.loop-name-test.true (c.as_slice.ensures ∙ c.name-item.is) c.in_err-put_class_place.ensures c.loop-name.invariant)

pub loop-name-preserved : goal.loop-name-preserved
loop-name-preserved c = interfaces_go_on c.args.pool.now c.args.interfaces.now c.loop-name.name-index c.name-item.result c.as_slice.result.now _ _ _ c.loop-name-test.true (c.as_slice.ensures ∙ c.name-item.is) c.in_ok-put_class_place.ensures c.loop-name.invariant

pub returns : goal.returns
returns c = interfaces_are_done c.args.pool.now c.args.interfaces.now c.loop-name.name-index _ _ c.loop-name-test.false c.loop-name.invariant
