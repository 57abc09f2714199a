use Rattle.std.specs.List.{flat_map}
use Rattle.wf_asm.specs.Constants.{with_constants, uses_of_field}
use Rattle.wf_asm.proofs.ConstantLaws.{added_next}
use Rattle.wf_asm.proofs.uses.add_fields.Goals as goal

pub loop-field-preserved : goal.loop-field-preserved
loop-field-preserved c =
    added_next uses_of_field c.args.fields.now c.loop-field.field-index c.field-item.result
    c.loop-field.pool c.add_field.new.pool (with_constants c.args.pool.now (flat_map uses_of_field c.args.fields.now)) c.loop-field-test.true c.field-item.is c.loop-field.invariant c.in_ok-add_field.ensures
