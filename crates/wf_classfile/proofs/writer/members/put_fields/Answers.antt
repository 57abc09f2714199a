use Rattle.wf_classfile.proofs.WriteLoops.{fields_go_on, fields_are_done}
use Rattle.wf_classfile.proofs.writer.members.put_fields.Goals as goal

pub loop-field-preserved : goal.loop-field-preserved
loop-field-preserved c = fields_go_on c.args.pool.now c.args.fields.now c.loop-field.field-index c.field-item.result c.field-item.result c.loop-field.met c.put_field.new.met _ _ _ c.loop-field-test.true c.field-item.is c.in_ok-put_field.ensures.bytes c.in_ok-put_field.ensures.keys c.loop-field.invariant

pub returns : goal.returns
returns c = fields_are_done c.args.pool.now c.args.fields.now c.loop-field.field-index _ _ _ c.loop-field-test.false c.loop-field.invariant
