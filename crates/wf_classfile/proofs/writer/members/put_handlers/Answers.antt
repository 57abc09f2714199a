use Rattle.wf_classfile.proofs.WriteLoops.{handlers_are_done}
use Rattle.wf_classfile.proofs.writer.members.put_handlers.Goals as goal

pub returns : goal.returns
returns c = handlers_are_done c.args.table.now c.loop-handler.handler-index _ _ c.loop-handler-test.false c.loop-handler.invariant
