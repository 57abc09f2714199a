use Rattle.wf_classfile.proofs.WriteLoops.{methods_go_on, methods_are_done}
use Rattle.wf_classfile.proofs.writer.members.put_methods.Goals as goal

pub loop-method-preserved : goal.loop-method-preserved
loop-method-preserved c = methods_go_on c.args.pool.now c.args.methods.now c.loop-method.method-index c.method-item.result c.method-item.result c.loop-method.met c.put_method.new.met _ _ _ c.loop-method-test.true c.method-item.is c.in_ok-put_method.ensures.bytes c.in_ok-put_method.ensures.keys c.loop-method.invariant

pub returns : goal.returns
returns c = methods_are_done c.args.pool.now c.args.methods.now c.loop-method.method-index _ _ _ c.loop-method-test.false c.loop-method.invariant
