use Rattle.std.specs.List.{flat_map}
use Rattle.wf_asm.specs.Constants.{with_constants, uses_of_method}
use Rattle.wf_asm.proofs.ConstantLaws.{added_next}
use Rattle.wf_asm.proofs.uses.add_methods.Goals as goal

pub loop-method-preserved : goal.loop-method-preserved
loop-method-preserved c =
    added_next uses_of_method c.args.methods.now c.loop-method.method-index c.method-item.result
    c.loop-method.pool c.add_method.new.pool (with_constants c.args.pool.now (flat_map uses_of_method c.args.methods.now)) c.loop-method-test.true c.method-item.is c.loop-method.invariant c.in_ok-add_method.ensures
