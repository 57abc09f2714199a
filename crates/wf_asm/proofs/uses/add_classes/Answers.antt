use Rattle.std.specs.List.{flat_map}
use Rattle.wf_asm.specs.Constants.{with_constants, class_parts}
use Rattle.wf_asm.proofs.ConstantLaws.{added_next}
use Rattle.wf_asm.proofs.uses.add_classes.Goals as goal

pub loop-name-preserved : goal.loop-name-preserved
loop-name-preserved c =
    added_next class_parts c.args.names.now c.loop-name.name-index c.name-item.result
    c.loop-name.pool c.add_class.new.self (with_constants c.args.pool.now (flat_map class_parts c.args.names.now)) c.loop-name-test.true c.name-item.is c.loop-name.invariant c.in_ok-add_class.ensures
