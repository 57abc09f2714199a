use Rattle.std.specs.List.{flat_map}
use Rattle.wf_asm.specs.Constants.{with_constants, uses_of_statement}
use Rattle.wf_asm.proofs.ConstantLaws.{added_next}
use Rattle.wf_asm.proofs.uses.add_statements.Goals as goal

pub loop-statement-preserved : goal.loop-statement-preserved
loop-statement-preserved c =
    added_next uses_of_statement c.args.body.now c.loop-statement.statement-index c.statement-item.result
    c.loop-statement.pool c.add_item.new.pool (with_constants c.args.pool.now (flat_map uses_of_statement c.args.body.now)) c.loop-statement-test.true c.statement-item.is c.loop-statement.invariant c.in_ok-add_item.ensures
