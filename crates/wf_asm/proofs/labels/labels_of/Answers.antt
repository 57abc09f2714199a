use Rattle.std.proofs.Common.{arith}
use Rattle.wf_asm.proofs.BodyLaws.{labels_next, labels_done}
use Rattle.wf_asm.proofs.labels.labels_of.Goals as goal

pub loop-statement-preserved : goal.loop-statement-preserved
loop-statement-preserved c = record {
  near = c.behind-at.ensures.near;
  so_far = labels_next c.args.pool.now c.args.body.now c.loop-statement.statement-index c.loop-statement.at c.behind-at.result c.statement-item.result c.loop-statement.labels c.add_item.new.self _
      (omega arith) c.statement-item.is c.behind-at.ensures.place c.in_ok-add_item.ensures c.loop-statement.invariant.so_far;
}

pub returns : goal.returns
returns c = labels_done c.args.pool.now c.args.body.now c.loop-statement.statement-index c.loop-statement.at c.loop-statement.labels _ (omega arith) c.loop-statement.invariant.so_far
