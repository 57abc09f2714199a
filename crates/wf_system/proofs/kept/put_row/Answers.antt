use Rattle.wf_system.specs.Shapes.{shape_at}
use Rattle.wf_system.specs.Bodies.{is_node, guard_reads, value_reads, tables_of}
use Rattle.wf_system.proofs.KeptLaws.{puts_both}
use Rattle.wf_system.proofs.kept.put_row.Goals as goal

pub returns : goal.returns
returns c = λ most. puts_both (λ n. guard_reads is_node (tables_of c.args.shape.now most c.args.side.now) c.args.q.guard n) (λ n. value_reads is_node (tables_of c.args.shape.now most c.args.side.now) c.args.q.value (shape_at c.args.shape.now c.args.q.target.0).kind n)
    c.args.q c.args.lists.now c.put_guard.new.lists c.put_value.new.lists (c.in_ok-put_guard.ensures c.args.shape.now most) (c.in_ok-put_value.ensures most)
