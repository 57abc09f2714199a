use Rattle.wf_system.specs.Bodies.{is_node}
use Rattle.wf_system.proofs.KeptLaws.{puts_both}
use Rattle.wf_system.proofs.kept.put_two.Goals as goal

pub returns : goal.returns
returns c = puts_both (λ n. is_node c.args.a n) (λ n. is_node c.args.b n) c.args.q c.args.lists.now c.put.new.lists c.put-2.new.lists c.in_ok-put.ensures c.in_ok-put-2.ensures
