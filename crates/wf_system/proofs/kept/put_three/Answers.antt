use Rattle.std.proofs.Common.{◌||◌}
use Rattle.wf_system.specs.Bodies.{is_node}
use Rattle.wf_system.proofs.KeptLaws.{puts_both}
use Rattle.wf_system.proofs.kept.put_three.Goals as goal

pub returns : goal.returns
returns c = puts_both (λ n. is_node c.args.a n || is_node c.args.b n) (λ n. is_node c.args.c n) c.args.q c.args.lists.now c.put_two.new.lists c.put.new.lists c.in_ok-put_two.ensures c.in_ok-put.ensures
