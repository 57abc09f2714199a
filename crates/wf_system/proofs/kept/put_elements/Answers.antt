use Rattle.std.proofs.Common.{◌||◌, length}
use Rattle.wf_system.specs.Bodies.{is_node, is_element, tables_of}
use Rattle.wf_system.proofs.KeptLaws.{puts_both}
use Rattle.wf_system.proofs.kept.put_elements.Goals as goal

pub returns : goal.returns
returns c = λ nodes most. puts_both (λ n. is_node c.args.a n || is_node c.args.side.now.inst n) (λ n. is_element is_node (tables_of nodes most c.args.side.now) (length c.args.side.now.elems) n)
    c.args.q c.args.lists.now c.put_two.new.lists c.put_each.new.lists c.in_ok-put_two.ensures (c.in_ok-put_each.ensures nodes most)
