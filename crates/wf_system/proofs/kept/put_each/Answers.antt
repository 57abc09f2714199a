use Rattle.std.proofs.Common.{◌≡◌, ℕ, List, Option, None, length, slice_index_or, ap, subst, arith}
use Rattle.wf_base.specs.declared.ids.NodeId.{NodeId}
use Rattle.wf_system.specs.Bodies.{is_node, is_element, tables_of}
use Rattle.wf_system.specs.Kept.{PutsWhere}
use Rattle.wf_system.proofs.KeptLaws.{puts_element}
use Rattle.wf_system.proofs.kept.put_each.Goals as goal

pub loop-elem-preserved : goal.loop-elem-preserved
loop-elem-preserved c = λ nodes most. puts_element nodes most c.args.side.now c.args.q c.args.lists.now c.loop-elem.lists c.put_some.new.lists c.loop-elem.elem-index _
    (ap (λ (l : List (Option NodeId)). slice_index_or l c.loop-elem.elem-index None) c.as_slice-elem-items.ensures) (c.loop-elem.invariant nodes most) c.in_ok-put_some.ensures

pub returns : goal.returns
returns c = λ nodes most.
    let e : c.loop-elem.elem-index ≡ length c.args.side.now.elems = omega (arith, c.loop-elem-test.false, ap (λ (l : List (Option NodeId)). length l) c.as_slice-elem-items.ensures) in
    subst (λ (k : ℕ). PutsWhere (λ n. is_element is_node (tables_of nodes most c.args.side.now) k n) c.args.q c.args.lists.now c.loop-elem.lists) e (c.loop-elem.invariant nodes most)
