use Rattle.std.proofs.Common.{List, ◌∷◌, refl, ap, ◌∙◌}
use Rattle.wf_data.specs.declared.class_info.ClassInfo.{ClassInfo}
use Rattle.wf_sys.specs.Nodes.{Node, Initialized}
use Rattle.wf_first.specs.Nodes.{with_node, with_nodes, method_nodes, shared_nodes}
use Rattle.wf_first.proofs.NodeLaws.{added_next}
use Rattle.wf_first.proofs.nodes.add_shared.Goals as goal

pub loop-class-preserved : goal.loop-class-preserved
loop-class-preserved c =
    let class = c.class-item.result in
    let first = c.in_ok-add.ensures ∙ ap (λ name. with_node c.loop-class.nodes (Initialized name)) c.as_slice.ensures in
    let added = c.in_ok-add_methods.ensures ∙ ap (λ (nodes : List Node). with_nodes nodes (method_nodes class class.methods)) first in
    added_next (λ (k : ClassInfo). Initialized k.name ∷ method_nodes k k.methods) shared_nodes (λ k ks. refl) c.args.classes.now c.loop-class.class-index class
    c.loop-class.nodes c.add_methods.new.nodes (with_nodes c.args.nodes.now (shared_nodes c.args.classes.now)) c.loop-class-test.true c.class-item.is c.loop-class.invariant added
