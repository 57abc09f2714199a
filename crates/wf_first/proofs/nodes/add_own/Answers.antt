use Rattle.std.proofs.Common.{refl}
use Rattle.wf_data.specs.declared.class_info.ClassInfo.{ClassInfo}
use Rattle.wf_first.specs.Nodes.{with_nodes, own_method_nodes, own_nodes}
use Rattle.wf_first.proofs.NodeLaws.{added_next}
use Rattle.wf_first.proofs.nodes.add_own.Goals as goal

pub loop-class-preserved : goal.loop-class-preserved
loop-class-preserved c =
    added_next (λ (class : ClassInfo). own_method_nodes class class.methods) own_nodes (λ class classes. refl) c.args.classes.now c.loop-class.class-index c.class-item.result
    c.loop-class.nodes c.add_own_methods.new.nodes (with_nodes c.args.nodes.now (own_nodes c.args.classes.now)) c.loop-class-test.true c.class-item.is c.loop-class.invariant c.in_ok-add_own_methods.ensures
