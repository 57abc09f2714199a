use Rattle.std.proofs.Common.{refl, ap, ◌∙◌}
use Rattle.wf_data.specs.declared.class_info.MethodInfo.{MethodInfo}
use Rattle.wf_sys.specs.Names.{method_name}
use Rattle.wf_first.specs.Nodes.{with_nodes, code_nodes, own_method_nodes}
use Rattle.wf_first.proofs.NodeLaws.{added_next}
use Rattle.wf_first.proofs.nodes.add_own_methods.Goals as goal

pub loop-method-preserved : goal.loop-method-preserved
loop-method-preserved c =
    let class = c.args.class.now in
    let method = c.method-item.result in
    let added = c.in_ok-add_code.ensures ∙ ap (λ name. with_nodes c.loop-method.nodes (code_nodes name method.code)) c.method_ref.ensures in
    added_next (λ (m : MethodInfo). code_nodes (method_name class m) m.code) (own_method_nodes class) (λ m ms. refl) c.as_slice-method-items.result.now c.loop-method.method-index method
    c.loop-method.nodes c.add_code.new.nodes (with_nodes c.args.nodes.now (own_method_nodes class class.methods)) c.loop-method-test.true c.method-item.is c.loop-method.invariant added
