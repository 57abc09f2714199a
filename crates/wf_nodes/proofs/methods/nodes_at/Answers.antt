use Rattle.std.proofs.Common.{List, ℕ, sym, subst, ap, length, arith}
use Rattle.wf_data.specs.declared.class_info.ClassInfo.{ClassInfo}
use Rattle.wf_descriptor.specs.Descriptors.{IsDescFault, IsMethodDescriptor, SpellsMethod}
use Rattle.wf_classes.specs.Own.{IsMethod}
use Rattle.wf_nodes.specs.Sharing.AreNodesOf.{spelled}
use Rattle.wf_nodes.proofs.Members.{method_is_short, parameters_within}
use Rattle.wf_nodes.proofs.methods.nodes_at.Goals as goal

pub read_descriptor-requires : goal.read_descriptor-requires
read_descriptor-requires c =
    let declared = c.declared_method in
    let h = method_is_short c.classes-classes.result.now c.args.m.0 declared.result.class.0 declared.result.info.now c.list.ensures.world declared.ensures.is in
    omega (arith, ap length c.as_slice.ensures, h.short)

pub nodes_of_method-requires : goal.nodes_of_method-requires
nodes_of_method-requires c = parameters_within 255 c.as_slice.result.now c.in-Ok.desc c.in-Ok.ensures.ok

pub unreachable-requires : goal.unreachable-requires
unreachable-requires c =
    let declared = c.declared_method in
    let h = method_is_short c.classes-classes.result.now c.args.m.0 declared.result.class.0 declared.result.info.now c.list.ensures.world declared.ensures.is in
    let f = subst (IsDescFault (IsMethodDescriptor 255) c.as_slice.result.now) c.in-Err-NotADescriptor.field-0-is c.in-Err-NotADescriptor.ensures.fault in
    f.none (subst (IsMethodDescriptor 255) (sym c.as_slice.ensures) h.is)

pub returns-in-Ok : goal.returns-in-Ok
returns-in-Ok c =
    let declared = c.declared_method.result in
    record {
      class = declared.class.0;
      info = declared.info.now;
      is = subst (λ (ks : List ClassInfo). IsMethod ks c.args.m.0 declared.class.0 declared.info.now) c.classes-classes.ensures c.declared_method.ensures.is;
      nodes_are = spelled c.in-Ok.desc (subst (λ (bytes : List ℕ). SpellsMethod 255 bytes c.in-Ok.desc) c.as_slice.ensures c.in-Ok.ensures.ok) c.nodes_of_method.ensures;
    }
