use Rattle.std.proofs.Common.{◌≡◌, ap, sym, subst, length, arith}
use Rattle.wf_descriptor.specs.Descriptors.{IsMethodDescriptor, IsDescFault}
use Rattle.wf_binding.proofs.ShortDescriptors.{is_short}
use Rattle.wf_binding.proofs.described.descriptor_of.Goals as goal

pub read_descriptor-requires : goal.read_descriptor-requires
read_descriptor-requires c =
    let h = is_short c.args.classes.now c.args.method.now c.args.flags c.list.ensures.world c.requires in
    omega (arith, ap length c.as_slice.ensures, h.short)

pub unreachable-requires : goal.unreachable-requires
unreachable-requires c =
    let h = is_short c.args.classes.now c.args.method.now c.args.flags c.list.ensures.world c.requires in
    let f = subst (IsDescFault (IsMethodDescriptor 255) c.as_slice.result.now) c.in-Err-NotADescriptor.field-0-is c.in-Err-NotADescriptor.ensures.fault in
    f.none (subst (IsMethodDescriptor 255) (sym c.as_slice.ensures) h.is)
