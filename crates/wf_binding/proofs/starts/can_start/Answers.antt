use Rattle.std.proofs.Common.{◌≡◌, ◌∙◌, true, ap, sym, List}
use Rattle.std.specs.List.{list_all}
use Rattle.wf_data.specs.Flags.{is_static}
use Rattle.wf_descriptor.specs.declared.descriptor.FieldDesc.{FieldDesc}
use Rattle.wf_binding.specs.Validity.{is_followed}
use Rattle.wf_binding.proofs.RootLines.{can_start}
use Rattle.wf_binding.proofs.starts.can_start.Goals as goal

pub returns : goal.returns
returns c =
    let static : is_static c.args.flags ≡ true = sym c.is_static.ensures ∙ c.if-not-is_static.false in
    can_start c.args.flags c.args.method.now.desc c.in_ok-desc.desc c.are_followed.result c.one_descriptor.ensures.method static c.in_ok-desc.ensures
    (c.are_followed.ensures ∙ ap (list_all (λ (p : FieldDesc). is_followed p.kind)) c.as_slice.ensures)
