use Rattle.std.proofs.Common.{◌≡◌, ◌∙◌, List, Some, ap, sym, subst}
use Rattle.wf_data.specs.declared.class_info.ClassInfo.{ClassInfo}
use Rattle.wf_binding.specs.Named.{flags_of_method}
use Rattle.wf_binding.specs.Valid.{AreValidEffects}
use Rattle.wf_binding.proofs.numbering.block_numbers.Goals as goal

pub effects_numbers-requires : goal.effects_numbers-requires
effects_numbers-requires c =
    let b = c.args.block.now in
    let there : flags_of_method c.args.types.now.classes b.method ≡ Some c.in-Some.method.flags =
    ap (λ (cs : List ClassInfo). flags_of_method cs b.method) (sym c.classes.ensures) ∙ sym c.in-Some.ensures.flags in
    subst (AreValidEffects c.args.types.now c.in_ok-desc-in-Some.desc.ret) (sym c.as_slice.ensures) (c.requires.effects c.in-Some.method.flags c.in_ok-desc-in-Some.desc there c.in_ok-desc-in-Some.ensures)
