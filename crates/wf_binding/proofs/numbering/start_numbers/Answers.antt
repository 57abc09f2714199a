use Rattle.std.proofs.Common.{◌∙◌, List, ap, refl, sym}
use Rattle.wf_data.specs.declared.class_info.ClassInfo.{ClassInfo}
use Rattle.wf_names.specs.declared.input.InputWhy.TheVariants as why
use Rattle.wf_binding.specs.Named.{method_of}
use Rattle.wf_binding.specs.Validity.{absent}
use Rattle.wf_binding.proofs.numbering.start_numbers.Goals as goal

pub unreachable-requires : goal.unreachable-requires
unreachable-requires c =
    c.requires.sound why.Absent (absent refl (ap (λ (cs : List ClassInfo). method_of cs c.args.method.now) (sym c.classes.ensures) ∙ sym c.in-None.ensures.number))
