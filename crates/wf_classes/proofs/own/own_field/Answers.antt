use Rattle.std.proofs.Common.{ap, sym}
use Rattle.std.specs.Prelude.{option_map}
use Rattle.wf_data.specs.declared.class_info.ClassInfo.{ClassInfo}
use Rattle.wf_data.specs.declared.class_info.FieldInfo.{FieldInfo}
use Rattle.wf_classes.specs.Members.{field_key}
use Rattle.wf_classes.specs.World.{number}
use Rattle.wf_classes.proofs.Declarations.{found_own, not_found}
use Rattle.wf_classes.proofs.own.own_field.Goals as goal

pub returns-in-Some-clause-flags : goal.returns-in-Some-clause-flags
returns-in-Some-clause-flags c =
    let is = c.declared_field.ensures.is in
    sym (ap (option_map (λ (x : FieldInfo). x.flags)) (found_own field_key (λ (k : ClassInfo). k.fields) c.args.classes.now c.in-Some.id.0 c.args.c.0 (number c.declared_field.result.class) (c.args.name.now, c.args.desc.now) c.declared_field.result.info.now (sym c.in-Some.ensures.number) is.there is.number))

pub returns-in-None-clause-flags : goal.returns-in-None-clause-flags
returns-in-None-clause-flags c =
    sym (ap (option_map (λ (x : FieldInfo). x.flags)) (not_found field_key (λ (k : ClassInfo). k.fields) c.args.classes.now c.args.c.0 (c.args.name.now, c.args.desc.now) (sym c.in-None.ensures.number)))
