use Rattle.std.proofs.Common.{ap, sym}
use Rattle.std.specs.Prelude.{option_map}
use Rattle.wf_data.specs.declared.class_info.ClassInfo.{ClassInfo}
use Rattle.wf_data.specs.declared.class_info.MethodInfo.{MethodInfo}
use Rattle.wf_classes.specs.Members.{method_key}
use Rattle.wf_classes.specs.World.{number}
use Rattle.wf_classes.proofs.Declarations.{found_own, not_found}
use Rattle.wf_classes.proofs.own.own_method.Goals as goal

pub returns-in-Some-clause-flags : goal.returns-in-Some-clause-flags
returns-in-Some-clause-flags c =
    let is = c.declared_method.ensures.is in
    sym (ap (option_map (λ (x : MethodInfo). x.flags)) (found_own method_key (λ (k : ClassInfo). k.methods) c.args.classes.now c.in-Some.id.0 c.args.c.0 (number c.declared_method.result.class) (c.args.name.now, c.args.desc.now) c.declared_method.result.info.now (sym c.in-Some.ensures.number) is.there is.number))

pub returns-in-None-clause-flags : goal.returns-in-None-clause-flags
returns-in-None-clause-flags c =
    sym (ap (option_map (λ (x : MethodInfo). x.flags)) (not_found method_key (λ (k : ClassInfo). k.methods) c.args.classes.now c.args.c.0 (c.args.name.now, c.args.desc.now) (sym c.in-None.ensures.number)))
