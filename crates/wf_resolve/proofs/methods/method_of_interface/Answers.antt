use Rattle.std.proofs.Common.{Some, sym, subst}
use Rattle.std.specs.Prelude.{option_map}
use Rattle.wf_base.specs.declared.ids.ClassId.{ClassId}
use Rattle.wf_grammar.specs.ClassFile.{Key}
use Rattle.wf_classes.specs.World.{number}
use Rattle.wf_classes.specs.declared.own.OwnMethod.{OwnMethod}
use Rattle.wf_resolve.specs.Methods.{MethodOfInterface, own, by_object, by_interface}
use Rattle.wf_resolve.proofs.methods.method_of_interface.Goals as goal

pub returns-in-Some-clause-class : goal.returns-in-Some-clause-class
returns-in-Some-clause-class c =
    let key : Key = (c.args.name.now, c.args.desc.now) in
    subst (λ (x : ClassId). MethodOfInterface c.args.classes.now key c.args.c.0 (Some (number x))) (sym c.in-Some.ensures.class) (own c.in-Some.ensures.some)

pub returns-in-Some-method_of_object-clause-class : goal.returns-in-Some-method_of_object-clause-class
returns-in-Some-method_of_object-clause-class c =
    by_object (number c.in-Some-method_of_object.method.class) c.in-None.ensures.none c.in-Some-method_of_object.ensures.some

pub returns-clause-class : goal.returns-clause-class
returns-clause-class c =
    by_interface (option_map (λ (m : OwnMethod). number m.class) c.of_superinterfaces.result) c.in-None.ensures.none c.in-None-method_of_object.ensures.none c.of_superinterfaces.ensures.class
