use Rattle.std.specs.Prelude.{option_map}
use Rattle.wf_classes.specs.World.{number}
use Rattle.wf_classes.specs.declared.own.OwnMethod.{OwnMethod}
use Rattle.wf_resolve.specs.Methods.{by_class, by_interface}
use Rattle.wf_resolve.proofs.methods.method_of_class.Goals as goal

pub returns-in-Some-clause-class : goal.returns-in-Some-clause-class
returns-in-Some-clause-class c = by_class (number c.in-Some.method.class) c.in-Some.ensures.first

pub returns-in-None-clause-class : goal.returns-in-None-clause-class
returns-in-None-clause-class c =
    by_interface (option_map (λ (m : OwnMethod). number m.class) c.of_superinterfaces.result) c.in-None.ensures.first c.of_superinterfaces.ensures.class
