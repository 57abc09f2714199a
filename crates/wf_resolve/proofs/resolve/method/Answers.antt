use Rattle.std.proofs.Common.{◌∙◌, Some, sym, ap}
use Rattle.wf_resolve.specs.Resolution.{no_class, of_interface, found, no_method}
use Rattle.wf_classes.specs.World.{number}
use Rattle.wf_resolve.proofs.resolve.method.Goals as goal

pub returns-in-None-clause-is : goal.returns-in-None-clause-is
returns-in-None-clause-is c = no_class (sym c.in-None.ensures.number)

pub returns-then-is_interface_at-clause-is : goal.returns-then-is_interface_at-clause-is
returns-then-is_interface_at-clause-is c = of_interface c.in-Some.c.0 (sym c.in-Some.ensures.number) (c.is_interface_at.ensures ∙ ap (λ b. Some b) c.if-is_interface_at.true)

pub returns-in-Some-method_of_class-clause-is : goal.returns-in-Some-method_of_class-clause-is
returns-in-Some-method_of_class-clause-is c =
    let m = c.in-Some-method_of_class.method in
    found c.in-Some.c.0 (number m.class) m.id (sym c.in-Some.ensures.number) (c.is_interface_at.ensures ∙ ap (λ b. Some b) c.if-is_interface_at.false) c.in-Some-method_of_class.ensures.class c.in-Some-method_of_class.ensures.own.numbered

pub returns-in-None-method_of_class-clause-is : goal.returns-in-None-method_of_class-clause-is
returns-in-None-method_of_class-clause-is c = no_method c.in-Some.c.0 (sym c.in-Some.ensures.number) (c.is_interface_at.ensures ∙ ap (λ b. Some b) c.if-is_interface_at.false) c.in-None-method_of_class.ensures.class
