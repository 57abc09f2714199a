use Rattle.std.proofs.Common.{sym}
use Rattle.wf_resolve.specs.Resolution.{no_class, found, no_field}
use Rattle.wf_classes.specs.World.{number}
use Rattle.wf_resolve.proofs.resolve.field.Goals as goal

pub returns-in-Some-field_of-clause-is : goal.returns-in-Some-field_of-clause-is
returns-in-Some-field_of-clause-is c =
    found c.in-Some.c.0 (number c.in-Some-field_of.field.class) c.in-Some-field_of.field.id (sym c.in-Some.ensures.number) c.in-Some-field_of.ensures.class c.in-Some-field_of.ensures.number

pub returns-in-None-field_of-clause-is : goal.returns-in-None-field_of-clause-is
returns-in-None-field_of-clause-is c = no_field c.in-Some.c.0 (sym c.in-Some.ensures.number) c.in-None-field_of.ensures.class

pub returns-in-None-clause-is : goal.returns-in-None-clause-is
returns-in-None-clause-is c = no_class (sym c.in-None.ensures.number)
