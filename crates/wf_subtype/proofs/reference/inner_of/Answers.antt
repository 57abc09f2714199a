use Rattle.std.proofs.Common.{◌∙◌, ap, sym}
use Rattle.wf_classes.specs.World.{number_in}
use Rattle.wf_subtype.proofs.Naming.{inner_class, inner_none, inner_neither}
use Rattle.wf_subtype.proofs.reference.inner_of.Goals as goal

pub returns-in-Some-find : goal.returns-in-Some-find
returns-in-Some-find c = inner_class c.args.classes.now c.args.text.now c.in-Some.name.now c.in-Some-find.c c.in-Some.ensures (ap number_in (sym c.in-Some-find.is) ∙ c.find.ensures)

pub returns-in-None-find : goal.returns-in-None-find
returns-in-None-find c = inner_none c.args.classes.now c.args.text.now c.in-Some.name.now c.requires c.in-Some.ensures (sym c.find.ensures ∙ ap number_in c.in-None-find.is)

pub returns-in-None-primitive_of : goal.returns-in-None-primitive_of
returns-in-None-primitive_of c = inner_neither c.args.classes.now c.args.text.now c.in-None.ensures c.in-None-primitive_of.ensures
