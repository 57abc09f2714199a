use Rattle.std.proofs.Common.{sym}
use Rattle.wf_linking.specs.Linking.{class, no_class_class, no_class}
use Rattle.wf_linking.proofs.linked.link_class.Goals as goal

pub returns-in-None-clause-is : goal.returns-in-None-clause-is
returns-in-None-clause-is c = no_class_class c.args.name.now c.in-None.ensures.found

pub returns-in-Some-class_with-clause-is : goal.returns-in-Some-class_with-clause-is
returns-in-Some-class_with-clause-is c = class c.args.name.now c.in-Some.c _ c.in-Some.ensures.found (sym c.in-Some-class_with.ensures.number)

pub returns-in-None-class_with-clause-is : goal.returns-in-None-class_with-clause-is
returns-in-None-class_with-clause-is c = no_class c.args.name.now (sym c.in-None-class_with.ensures.number)
