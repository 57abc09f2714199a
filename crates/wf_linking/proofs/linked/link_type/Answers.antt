use Rattle.std.proofs.Common.{sym}
use Rattle.wf_linking.specs.Linking.{type, no_type}
use Rattle.wf_linking.proofs.linked.link_type.Goals as goal

pub returns-in-Some-clause-is : goal.returns-in-Some-clause-is
returns-in-Some-clause-is c = type c.args.name.now c.in-Some.c (sym c.in-Some.ensures.number)

pub returns-in-None-clause-is : goal.returns-in-None-clause-is
returns-in-None-clause-is c = no_type c.args.name.now (sym c.in-None.ensures.number)
