use Rattle.wf_linking.specs.Linking.{string, no_string}
use Rattle.wf_linking.proofs.linked.link_string.Goals as goal

pub returns-in-Some-clause-is : goal.returns-in-Some-clause-is
returns-in-Some-clause-is c = string c.in-Some.c c.in-Some.ensures.found

pub returns-in-None-clause-is : goal.returns-in-None-clause-is
returns-in-None-clause-is c = no_string c.in-None.ensures.found
