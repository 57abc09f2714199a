use Rattle.wf_linking.specs.Linking.{object, no_object}
use Rattle.wf_linking.proofs.linked.link_new.Goals as goal

pub returns-in-Ok-clause-is : goal.returns-in-Ok-clause-is
returns-in-Ok-clause-is c = object c.args.name.now c.in-Ok.c c.in-Ok.ensures.is

pub returns-in-Err-clause-is : goal.returns-in-Err-clause-is
returns-in-Err-clause-is c = no_object c.args.name.now c.in-Err.error c.in-Err.ensures.is
