use Rattle.wf_names.specs.Members.{named_by}
use Rattle.wf_linking.specs.Linking.{field, no_field}
use Rattle.wf_linking.proofs.linked.link_field.Goals as goal

pub returns-in-Ok-clause-is : goal.returns-in-Ok-clause-is
returns-in-Ok-clause-is c = field c.args.of_class (named_by c.args.member.now) c.in-Ok.field c.declared_field.result.class c.declared_field.result.info.now c.in-Ok.ensures.is c.declared_field.ensures.is

pub returns-in-Err-clause-is : goal.returns-in-Err-clause-is
returns-in-Err-clause-is c = no_field c.args.of_class (named_by c.args.member.now) c.in-Err.error c.in-Err.ensures.is
