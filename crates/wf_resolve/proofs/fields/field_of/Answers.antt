use Rattle.std.proofs.Common.{sym}
use Rattle.wf_resolve.specs.Fields.{own}
use Rattle.wf_resolve.proofs.fields.field_of.Goals as goal

pub returns-in-Some-clause-class : goal.returns-in-Some-clause-class
returns-in-Some-clause-class c = own c.args.c.0 c.in-Some.id.0 (sym c.in-Some.ensures.number)
