use Rattle.std.proofs.Common.{◌∙◌, sym}
use Rattle.wf_resolve.specs.Instructions.{no_class, of_array, of_no_objects, made}
use Rattle.wf_resolve.proofs.instructions.new_class.Goals as goal

pub returns-in-None-clause-is : goal.returns-in-None-clause-is
returns-in-None-clause-is c = no_class (sym c.in-None.ensures.number)

pub returns-then-is_array_name-clause-is : goal.returns-then-is_array_name-clause-is
returns-then-is_array_name-clause-is c = of_array c.in-Some.c.0 (sym c.in-Some.ensures.number) (sym c.is_array_name.ensures ∙ c.if-is_array_name.true)

pub returns-then-not-is_plain_at-clause-is : goal.returns-then-not-is_plain_at-clause-is
returns-then-not-is_plain_at-clause-is c = of_no_objects c.in-Some.c.0 (sym c.in-Some.ensures.number) (sym c.is_array_name.ensures ∙ c.if-is_array_name.false) (sym c.is_plain_at.ensures ∙ c.if-not-is_plain_at.true)

pub returns-clause-is : goal.returns-clause-is
returns-clause-is c = made c.in-Some.c (sym c.in-Some.ensures.number) (sym c.is_array_name.ensures ∙ c.if-is_array_name.false) (sym c.is_plain_at.ensures ∙ c.if-not-is_plain_at.false)
