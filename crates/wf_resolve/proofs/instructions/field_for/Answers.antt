use Rattle.std.proofs.Common.{◌≡◌, ◌∙◌, true, false, sym}
use Rattle.wf_classes.specs.World.{number}
use Rattle.wf_resolve.specs.Instructions.{unresolved, other_kind, resolved}
use Rattle.wf_resolve.proofs.instructions.field_for.Goals as goal

clash : false ≡ true → ⊥
clash e = cc

pub returns-in-Err-clause-is : goal.returns-in-Err-clause-is
returns-in-Err-clause-is c = unresolved c.in-Err.error c.in-Err.ensures.is

pub returns-then-are_same-clause-is : goal.returns-then-are_same-clause-is
returns-then-are_same-clause-is c = resolved c.in-Ok.f (number c.declared_field.result.class) c.declared_field.result.info.now c.in-Ok.ensures.is c.declared_field.ensures.is (sym c.is_static.ensures ∙ c.are_same.ensures.0 c.if-are_same.true)

pub returns-else-are_same-clause-is : goal.returns-else-are_same-clause-is
returns-else-are_same-clause-is c = other_kind c.in-Ok.f (number c.declared_field.result.class) c.declared_field.result.info.now c.in-Ok.ensures.is c.declared_field.ensures.is (λ e. clash (sym c.if-are_same.false ∙ c.are_same.ensures.1 (c.is_static.ensures ∙ e)))
