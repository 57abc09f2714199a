use Rattle.std.proofs.Common.{◌≡◌, ◌∙◌, true, false, sym}
use Rattle.wf_classes.specs.World.{number}
use Rattle.wf_resolve.specs.Instructions.{unresolved, no_constructor, other_kind, resolved}
use Rattle.wf_resolve.proofs.instructions.method_for.Goals as goal

clash : false ≡ true → ⊥
clash e = cc

pub returns-in-Err-clause-is : goal.returns-in-Err-clause-is
returns-in-Err-clause-is c = unresolved c.in-Err.error c.in-Err.ensures.is

pub returns-then-not-may_call-clause-is : goal.returns-then-not-may_call-clause-is
returns-then-not-may_call-clause-is c =
    let d = c.declared_method-declared in
    no_constructor c.in-Ok.m (number d.result.class) d.result.info.now c.in-Ok.ensures.is d.ensures.is (λ may. clash (sym c.if-not-may_call.true ∙ c.may_call.ensures.1 may))

pub returns-then-are_same-clause-is : goal.returns-then-are_same-clause-is
returns-then-are_same-clause-is c =
    let d = c.declared_method-declared in
    resolved c.in-Ok.m (number d.result.class) d.result.info.now c.in-Ok.ensures.is d.ensures.is (c.may_call.ensures.0 c.if-not-may_call.false) (sym c.is_static.ensures ∙ (c.are_same.ensures.0 c.if-are_same.true ∙ c.wants_static.ensures))

pub returns-else-are_same-clause-is : goal.returns-else-are_same-clause-is
returns-else-are_same-clause-is c =
    let d = c.declared_method-declared in
    other_kind c.in-Ok.m (number d.result.class) d.result.info.now c.in-Ok.ensures.is d.ensures.is (c.may_call.ensures.0 c.if-not-may_call.false) (λ e. clash (sym c.if-are_same.false ∙ c.are_same.ensures.1 (c.is_static.ensures ∙ (e ∙ sym c.wants_static.ensures))))
