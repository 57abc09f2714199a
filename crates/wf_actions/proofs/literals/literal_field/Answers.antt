use Rattle.std.proofs.Common.{◌≡◌, ℕ, sym, subst, ◌∙◌, arith}
use Rattle.wf_classes.specs.Own.{IsField}
use Rattle.wf_actions.specs.Literals.IsLiteralField.{own, other, unstated}
use Rattle.wf_actions.proofs.literals.literal_field.Goals as goal

pub returns-then-declared_field-c : goal.returns-then-declared_field-c
returns-then-declared_field-c c = other c.declared_field.result.class.0 c.declared_field.result.info.now c.declared_field.ensures.is (λ e. absurd (omega (arith, e, c.if-declared_field-c.true)))

pub returns-in-Some : goal.returns-in-Some
returns-in-Some c =
    let same : c.declared_field.result.class.0 ≡ c.args.c.0 = omega (arith, c.if-declared_field-c.false) in
    own c.declared_field.result.info.now c.in-Some.value (subst (λ (d : ℕ). IsField c.args.classes.now c.args.line.field.0 d c.declared_field.result.info.now) same c.declared_field.ensures.is) (sym c.stated_of.ensures ∙ c.in-Some.is)

pub returns-in-None : goal.returns-in-None
returns-in-None c = unstated (sym c.stated_of.ensures ∙ c.in-None.is)
