use Rattle.std.proofs.Common.{◌≡◌, ◌∙◌, Some, false, true, sym, ap}
use Rattle.wf_select.specs.Selection.{above_current, of_constructor, of_interface, of_no_superclass}
use Rattle.wf_select.proofs.invokespecial.start.Goals as goal

clash : false ≡ true → ⊥
clash e = cc

pub returns-then-is_constructor_name-clause-start : goal.returns-then-is_constructor_name-clause-start
returns-then-is_constructor_name-clause-start c = of_constructor (sym c.is_constructor_name.ensures ∙ c.if-is_constructor_name.true)

pub returns-then-is_interface_at-clause-start : goal.returns-then-is_interface_at-clause-start
returns-then-is_interface_at-clause-start c = of_interface (c.is_interface_at.ensures ∙ ap (λ b. Some b) c.if-is_interface_at.true)

pub returns-then-not-is_superclass-clause-start : goal.returns-then-not-is_superclass-clause-start
returns-then-not-is_superclass-clause-start c = of_no_superclass (λ h. clash (sym c.if-not-is_superclass.true ∙ c.is_superclass.ensures.1 h))

pub returns-in-Some-clause-start : goal.returns-in-Some-clause-start
returns-in-Some-clause-start c =
    above_current c.in-Some.s.0 (sym c.is_constructor_name.ensures ∙ c.if-is_constructor_name.false) (c.is_interface_at.ensures ∙ ap (λ b. Some b) c.if-is_interface_at.false) (c.is_superclass.ensures.0 c.if-not-is_superclass.false) (sym c.in-Some.ensures.number)
