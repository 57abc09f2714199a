use Rattle.std.proofs.Common.{◌≡◌, ◌∙◌, ℕ, true, false, List, Some, None, refl, sym, subst, inl, inr, ◌⊎◌}
use Rattle.std.proofs.lemmas.Option.{same_Some}
use Rattle.wf_data.specs.declared.class_info.ClassInfo.{ClassInfo}
use Rattle.wf_classes.specs.World.{superclass_of}
use Rattle.wf_select.specs.Overriding.{IsSuperclass, direct, further}
use Rattle.wf_select.proofs.invokespecial.is_superclass.Goals as goal

-- a step up
step : (classes : List ClassInfo) (c s d : ℕ) → superclass_of classes c ≡ Some s → IsSuperclass classes c d → (s ≡ d) ⊎ IsSuperclass classes s d
step classes c s d e (direct x y f) = inl (same_Some s y (sym e ∙ f))
step classes c s d e (further x y z f rest) = inr (subst (λ n. IsSuperclass classes n z) (same_Some y s (sym f ∙ e)) rest)

no_step : (classes : List ClassInfo) (c d : ℕ) → superclass_of classes c ≡ None → IsSuperclass classes c d → ⊥
no_step classes c d e (direct x y f) = cc
no_step classes c d e (further x y z f rest) = cc

clash : false ≡ true → ⊥
clash e = cc

pub returns-then-are_one : goal.returns-then-are_one
returns-then-are_one c =
    let same = c.if-are_one.ensures.0 refl in
    (λ t. c.upward.invariant.step (subst (λ n. superclass_of c.args.classes.now c.upward.at.0 ≡ Some n) same (sym c.in-Some.ensures.number)), λ h. refl)

pub upward-init : goal.upward-init
upward-init c = record { in_there = c.requires; step = λ f. direct c.args.c.0 c.args.d.0 f; up = λ h. h; down = λ h. h }

pub upward-preserved : goal.upward-preserved
upward-preserved c =
    let classes = c.args.classes.now in
    let e = sym c.in-Some.ensures.number in
    record {
      in_there = c.in-Some.ensures.there;
      step = λ f. c.upward.invariant.up (further c.upward.at.0 c.in-Some.s.0 c.args.d.0 e (direct c.in-Some.s.0 c.args.d.0 f));
      up = λ h. c.upward.invariant.up (further c.upward.at.0 c.in-Some.s.0 c.args.d.0 e h);
      down = λ h. elim (step classes c.upward.at.0 c.in-Some.s.0 c.args.d.0 e (c.upward.invariant.down h)) [ inl same ↦ absurd (clash (c.if-are_one.ensures.1 same)) | inr rest ↦ rest ];
    }
