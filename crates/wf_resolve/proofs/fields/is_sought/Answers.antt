use Rattle.std.proofs.Common.{◌≡◌, ◌∙◌, ℕ, Bool, true, false, List, Option, Some, None, sym, subst}
use Rattle.std.specs.Prelude.{option_map, is_some, IsTrue}
use Rattle.wf_base.specs.declared.ids.FieldId.{FieldId}
use Rattle.wf_data.specs.declared.class_info.ClassInfo.{ClassInfo}
use Rattle.wf_classes.specs.Members.{field_number}
use Rattle.wf_resolve.specs.Reaching.{DeclaresField, IsSought}
use Rattle.wf_resolve.specs.declared.fields.Sought.{Sought}
use Rattle.wf_resolve.proofs.fields.is_sought.Goals as goal

declares : (classes : List ClassInfo) (name desc : List ℕ) (c : ℕ) (o : Option FieldId) (b : Bool) → option_map (λ f. f.0) o ≡ field_number classes c name desc → b ≡ is_some o → (IsTrue b → DeclaresField classes name desc c) × (DeclaresField classes name desc c → IsTrue b)
declares classes name desc c None b e f = (λ t. absurd (false_true (sym f ∙ t)), λ d. absurd (clash d.field d.there)) where
  false_true : false ≡ true → ⊥
  false_true e = cc

  clash : (n : ℕ) → field_number classes c name desc ≡ Some n → ⊥
  clash n g = cc
declares classes name desc c (Some i) b e f = (λ t. record { field = i.0; there = sym e }, λ d. f)

pub returns-in-FieldOf : goal.returns-in-FieldOf
returns-in-FieldOf c =
    let d = declares c.args.classes.now c.in-FieldOf.name.now c.in-FieldOf.desc.now c.args.c.0 c.find_field.result c.is_some.result c.find_field.ensures.number c.is_some.ensures in
    subst (λ (s : Sought). (IsTrue c.is_some.result → IsSought c.args.classes.now s c.args.c.0) × (IsSought c.args.classes.now s c.args.c.0 → IsTrue c.is_some.result)) (sym c.in-FieldOf.is) d
