-- What is read is of the form: the classes, one more each time, and the root.
use Rattle.std.proofs.Common.{◌≡◌, ℕ, Bool, true, false, ◌&&◌, cond, ◌⊎◌, List, [], ◌∷◌, ◌++◌, Option, Some, None, refl, sym, subst, ◌∙◌, inl, inr}
use Rattle.std.specs.Prelude.{Contains}
use Rattle.std.specs.Str.{bytes_eq}
use Rattle.wf_data.specs.declared.class_info.ClassInfo.{ClassInfo}
use Rattle.wf_data.specs.declared.class_info.MethodInfo.{MethodInfo}
use Rattle.wf_names.specs.declared.member.MemberName.{MemberName}
use Rattle.wf_data.specs.Flags.{is_static}
use Rattle.wf_first.specs.FirstForm.{is_first_form}
use Rattle.wf_sys.specs.Names.{method_name}
use Rattle.wf_sys.specs.Program.{DeclaresStatic}
use Rattle.wf_first.specs.Form.{AllOfForm}
use Rattle.wf_first.specs.Roots.{root_line, root_among, first_of, root_in}
use Rattle.wf_first.proofs.ListLaws.{and_both, contains_head, contains_tail, contains_cases, contains_nothing}

contains_push : {X : Type 0} (x y : X) (xs : List X) → Contains (xs ++ y ∷ []) x → Contains xs x ⊎ (y ≡ x)
contains_push x y [] h = elim (contains_cases x y [] h) [ inl same ↦ inr same | inr later ↦ absurd (contains_nothing x later) ]
contains_push x y (z ∷ xs) h =
    elim (contains_cases x z (xs ++ y ∷ []) h) [
      | inl same ↦ inl (subst (λ w. Contains (z ∷ xs) w) same (contains_head z xs))
      | inr later ↦ elim (contains_push x y xs later) [ inl there ↦ inl (contains_tail x z xs there) | inr last ↦ inr last ]
    ]

pub none_of_form : AllOfForm []
none_of_form = record { each_class = λ class h. absurd (contains_nothing class h) }

pub one_more_of_form : (classes : List ClassInfo) (class : ClassInfo) → is_first_form class ≡ true → AllOfForm classes → AllOfForm (classes ++ class ∷ [])
one_more_of_form classes class form all =
    record { each_class = λ c h. elim (contains_push c class classes h) [ inl old ↦ all.each_class c old | inr new ↦ subst (λ (d : ClassInfo). is_first_form d ≡ true) new form ] }

-- a static method of a list
pub record IsStaticOf (class : ClassInfo) (methods : List MethodInfo) (name : MemberName) : Type 0 where
  pub method : MethodInfo
  pub there : Contains methods method
  pub static : is_static method.flags ≡ true
  pub named : name ≡ method_name class method

among_declared : (class : ClassInfo) (methods : List MethodInfo) (line : List ℕ) (root : MemberName) → root_among class methods line ≡ Some root → IsStaticOf class methods root
among_declared class [] line root e = absurd cc
among_declared class (m ∷ methods) line root e =
    go (is_static m.flags && bytes_eq line (root_line (method_name class m))) refl (λ h. among_declared class methods line root h) e
  where
    go : (b : Bool) → (is_static m.flags && bytes_eq line (root_line (method_name class m))) ≡ b → (root_among class methods line ≡ Some root → IsStaticOf class methods root)
        → cond b (Some (method_name class m)) (root_among class methods line) ≡ Some root → IsStaticOf class (m ∷ methods) root
    go true is later e = record {
      method = m;
      there = contains_head m methods;
      static = (and_both (is_static m.flags) _ is).0;
      named = sym (same (method_name class m) root e);
    }
      where
        same : (a b : MemberName) → Some a ≡ Some b → a ≡ b
        same a b e = cc
    go false is later e = let w = later e in record { method = w.method; there = contains_tail w.method m methods w.there; static = w.static; named = w.named }

pub root_declared : (classes : List ClassInfo) (line : List ℕ) (root : MemberName) → root_in classes line ≡ Some root → DeclaresStatic classes root
root_declared [] line root e = absurd cc
root_declared (class ∷ classes) line root e =
    go (root_among class class.methods line) refl (λ h. root_declared classes line root h) e
  where
    go : (o : Option MemberName) → root_among class class.methods line ≡ o → (root_in classes line ≡ Some root → DeclaresStatic classes root) → first_of o (root_in classes line) ≡ Some root → DeclaresStatic (class ∷ classes) root
    go None is later e =
        let d = later e in
        record { class = d.class; method = d.method; class_there = contains_tail d.class class classes d.class_there; method_there = d.method_there; static = d.static; named = d.named }
    go (Some m) is later e =
        let w = among_declared class class.methods line root (is ∙ e) in
        record { class = class; method = w.method; class_there = contains_head class classes; method_there = w.there; static = w.static; named = w.named }
