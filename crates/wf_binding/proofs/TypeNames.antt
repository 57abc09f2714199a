-- A type that is there has a reference.
use Rattle.std.proofs.Common.{◌≡◌, ℕ, zero, suc, ◌+◌, ◌-◌, ◌<◌, ◌≤◌, ◌==◌, nat_lt, cond, Bool, true, false, not, ◌&&◌, ◌||◌, List, [], ◌∷◌, ◌++◌, length, take, get_or, Option, Some, None, is_none, refl, sym, ap, subst, ◌∙◌, arith, inl, inr, ◌⊎◌}
use Rattle.std.specs.Prelude.{replicate, slice_get, option_map}
use Rattle.std.specs.List.{list_any}
use Rattle.std.proofs.lemmas.Bool.{cases_Bool, and_parts, eqb-true, true≢false}
use Rattle.std.proofs.lemmas.List.{take_more, take_all}
use Rattle.wf_base.specs.declared.ids.ClassId.{ClassId}
use Rattle.wf_data.specs.declared.class_info.ClassInfo.{ClassInfo}
use Rattle.wf_descriptor.specs.Descriptors.{is_letter}
use Rattle.wf_names.specs.Names.{object_name}
use Rattle.wf_classes.specs.World.{IsClosedWorld, IsAscending, Loadable, object, below, names_of, name_at, class_of}
use Rattle.wf_classes.proofs.WaitFacts.{class_found, class_is}
use Rattle.wf_subtype.specs.References.{letters, inner_text, name_of, Refers}
use Rattle.wf_subtype.specs.declared.reference.Inner.{Inner}
use Rattle.wf_subtype.specs.declared.reference.Inner.TheVariants.{Class, Primitive}
use Rattle.wf_subtype.specs.declared.reference.Reference.{Reference}
use Rattle.wf_binding.specs.Named.{is_class, is_ended_class, is_innermost, is_component, is_array, is_type}

-- ---- classes

-- the class of a name that is there
record IsClassOf (classes : List ClassInfo) (name : List ℕ) : Type 0 where
  pub class : ClassId
  pub named : name_at classes class.0 ≡ Some name

class_named : (classes : List ClassInfo) (name : List ℕ) → is_class classes name ≡ true → IsClassOf classes name
class_named classes name e = go (class_of classes name) refl e where
  go : (o : Option ℕ) → class_of classes name ≡ o → not (is_none o) ≡ true → IsClassOf classes name
  go None is e = absurd cc
  go (Some c) is e =
      let f = class_found classes name c is in
      record { class = record { 0 = c }; named = ap (option_map (λ (k : ClassInfo). k.name)) f.1 ∙ ap (λ (n : List ℕ). Some n) f.2 }

is_class_at : (classes : List ClassInfo) (c : ℕ) (k : ClassInfo) → IsAscending (names_of classes) → slice_get classes c ≡ Some k → is_class classes k.name ≡ true
is_class_at classes c k up e = ap (λ o. not (is_none o)) (class_is classes c k up e)

loaded : (classes : List ClassInfo) → IsAscending (names_of classes) → (name : List ℕ) → Loadable classes name → is_class classes name ≡ true
loaded classes up _ (object place k there named super kind none) = is_class_at classes place k up there
loaded classes up _ (below place k super there is names rest interfaces all) = is_class_at classes place k up there

-- java/lang/Object is there
pub object_there : (classes : List ClassInfo) → IsClosedWorld classes → is_type classes object_name ≡ true
object_there classes w = ap (λ b. b || is_array classes object_name) (loaded classes w.ascending object_name w.object)

-- ---- letters

nested : (a b c d e f g h : Bool) → (a || b || c || d || e || f || g || h) ≡ true → (a || (b || (c || (d || (e || (f || (g || (h || false)))))))) ≡ true
nested true b c d e f g h t = refl
nested false true c d e f g h t = refl
nested false false true d e f g h t = refl
nested false false false true e f g h t = refl
nested false false false false true f g h t = refl
nested false false false false false true g h t = refl
nested false false false false false false true h t = refl
nested false false false false false false false true t = refl
nested false false false false false false false false t = absurd cc

letter_among : (ls : List ℕ) (b : ℕ) → list_any (λ l. b == l) ls ≡ true → (p : ℕ) × (slice_get ls p ≡ Some b)
letter_among [] b e = absurd cc
letter_among (l ∷ ls) b e = elim (cases_Bool (b == l)) [
  | inl t ↦ (0, ap (λ n. Some n) (sym (eqb-true b l t)))
  | inr f ↦ (let r = letter_among ls b (sym (ap (λ x. x || list_any (λ l. b == l) ls) f) ∙ e) in (suc r.0, r.1))
]

letter_place : (b : ℕ) → is_letter b ≡ true → (p : ℕ) × (slice_get letters p ≡ Some b)
letter_place b e = letter_among letters b (nested (b == 66) (b == 67) (b == 68) (b == 70) (b == 73) (b == 74) (b == 83) (b == 90) e)

-- ---- arrays

record IsInner (classes : List ClassInfo) (text : List ℕ) : Type 0 where
  pub inner : Inner
  pub is : inner_text classes inner ≡ Some text

-- some dimensions in front of a component
record IsWhole (classes : List ClassInfo) (dims : ℕ) (text : List ℕ) : Type 0 where
  pub n : ℕ
  pub few : n ≤ dims
  pub behind : List ℕ
  pub inner : IsInner classes behind
  pub is : text ≡ replicate n 91 ++ behind

ended : (text : List ℕ) → (get_or text (length text - 1) 0 == 59) ≡ true → take (length text - 1) text ++ 59 ∷ [] ≡ text
ended [] e = absurd cc
ended (b ∷ text) e =
    let xs = b ∷ text in
    let last : get_or xs (length xs - 1) 0 ≡ 59 = eqb-true _ 59 e in
    let more = take_more xs (length xs - 1) 0 (omega arith) in
    let whole : take (length xs - 1 + 1) xs ≡ xs = take_all (length xs - 1 + 1) xs (omega arith) in
    ap (λ x. take (length xs - 1) xs ++ x ∷ []) (sym last) ∙ sym more ∙ whole

innermost : (classes : List ClassInfo) (b : ℕ) (text : List ℕ) → is_innermost classes (b ∷ text) ≡ true → IsInner classes (b ∷ text)
innermost classes b text e = elim (cases_Bool (b == 76)) [
  | inl t ↦ class (eqb-true b 76 t) (sym (ap (λ x. cond x (is_ended_class classes text) (is_letter b && length text == 0)) t) ∙ e)
  | inr f ↦ letter (sym (ap (λ x. cond x (is_ended_class classes text) (is_letter b && length text == 0)) f) ∙ e)
] where
  class : b ≡ 76 → is_ended_class classes text ≡ true → IsInner classes (b ∷ text)
  class is h =
      let p = and_parts (get_or text (length text - 1) 0 == 59) (is_class classes (take (length text - 1) text)) h in
      let k = class_named classes (take (length text - 1) text) p.1 in
      record {
        inner = Class k.class;
        is = ap (option_map (λ (name : List ℕ). 76 ∷ (name ++ 59 ∷ []))) k.named ∙ ap (λ (xs : List ℕ). Some (76 ∷ xs)) (ended text p.0) ∙ ap (λ x. Some (x ∷ text)) (sym is);
      }

  none : (text : List ℕ) → (length text == 0) ≡ true → [] ≡ text
  none [] e = refl
  none (x ∷ xs) e = absurd (let z : length (x ∷ xs) ≡ 0 = eqb-true (length (x ∷ xs)) 0 e in omega arith)

  letter : (is_letter b && length text == 0) ≡ true → IsInner classes (b ∷ text)
  letter h =
      let p = and_parts (is_letter b) (length text == 0) h in
      let l = letter_place b p.0 in
      record { inner = Primitive l.0; is = ap (option_map (λ (x : ℕ). x ∷ [])) l.1 ∙ ap (λ (xs : List ℕ). Some (b ∷ xs)) (none text p.1) }

component : (classes : List ClassInfo) (text : List ℕ) (dims : ℕ) → is_component classes dims text ≡ true → IsWhole classes dims text
component classes [] dims e = absurd cc
component classes (b ∷ text) dims e = elim (cases_Bool (b == 91)) [
  | inl t ↦ (let p = and_parts (nat_lt 0 dims) (is_component classes (dims - 1) text) (sym (ap (λ x. cond x (nat_lt 0 dims && is_component classes (dims - 1) text) (is_innermost classes (b ∷ text))) t) ∙ e) in
      let r = component classes text (dims - 1) p.1 in
      record { n = suc r.n; few = more r.n dims p.0 r.few; behind = r.behind; inner = r.inner; is = ap (λ x. x ∷ text) (eqb-true b 91 t) ∙ ap (λ (xs : List ℕ). 91 ∷ xs) r.is })
  | inr f ↦ (let i = innermost classes b text (sym (ap (λ x. cond x (nat_lt 0 dims && is_component classes (dims - 1) text) (is_innermost classes (b ∷ text))) f) ∙ e) in
      record { n = 0; few = omega arith; behind = b ∷ text; inner = i; is = refl })
] where
  more : (n dims : ℕ) → nat_lt 0 dims ≡ true → n ≤ dims - 1 → suc n ≤ dims
  more n zero t h = absurd cc
  more n (suc d) t h = omega arith

-- ---- names

-- what a name is the name of
pub record HasReference (classes : List ClassInfo) (name : List ℕ) : Type 0 where
  pub reference : Reference
  pub refers : Refers classes name reference

array_there : (classes : List ClassInfo) (name : List ℕ) → is_array classes name ≡ true → HasReference classes name
array_there classes [] e = absurd cc
array_there classes (b ∷ text) e =
    let p = and_parts (b == 91) (is_component classes 255 (b ∷ text)) e in
    let q : is_component classes 254 text ≡ true = sym (ap (λ x. cond x (is_component classes 254 text) (is_innermost classes (b ∷ text))) p.0) ∙ p.1 in
    let r = component classes text 254 q in
    record {
      reference = record { dims = suc r.n; inner = r.inner.inner };
      refers = record {
        dims = omega (arith, r.few);
        text = ap (option_map (λ (t : List ℕ). replicate (suc r.n) 91 ++ t)) r.inner.is ∙ ap (λ (xs : List ℕ). Some (91 ∷ xs)) (sym r.is) ∙ ap (λ x. Some (x ∷ text)) (sym (eqb-true b 91 p.0));
      };
    }

pub type_there : (classes : List ClassInfo) (name : List ℕ) → is_type classes name ≡ true → HasReference classes name
type_there classes name e = elim (cases_Bool (is_class classes name)) [
  | inl t ↦ (let k = class_named classes name t in record { reference = record { dims = 0; inner = Class k.class }; refers = record { dims = omega arith; text = k.named } })
  | inr f ↦ array_there classes name (sym (ap (λ b. b || is_array classes name) f) ∙ e)
]
