-- Names of classes and arrays, read.
use Rattle.std.proofs.Common.{◌≡◌, ℕ, zero, suc, ◌+◌, ◌-◌, ◌<◌, ◌≤◌, ◌==◌, cond, true, false, List, [], ◌∷◌, ◌++◌, length, take, drop, Option, Some, None, refl, sym, ap, subst, ◌∙◌, arith, inl, inr, ◌⊎◌, ne_eqb, Bor}
use Rattle.std.specs.Prelude.{replicate, slice_get, option_map, MatchOption}
use Rattle.std.specs.Option.{option_copied}
use Rattle.std.specs.List.{prefix_len}
use Rattle.std.proofs.lemmas.List.{length-append, length-drop, length-replicate, append_cancel_right, take_all}
use Rattle.std.proofs.Math.Seq.{drop-append_seam}
use Rattle.std.proofs.lemmas.List.Folds.{length-prefix_len}
use Rattle.std.proofs.lemmas.Bool.{cases_eq, true≢false}
use Rattle.wf_names.specs.Names.{is_class_name}
use Rattle.wf_data.specs.declared.class_info.ClassInfo.{ClassInfo}
use Rattle.wf_base.specs.declared.ids.ClassId.{ClassId}
use Rattle.wf_grammar.specs.Writing.{HasSpelling}
use Rattle.wf_classes.specs.World.{IsClosedWorld, name_at, class_of, number_in}
use Rattle.wf_classes.proofs.WaitFacts.{class_found, class_is}
use Rattle.wf_subtype.specs.declared.reference.Inner.{Inner}
use Rattle.wf_subtype.specs.declared.reference.Inner.TheVariants.{Class, Primitive}
use Rattle.wf_subtype.specs.declared.reference.Reference.{Reference}
use Rattle.wf_subtype.specs.References.{letters, brackets, inner_text, name_of, Refers, IsClassText, IsPrimitiveOf, IsInnerOf}

-- ---- brackets

pub brackets-cons : (name : List ℕ) → brackets (91 ∷ name) ≡ suc (brackets name)
brackets-cons name = length-prefix_len (λ b. b == 91) (91 ∷ name) ∙ (let e = length-prefix_len (λ b. b == 91) name in omega (arith, e))

pub brackets-other : (b : ℕ) (name : List ℕ) → (b == 91) ≡ false → brackets (b ∷ name) ≡ 0
brackets-other b name e = length-prefix_len (λ b. b == 91) (b ∷ name) ∙ ap (λ t. cond t (1 + prefix_len (λ b. b == 91) name) 0) e

pub brackets_split : (name : List ℕ) → name ≡ replicate (brackets name) 91 ++ drop (brackets name) name
brackets_split [] = refl
brackets_split (b ∷ name) = go (brackets_split name) (cases_eq b 91) where
  go : name ≡ replicate (brackets name) 91 ++ drop (brackets name) name → ((b ≡ 91) ⊎ (b ≡ 91 → ⊥)) → b ∷ name ≡ replicate (brackets (b ∷ name)) 91 ++ drop (brackets (b ∷ name)) (b ∷ name)
  go rest (inl e) = subst (λ x. x ∷ name ≡ replicate (brackets (x ∷ name)) 91 ++ drop (brackets (x ∷ name)) (x ∷ name)) (sym e) (subst (λ n. 91 ∷ name ≡ replicate n 91 ++ drop n (91 ∷ name)) (sym (brackets-cons name)) (ap (λ (xs : List ℕ). 91 ∷ xs) rest))
  go rest (inr d) = subst (λ n. b ∷ name ≡ replicate n 91 ++ drop n (b ∷ name)) (sym (brackets-other b name (ne_eqb b 91 d))) refl

-- ---- classes

pub class_there : (classes : List ClassInfo) (name : List ℕ) (c : ClassId) → number_in (Some c) ≡ class_of classes name → name_at classes c.0 ≡ Some name
class_there classes name c e =
    let f = class_found classes name c.0 (sym e) in
    ap (option_map (λ (k : ClassInfo). k.name)) f.1 ∙ ap (λ (n : List ℕ). Some n) f.2

pub class_missing : (classes : List ClassInfo) (name : List ℕ) (c : ℕ) → IsClosedWorld classes → class_of classes name ≡ None → name_at classes c ≡ Some name → ⊥
class_missing classes name c world none there = go (slice_get classes c) refl there where
  go : (o : Option ClassInfo) → slice_get classes c ≡ o → option_map (λ (k : ClassInfo). k.name) o ≡ Some name → ⊥
  go (Some k) is e = let named : k.name ≡ name = cc in let found = class_is classes c k world.ascending is in absurd (cc (found, none, ap (class_of classes) named))
  go None is e = absurd cc

pub class_named : (k : ClassInfo) → HasSpelling k → is_class_name k.name ≡ true
class_named k h =
    let body = h.spelled.back.rest.back.back.rest.back in
    let members = body.back.back.rest.back.back.back in
    ap (λ (c : ClassInfo). is_class_name c.name) members.back.back.back.back.same ∙ body.back.back.holds

-- no class's name begins with `[`
pub class_brackets : (classes : List ClassInfo) (name : List ℕ) (c : ℕ) → IsClosedWorld classes → name_at classes c ≡ Some name → brackets name ≡ 0
class_brackets classes name c world there = go (slice_get classes c) refl there where
  first : (name : List ℕ) → is_class_name name ≡ true → brackets name ≡ 0
  first [] e = refl
  first (b ∷ name) e = elim (cases_eq b 91) [
    | inl is ↦ absurd (true≢false (sym e ∙ ap (λ x. is_class_name (x ∷ name)) is))
    | inr other ↦ brackets-other b name (ne_eqb b 91 other)
  ]

  go : (o : Option ClassInfo) → slice_get classes c ≡ o → option_map (λ (k : ClassInfo). k.name) o ≡ Some name → brackets name ≡ 0
  go (Some k) is e = first name (subst (λ n. is_class_name n ≡ true) (let named : k.name ≡ name = cc in named) (class_named k (world.spelled.each c k is)))
  go None is e = absurd cc

-- ---- what stands behind the brackets

pub class_text_is : (text rest : List ℕ) (r : Option (Bor (List ℕ))) → text ≡ 76 ∷ rest → MatchOption r ((front : List ℕ) → rest ≡ front ++ 59 ∷ [] → ⊥) (λ x. rest ≡ x.now ++ 59 ∷ []) → IsClassText text (option_copied r)
class_text_is text rest (Some x) e h = e ∙ ap (λ (xs : List ℕ). 76 ∷ xs) h
class_text_is text rest None e h = λ name f. h name (let same : rest ≡ name ++ 59 ∷ [] = cc in same)

no_class_text : (text : List ℕ) → ((rest : List ℕ) → text ≡ 76 ∷ rest → ⊥) → IsClassText text None
no_class_text text h = λ name e. h (name ++ 59 ∷ []) e

pub inner_class : (classes : List ClassInfo) (text name : List ℕ) (c : ClassId) → IsClassText text (Some name) → number_in (Some c) ≡ class_of classes name → IsInnerOf classes text (Some (Class c))
inner_class classes text name c e f = ap (option_map (λ (name : List ℕ). 76 ∷ (name ++ 59 ∷ []))) (class_there classes name c f) ∙ ap (λ (n : List ℕ). Some n) (sym e)

-- the text of a class is longer than a letter
one_letter : (name : List ℕ) (letter : ℕ) → letter ∷ [] ≡ 76 ∷ (name ++ 59 ∷ []) → ⊥
one_letter name letter e = absurd (omega (arith, ap length e, length-append name (59 ∷ [])))

pub inner_name : (classes : List ClassInfo) (c : ClassId) (text : List ℕ) → inner_text classes (Class c) ≡ Some text → (name : List ℕ) × (name_at classes c.0 ≡ Some name) × (text ≡ 76 ∷ (name ++ 59 ∷ []))
inner_name classes c text e = go (name_at classes c.0) refl e where
  go : (o : Option (List ℕ)) → name_at classes c.0 ≡ o → option_map (λ (name : List ℕ). 76 ∷ (name ++ 59 ∷ [])) o ≡ Some text → (name : List ℕ) × (name_at classes c.0 ≡ Some name) × (text ≡ 76 ∷ (name ++ 59 ∷ []))
  go (Some name) is f = (name, is, cc)
  go None is f = absurd cc

pub inner_letter : (p : ℕ) (text : List ℕ) (classes : List ClassInfo) → inner_text classes (Primitive p) ≡ Some text → (letter : ℕ) × (slice_get letters p ≡ Some letter) × (text ≡ letter ∷ [])
inner_letter p text classes e = go (slice_get letters p) refl e where
  go : (o : Option ℕ) → slice_get letters p ≡ o → option_map (λ (letter : ℕ). letter ∷ []) o ≡ Some text → (letter : ℕ) × (slice_get letters p ≡ Some letter) × (text ≡ letter ∷ [])
  go (Some letter) is f = (letter, is, cc)
  go None is f = absurd cc

pub inner_none : (classes : List ClassInfo) (text name : List ℕ) → IsClosedWorld classes → IsClassText text (Some name) → class_of classes name ≡ None → IsInnerOf classes text None
inner_none classes text name world e none (Class c) f =
    let at = inner_name classes c text f in
    let tails : at.0 ++ 59 ∷ [] ≡ name ++ 59 ∷ [] = cc (at.2, e) in
    class_missing classes name c.0 world none (at.1 ∙ ap (λ (n : List ℕ). Some n) (append_cancel_right at.0 name (59 ∷ []) tails))
inner_none classes text name world e none (Primitive p) f = let at = inner_letter p text classes f in one_letter name at.0 (sym at.2 ∙ e)

pub inner_primitive : (classes : List ClassInfo) (text : List ℕ) (p : ℕ) → IsPrimitiveOf text (Some p) → IsInnerOf classes text (Some (Primitive p))
inner_primitive classes text p h = ap (option_map (λ (letter : ℕ). letter ∷ [])) h.1 ∙ ap (λ (n : List ℕ). Some n) (sym h.2)

pub inner_neither : (classes : List ClassInfo) (text : List ℕ) → IsClassText text None → IsPrimitiveOf text None → IsInnerOf classes text None
inner_neither classes text class primitive (Class c) f = let at = inner_name classes c text f in class at.0 at.2
inner_neither classes text class primitive (Primitive p) f = let at = inner_letter p text classes f in primitive p at.0 at.1 at.2

-- ---- names

-- no letter is a bracket
letter_apart : (p letter : ℕ) → slice_get letters p ≡ Some letter → (letter == 91) ≡ false
letter_apart zero l e = subst (λ n. (n == 91) ≡ false) (let s : 66 ≡ l = cc in s) refl
letter_apart (suc zero) l e = subst (λ n. (n == 91) ≡ false) (let s : 67 ≡ l = cc in s) refl
letter_apart (suc (suc zero)) l e = subst (λ n. (n == 91) ≡ false) (let s : 68 ≡ l = cc in s) refl
letter_apart (suc (suc (suc zero))) l e = subst (λ n. (n == 91) ≡ false) (let s : 70 ≡ l = cc in s) refl
letter_apart (suc (suc (suc (suc zero)))) l e = subst (λ n. (n == 91) ≡ false) (let s : 73 ≡ l = cc in s) refl
letter_apart (suc (suc (suc (suc (suc zero))))) l e = subst (λ n. (n == 91) ≡ false) (let s : 74 ≡ l = cc in s) refl
letter_apart (suc (suc (suc (suc (suc (suc zero)))))) l e = subst (λ n. (n == 91) ≡ false) (let s : 83 ≡ l = cc in s) refl
letter_apart (suc (suc (suc (suc (suc (suc (suc zero))))))) l e = subst (λ n. (n == 91) ≡ false) (let s : 90 ≡ l = cc in s) refl
letter_apart (suc (suc (suc (suc (suc (suc (suc (suc p)))))))) l e = absurd cc

-- what stands behind the brackets begins with none
inner_brackets : (classes : List ClassInfo) (x : Inner) (text : List ℕ) → inner_text classes x ≡ Some text → brackets text ≡ 0
inner_brackets classes (Class c) text e = let at = inner_name classes c text e in ap brackets at.2 ∙ brackets-other 76 (at.0 ++ 59 ∷ []) refl
inner_brackets classes (Primitive p) text e = let at = inner_letter p text classes e in ap brackets at.2 ∙ brackets-other at.0 [] (letter_apart p at.0 at.1)

brackets-replicate : (n : ℕ) (text : List ℕ) → brackets text ≡ 0 → brackets (replicate n 91 ++ text) ≡ n
brackets-replicate zero text e = e
brackets-replicate (suc n) text e = brackets-cons (replicate n 91 ++ text) ∙ ap (λ m. suc m) (brackets-replicate n text e)

pub array_tail : (classes : List ClassInfo) (n : ℕ) (x : Inner) (name : List ℕ) → name_of classes (suc n) x ≡ Some name → (text : List ℕ) × (inner_text classes x ≡ Some text) × (name ≡ replicate (suc n) 91 ++ text)
array_tail classes n x name e = go (inner_text classes x) refl e where
  go : (o : Option (List ℕ)) → inner_text classes x ≡ o → option_map (λ (text : List ℕ). replicate (suc n) 91 ++ text) o ≡ Some name → (text : List ℕ) × (inner_text classes x ≡ Some text) × (name ≡ replicate (suc n) 91 ++ text)
  go (Some text) is f = (text, is, cc)
  go None is f = absurd cc

-- a name has as many brackets as what it names has dimensions
pub name_brackets : (classes : List ClassInfo) (n : ℕ) (x : Inner) (name : List ℕ) → IsClosedWorld classes → name_of classes n x ≡ Some name → brackets name ≡ n
name_brackets classes zero (Class c) name world e = class_brackets classes name c.0 world e
name_brackets classes zero (Primitive p) name world e = absurd cc
name_brackets classes (suc n) x name world e =
    let at = array_tail classes n x name e in
    ap brackets at.2 ∙ brackets-replicate (suc n) at.0 (inner_brackets classes x at.0 at.1)

pub refers_class : (classes : List ClassInfo) (name : List ℕ) (c : ClassId) → number_in (Some c) ≡ class_of classes name → Refers classes name (record { dims = 0; inner = Class c })
refers_class classes name c e = record { dims = omega arith; text = class_there classes name c e }

pub refers_no_class : (classes : List ClassInfo) (name : List ℕ) → IsClosedWorld classes → brackets name ≡ 0 → class_of classes name ≡ None → (r : Reference) → Refers classes name r → ⊥
refers_no_class classes name world flat none r h = go r.dims r.inner (sym (name_brackets classes r.dims r.inner name world h.text) ∙ flat) h.text where
  go : (n : ℕ) (x : Inner) → n ≡ 0 → name_of classes n x ≡ Some name → ⊥
  go zero (Class c) z e = class_missing classes name c.0 world none e
  go zero (Primitive p) z e = cc
  go (suc n) x z e = absurd (omega (arith, z))

pub refers_too_deep : (classes : List ClassInfo) (name : List ℕ) → IsClosedWorld classes → 255 < brackets name → (r : Reference) → Refers classes name r → ⊥
refers_too_deep classes name world deep r h = absurd (omega (arith, deep, h.dims, name_brackets classes r.dims r.inner name world h.text))

pub refers_array : (classes : List ClassInfo) (name : List ℕ) (n : ℕ) (x : Inner) → n ≡ brackets name → (n ≡ 0 → ⊥) → n ≤ 255 → inner_text classes x ≡ Some (drop n name) → Refers classes name (record { dims = n; inner = x })
refers_array classes name n x e some most inner = record { dims = most; text = go n e some inner } where
  go : (n : ℕ) → n ≡ brackets name → (n ≡ 0 → ⊥) → inner_text classes x ≡ Some (drop n name) → name_of classes n x ≡ Some name
  go zero e some inner = absurd (some refl)
  go (suc n) e some inner = ap (option_map (λ (text : List ℕ). replicate (suc n) 91 ++ text)) inner ∙ ap (λ (t : List ℕ). Some t) (ap (λ k. replicate k 91 ++ drop k name) e ∙ sym (brackets_split name))

pub refers_no_array : (classes : List ClassInfo) (name : List ℕ) (n : ℕ) → IsClosedWorld classes → n ≡ brackets name → (n ≡ 0 → ⊥) → ((x : Inner) → inner_text classes x ≡ Some (drop n name) → ⊥) → (r : Reference) → Refers classes name r → ⊥
refers_no_array classes name n world e some none r h = go r.dims r.inner (name_brackets classes r.dims r.inner name world h.text) h.text where
  go : (m : ℕ) (x : Inner) → brackets name ≡ m → name_of classes m x ≡ Some name → ⊥
  go zero x f t = some (e ∙ f)
  go (suc m) x f t =
      let at = array_tail classes m x name t in
      let size : length (replicate (suc m) 91) ≡ n = length-replicate (suc m) 91 ∙ sym (e ∙ f) in
      none x (at.1 ∙ ap (λ (t : List ℕ). Some t) (sym (ap (drop n) at.2 ∙ ap (λ k. drop k (replicate (suc m) 91 ++ at.0)) (sym size) ∙ drop-append_seam (replicate (suc m) 91) at.0)))

pub tail_whole : (n : ℕ) (name : List ℕ) → take (length name - n) (drop n name) ≡ drop n name
tail_whole n name = take_all (length name - n) (drop n name) (omega (arith, length-drop n name))

-- what a name is the name of has one number of dimensions
pub one_depth : (classes : List ClassInfo) (name : List ℕ) (r s : Reference) → IsClosedWorld classes → Refers classes name r → Refers classes name s → r.dims ≡ s.dims
one_depth classes name r s world p q = sym (name_brackets classes r.dims r.inner name world p.text) ∙ name_brackets classes s.dims s.inner name world q.text
