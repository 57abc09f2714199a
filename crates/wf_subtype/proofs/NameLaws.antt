-- A name is that of one class or array.
use Rattle.std.proofs.Common.{◌≡◌, ℕ, zero, suc, ◌+◌, ◌==◌, List, [], ◌∷◌, ◌++◌, length, drop, Option, Some, None, refl, sym, ap, subst, ◌∙◌, arith}
use Rattle.std.specs.Prelude.{replicate, slice_get, option_map, position}
use Rattle.std.proofs.lemmas.List.{length-append, length-replicate, append_cancel_right}
use Rattle.std.proofs.Math.Seq.{drop-append_seam}
use Rattle.wf_data.specs.declared.class_info.ClassInfo.{ClassInfo}
use Rattle.wf_classes.specs.World.{IsClosedWorld, name_at, class_of}
use Rattle.wf_classes.proofs.WaitFacts.{class_is}
use Rattle.wf_subtype.specs.declared.reference.Inner.{Inner}
use Rattle.wf_subtype.specs.declared.reference.Inner.TheVariants.{Class, Primitive}
use Rattle.wf_subtype.specs.declared.reference.Reference.{Reference}
use Rattle.wf_subtype.specs.References.{letters, inner_text, name_of, Refers}
use Rattle.wf_subtype.proofs.Naming.{array_tail, inner_name, inner_letter, one_depth}
use Rattle.wf_subtype.proofs.UnderLaws.{same_reference}

class_number : (classes : List ClassInfo) (name : List ℕ) (c : ℕ) → IsClosedWorld classes → name_at classes c ≡ Some name → class_of classes name ≡ Some c
class_number classes name c world there = go (slice_get classes c) refl there where
  go : (o : Option ClassInfo) → slice_get classes c ≡ o → option_map (λ (k : ClassInfo). k.name) o ≡ Some name → class_of classes name ≡ Some c
  go (Some k) is e = let named : k.name ≡ name = cc in sym (ap (class_of classes) named) ∙ class_is classes c k world.ascending is
  go None is e = absurd cc

one_class : (classes : List ClassInfo) (name : List ℕ) (c d : ℕ) → IsClosedWorld classes → name_at classes c ≡ Some name → name_at classes d ≡ Some name → c ≡ d
one_class classes name c d world p q =
    let first = class_number classes name c world p in
    let second = class_number classes name d world q in
    cc (first, second)

letter_number : (p letter : ℕ) → slice_get letters p ≡ Some letter → position (λ l. l == letter) letters ≡ Some p
letter_number zero l e = subst (λ n. position (λ k. k == n) letters ≡ Some 0) (let s : 66 ≡ l = cc in s) refl
letter_number (suc zero) l e = subst (λ n. position (λ k. k == n) letters ≡ Some 1) (let s : 67 ≡ l = cc in s) refl
letter_number (suc (suc zero)) l e = subst (λ n. position (λ k. k == n) letters ≡ Some 2) (let s : 68 ≡ l = cc in s) refl
letter_number (suc (suc (suc zero))) l e = subst (λ n. position (λ k. k == n) letters ≡ Some 3) (let s : 70 ≡ l = cc in s) refl
letter_number (suc (suc (suc (suc zero)))) l e = subst (λ n. position (λ k. k == n) letters ≡ Some 4) (let s : 73 ≡ l = cc in s) refl
letter_number (suc (suc (suc (suc (suc zero))))) l e = subst (λ n. position (λ k. k == n) letters ≡ Some 5) (let s : 74 ≡ l = cc in s) refl
letter_number (suc (suc (suc (suc (suc (suc zero)))))) l e = subst (λ n. position (λ k. k == n) letters ≡ Some 6) (let s : 83 ≡ l = cc in s) refl
letter_number (suc (suc (suc (suc (suc (suc (suc zero))))))) l e = subst (λ n. position (λ k. k == n) letters ≡ Some 7) (let s : 90 ≡ l = cc in s) refl
letter_number (suc (suc (suc (suc (suc (suc (suc (suc p)))))))) l e = absurd cc

one_primitive : (p q letter : ℕ) → slice_get letters p ≡ Some letter → slice_get letters q ≡ Some letter → p ≡ q
one_primitive p q letter e f =
    let first = letter_number p letter e in
    let second = letter_number q letter f in
    cc (first, second)

-- the text of a class is longer than a letter
class_or_letter : (text name : List ℕ) (letter : ℕ) → text ≡ 76 ∷ (name ++ 59 ∷ []) → text ≡ letter ∷ [] → ⊥
class_or_letter text name letter e f = absurd (omega (arith, ap length e, ap length f, length-append name (59 ∷ [])))

same_letter : (text : List ℕ) (a b : ℕ) → text ≡ a ∷ [] → text ≡ b ∷ [] → b ≡ a
same_letter text a b e f = cc (e, f)

one_inner : (classes : List ClassInfo) (text : List ℕ) (x y : Inner) → IsClosedWorld classes → inner_text classes x ≡ Some text → inner_text classes y ≡ Some text → x ≡ y
one_inner classes text (Class c) (Class d) world e f =
    let first = inner_name classes c text e in
    let second = inner_name classes d text f in
    let tails : first.0 ++ 59 ∷ [] ≡ second.0 ++ 59 ∷ [] = cc (first.2, second.2) in
    let same : first.0 ≡ second.0 = append_cancel_right first.0 second.0 (59 ∷ []) tails in
    ap (λ k. Class (record { 0 = k })) (one_class classes second.0 c.0 d.0 world (first.1 ∙ ap (λ (n : List ℕ). Some n) same) second.1)
one_inner classes text (Class c) (Primitive q) world e f =
    let first = inner_name classes c text e in
    let second = inner_letter q text classes f in
    absurd (class_or_letter text first.0 second.0 first.2 second.2)
one_inner classes text (Primitive p) (Class d) world e f =
    let first = inner_letter p text classes e in
    let second = inner_name classes d text f in
    absurd (class_or_letter text second.0 first.0 second.2 first.2)
one_inner classes text (Primitive p) (Primitive q) world e f =
    let first = inner_letter p text classes e in
    let second = inner_letter q text classes f in
    ap Primitive (one_primitive p q first.0 first.1 (second.1 ∙ ap (λ (n : ℕ). Some n) (same_letter text first.0 second.0 first.2 second.2)))

-- what stands behind as many brackets
tail_is : (n : ℕ) (name text : List ℕ) → name ≡ replicate n 91 ++ text → drop n name ≡ text
tail_is n name text e = ap (drop n) e ∙ ap (λ k. drop k (replicate n 91 ++ text)) (sym (length-replicate n 91)) ∙ drop-append_seam (replicate n 91) text

pub one_reference : (classes : List ClassInfo) (name : List ℕ) (r s : Reference) → IsClosedWorld classes → Refers classes name r → Refers classes name s → r ≡ s
one_reference classes name r s world p q = same_reference r.dims s.dims r.inner s.inner depth (go r.dims s.dims r.inner s.inner depth p.text q.text) where
  depth : r.dims ≡ s.dims
  depth = one_depth classes name r s world p q

  go : (m n : ℕ) (x y : Inner) → m ≡ n → name_of classes m x ≡ Some name → name_of classes n y ≡ Some name → x ≡ y
  go zero zero (Class c) (Class d) e f g = ap (λ k. Class (record { 0 = k })) (one_class classes name c.0 d.0 world f g)
  go zero zero (Class c) (Primitive b) e f g = absurd cc
  go zero zero (Primitive a) y e f g = absurd cc
  go zero (suc n) x y e f g = absurd (omega (arith, e))
  go (suc m) zero x y e f g = absurd (omega (arith, e))
  go (suc m) (suc n) x y e f g =
      let first = array_tail classes m x name f in
      let second = array_tail classes n y name g in
      let same : second.0 ≡ first.0 = sym (tail_is (suc n) name second.0 second.2) ∙ ap (λ k. drop k name) (sym e) ∙ tail_is (suc m) name first.0 first.2 in
      one_inner classes first.0 x y world first.1 (second.1 ∙ ap (λ (t : List ℕ). Some t) same)
