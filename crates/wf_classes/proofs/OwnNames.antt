-- Classes that have names of their own.
use Rattle.std.proofs.Common.{◌≡◌, ℕ, ◌<◌, true, List, [], ◌∷◌, length, get_or, sym, ◌∙◌, arith, inl, inr}
use Rattle.std.specs.Cmp.Lexicographic.{slice_cmp}
use Rattle.std.specs.List.{IsDistinct}
use Rattle.std.specs.Ordering.{nat_cmp, eq_by_cmp, is_eq}
use Rattle.std.proofs.lemmas.Bool.{cases_Bool}
use Rattle.std.proofs.lemmas.List.{get_or-map, length-map}
use Rattle.std.proofs.lemmas.Map.Keys.{IsDistinct-from_apart}
use Rattle.std.proofs.lemmas.Map.Text.{is_eq-slice_cmp}
use Rattle.std.proofs.lemmas.Option.{slice_get-get_or}
use Rattle.std.proofs.lemmas.Slice.Eq.{bytes_eq-Decides}
use Rattle.wf_data.specs.declared.class_info.ClassInfo.{ClassInfo}
use Rattle.wf_classes.specs.World.{HaveNamesOfTheirOwn, names_of}

-- texts that compare as equal are one
pub same_text : (a b : List ℕ) → is_eq (slice_cmp nat_cmp a b) ≡ true → a ≡ b
same_text a b e = (bytes_eq-Decides a b).0 (sym (is_eq-slice_cmp a b) ∙ e)

-- no two places have one name
one_name : (files : List ClassInfo) → HaveNamesOfTheirOwn files → (i j : ℕ) (d : List ℕ) → i < j → j < length (names_of files) → get_or (names_of files) i d ≡ get_or (names_of files) j d → ⊥
one_name [] h i j d l m e = omega arith
one_name (k ∷ ks) h i j d l m e =
    let files = k ∷ ks in
    let size = length-map files (λ (k : ClassInfo). k.name) in
    let a = get_or files i k in
    let b = get_or files j k in
    let low : i < length files = omega (arith, size) in
    let high : j < length files = omega (arith, size) in
    let same : a.name ≡ b.name = sym (get_or-map (λ (k : ClassInfo). k.name) files i k d low) ∙ e ∙ get_or-map (λ (k : ClassInfo). k.name) files j k d high in
    let one = h.apart i j a b (slice_get-get_or files i k low) (slice_get-get_or files j k high) same in
    omega arith

pub names_differ : (files : List ClassInfo) → HaveNamesOfTheirOwn files → IsDistinct (eq_by_cmp (slice_cmp nat_cmp)) (names_of files)
names_differ files h = IsDistinct-from_apart (eq_by_cmp (slice_cmp nat_cmp)) (names_of files) (λ i j d l m.
    elim (cases_Bool (is_eq (slice_cmp nat_cmp (get_or (names_of files) i d) (get_or (names_of files) j d)))) [
      | inl t ↦ absurd (one_name files h i j d l m (same_text _ _ t))
      | inr f ↦ f
    ])
