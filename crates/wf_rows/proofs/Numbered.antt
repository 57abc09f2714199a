-- The rows of a list that are not left out are those whose nodes all have numbers.
use Rattle.std.proofs.Common.{◌≡◌, ℕ, zero, suc, ◌<◌, List, [], ◌∷◌, length, Option, Some, None, option_map, refl, ap, sym, subst, arith, inl, inr}
use Rattle.std.specs.Prelude.{option_and_then, option_to_list, slice_index_or}
use Rattle.std.specs.List.{Contains}
use Rattle.std.proofs.lemmas.List.Elements.{Contains-append_left, Contains-append_right, Contains-append_cases}
use Rattle.std.proofs.lemmas.List.Concat.{flat_map-cons}
use Rattle.wf_system.specs.declared.inequality.Guard.{Guard}
use Rattle.wf_system.specs.declared.inequality.ValueOp.{ValueOp}
use Rattle.wf_system.specs.declared.inequality.Inequality.{Inequality}
use Rattle.wf_system.specs.Numbers.{renamed_guard, renamed_value, IsRenamed, NumberedRow}
use Rattle.wf_rows.specs.Renaming.{inequality, renamed, listed, all_renamed}

some_is : {A : Type 0} (a b : A) → Some a ≡ Some b → a ≡ b
some_is a b e = cc

-- three parts that are there make an inequality
abbrev three : {K : Type 0} → Option K → Option (Guard K) → Option (ValueOp K) → Option (Inequality K)
three a b c = option_and_then (λ target. option_and_then (λ guard. option_map (inequality target guard) c) b) a

record Parts {K : Type 0} (a : Option K) (b : Option (Guard K)) (c : Option (ValueOp K)) (r : Inequality K) : Type 0 where
  target : a ≡ Some r.target
  guard : b ≡ Some r.guard
  value : c ≡ Some r.value

parts : {K : Type 0} (a : Option K) (b : Option (Guard K)) (c : Option (ValueOp K)) (r : Inequality K) → three a b c ≡ Some r → Parts a b c r
parts None b c r e = absurd cc
parts (Some x) None c r e = absurd cc
parts (Some x) (Some g) None r e = absurd cc
parts {K} (Some x) (Some g) (Some v) r e =
    let s : inequality x g v ≡ r = some_is (inequality x g v) r e in
    record {
      target = ap (λ (q : Inequality K). Some q.target) s;
      guard = ap (λ (q : Inequality K). Some q.guard) s;
      value = ap (λ (q : Inequality K). Some q.value) s;
    }

whole : {K : Type 0} (a : Option K) (b : Option (Guard K)) (c : Option (ValueOp K)) (r : Inequality K) → Parts a b c r → three a b c ≡ Some r
whole a b c r p = λ i. three (p.target i) (p.guard i) (p.value i)

single : {A : Type 0} (k : ℕ) (x r : A) → k < 1 → slice_index_or (x ∷ []) k r ≡ r → x ≡ r
single zero x r l e = e
single (suc k) x r l e = absurd (omega arith)

listed-only : {A : Type 0} (o : Option A) (r : A) → Contains (option_to_list o) r → o ≡ Some r
listed-only None r h = absurd (omega (arith, h.1))
listed-only {A} (Some x) r h = ap (λ (y : A). Some y) (single h.0 x r h.1 h.2)

listed-has : {A : Type 0} (o : Option A) (r : A) → o ≡ Some r → Contains (option_to_list o) r
listed-has {A} o r e =
    let P : Option A → Type 0 = λ p. Contains (option_to_list p) r in
    subst P (sym e) (0, omega arith, refl)

module _ {N K : Type 0} (number : N → Option K) where
  renamed-parts : (q : Inequality N) (r : Inequality K) → renamed number q ≡ Some r → IsRenamed number q r
  renamed-parts q r e =
      let p : Parts (number q.target) (renamed_guard number q.guard) (renamed_value number q.value) r
      = parts (number q.target) (renamed_guard number q.guard) (renamed_value number q.value) r e in
      record { target = p.target; guard = p.guard; value = p.value }

  parts-renamed : (q : Inequality N) (r : Inequality K) → IsRenamed number q r → renamed number q ≡ Some r
  parts-renamed q r p =
      whole (number q.target) (renamed_guard number q.guard) (renamed_value number q.value) r
      (record { target = p.target; guard = p.guard; value = p.value })

  pub renamed-only : (rows : List (Inequality N)) (r : Inequality K) → Contains (all_renamed number rows) r → NumberedRow number (λ q. Contains rows q) r
  renamed-only [] r h = absurd (omega (arith, h.1))
  renamed-only (q ∷ qs) r h =
      let P : List (Inequality K) → Type 0 = λ l. Contains l r in
      elim (Contains-append_cases (listed number q) (all_renamed number qs) r (subst P (flat_map-cons (listed number) q qs) h)) [
        | inl a ↦ record { row = q; there = (0, omega arith, refl); renamed = renamed-parts q r (listed-only (renamed number q) r a) }
        | inr b ↦
            let n : NumberedRow number (λ p. Contains qs p) r = renamed-only qs r b in
            record { row = n.row; there = Contains-append_right (q ∷ []) qs n.row n.there; renamed = n.renamed }
      ]

  renamed-at : (rows : List (Inequality N)) (q : Inequality N) (r : Inequality K) → (k : ℕ) → k < length rows → slice_index_or rows k q ≡ q → IsRenamed number q r → Contains (all_renamed number rows) r
  renamed-at [] q r k l e p = absurd (omega arith)
  renamed-at (x ∷ xs) q r zero l e p =
      let P : List (Inequality K) → Type 0 = λ m. Contains m r in
      let Q : Inequality N → Type 0 = λ y. renamed number y ≡ Some r in
      subst P (sym (flat_map-cons (listed number) x xs))
      (Contains-append_left (listed number x) (all_renamed number xs) r (listed-has (renamed number x) r (subst Q (sym e) (parts-renamed q r p))))
  renamed-at (x ∷ xs) q r (suc k) l e p =
      let P : List (Inequality K) → Type 0 = λ m. Contains m r in
      subst P (sym (flat_map-cons (listed number) x xs))
      (Contains-append_right (listed number x) (all_renamed number xs) r (renamed-at xs q r k (omega arith) e p))

  pub renamed-all : (rows : List (Inequality N)) (r : Inequality K) → NumberedRow number (λ q. Contains rows q) r → Contains (all_renamed number rows) r
  renamed-all rows r n = renamed-at rows n.row r n.there.0 n.there.1 n.there.2 n.renamed
