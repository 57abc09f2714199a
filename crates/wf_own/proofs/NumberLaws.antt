-- The numbers of the nodes of a body: they stand together, no two nodes have one, and each node that is there has one.
use Rattle.std.proofs.Common.{◌≡◌, ℕ, zero, suc, ◌+◌, ◌<◌, ◌≤◌, Bool, true, false, true≢false, ◌&&◌, not, cond, nat_eq, List, [], ◌∷◌, length, get_or, Contains, Option, Some, None, refl, sym, ap, ◌∙◌, arith}
use Rattle.std.specs.Prelude.{option_map, position, IfSome}
use Rattle.std.specs.List.{position_or_len}
use Rattle.std.proofs.lemmas.Bool.{and_parts, eqb-true, eq-eqb, lt-ltb}
use Rattle.std.proofs.lemmas.List.Quantifiers.{position-Some}
use Rattle.std.proofs.lemmas.Option.{same_Some}
use Rattle.wf_rows.specs.declared.node.Own.{Own}
use Rattle.wf_rows.specs.declared.node.Own.TheVariants.{Result, Refined, Block, Merged, Caught, Links}
use Rattle.wf_own.specs.OwnNumbers.{same_own, own_number}

pub own_is : (a b : Own) → same_own a b ≡ true → a ≡ b
own_is (Result p) (Result q) e = ap Result (eqb-true p q e)
own_is (Refined p e o) (Refined q f r) h =
    let first = and_parts (nat_eq p q && nat_eq e f) (nat_eq o r) h in
    let second = and_parts (nat_eq p q) (nat_eq e f) first.0 in
    ap (λ k. Refined k e o) (eqb-true p q second.0) ∙ ap (λ k. Refined q k o) (eqb-true e f second.1) ∙ ap (Refined q f) (eqb-true o r first.1)
own_is (Block p) (Block q) e = ap Block (eqb-true p q e)
own_is (Merged p i) (Merged q j) h =
    let parts = and_parts (nat_eq p q) (nat_eq i j) h in
    ap (λ k. Merged k i) (eqb-true p q parts.0) ∙ ap (Merged q) (eqb-true i j parts.1)
own_is (Caught e) (Caught f) h = ap Caught (eqb-true e f h)
own_is (Links p) (Links q) e = ap Links (eqb-true p q e)
own_is a b e = absurd cc

pub same_itself : (own : Own) → same_own own own ≡ true
same_itself (Result p) = eq-eqb p p refl
same_itself (Refined p e o) = ap (λ b. (b && nat_eq e e) && nat_eq o o) (eq-eqb p p refl) ∙ ap (λ b. b && nat_eq o o) (eq-eqb e e refl) ∙ eq-eqb o o refl
same_itself (Block p) = eq-eqb p p refl
same_itself (Merged p i) = ap (λ b. b && nat_eq i i) (eq-eqb p p refl) ∙ eq-eqb i i refl
same_itself (Caught e) = eq-eqb e e refl
same_itself (Links p) = eq-eqb p p refl

record Spot (first : ℕ) (owns : List Own) (own : Own) (n : ℕ) : Type 0 where
  place : ℕ
  inside : place < length owns
  is : n ≡ first + place
  own_is : own ≡ get_or owns place (Result 0)

spot : (first n : ℕ) (owns : List Own) (own : Own) → own_number first owns own ≡ Some n → Spot first owns own n
spot first n owns own e = at (position (same_own own) owns) refl e where
  at : (r : Option ℕ) → position (same_own own) owns ≡ r → option_map (λ i. first + i) r ≡ Some n → Spot first owns own n
  at None p f = absurd cc
  at (Some i) p f =
      let found = position-Some (same_own own) owns i (Result 0) p in
      record { place = i; inside = found.0; is = sym (same_Some (first + i) n f); own_is = own_is own (get_or owns i (Result 0)) found.1 }

-- they stand together
pub own_within : (first n : ℕ) (owns : List Own) (own : Own) → own_number first owns own ≡ Some n → (first ≤ n) × (n < first + length owns)
own_within first n owns own e = (let p = spot first n owns own e in (omega (arith, p.is), omega (arith, p.is, p.inside)))

pub one_own : (first n : ℕ) (owns : List Own) (a b : Own) → own_number first owns a ≡ Some n → own_number first owns b ≡ Some n → a ≡ b
one_own first n owns a b e f =
    let p = spot first n owns a e in
    let q = spot first n owns b f in
    let same : p.place ≡ q.place = omega (arith, p.is, q.is) in
    p.own_is ∙ ap (λ i. get_or owns i (Result 0)) same ∙ sym q.own_is

first_below : {A : Type 0} (p : A → Bool) (xs : List A) (k : ℕ) (d : A) → k < length xs → p (get_or xs k d) ≡ true → position_or_len p xs < length xs
first_below p [] k d l e = absurd (omega (arith, l))
first_below p (x ∷ xs) k d l e = at (p x) refl k l e (λ j m f. first_below p xs j d m f) where
  at : (b : Bool) → p x ≡ b → (k : ℕ) → k < length (x ∷ xs) → p (get_or (x ∷ xs) k d) ≡ true → ((j : ℕ) → j < length xs → p (get_or xs j d) ≡ true → position_or_len p xs < length xs) → position_or_len p (x ∷ xs) < length (x ∷ xs)
  at true t k l e on = (let none = ap {B = ℕ} (λ (b : Bool). cond (not b) (1 + position_or_len p xs) 0) t in omega (arith, none))
  at false t zero l e on = absurd (true≢false (sym e ∙ t))
  at false t (suc j) l e on = (let more = ap {B = ℕ} (λ (b : Bool). cond (not b) (1 + position_or_len p xs) 0) t in let rest = on j (omega (arith, l)) e in omega (arith, more, rest))

-- an element that passes is found
pub position_there : {A : Type 0} (p : A → Bool) (xs : List A) (k : ℕ) (d : A) → k < length xs → p (get_or xs k d) ≡ true → position p xs ≡ Some (position_or_len p xs)
position_there p xs k d l e = ap (λ (b : Bool). cond b (Some (position_or_len p xs)) None) (lt-ltb (position_or_len p xs) (length xs) (first_below p xs k d l e))

-- one that is there has a number
pub own_there : (first : ℕ) (owns : List Own) (own : Own) → Contains owns own → (n : ℕ) × (own_number first owns own ≡ Some n)
own_there first owns own h =
    (first + position_or_len (same_own own) owns, ap (option_map (λ i. first + i)) (position_there (same_own own) owns h.0 own h.1 (ap (same_own own) h.2 ∙ same_itself own)))

-- a place that is found is one of the list
pub found_within : (owns : List Own) (own : Own) (r : Option ℕ) → r ≡ position (same_own own) owns → IfSome r (λ i. i < length owns)
found_within owns own None e = tt
found_within owns own (Some i) e = (position-Some (same_own own) owns i (Result 0) (sym e)).0
