-- What rows of words stand for: the order of rows is that of values, and sets of types are received type by type.
use Rattle.std.proofs.Common.{◌≡◌, ℕ, zero, suc, ◌+◌, ◌-◌, ◌*◌, ◌/◌, ◌%◌, ◌^◌, ◌≤◌, ◌<◌, min, ◌↔◌, Bool, true, false, not, if◌then◌else◌, ◌&&◌, ◌||◌, ◌⊎◌, inl, inr, ◌==◌, nat_lt, bit_and, refl, sym, ap, ap₂, ◌∙◌, subst, subst₂, arith, ltb-true, lt-ltb, eqb-true, eq-eqb, lit<, ne_eqb, add-one}
use Rattle.std.specs.Int.{bit_at}
use Rattle.std.proofs.lemmas.Bool.{cases_Bool, cases_lt, cases_eq, or_right, or_parts, and_from, cond-true, cond-false, true≢false, eqb-false}
use Rattle.std.proofs.lemmas.Nat.Bits.{bit_at_and, bit_at-lt, bit_at_above, bit_at_mask_inside, bit_at_mask_below, bit_at-zero, bit_at-pow_other, same_from_bits}
use Rattle.std.proofs.lemmas.Nat.{le_or_l, and_le_l}
use Rattle.wf_lattice.specs.declared.kind.NodeKind.TheVariants.{Refs}
use Rattle.wf_lattice.specs.Words.{IsIn, IsWithin, AreWords, has_bit, has_type, counted, types_of, flags_of, is_empty, both, nothing}
use Rattle.wf_lattice.specs.Order.{is_saturated, Receives}
use Rattle.wf_lattice.specs.Meaning.{means_null, means, meant_types}
use Rattle.wf_lattice.specs.Filters.{set_words, masked_types, unequal_types}
use Rattle.wf_lattice.specs.Sets.{RefValue, Saturated, SetOf, ref_value, IsAtMost, HoldsAll, HoldsSet}
use Rattle.wf_lattice.proofs.BitLaws.{from_bits, in_itself, in_through, in_and, and_in_left, and_in_right}
use Rattle.wf_lattice.proofs.RowLaws.{bit_grows, within_through, either_left, either_right, either_within, counted_grows, types_grow, word_there}
use Rattle.wf_lattice.proofs.OrderLaws.{saturated_grows}

-- a bit by its word and its place there
pub bit_of : (v : ℕ → ℕ) (k j : ℕ) → j < 64 → has_bit v (k * 64 + j) ≡ (bit_at (v k) j == 1)
bit_of v k j lt =
    let place : (k * 64 + j) / 64 ≡ k = omega arith in
    let rest : (k * 64 + j) % 64 ≡ j = omega arith in
    ap (λ (i : ℕ). bit_at (v i) ((k * 64 + j) % 64) == 1) place ∙ ap (λ (i : ℕ). bit_at (v k) i == 1) rest

-- a row whose bits are set in another lies within it
pub within_from_bits : (f v : ℕ → ℕ) → AreWords f → ((b : ℕ) → has_bit f b ≡ true → has_bit v b ≡ true) → IsWithin f v
within_from_bits f v words h = record { each = λ k. from_bits (f k) (v k) (λ j. each k j (cases_lt j 64) (cases_eq (bit_at (f k) j) 1)) }
  where
    each : (k j : ℕ) → ((j < 64) ⊎ (64 ≤ j)) → ((bit_at (f k) j ≡ 1) ⊎ (bit_at (f k) j ≡ 1 → ⊥)) → bit_at (f k) j ≤ bit_at (v k) j
    each k j (inr above) one = omega (arith, bit_at_above (f k) 64 j (words.each k) above)
    each k j (inl below) (inr none) = omega (arith, bit_at-lt (f k) j, none)
    each k j (inl below) (inl one) =
        let there : has_bit v (k * 64 + j) ≡ true = h (k * 64 + j) (bit_of f k j below ∙ eq-eqb (bit_at (f k) j) 1 one) in
        let set : bit_at (v k) j ≡ 1 = eqb-true (bit_at (v k) j) 1 (sym (bit_of v k j below) ∙ there) in
        omega (arith, one, set)

-- a row of types: words without the bits that are no types
pub record AreTypes (types : ℕ → ℕ) : Type 0 where
  pub words : AreWords types
  pub no_flags : IsWithin types (types_of types)

no_flag_bit : (types : ℕ → ℕ) → AreTypes types → (b : ℕ) → b < 2 → has_bit types b ≡ true → ⊥
no_flag_bit types a b lt e =
    let word : b / 64 ≡ 0 = omega arith in
    let rest : b % 64 ≡ b = omega arith in
    let there : has_bit (types_of types) b ≡ true = bit_grows types (types_of types) b a.no_flags e in
    let one : bit_at (types_of types (b / 64)) (b % 64) ≡ 1 = eqb-true (bit_at (types_of types (b / 64)) (b % 64)) 1 there in
    let at : bit_at (types_of types 0) b ≡ 1 = subst₂ (λ (k j : ℕ). bit_at (types_of types k) j ≡ 1) word rest one in
    absurd (omega (arith, at, bit_at_and (types 0) (2 ^ 64 - 4) b, bit_at_mask_below 2 64 b lt))

-- ---- rows stand for values

at_most_saturated : (a : RefValue) → IsAtMost a Saturated
at_most_saturated Saturated = tt
at_most_saturated (SetOf p) = tt

pub order_is : (most n : ℕ) (f v : ℕ → ℕ) → AreWords f → Receives most n Refs f v → IsAtMost (ref_value most n f) (ref_value most n v)
order_is most n f v words r = go (cases_Bool (is_saturated most n f)) (cases_Bool (is_saturated most n v)) r
  where
    go : ((is_saturated most n f ≡ true) ⊎ (is_saturated most n f ≡ false)) → ((is_saturated most n v ≡ true) ⊎ (is_saturated most n v ≡ false))
        → Receives most n Refs f v → IsAtMost (ref_value most n f) (ref_value most n v)
    go e (inl h) r = subst (λ (x : RefValue). IsAtMost (ref_value most n f) x) (sym (cond-true (is_saturated most n v) Saturated (SetOf (has_type v)) h)) (at_most_saturated (ref_value most n f))
    go e (inr h) (inl full) = absurd (true≢false (sym full ∙ h))
    go (inl e) (inr h) (inr p) = absurd (true≢false (sym (saturated_grows most n f v p e) ∙ h))
    go (inr e) (inr h) (inr p) = subst₂ IsAtMost (sym (cond-false (is_saturated most n f) Saturated (SetOf (has_type f)) e)) (sym (cond-false (is_saturated most n v) Saturated (SetOf (has_type v)) h))
        (λ t there. bit_grows f v (t + 1) p there)

pub order_from : (most n : ℕ) (f v : ℕ → ℕ) → AreWords f → IsAtMost (ref_value most n f) (ref_value most n v) → Receives most n Refs f v
order_from most n f v words q = go (cases_Bool (is_saturated most n f)) (cases_Bool (is_saturated most n v))
  where
    bits : is_saturated most n f ≡ false → ((t : ℕ) → has_type f t ≡ true → has_type v t ≡ true) → (b : ℕ) → has_bit f b ≡ true → has_bit v b ≡ true
    bits e h zero there = absurd (true≢false (sym there ∙ (or_parts (has_bit f 0) (nat_lt most (counted n (types_of f))) e).0))
    bits e h (suc t) there = subst (λ (b : ℕ). has_bit v b ≡ true) (add-one t) (h t (subst (λ (b : ℕ). has_bit f b ≡ true) (sym (add-one t)) there))

    go : ((is_saturated most n f ≡ true) ⊎ (is_saturated most n f ≡ false)) → ((is_saturated most n v ≡ true) ⊎ (is_saturated most n v ≡ false)) → Receives most n Refs f v
    go e (inl h) = inl h
    go (inl e) (inr h) = absurd (subst₂ IsAtMost (cond-true (is_saturated most n f) Saturated (SetOf (has_type f)) e) (cond-false (is_saturated most n v) Saturated (SetOf (has_type v)) h) q)
    go (inr e) (inr h) = inr (within_from_bits f v words (bits e
        (subst₂ IsAtMost (cond-false (is_saturated most n f) Saturated (SetOf (has_type f)) e) (cond-false (is_saturated most n v) Saturated (SetOf (has_type v)) h) q)))

-- ---- sets are received type by type

null_within : (null : Bool) (v : ℕ → ℕ) → (null ≡ true → has_type v 0 ≡ true) → IsWithin (flags_of false null) v
null_within true v h = record { each = each }
  where
    one : bit_at (v 0) 1 ≡ 1
    one = eqb-true (bit_at (v 0) 1) 1 (h refl)

    first : (j : ℕ) → ((j ≡ 1) ⊎ (j ≡ 1 → ⊥)) → bit_at 2 j ≤ bit_at (v 0) j
    first j (inl e) = omega (arith, one, bit_at-lt 2 j, ap (λ (i : ℕ). bit_at (v 0) i) e)
    first j (inr d) = omega (arith, bit_at-pow_other 1 j d)

    each : (k : ℕ) → IsIn (flags_of false true k) (v k)
    each zero = from_bits 2 (v 0) (λ j. first j (cases_eq j 1))
    each (suc k) = refl
null_within false v h = record { each = each }
  where
    each : (k : ℕ) → IsIn (flags_of false false k) (v k)
    each zero = refl
    each (suc k) = refl

null_bit : (over null : Bool) → null ≡ true → has_type (flags_of over null) 0 ≡ true
null_bit true true e = refl
null_bit false true e = refl
null_bit over false e = absurd (true≢false (sym e))

pub set_is_held : (most n : ℕ) (types : ℕ → ℕ) (P : ℕ → Bool) (null : Bool) (v : ℕ → ℕ) → ((t : ℕ) → has_type types (suc t) ≡ P (suc t))
    → Receives most n Refs (set_words most n types null) v → HoldsSet most n P null v
set_is_held most n types P null v named (inl full) = inl full
set_is_held most n types P null v named (inr p) = inr (record {
  each_type = λ t e. bit_grows types v (suc t + 1) (within_through types (set_words most n types null) v (either_left types (flags_of (nat_lt most (counted n types)) null)) p) (named t ∙ e);
  with_null = λ e. bit_grows (flags_of (nat_lt most (counted n types)) null) v 1 (within_through (flags_of (nat_lt most (counted n types)) null) (set_words most n types null) v (either_right types (flags_of (nat_lt most (counted n types)) null)) p)
      (null_bit (nat_lt most (counted n types)) null e);
})

types_held : (types : ℕ → ℕ) (P : ℕ → Bool) (null : Bool) (v : ℕ → ℕ) → AreTypes types → ((t : ℕ) → has_type types (suc t) ≡ P (suc t)) → HoldsAll P null v → IsWithin types v
types_held types P null v are named h = within_from_bits types v are.words bits
  where
    bits : (b : ℕ) → has_bit types b ≡ true → has_bit v b ≡ true
    bits zero e = absurd (no_flag_bit types are 0 (omega arith) e)
    bits (suc zero) e = absurd (no_flag_bit types are 1 (omega arith) e)
    bits (suc (suc t)) e = subst (λ (b : ℕ). has_bit v b ≡ true) (add-one (suc t))
        (h.each_type t (sym (named t) ∙ subst (λ (b : ℕ). has_bit types b ≡ true) (sym (add-one (suc t))) e))

pub set_from_held : (most n : ℕ) (types : ℕ → ℕ) (P : ℕ → Bool) (null : Bool) (v : ℕ → ℕ) → AreTypes types → ((t : ℕ) → has_type types (suc t) ≡ P (suc t))
    → HoldsSet most n P null v → Receives most n Refs (set_words most n types null) v
set_from_held most n types P null v are named (inl full) = inl full
set_from_held most n types P null v are named (inr h) = go (cases_Bool (nat_lt most (counted n types)))
  where
    held : IsWithin types v
    held = types_held types P null v are named h

    go : ((nat_lt most (counted n types) ≡ true) ⊎ (nat_lt most (counted n types) ≡ false)) → Receives most n Refs (set_words most n types null) v
    go (inl over) = inl (or_right (has_bit v 0) (nat_lt most (counted n (types_of v)))
        (lt-ltb most (counted n (types_of v)) (omega (
          arith,
          ltb-true most (counted n types) over,
          counted_grows n types (types_of v) (within_through types (types_of types) (types_of v) are.no_flags (types_grow types v held)),
        ))))
    go (inr few) = inr (either_within types (flags_of (nat_lt most (counted n types)) null) v held
        (subst (λ (b : Bool). IsWithin (flags_of b null) v) (sym few) (null_within null v h.with_null)))

-- ---- the types of meanings and filters

pub both_bit : (f g : ℕ → ℕ) (b : ℕ) → has_bit (both f g) b ≡ (has_bit f b && has_bit g b)
both_bit f g b = go (bit_at (f (b / 64)) (b % 64)) (bit_at (g (b / 64)) (b % 64)) (bit_at-lt (f (b / 64)) (b % 64)) (bit_at-lt (g (b / 64)) (b % 64)) (bit_at_and (f (b / 64)) (g (b / 64)) (b % 64))
  where
    go : (x y : ℕ) → x < 2 → y < 2 → bit_at (bit_and (f (b / 64)) (g (b / 64))) (b % 64) ≡ min x y → has_bit (both f g) b ≡ ((x == 1) && (y == 1))
    go zero zero p q e = ap (λ (m : ℕ). m == 1) e
    go zero (suc zero) p q e = ap (λ (m : ℕ). m == 1) e
    go zero (suc (suc y)) p q e = absurd (omega arith)
    go (suc zero) zero p q e = ap (λ (m : ℕ). m == 1) e
    go (suc zero) (suc zero) p q e = ap (λ (m : ℕ). m == 1) e
    go (suc zero) (suc (suc y)) p q e = absurd (omega arith)
    go (suc (suc x)) y p q e = absurd (omega arith)

pub types_bit : (f : ℕ → ℕ) (b : ℕ) → 2 ≤ b → has_bit (types_of f) b ≡ has_bit f b
types_bit f b le = go (b / 64) refl
  where
    go : (k : ℕ) → b / 64 ≡ k → has_bit (types_of f) b ≡ has_bit f b
    go zero e = ap (λ (i : ℕ). bit_at (types_of f i) (b % 64) == 1) e
        ∙ ap (λ (m : ℕ). m == 1) (omega (arith, bit_at_and (f 0) (2 ^ 64 - 4) (b % 64), bit_at_mask_inside 2 64 (b % 64) (omega arith) (omega arith), bit_at-lt (f 0) (b % 64)))
        ∙ sym (ap (λ (i : ℕ). bit_at (f i) (b % 64) == 1) e)
    go (suc k) e = ap (λ (i : ℕ). bit_at (types_of f i) (b % 64) == 1) e ∙ sym (ap (λ (i : ℕ). bit_at (f i) (b % 64) == 1) e)

types_if_bit : (s : Bool) (v inst : ℕ → ℕ) (b : ℕ) → has_bit (λ k. (if s then inst k else bit_and (v k) (inst k))) b ≡ ((s || has_bit v b) && has_bit inst b)
types_if_bit true v inst b = refl
types_if_bit false v inst b = both_bit v inst b

pub meant_type : (most n : ℕ) (v inst : ℕ → ℕ) (t : ℕ) → has_type (meant_types most n v inst) (suc t) ≡ means most n v inst (suc t)
meant_type most n v inst t = types_bit (λ k. (if is_saturated most n v then inst k else bit_and (v k) (inst k))) (suc t + 1) (omega arith)
    ∙ types_if_bit (is_saturated most n v) v inst (suc t + 1)

-- a row that lies within a row of types is one
pub types_below : (f g : ℕ → ℕ) → IsWithin f g → AreTypes g → AreTypes f
types_below f g p are = record { words = record { each = λ k. below k }; no_flags = record { each = each } }
  where
    below : (k : ℕ) → f k < 2 ^ 64
    below k = omega (arith, le_or_l (f k) (g k), p.each k, are.words.each k)

    each : (k : ℕ) → IsIn (f k) (types_of f k)
    each zero = in_and (f 0) (f 0) (2 ^ 64 - 4) (in_itself (f 0)) (in_through (f 0) (g 0) (2 ^ 64 - 4) (p.each 0)
        (in_through (g 0) (bit_and (g 0) (2 ^ 64 - 4)) (2 ^ 64 - 4) (are.no_flags.each 0) (and_in_right (g 0) (2 ^ 64 - 4))))
    each (suc k) = in_itself (f (suc k))

pub types_are : (f : ℕ → ℕ) → AreWords f → AreTypes (types_of f)
types_are f words = record { words = record { each = below }; no_flags = record { each = each } }
  where
    below : (k : ℕ) → types_of f k < 2 ^ 64
    below zero = omega (arith, and_le_l (f 0) (2 ^ 64 - 4), words.each 0)
    below (suc k) = words.each (suc k)

    each : (k : ℕ) → IsIn (types_of f k) (types_of (types_of f) k)
    each zero = in_and (types_of f 0) (types_of f 0) (2 ^ 64 - 4) (in_itself (types_of f 0)) (and_in_right (f 0) (2 ^ 64 - 4))
    each (suc k) = in_itself (f (suc k))

pub meant_are : (most n : ℕ) (v inst : ℕ → ℕ) → AreWords inst → AreTypes (meant_types most n v inst)
meant_are most n v inst words = types_below (meant_types most n v inst) (types_of inst) (types_grow (λ k. (if is_saturated most n v then inst k else bit_and (v k) (inst k))) inst (record { each = λ k. each (is_saturated most n v) k })) (types_are inst words)
  where
    each : (s : Bool) (k : ℕ) → IsIn (if s then inst k else bit_and (v k) (inst k)) (inst k)
    each true k = in_itself (inst k)
    each false k = and_in_right (v k) (inst k)

pub both_left : (f g : ℕ → ℕ) → IsWithin (both f g) f
both_left f g = record { each = λ k. and_in_left (f k) (g k) }

-- ---- each filter by types

-- what the meaning has, and no null
pub filtered_named : (most n : ℕ) (v inst mask : ℕ → ℕ) (t : ℕ) → has_type (masked_types most n v inst mask) (suc t) ≡ (means most n v inst (suc t) && has_type mask (suc t))
filtered_named most n v inst mask t = both_bit (meant_types most n v inst) mask (suc t + 1) ∙ ap (λ (b : Bool). b && has_type mask (suc t)) (meant_type most n v inst t)

pub masked_are : (most n : ℕ) (v inst mask : ℕ → ℕ) → AreWords inst → AreTypes (masked_types most n v inst mask)
masked_are most n v inst mask words = types_below (masked_types most n v inst mask) (meant_types most n v inst) (both_left (meant_types most n v inst) mask) (meant_are most n v inst words)

pub nothing_named : (t : ℕ) → has_type nothing (suc t) ≡ false
nothing_named t = ne_eqb (bit_at 0 ((suc t + 1) % 64)) 1 (λ e. absurd (omega (arith, e, bit_at-zero ((suc t + 1) % 64))))

pub nothing_is : AreTypes nothing
nothing_is = record { words = record { each = λ k. lit< tt }; no_flags = record { each = λ k. refl } }

pub equal_named : (most n : ℕ) (a b inst : ℕ → ℕ) (t : ℕ) → has_type (both (meant_types most n a inst) (meant_types most n b inst)) (suc t) ≡ (means most n a inst (suc t) && means most n b inst (suc t))
equal_named most n a b inst t = both_bit (meant_types most n a inst) (meant_types most n b inst) (suc t + 1)
    ∙ ap₂ (λ (p q : Bool). p && q) (meant_type most n a inst t) (meant_type most n b inst t)

pub equal_are : (most n : ℕ) (a b inst : ℕ → ℕ) → AreWords inst → AreTypes (both (meant_types most n a inst) (meant_types most n b inst))
equal_are most n a b inst words = types_below (both (meant_types most n a inst) (meant_types most n b inst)) (meant_types most n a inst) (both_left (meant_types most n a inst) (meant_types most n b inst)) (meant_are most n a inst words)

pub unequal_named : (most n : ℕ) (a b inst : ℕ → ℕ) (t : ℕ) → has_type (unequal_types most n a b inst) (suc t) ≡ (not (is_empty n (meant_types most n b inst) && not (means_null most n b)) && means most n a inst (suc t))
unequal_named most n a b inst t = go (is_empty n (meant_types most n b inst) && not (means_null most n b))
  where
    go : (s : Bool) → has_type (λ k. (if s then 0 else meant_types most n a inst k)) (suc t) ≡ (not s && means most n a inst (suc t))
    go true = nothing_named t
    go false = meant_type most n a inst t

pub unequal_are : (most n : ℕ) (a b inst : ℕ → ℕ) → AreWords inst → AreTypes (unequal_types most n a b inst)
unequal_are most n a b inst words = types_below (unequal_types most n a b inst) (meant_types most n a inst) (record { each = λ k. go k (is_empty n (meant_types most n b inst) && not (means_null most n b)) }) (meant_are most n a inst words)
  where
    go : (k : ℕ) (s : Bool) → IsIn (if s then 0 else meant_types most n a inst k) (meant_types most n a inst k)
    go k true = refl
    go k false = in_itself (meant_types most n a inst k)

pub under_named : (inst mask : ℕ → ℕ) (t : ℕ) → has_type (both (types_of inst) mask) (suc t) ≡ (has_type inst (suc t) && has_type mask (suc t))
under_named inst mask t = both_bit (types_of inst) mask (suc t + 1) ∙ ap (λ (b : Bool). b && has_type mask (suc t)) (types_bit inst (suc t + 1) (omega arith))

pub under_are : (inst mask : ℕ → ℕ) → AreWords inst → AreTypes (both (types_of inst) mask)
under_are inst mask words = types_below (both (types_of inst) mask) (types_of inst) (both_left (types_of inst) mask) (types_are inst words)

-- a set is received exactly where its types are held one by one
pub set_by_types : (most n : ℕ) (types : ℕ → ℕ) (P : ℕ → Bool) (null : Bool) (v : ℕ → ℕ) → AreTypes types → ((t : ℕ) → has_type types (suc t) ≡ P (suc t))
    → Receives most n Refs (set_words most n types null) v ↔ HoldsSet most n P null v
set_by_types most n types P null v are named = (set_is_held most n types P null v named, set_from_held most n types P null v are named)

-- ---- emptiness, by types

pub empty_from_bits : (n : ℕ) (v : ℕ → ℕ) → AreWords v → ((b : ℕ) → b < 64 * n → has_bit v b ≡ false) → is_empty n v ≡ true
empty_from_bits zero v words h = refl
empty_from_bits (suc n) v words h = and_from (is_empty n v) (v n == 0) (empty_from_bits n v words (λ b lt. h b (omega arith))) (eq-eqb (v n) 0 (same_from_bits (v n) 0 (λ j. each j (cases_lt j 64))))
  where
    each : (j : ℕ) → ((j < 64) ⊎ (64 ≤ j)) → bit_at (v n) j ≡ bit_at 0 j
    each j (inl below) = omega (arith, bit_at-zero j, bit_at-lt (v n) j, eqb-false (bit_at (v n) j) 1 (sym (bit_of v n j below) ∙ h (n * 64 + j) (omega arith)))
    each j (inr above) = omega (arith, bit_at-zero j, bit_at_above (v n) 64 j (words.each n) above)

pub no_bits_if_empty : (n : ℕ) (v : ℕ → ℕ) → is_empty n v ≡ true → (b : ℕ) → b < 64 * n → has_bit v b ≡ false
no_bits_if_empty n v e b lt = go (cases_eq (v (b / 64)) 0)
  where
    go : ((v (b / 64) ≡ 0) ⊎ (v (b / 64) ≡ 0 → ⊥)) → has_bit v b ≡ false
    go (inl z) = ne_eqb (bit_at (v (b / 64)) (b % 64)) 1 (λ one. absurd (omega (arith, one, ap (λ (w : ℕ). bit_at w (b % 64)) z, bit_at-zero (b % 64))))
    go (inr d) = absurd (true≢false (sym e ∙ word_there n (b / 64) v (omega arith) d))
