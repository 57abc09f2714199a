-- Meanings and filters grow.
use Rattle.std.proofs.Common.{◌≡◌, ℕ, List, length, ◌||◌, subst, zero, suc, Bool, true, false, not, if◌then◌else◌, ◌&&◌, ◌⊎◌, inl, inr, nat_lt, bit_and, pos, refl, sym, ◌∙◌, arith, ltb-true, lt-ltb}
use Rattle.std.proofs.lemmas.Bool.{or_cases, or_left, or_right, or_parts, and_parts, and_from, not-true, not_from_false, false_from_ne_true, true≢false}
use Rattle.wf_lattice.specs.declared.kind.NodeKind.TheVariants.{Refs}
use Rattle.wf_lattice.specs.declared.view.Nulls.{Nulls}
use Rattle.wf_lattice.specs.declared.view.Nulls.TheVariants.{Keep, Drop, Only}
use Rattle.wf_lattice.specs.Words.{IsIn, IsWithin, JoinsRow, has_bit, is_empty, counted, types_of, flags_of, both, either, without, nothing}
use Rattle.wf_lattice.specs.Order.{is_saturated, Receives}
use Rattle.wf_lattice.specs.Meaning.{means_null, types_if, meant_types}
use Rattle.wf_lattice.specs.Filters.{set_words, masked_types, filtered, no_null, only_null, equal_refs, unequal_types, unequal_refs, all_under, some_under, tested_word, null_word}
use Rattle.wf_lattice.specs.Ints.{constant_word}
use Rattle.wf_lattice.proofs.BitLaws.{in_itself, or_grows, and_grows, and_in_left, and_in_right, in_through}
use Rattle.wf_lattice.proofs.RowLaws.{within_itself, either_grows, both_grows, nothing_within, types_grow, counted_grows, bit_grows, nonempty_grows, empty_falls}
use Rattle.wf_lattice.proofs.OrderLaws.{saturated_grows}
use Rattle.wf_lattice.proofs.JoinLaws.{joins_both}

-- a value that rises is saturated where it was
pub saturated_rises : (most n : ℕ) (v u : ℕ → ℕ) → Receives most n Refs v u → is_saturated most n v ≡ true → is_saturated most n u ≡ true
saturated_rises most n v u (inl full) e = full
saturated_rises most n v u (inr p) e = saturated_grows most n v u p e

pub types_if_grow : (s t : Bool) (v u inst made : ℕ → ℕ) → (s ≡ true → t ≡ true) → ((t ≡ true) ⊎ IsWithin v u) → IsWithin inst made → IsWithin (types_if s v inst) (types_if t u made)
types_if_grow s t v u inst made up value p =
    types_grow (λ k. (if s then inst k else bit_and (v k) (inst k))) (λ k. (if t then made k else bit_and (u k) (made k))) (record { each = λ k. each s t up value k })
  where
    each : (s t : Bool) → (s ≡ true → t ≡ true) → ((t ≡ true) ⊎ IsWithin v u) → (k : ℕ) → IsIn (if s then inst k else bit_and (v k) (inst k)) (if t then made k else bit_and (u k) (made k))
    each true true up value k = p.each k
    each true false up value k = absurd (true≢false (sym (up refl)))
    each false true up value k = in_through (bit_and (v k) (inst k)) (inst k) (made k) (and_in_right (v k) (inst k)) (p.each k)
    each false false up (inl e) k = absurd (true≢false (sym e))
    each false false up (inr w) k = and_grows (v k) (inst k) (u k) (made k) (w.each k) (p.each k)

-- the meaning grows with the value and with the types that are made
pub meant_grows : (most n : ℕ) (v u inst made : ℕ → ℕ) → Receives most n Refs v u → IsWithin inst made → IsWithin (meant_types most n v inst) (meant_types most n u made)
meant_grows most n v u inst made r p = types_if_grow (is_saturated most n v) (is_saturated most n u) v u inst made (saturated_rises most n v u r) r p

pub null_grows : (most n : ℕ) (v u : ℕ → ℕ) → Receives most n Refs v u → means_null most n v ≡ true → means_null most n u ≡ true
null_grows most n v u (inl full) e = or_left (is_saturated most n u) (has_bit u 1) full
null_grows most n v u (inr p) e = go (or_cases (is_saturated most n v) (has_bit v 1) e)
  where
    go : ((is_saturated most n v ≡ true) ⊎ (has_bit v 1 ≡ true)) → means_null most n u ≡ true
    go (inl h) = or_left (is_saturated most n u) (has_bit u 1) (saturated_grows most n v u p h)
    go (inr h) = or_right (is_saturated most n u) (has_bit u 1) (bit_grows v u 1 p h)

pub flags_grow : (s t a b : Bool) → (s ≡ true → t ≡ true) → (a ≡ true → b ≡ true) → IsWithin (flags_of s a) (flags_of t b)
flags_grow s t a b p q = record { each = each }
  where
    first : (s t a b : Bool) → (s ≡ true → t ≡ true) → (a ≡ true → b ≡ true) → IsIn (flags_of s a 0) (flags_of t b 0)
    first true false a b p q = absurd (true≢false (sym (p refl)))
    first s t true false p q = absurd (true≢false (sym (q refl)))
    first true true true true p q = refl
    first true true false true p q = refl
    first true true false false p q = refl
    first false true true true p q = refl
    first false true false true p q = refl
    first false true false false p q = refl
    first false false true true p q = refl
    first false false false true p q = refl
    first false false false false p q = refl

    each : (k : ℕ) → IsIn (flags_of s a k) (flags_of t b k)
    each zero = first s t a b p q
    each (suc k) = refl

pub over_grows : (most n : ℕ) (f g : ℕ → ℕ) → IsWithin f g → nat_lt most (counted n f) ≡ true → nat_lt most (counted n g) ≡ true
over_grows most n f g p e = lt-ltb most (counted n g) (omega (arith, ltb-true most (counted n f) e, counted_grows n f g p))

-- a part of a set that isn't saturated isn't over the threshold
pub part_is_few : (most n : ℕ) (v inst mask : ℕ → ℕ) → is_saturated most n v ≡ false → nat_lt most (counted n (both (types_if false v inst) mask)) ≡ false
part_is_few most n v inst mask e =
    let types : ℕ → ℕ = types_if false v inst in
    let meant : IsWithin types (types_of v) = types_grow (λ k. bit_and (v k) (inst k)) v (record { each = λ k. and_in_left (v k) (inst k) }) in
    let part : IsWithin (both types mask) (types_of v) = record { each = λ k. in_through (bit_and (types k) (mask k)) (types k) (types_of v k) (and_in_left (types k) (mask k)) (meant.each k) } in
    false_from_ne_true (nat_lt most (counted n (both types mask)))
    (λ more. true≢false (sym (over_grows most n (both types mask) (types_of v) part more) ∙ (or_parts (has_bit v 0) (nat_lt most (counted n (types_of v))) e).1))

-- a set with more types, and with null where the other has it, is at least the other
pub set_grows : (most n : ℕ) (f g : ℕ → ℕ) (a b : Bool) → IsWithin f g → (a ≡ true → b ≡ true) → IsWithin (set_words most n f a) (set_words most n g b)
set_grows most n f g a b p q = either_grows f (flags_of (nat_lt most (counted n f)) a) g (flags_of (nat_lt most (counted n g)) b) p
    (flags_grow (nat_lt most (counted n f)) (nat_lt most (counted n g)) a b (over_grows most n f g p) q)

same_null : false ≡ true → false ≡ true
same_null e = e

pub filtered_grows : (most n : ℕ) (v u inst made mask : ℕ → ℕ) (nulls : Nulls) → Receives most n Refs v u → IsWithin inst made → IsWithin (filtered most n v inst mask nulls) (filtered most n u made mask nulls)
filtered_grows most n v u inst made mask Keep r p = set_grows most n (masked_types most n v inst mask) (masked_types most n u made mask) (means_null most n v) (means_null most n u)
    (both_grows (meant_types most n v inst) mask (meant_types most n u made) mask (meant_grows most n v u inst made r p) (within_itself mask)) (null_grows most n v u r)
filtered_grows most n v u inst made mask Drop r p = set_grows most n (masked_types most n v inst mask) (masked_types most n u made mask) false false
    (both_grows (meant_types most n v inst) mask (meant_types most n u made) mask (meant_grows most n v u inst made r p) (within_itself mask)) same_null
filtered_grows most n v u inst made mask Only r p = set_grows most n nothing nothing (means_null most n v) (means_null most n u) (nothing_within nothing) (null_grows most n v u r)

pub no_null_grows : (most n : ℕ) (v u inst made : ℕ → ℕ) → Receives most n Refs v u → IsWithin inst made → IsWithin (no_null most n v inst) (no_null most n u made)
no_null_grows most n v u inst made r p = set_grows most n (meant_types most n v inst) (meant_types most n u made) false false (meant_grows most n v u inst made r p) same_null

pub only_null_grows : (most n : ℕ) (v u : ℕ → ℕ) → Receives most n Refs v u → IsWithin (only_null most n v) (only_null most n u)
only_null_grows most n v u r = set_grows most n nothing nothing (means_null most n v) (means_null most n u) (nothing_within nothing) (null_grows most n v u r)

pub equal_refs_grows : (most n : ℕ) (a b c d inst made : ℕ → ℕ) → Receives most n Refs a c → Receives most n Refs b d → IsWithin inst made → IsWithin (equal_refs most n a b inst) (equal_refs most n c d made)
equal_refs_grows most n a b c d inst made r s p = set_grows most n (both (meant_types most n a inst) (meant_types most n b inst)) (both (meant_types most n c made) (meant_types most n d made))
    (means_null most n a && means_null most n b) (means_null most n c && means_null most n d)
    (both_grows (meant_types most n a inst) (meant_types most n b inst) (meant_types most n c made) (meant_types most n d made) (meant_grows most n a c inst made r p) (meant_grows most n b d inst made s p))
    (λ e. let parts : (means_null most n a ≡ true) × (means_null most n b ≡ true) = and_parts (means_null most n a) (means_null most n b) e in
    and_from (means_null most n c) (means_null most n d) (null_grows most n a c r parts.0) (null_grows most n b d s parts.1))

-- where the meaning of b isn't empty, that of a greater one isn't
meant_nothing_falls : (most n : ℕ) (b d inst made : ℕ → ℕ) → Receives most n Refs b d → IsWithin inst made
    → (is_empty n (meant_types most n d made) && not (means_null most n d)) ≡ true → (is_empty n (meant_types most n b inst) && not (means_null most n b)) ≡ true
meant_nothing_falls most n b d inst made r p e =
    let parts : (is_empty n (meant_types most n d made) ≡ true) × (not (means_null most n d) ≡ true) = and_parts (is_empty n (meant_types most n d made)) (not (means_null most n d)) e in
    and_from (is_empty n (meant_types most n b inst)) (not (means_null most n b))
    (empty_falls n (meant_types most n b inst) (meant_types most n d made) (meant_grows most n b d inst made r p) parts.0)
    (not_from_false (means_null most n b) (false_from_ne_true (means_null most n b) (λ h. true≢false (sym (null_grows most n b d r h) ∙ not-true (means_null most n d) parts.1))))

pub unequal_refs_grows : (most n : ℕ) (a b c d inst made : ℕ → ℕ) → Receives most n Refs a c → Receives most n Refs b d → IsWithin inst made → IsWithin (unequal_refs most n a b inst) (unequal_refs most n c d made)
unequal_refs_grows most n a b c d inst made r s p = set_grows most n (unequal_types most n a b inst) (unequal_types most n c d made)
    (means_null most n a && not (is_empty n (meant_types most n b inst))) (means_null most n c && not (is_empty n (meant_types most n d made)))
    (record { each = λ k. each k (is_empty n (meant_types most n b inst) && not (means_null most n b)) (is_empty n (meant_types most n d made) && not (means_null most n d)) (meant_nothing_falls most n b d inst made s p) })
    (λ e. let parts : (means_null most n a ≡ true) × (not (is_empty n (meant_types most n b inst)) ≡ true) = and_parts (means_null most n a) (not (is_empty n (meant_types most n b inst))) e in
    and_from (means_null most n c) (not (is_empty n (meant_types most n d made))) (null_grows most n a c r parts.0)
    (not_from_false (is_empty n (meant_types most n d made)) (nonempty_grows n (meant_types most n b inst) (meant_types most n d made) (meant_grows most n b d inst made s p) (not-true (is_empty n (meant_types most n b inst)) parts.1))))
  where
    each : (k : ℕ) (s t : Bool) → (t ≡ true → s ≡ true) → IsIn (if s then 0 else meant_types most n a inst k) (if t then 0 else meant_types most n c made k)
    each k true t up = refl
    each k false true up = absurd (true≢false (sym (up refl)))
    each k false false up = (meant_grows most n a c inst made r p).each k

pub all_under_grows : (most n : ℕ) (inst made mask : ℕ → ℕ) → IsWithin inst made → IsWithin (all_under most n inst mask) (all_under most n made mask)
all_under_grows most n inst made mask p = set_grows most n (both (types_of inst) mask) (both (types_of made) mask) false false (both_grows (types_of inst) mask (types_of made) mask (types_grow inst made p) (within_itself mask)) same_null

pub some_under_grows : (most n : ℕ) (inst made mask : ℕ → ℕ) → IsWithin inst made → IsWithin (some_under most n inst mask) (some_under most n made mask)
some_under_grows most n inst made mask p = set_grows most n (both (types_of inst) mask) (both (types_of made) mask) true true (both_grows (types_of inst) mask (types_of made) mask (types_grow inst made p) (within_itself mask)) (λ e. e)

pub without_grows : (f g mask : ℕ → ℕ) → IsWithin f g → IsWithin (without f mask) (without g mask)
without_grows f g mask p = both_grows f (λ k. Rattle.std.specs.Int.bit_not Rattle.std.specs.Int.w64 (mask k)) g (λ k. Rattle.std.specs.Int.bit_not Rattle.std.specs.Int.w64 (mask k)) p (within_itself (λ k. Rattle.std.specs.Int.bit_not Rattle.std.specs.Int.w64 (mask k)))

-- a word that is there under a condition
unless_grows : (s t : Bool) (w : ℕ) → (t ≡ true → s ≡ true) → IsIn (if s then 0 else w) (if t then 0 else w)
unless_grows true t w up = refl
unless_grows false true w up = absurd (true≢false (sym (up refl)))
unless_grows false false w up = in_itself w

pub tested_grows : (most n : ℕ) (v u inst made mask : ℕ → ℕ) → Receives most n Refs v u → IsWithin inst made → IsIn (tested_word most n v inst mask) (tested_word most n u made mask)
tested_grows most n v u inst made mask r p = or_grows
    (if is_empty n (masked_types most n v inst mask) then 0 else constant_word (pos 1))
    (if is_empty n (without (meant_types most n v inst) mask) && not (means_null most n v) then 0 else constant_word (pos 0))
    (if is_empty n (masked_types most n u made mask) then 0 else constant_word (pos 1))
    (if is_empty n (without (meant_types most n u made) mask) && not (means_null most n u) then 0 else constant_word (pos 0))
    (unless_grows (is_empty n (masked_types most n v inst mask)) (is_empty n (masked_types most n u made mask)) (constant_word (pos 1))
    (empty_falls n (masked_types most n v inst mask) (masked_types most n u made mask) (both_grows (meant_types most n v inst) mask (meant_types most n u made) mask grown (within_itself mask))))
    (unless_grows (is_empty n (without (meant_types most n v inst) mask) && not (means_null most n v)) (is_empty n (without (meant_types most n u made) mask) && not (means_null most n u)) (constant_word (pos 0)) falls)
  where
    grown : IsWithin (meant_types most n v inst) (meant_types most n u made)
    grown = meant_grows most n v u inst made r p

    falls : (is_empty n (without (meant_types most n u made) mask) && not (means_null most n u)) ≡ true → (is_empty n (without (meant_types most n v inst) mask) && not (means_null most n v)) ≡ true
    falls e =
        let parts : (is_empty n (without (meant_types most n u made) mask) ≡ true) × (not (means_null most n u) ≡ true) = and_parts (is_empty n (without (meant_types most n u made) mask)) (not (means_null most n u)) e in
        and_from (is_empty n (without (meant_types most n v inst) mask)) (not (means_null most n v))
        (empty_falls n (without (meant_types most n v inst) mask) (without (meant_types most n u made) mask) (without_grows (meant_types most n v inst) (meant_types most n u made) mask grown) parts.0)
        (not_from_false (means_null most n v) (false_from_ne_true (means_null most n v) (λ h. true≢false (sym (null_grows most n v u r h) ∙ not-true (means_null most n u) parts.1))))

pub null_word_grows : (most n : ℕ) (v u : ℕ → ℕ) → Receives most n Refs v u → IsIn (null_word most n v) (null_word most n u)
null_word_grows most n v u r = go (means_null most n v) (means_null most n u) (null_grows most n v u r)
  where
    go : (s t : Bool) → (s ≡ true → t ≡ true) → IsIn (if s then constant_word (pos 0) else 0) (if t then constant_word (pos 0) else 0)
    go true true up = in_itself (constant_word (pos 0))
    go true false up = absurd (true≢false (sym (up refl)))
    go false t up = refl

-- how a saturated value is filtered: all types that are made, in the mask
pub saturated_filtered : (most n : ℕ) (v inst mask : ℕ → ℕ) (keep over : Bool) (old mid new : List ℕ) → is_saturated most n v ≡ true → length old ≡ length mid
    → JoinsRow (both (types_of inst) mask) old mid → over ≡ nat_lt most (counted n (both (types_of inst) mask)) → JoinsRow (flags_of over keep) mid new
    → JoinsRow (set_words most n (masked_types most n v inst mask) (keep && means_null most n v)) old new
saturated_filtered most n v inst mask keep over old mid new full len j e q =
    subst (λ (s : Bool). JoinsRow (set_words most n (both (types_if s v inst) mask) (keep && (s || has_bit v 1))) old new) (sym full)
    (subst (λ (null : Bool). JoinsRow (set_words most n (both (types_of inst) mask) null) old new) (kept keep)
    (subst (λ (s : Bool). JoinsRow (either (both (types_of inst) mask) (flags_of s keep)) old new) e
    (joins_both (both (types_of inst) mask) (flags_of over keep) old mid new len j q)))
  where
    kept : (b : Bool) → b ≡ (b && true)
    kept true = refl
    kept false = refl

-- how a set is filtered: a part of it has no more types than the threshold
pub set_filtered : (most n : ℕ) (v inst mask : ℕ → ℕ) (keep : Bool) (old mid new : List ℕ) → is_saturated most n v ≡ false → length old ≡ length mid
    → JoinsRow (both (types_if false v inst) mask) old mid → JoinsRow (flags_of false (keep && has_bit v 1)) mid new
    → JoinsRow (set_words most n (masked_types most n v inst mask) (keep && means_null most n v)) old new
set_filtered most n v inst mask keep old mid new few len j q =
    subst (λ (s : Bool). JoinsRow (set_words most n (both (types_if s v inst) mask) (keep && (s || has_bit v 1))) old new) (sym few)
    (subst (λ (s : Bool). JoinsRow (either (both (types_if false v inst) mask) (flags_of s (keep && has_bit v 1))) old new) (sym (part_is_few most n v inst mask few))
    (joins_both (both (types_if false v inst) mask) (flags_of false (keep && has_bit v 1)) old mid new len j q))
