-- The words of ints and their values.
use Rattle.std.proofs.Common.{◌/◌, ◌%◌, ◌≡◌, ◌≢◌, ℕ, zero, suc, ◌+◌, ◌-◌, ◌*◌, ◌^◌, ◌≤◌, ◌<◌, Bool, true, false, not, if◌then◌else◌, ◌⊎◌, inl, inr, ◌==◌, List, ℤ, IsTrue, FitsSigned, bit_and, bit_or, int_lt, refl, sym, ap, ap₂, ◌∙◌, subst, subst₂, arith, eqb-true, eq-eqb, to_z-of_z, lit<, mod-lt, mod-eq_of_lt, div-add-mod'}
use Rattle.std.specs.Int.{bit_at, w32, cast_signed, cast_unsigned}
use Rattle.std.specs.List.{list_any}
use Rattle.std.specs.Ordering.{int_eq}
use Rattle.std.proofs.lemmas.Bool.{cases_Bool, cases_lt, cond-true, cond-false, not-false, true≢false}
use Rattle.std.proofs.lemmas.Bool.Decides.{Decides-int_eq}
use Rattle.std.proofs.lemmas.Int.{of_z-to_z}
use Rattle.std.proofs.Math.Facts.{sfits_to_z, Fits-of_z}
use Rattle.std.proofs.lemmas.Nat.{shr_high, shr_below, mod_low, or_comm, or_lt, or_mod, or_shr, and_le_l}
use Rattle.std.proofs.lemmas.Nat.Bits.{bit_at_or, bit_at_and, bit_at-lt, bit_at_not, bit_at-zero, bit_at_ones, bit_at_above, same_from_bits_below}
use Rattle.wf_base.specs.declared.cmp.Cmp.{Cmp}
use Rattle.wf_base.specs.declared.cmp.Cmp.TheVariants.{Eq, Ne, Lt, Ge, Gt, Le}
use Rattle.wf_base.specs.Comparisons.{compares, negated, exchanged}
use Rattle.wf_lattice.specs.declared.int_word.IntValue.{IntValue}
use Rattle.wf_lattice.specs.declared.int_word.IntValue.TheVariants.{Empty, Is, Any}
use Rattle.wf_lattice.specs.declared.kind.NodeKind.TheVariants.{Int}
use Rattle.wf_lattice.specs.Order.{Receives}
use Rattle.wf_lattice.specs.Words.{IsIn, one_word}
use Rattle.wf_lattice.specs.Ints.{low_half, high_half, is_any, is_whole, int_value, constant_word, word_of, IsSettled, ◌⊑◌, join_of, any_refined, refined, not_among, refined_word, not_among_word}
use Rattle.wf_lattice.proofs.BitLaws.{in_bits, from_bits, in_itself, in_left, in_right}
use Rattle.wf_lattice.proofs.OrderLaws.{any_grows, low_grows, high_grows}

-- ---- the value of a word, by its two tests

pub value_any : (w : ℕ) → is_any w ≡ true → int_value w ≡ Any
value_any w e = cond-true (is_any w) Any (if is_whole w then Is (cast_signed w32 (low_half w)) else Empty) e

pub value_constant : (w : ℕ) → is_any w ≡ false → is_whole w ≡ true → int_value w ≡ Is (cast_signed w32 (low_half w))
value_constant w e h = cond-false (is_any w) Any (if is_whole w then Is (cast_signed w32 (low_half w)) else Empty) e
    ∙ cond-true (is_whole w) (Is (cast_signed w32 (low_half w))) Empty h

pub value_partial : (w : ℕ) → is_any w ≡ false → is_whole w ≡ false → int_value w ≡ Empty
value_partial w e h = cond-false (is_any w) Any (if is_whole w then Is (cast_signed w32 (low_half w)) else Empty) e
    ∙ cond-false (is_whole w) (Is (cast_signed w32 (low_half w))) Empty h

-- what a word is
pub data Word (w : ℕ) : Type 0 where
  an_any : is_any w ≡ true → Word w
  a_constant : is_any w ≡ false → is_whole w ≡ true → Word w
  a_part : is_any w ≡ false → is_whole w ≡ false → Word w

pub word_is : (w : ℕ) → Word w
word_is w = go (cases_Bool (is_any w)) (cases_Bool (is_whole w))
  where
    go : ((is_any w ≡ true) ⊎ (is_any w ≡ false)) → ((is_whole w ≡ true) ⊎ (is_whole w ≡ false)) → Word w
    go (inl e) h = an_any e
    go (inr e) (inl h) = a_constant e h
    go (inr e) (inr h) = a_part e h

-- ---- constants

-- no position of a number is set in its complement, and each is set in one of the two
pub and_complement : (l : ℕ) → l < 2 ^ 32 → bit_and l (2 ^ 32 - 1 - l) ≡ 0
and_complement l lt = same_from_bits_below 32 (bit_and l (2 ^ 32 - 1 - l)) 0 (omega (arith, and_le_l l (2 ^ 32 - 1 - l))) (lit< tt)
    (λ i below. omega (arith, bit_at_and l (2 ^ 32 - 1 - l) i, bit_at_not w32 l i lt below, bit_at-zero i, bit_at-lt l i))

pub or_complement : (l : ℕ) → l < 2 ^ 32 → bit_or l (2 ^ 32 - 1 - l) ≡ 2 ^ 32 - 1
or_complement l lt = same_from_bits_below 32 (bit_or l (2 ^ 32 - 1 - l)) (2 ^ 32 - 1) (or_lt 32 l (2 ^ 32 - 1 - l) lt (omega arith)) (lit< tt)
    (λ i below. omega (arith, bit_at_or l (2 ^ 32 - 1 - l) i, bit_at_not w32 l i lt below, bit_at_ones 32 i below, bit_at-lt l i))

pub low_of_constant : (h l : ℕ) → l < 2 ^ 32 → low_half (h * 2 ^ 32 + l) ≡ l
low_of_constant h l lt = mod_low h 32 l lt

pub high_of_constant : (h l : ℕ) → h < 2 ^ 32 → l < 2 ^ 32 → high_half (h * 2 ^ 32 + l) ≡ h
high_of_constant h l le lt = ap (λ (n : ℕ). n % 2 ^ 32) (shr_high h 32 l lt) ∙ mod-eq_of_lt le

pub value_of_complements : (l : ℕ) → l < 2 ^ 32 → int_value ((2 ^ 32 - 1 - l) * 2 ^ 32 + l) ≡ Is (cast_signed w32 l)
value_of_complements l lt =
    let w : ℕ = (2 ^ 32 - 1 - l) * 2 ^ 32 + l in
    let low : low_half w ≡ l = low_of_constant (2 ^ 32 - 1 - l) l lt in
    let high : high_half w ≡ 2 ^ 32 - 1 - l = high_of_constant (2 ^ 32 - 1 - l) l (omega arith) lt in
    let apart : bit_and (low_half w) (high_half w) ≡ 0 = ap (λ (x : ℕ). bit_and x (high_half w)) low ∙ ap (λ (x : ℕ). bit_and l x) high ∙ and_complement l lt in
    let whole : bit_or (low_half w) (high_half w) ≡ 2 ^ 32 - 1 = ap (λ (x : ℕ). bit_or x (high_half w)) low ∙ ap (λ (x : ℕ). bit_or l x) high ∙ or_complement l lt in
    value_constant w (ap not (eq-eqb (bit_and (low_half w) (high_half w)) 0 apart)) (eq-eqb (bit_or (low_half w) (high_half w)) (2 ^ 32 - 1) whole)
    ∙ ap (λ (x : ℕ). Is (cast_signed w32 x)) low

-- a constant fits an int
abbrev pub FitsValue : IntValue → Type 0
FitsValue Empty = Unit {0}
FitsValue (Is c) = FitsSigned w32 c
FitsValue Any = Unit {0}

pub value_fits : (w : ℕ) → FitsValue (int_value w)
value_fits w = go (word_is w)
  where
    go : Word w → FitsValue (int_value w)
    go (an_any e) = subst FitsValue (sym (value_any w e)) tt
    go (a_constant e h) = subst FitsValue (sym (value_constant w e h)) (sfits_to_z {w = w32} {n = low_half w} (record { fits = mod-lt w (lit< tt) }))
    go (a_part e h) = subst FitsValue (sym (value_partial w e h)) tt

pub value_of_constant : (c : ℤ) → FitsSigned w32 c → int_value (constant_word c) ≡ Is c
value_of_constant c fits = value_of_complements (cast_unsigned w32 c) (Fits-of_z {w = w32} {z = c} fits).fits ∙ ap (λ (z : ℤ). Is z) (to_z-of_z fits)

-- in a word that is a constant each position is set in exactly one half
pub one_of_halves : (w i : ℕ) → is_any w ≡ false → is_whole w ≡ true → i < 32 → bit_at (low_half w) i + bit_at (high_half w) i ≡ 1
one_of_halves w i e h below =
    let apart : bit_and (low_half w) (high_half w) ≡ 0 = eqb-true (bit_and (low_half w) (high_half w)) 0 (not-false (bit_and (low_half w) (high_half w) == 0) e) in
    let whole : bit_or (low_half w) (high_half w) ≡ 2 ^ 32 - 1 = eqb-true (bit_or (low_half w) (high_half w)) (2 ^ 32 - 1) h in
    omega (
      arith,
      bit_at_and (low_half w) (high_half w) i,
      bit_at_or (low_half w) (high_half w) i,
      ap (λ (x : ℕ). bit_at x i) apart,
      ap (λ (x : ℕ). bit_at x i) whole,
      bit_at-zero i,
      bit_at_ones 32 i below,
      bit_at-lt (low_half w) i,
      bit_at-lt (high_half w) i,
    )

-- the upper half is the complement of the lower one
pub high_is : (w : ℕ) → is_any w ≡ false → is_whole w ≡ true → high_half w ≡ 2 ^ 32 - 1 - low_half w
high_is w e h =
    let low : low_half w < 2 ^ 32 = mod-lt w (lit< tt) in
    same_from_bits_below 32 (high_half w) (2 ^ 32 - 1 - low_half w) (mod-lt (w / 2 ^ 32) (lit< tt)) (omega arith)
    (λ i below. omega (arith, bit_at_not w32 (low_half w) i low below, one_of_halves w i e h below))

-- so it is the word of that constant
pub constant_is : (w : ℕ) → w < 2 ^ 64 → is_any w ≡ false → is_whole w ≡ true → w ≡ constant_word (cast_signed w32 (low_half w))
constant_is w lt e h =
    let back : cast_unsigned w32 (cast_signed w32 (low_half w)) ≡ low_half w = of_z-to_z w32 (low_half w) (mod-lt w (lit< tt)) in
    let high : w / 2 ^ 32 ≡ 2 ^ 32 - 1 - low_half w = sym (mod-eq_of_lt (shr_below w 32 32 lt)) ∙ high_is w e h in
    sym (div-add-mod' w (2 ^ 32)) ∙ ap (λ (x : ℕ). x * 2 ^ 32 + low_half w) high ∙ ap (λ (l : ℕ). (2 ^ 32 - 1 - l) * 2 ^ 32 + l) (sym back)

-- two constants of which one lies in the other are one
pub constants_in : (a b : ℕ) → IsIn a b → is_any a ≡ false → is_whole a ≡ true → is_any b ≡ false → is_whole b ≡ true → low_half a ≡ low_half b
constants_in a b p e h f g = same_from_bits_below 32 (low_half a) (low_half b) (mod-lt a (lit< tt)) (mod-lt b (lit< tt))
    (λ i below. omega (
      arith,
      in_bits (low_half a) (low_half b) i (low_grows a b p),
      in_bits (high_half a) (high_half b) i (high_grows a b p),
      one_of_halves a i e h below,
      one_of_halves b i f g below,
    ))

pub whole_grows : (a b : ℕ) → IsIn a b → is_whole a ≡ true → is_whole b ≡ true
whole_grows a b p h =
    let whole : bit_or (low_half a) (high_half a) ≡ 2 ^ 32 - 1 = eqb-true (bit_or (low_half a) (high_half a)) (2 ^ 32 - 1) h in
    eq-eqb (bit_or (low_half b) (high_half b)) (2 ^ 32 - 1) (same_from_bits_below 32 (bit_or (low_half b) (high_half b)) (2 ^ 32 - 1)
    (or_lt 32 (low_half b) (high_half b) (mod-lt b (lit< tt)) (mod-lt (b / 2 ^ 32) (lit< tt))) (lit< tt)
    (λ i below. omega (
      arith,
      bit_at_or (low_half a) (high_half a) i,
      bit_at_or (low_half b) (high_half b) i,
      ap (λ (x : ℕ). bit_at x i) whole,
      bit_at_ones 32 i below,
      in_bits (low_half a) (low_half b) i (low_grows a b p),
      in_bits (high_half a) (high_half b) i (high_grows a b p),
      bit_at-lt (low_half b) i,
      bit_at-lt (high_half b) i,
    )))

-- ---- the order of words and that of values

pub below_any : (v : IntValue) → v ⊑ Any
below_any Empty = tt
below_any (Is c) = tt
below_any Any = tt

-- a word with more bits has a greater value
pub value_grows : (a b : ℕ) → IsIn a b → int_value a ⊑ int_value b
value_grows a b p = go (word_is a) (word_is b)
  where
    go : Word a → Word b → int_value a ⊑ int_value b
    go (a_part e h) second = subst (λ (v : IntValue). v ⊑ int_value b) (sym (value_partial a e h)) tt
    go first (an_any f) = subst (λ (v : IntValue). int_value a ⊑ v) (sym (value_any b f)) (below_any (int_value a))
    go (an_any e) (a_constant f g) = absurd (true≢false (sym (any_grows a b p e) ∙ f))
    go (an_any e) (a_part f g) = absurd (true≢false (sym (any_grows a b p e) ∙ f))
    go (a_constant e h) (a_constant f g) = subst₂ (λ (v u : IntValue). v ⊑ u) (sym (value_constant a e h)) (sym (value_constant b f g))
        (ap (λ (l : ℕ). cast_signed w32 l) (constants_in a b p e h f g))
    go (a_constant e h) (a_part f g) = absurd (true≢false (sym (whole_grows a b p h) ∙ g))

-- and what is settled and has a smaller value has no other bits, but where the greater is any
pub settled_order : (a b : ℕ) → a < 2 ^ 64 → b < 2 ^ 64 → IsSettled a → IsSettled b → int_value a ⊑ int_value b → IsTrue (is_any b) ⊎ IsIn a b
settled_order a b la lb s t q = go (word_is a) (word_is b)
  where
    go : Word a → Word b → IsTrue (is_any b) ⊎ IsIn a b
    go first (an_any f) = inl f
    go (a_part e h) second = inr (part s)
      where
        part : IsSettled a → IsIn a b
        part (inl z) = subst (λ (x : ℕ). IsIn x b) (sym z) refl
        part (inr n) = absurd (n (value_partial a e h))
    go (an_any e) (a_constant f g) = absurd (subst₂ (λ (v u : IntValue). v ⊑ u) (value_any a e) (value_constant b f g) q)
    go (an_any e) (a_part f g) = absurd (subst₂ (λ (v u : IntValue). v ⊑ u) (value_any a e) (value_partial b f g) q)
    go (a_constant e h) (a_constant f g) =
        let same : cast_signed w32 (low_half a) ≡ cast_signed w32 (low_half b) = subst₂ (λ (v u : IntValue). v ⊑ u) (value_constant a e h) (value_constant b f g) q in
        inr (subst (λ (x : ℕ). IsIn a x) (constant_is a la e h ∙ ap constant_word same ∙ sym (constant_is b lb f g)) (in_itself a))
    go (a_constant e h) (a_part f g) = absurd (subst₂ (λ (v u : IntValue). v ⊑ u) (value_constant a e h) (value_partial b f g) q)

-- ---- joins

-- two constants that aren't one have any as their join
pub constants_differ : (a b : ℕ) → is_any a ≡ false → is_whole a ≡ true → is_any b ≡ false → is_whole b ≡ true → is_any (bit_or a b) ≡ false → low_half a ≡ low_half b
constants_differ a b e h f g none =
    let w : ℕ = bit_or a b in
    let apart : bit_and (low_half w) (high_half w) ≡ 0 = eqb-true (bit_and (low_half w) (high_half w)) 0 (not-false (bit_and (low_half w) (high_half w) == 0) none) in
    let lows : low_half w ≡ bit_or (low_half a) (low_half b) = or_mod a b 32 in
    let highs : high_half w ≡ bit_or (high_half a) (high_half b) = ap (λ (n : ℕ). n % 2 ^ 32) (or_shr a b 32) ∙ or_mod (a / 2 ^ 32) (b / 2 ^ 32) 32 in
    same_from_bits_below 32 (low_half a) (low_half b) (mod-lt a (lit< tt)) (mod-lt b (lit< tt))
    (λ i below. omega (
      arith,
      bit_at_and (low_half w) (high_half w) i,
      ap (λ (x : ℕ). bit_at x i) apart,
      bit_at-zero i,
      ap (λ (x : ℕ). bit_at x i) lows,
      ap (λ (x : ℕ). bit_at x i) highs,
      bit_at_or (low_half a) (low_half b) i,
      bit_at_or (high_half a) (high_half b) i,
      one_of_halves a i e h below,
      one_of_halves b i f g below,
      bit_at-lt (low_half a) i,
      bit_at-lt (low_half b) i,
    ))

or_itself : (a : ℕ) → bit_or a a ≡ a
or_itself a = in_itself a

-- what a word says hangs on its halves alone
value_by_halves : (v w : ℕ) → low_half v ≡ low_half w → high_half v ≡ high_half w → int_value v ≡ int_value w
value_by_halves v w low high = ap₂ (λ (l h : ℕ). if not (bit_and l h == 0) then Any else (if bit_or l h == 2 ^ 32 - 1 then Is (cast_signed w32 l) else Empty)) low high

join_any_right : (v : IntValue) → join_of v Any ≡ Any
join_any_right Empty = refl
join_any_right (Is c) = refl
join_any_right Any = refl

join_empty_right : (v : IntValue) → join_of v Empty ≡ v
join_empty_right Empty = refl
join_empty_right (Is c) = refl
join_empty_right Any = refl

pub join_value : (a b : ℕ) → IsSettled a → IsSettled b → int_value (bit_or a b) ≡ join_of (int_value a) (int_value b)
join_value a b s t = go (word_is a) (word_is b)
  where
    part_left : is_any a ≡ false → is_whole a ≡ false → IsSettled a → int_value (bit_or a b) ≡ join_of (int_value a) (int_value b)
    part_left e h (inl z) = ap (λ (x : ℕ). int_value (bit_or x b)) z ∙ sym (ap (λ (v : IntValue). join_of v (int_value b)) (value_partial a e h))
    part_left e h (inr n) = absurd (n (value_partial a e h))

    part_right : is_any b ≡ false → is_whole b ≡ false → IsSettled b → int_value (bit_or a b) ≡ join_of (int_value a) (int_value b)
    part_right e h (inl z) = ap int_value (or_comm a b ∙ ap (λ (x : ℕ). bit_or x a) z) ∙ sym (ap (λ (v : IntValue). join_of (int_value a) v) (value_partial b e h) ∙ join_empty_right (int_value a))
    part_right e h (inr n) = absurd (n (value_partial b e h))

    constants : is_any a ≡ false → is_whole a ≡ true → is_any b ≡ false → is_whole b ≡ true
        → ((is_any (bit_or a b) ≡ true) ⊎ (is_any (bit_or a b) ≡ false)) → ((int_eq (cast_signed w32 (low_half a)) (cast_signed w32 (low_half b)) ≡ true) ⊎ (int_eq (cast_signed w32 (low_half a)) (cast_signed w32 (low_half b)) ≡ false))
        → int_value (bit_or a b) ≡ (if int_eq (cast_signed w32 (low_half a)) (cast_signed w32 (low_half b)) then Is (cast_signed w32 (low_half a)) else Any)
    constants e h f g each (inl same) =
        let one : cast_signed w32 (low_half a) ≡ cast_signed w32 (low_half b) = (Decides-int_eq (cast_signed w32 (low_half a)) (cast_signed w32 (low_half b))).0 same in
        let low : low_half b ≡ low_half a = sym (of_z-to_z w32 (low_half b) (mod-lt b (lit< tt))) ∙ ap (cast_unsigned w32) (sym one) ∙ of_z-to_z w32 (low_half a) (mod-lt a (lit< tt)) in
        let high : high_half b ≡ high_half a = high_is b f g ∙ ap (λ (l : ℕ). 2 ^ 32 - 1 - l) low ∙ sym (high_is a e h) in
        let lows : low_half (bit_or a b) ≡ low_half a = or_mod a b 32 ∙ ap (λ (x : ℕ). bit_or (low_half a) x) low ∙ or_itself (low_half a) in
        let highs : high_half (bit_or a b) ≡ high_half a = ap (λ (n : ℕ). n % 2 ^ 32) (or_shr a b 32) ∙ or_mod (a / 2 ^ 32) (b / 2 ^ 32) 32 ∙ ap (λ (x : ℕ). bit_or (high_half a) x) high ∙ or_itself (high_half a) in
        value_by_halves (bit_or a b) a lows highs ∙ value_constant a e h
        ∙ sym (cond-true (int_eq (cast_signed w32 (low_half a)) (cast_signed w32 (low_half b))) (Is (cast_signed w32 (low_half a))) Any same)
    constants e h f g (inl any) (inr differ) = value_any (bit_or a b) any
        ∙ sym (cond-false (int_eq (cast_signed w32 (low_half a)) (cast_signed w32 (low_half b))) (Is (cast_signed w32 (low_half a))) Any differ)
    constants e h f g (inr none) (inr differ) = absurd (true≢false (sym ((Decides-int_eq (cast_signed w32 (low_half a)) (cast_signed w32 (low_half b))).1
        (ap (λ (l : ℕ). cast_signed w32 l) (constants_differ a b e h f g none))) ∙ differ))

    go : Word a → Word b → int_value (bit_or a b) ≡ join_of (int_value a) (int_value b)
    go (an_any e) second = value_any (bit_or a b) (any_grows a (bit_or a b) (in_left a b) e) ∙ sym (ap (λ (v : IntValue). join_of v (int_value b)) (value_any a e))
    go first (an_any f) = value_any (bit_or a b) (any_grows b (bit_or a b) (in_right a b) f) ∙ sym (ap (λ (v : IntValue). join_of (int_value a) v) (value_any b f) ∙ join_any_right (int_value a))
    go (a_part e h) second = part_left e h s
    go first (a_part f g) = part_right f g t
    go (a_constant e h) (a_constant f g) = constants e h f g (cases_Bool (is_any (bit_or a b))) (cases_Bool (int_eq (cast_signed w32 (low_half a)) (cast_signed w32 (low_half b))))
        ∙ sym (ap₂ join_of (value_constant a e h) (value_constant b f g))

join_left_there : (v u : IntValue) → v ≢ Empty → join_of v u ≢ Empty
join_left_there Empty u n e = n refl
join_left_there (Is c) Empty n e = cc
join_left_there (Is c) (Is d) n e = go (int_eq c d) e
  where
    go : (t : Bool) → (if t then Is c else Any) ≡ Empty → ⊥
    go true h = cc
    go false h = cc
join_left_there (Is c) Any n e = cc
join_left_there Any u n e = cc

pub join_settled : (a b : ℕ) → IsSettled a → IsSettled b → IsSettled (bit_or a b)
join_settled a b (inl z) t = subst IsSettled (sym (ap (λ (x : ℕ). bit_or x b) z)) t
join_settled a b (inr n) t = inr (λ e. join_left_there (int_value a) (int_value b) n (sym (join_value a b (inr n) t) ∙ e))

-- ---- comparisons and the filters on ints

twice : (t : Bool) → t ≡ not (not t)
twice true = refl
twice false = refl

equal_turned : (a b : ℤ) → int_eq b a ≡ int_eq a b
equal_turned a b = go (cases_Bool (int_eq a b)) (cases_Bool (int_eq b a))
  where
    go : ((int_eq a b ≡ true) ⊎ (int_eq a b ≡ false)) → ((int_eq b a ≡ true) ⊎ (int_eq b a ≡ false)) → int_eq b a ≡ int_eq a b
    go (inl p) q = (Decides-int_eq b a).1 (sym ((Decides-int_eq a b).0 p)) ∙ sym p
    go (inr p) (inr q) = q ∙ sym p
    go (inr p) (inl q) = absurd (true≢false (sym ((Decides-int_eq a b).1 (sym ((Decides-int_eq b a).0 q))) ∙ p))

pub negated_compares : (cmp : Cmp) (a b : ℤ) → compares (negated cmp) a b ≡ not (compares cmp a b)
negated_compares Eq a b = refl
negated_compares Ne a b = twice (int_eq a b)
negated_compares Lt a b = refl
negated_compares Ge a b = twice (int_lt a b)
negated_compares Gt a b = refl
negated_compares Le a b = twice (int_lt b a)

pub exchanged_compares : (cmp : Cmp) (a b : ℤ) → compares (exchanged cmp) b a ≡ compares cmp a b
exchanged_compares Eq a b = equal_turned a b
exchanged_compares Ne a b = ap not (equal_turned a b)
exchanged_compares Lt a b = refl
exchanged_compares Ge a b = refl
exchanged_compares Gt a b = refl
exchanged_compares Le a b = refl

cond_within : (t : Bool) (c d : ℤ) → (t ≡ true → c ≡ d) → (if t then Is c else Empty) ⊑ Is d
cond_within true c d e = e refl
cond_within false c d e = tt

any_within : (cmp : Cmp) (c d : ℤ) → (if compares cmp c d then Is c else Empty) ⊑ any_refined cmp d
any_within Eq c d = cond_within (int_eq c d) c d (λ e. (Decides-int_eq c d).0 e)
any_within Ne c d = below_any (if compares Ne c d then Is c else Empty)
any_within Lt c d = below_any (if compares Lt c d then Is c else Empty)
any_within Ge c d = below_any (if compares Ge c d then Is c else Empty)
any_within Gt c d = below_any (if compares Gt c d then Is c else Empty)
any_within Le c d = below_any (if compares Le c d then Is c else Empty)

pub below_itself : (v : IntValue) → v ⊑ v
below_itself Empty = tt
below_itself (Is c) = refl
below_itself Any = tt

-- what is left grows with both values
pub refined_grows : (cmp : Cmp) (a b c d : IntValue) → a ⊑ c → b ⊑ d → refined cmp a b ⊑ refined cmp c d
refined_grows cmp Empty b c d p q = tt
refined_grows cmp (Is x) Empty c d p q = tt
refined_grows cmp (Is x) b Empty d p q = absurd p
refined_grows cmp (Is x) (Is y) c Empty p q = absurd q
refined_grows cmp (Is x) (Is y) (Is z) (Is w) p q = subst₂ (λ (u v : ℤ). (if compares cmp x y then Is x else Empty) ⊑ (if compares cmp u v then Is u else Empty)) p q (below_itself (if compares cmp x y then Is x else Empty))
refined_grows cmp (Is x) (Is y) (Is z) Any p q = cond_within (compares cmp x y) x z (λ e. p)
refined_grows cmp (Is x) (Is y) Any (Is w) p q = subst (λ (v : ℤ). (if compares cmp x y then Is x else Empty) ⊑ any_refined cmp v) q (any_within cmp x y)
refined_grows cmp (Is x) (Is y) Any Any p q = below_any (if compares cmp x y then Is x else Empty)
refined_grows cmp (Is x) Any c Empty p q = absurd q
refined_grows cmp (Is x) Any c (Is w) p q = absurd q
refined_grows cmp (Is x) Any (Is z) Any p q = p
refined_grows cmp (Is x) Any Any Any p q = tt
refined_grows cmp Any Empty c d p q = tt
refined_grows cmp Any b Empty d p q = absurd p
refined_grows cmp Any b (Is z) d p q = absurd p
refined_grows cmp Any (Is y) Any Empty p q = absurd q
refined_grows cmp Any (Is y) Any (Is w) p q = subst (λ (v : ℤ). any_refined cmp y ⊑ any_refined cmp v) q (below_itself (any_refined cmp y))
refined_grows cmp Any (Is y) Any Any p q = below_any (any_refined cmp y)
refined_grows cmp Any Any Any Empty p q = absurd q
refined_grows cmp Any Any Any (Is w) p q = absurd q
refined_grows cmp Any Any Any Any p q = tt

pub not_among_grows : (keys : List ℤ) (a c : IntValue) → a ⊑ c → not_among keys a ⊑ not_among keys c
not_among_grows keys Empty c p = tt
not_among_grows keys (Is x) Empty p = absurd p
not_among_grows keys (Is x) (Is z) p = subst (λ (v : ℤ). not_among keys (Is x) ⊑ not_among keys (Is v)) p (below_itself (not_among keys (Is x)))
not_among_grows keys (Is x) Any p = below_any (not_among keys (Is x))
not_among_grows keys Any Empty p = absurd p
not_among_grows keys Any (Is z) p = absurd p
not_among_grows keys Any Any p = tt

-- ---- the words of values

pub constant_below : (c : ℤ) → FitsSigned w32 c → constant_word c < 2 ^ 64
constant_below c fits = let l : cast_unsigned w32 c < 2 ^ 32 = (Fits-of_z {w = w32} {z = c} fits).fits in omega arith

pub in_all : (a : ℕ) → a < 2 ^ 64 → IsIn a (2 ^ 64 - 1)
in_all a lt = from_bits a (2 ^ 64 - 1) each
  where
    each : (k : ℕ) → bit_at a k ≤ bit_at (2 ^ 64 - 1) k
    each k = go (cases_lt k 64)
      where
        go : ((k < 64) ⊎ (64 ≤ k)) → bit_at a k ≤ bit_at (2 ^ 64 - 1) k
        go (inl below) = omega (arith, bit_at_ones 64 k below, bit_at-lt a k)
        go (inr above) = omega (arith, bit_at_above a 64 k lt above)

-- a greater value has a word with more bits
pub words_grow : (v u : IntValue) → FitsValue v → v ⊑ u → IsIn (word_of v) (word_of u)
words_grow Empty u fits p = refl
words_grow (Is c) Empty fits p = absurd p
words_grow (Is c) (Is d) fits p = subst (λ (z : ℤ). IsIn (constant_word c) (constant_word z)) p (in_itself (constant_word c))
words_grow (Is c) Any fits p = in_all (constant_word c) (constant_below c fits)
words_grow Any Empty fits p = absurd p
words_grow Any (Is d) fits p = absurd p
words_grow Any Any fits p = in_itself (2 ^ 64 - 1)

pub value_of_word : (v : IntValue) → FitsValue v → int_value (word_of v) ≡ v
value_of_word Empty fits = refl
value_of_word (Is c) fits = value_of_constant c fits
value_of_word Any fits = refl

pub word_settled : (v : IntValue) → FitsValue v → IsSettled (word_of v)
word_settled Empty fits = inl refl
word_settled (Is c) fits = inr (λ e. let two : Is c ≡ Empty = sym (value_of_constant c fits) ∙ e in cc)
word_settled Any fits = inr (λ e. let two : Any ≡ Empty = sym (value_any (2 ^ 64 - 1) refl) ∙ e in cc)

pub cond_fits : (t : Bool) (c : ℤ) → FitsSigned w32 c → FitsValue (if t then Is c else Empty)
cond_fits true c fits = fits
cond_fits false c fits = tt

pub refined_fits : (cmp : Cmp) (a b : IntValue) → FitsValue a → FitsValue b → FitsValue (refined cmp a b)
refined_fits cmp Empty b p q = tt
refined_fits cmp (Is c) Empty p q = tt
refined_fits cmp (Is c) (Is d) p q = cond_fits (compares cmp c d) c p
refined_fits cmp (Is c) Any p q = p
refined_fits cmp Any Empty p q = tt
refined_fits Eq Any (Is d) p q = q
refined_fits Ne Any (Is d) p q = tt
refined_fits Lt Any (Is d) p q = tt
refined_fits Ge Any (Is d) p q = tt
refined_fits Gt Any (Is d) p q = tt
refined_fits Le Any (Is d) p q = tt
refined_fits cmp Any Any p q = tt

pub not_among_fits : (keys : List ℤ) (a : IntValue) → FitsValue a → FitsValue (not_among keys a)
not_among_fits keys Empty p = tt
not_among_fits keys (Is c) p = go (list_any (int_eq c) keys)
  where
    go : (t : Bool) → FitsValue (if t then Empty else Is c)
    go true = tt
    go false = p
not_among_fits keys Any p = tt

-- a word that rises in the order of ints has a greater value
pub value_rises : (a b : ℕ) → IsTrue (is_any b) ⊎ IsIn a b → int_value a ⊑ int_value b
value_rises a b (inl any) = subst (λ (v : IntValue). int_value a ⊑ v) (sym (value_any b any)) (below_any (int_value a))
value_rises a b (inr p) = value_grows a b p

pub refined_word_grows : (cmp : Cmp) (a b c d : ℕ) → IsTrue (is_any c) ⊎ IsIn a c → IsTrue (is_any d) ⊎ IsIn b d → IsIn (refined_word cmp a b) (refined_word cmp c d)
refined_word_grows cmp a b c d p q = words_grow (refined cmp (int_value a) (int_value b)) (refined cmp (int_value c) (int_value d))
    (refined_fits cmp (int_value a) (int_value b) (value_fits a) (value_fits b))
    (refined_grows cmp (int_value a) (int_value b) (int_value c) (int_value d) (value_rises a c p) (value_rises b d q))

pub not_among_word_grows : (keys : List ℤ) (a c : ℕ) → IsTrue (is_any c) ⊎ IsIn a c → IsIn (not_among_word keys a) (not_among_word keys c)
not_among_word_grows keys a c p = words_grow (not_among keys (int_value a)) (not_among keys (int_value c)) (not_among_fits keys (int_value a) (value_fits a))
    (not_among_grows keys (int_value a) (int_value c) (value_rises a c p))

pub refined_settled : (cmp : Cmp) (a b : ℕ) → IsSettled (refined_word cmp a b)
refined_settled cmp a b = word_settled (refined cmp (int_value a) (int_value b)) (refined_fits cmp (int_value a) (int_value b) (value_fits a) (value_fits b))

pub not_among_settled : (keys : List ℤ) (a : ℕ) → IsSettled (not_among_word keys a)
not_among_settled keys a = word_settled (not_among keys (int_value a)) (not_among_fits keys (int_value a) (value_fits a))

pub ints_are : (most n a b : ℕ) → Receives most n Int (one_word a) (one_word b) → int_value a ⊑ int_value b
ints_are most n a b (inl any) = value_rises a b (inl any)
ints_are most n a b (inr p) = value_rises a b (inr (p.each 0))

pub ints_from : (most n a b : ℕ) → a < 2 ^ 64 → b < 2 ^ 64 → IsSettled a → IsSettled b → int_value a ⊑ int_value b → Receives most n Int (one_word a) (one_word b)
ints_from most n a b la lb s t q = go (settled_order a b la lb s t q)
  where
    go : IsTrue (is_any b) ⊎ IsIn a b → Receives most n Int (one_word a) (one_word b)
    go (inl any) = inl any
    go (inr p) = inr (record { each = each })
      where
        each : (k : ℕ) → IsIn (one_word a k) (one_word b k)
        each zero = p
        each (suc k) = refl

pub settled_if_constant : (w : ℕ) (c : ℤ) → int_value w ≡ Is c → IsSettled w
settled_if_constant w c e = inr (λ none. let two : Is c ≡ Empty = sym e ∙ none in cc)
