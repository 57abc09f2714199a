-- Sets of heights, as bits of words.
use Rattle.std.proofs.Common.{◌≡◌, ℕ, suc, ◌+◌, ◌-◌, ◌*◌, ◌/◌, ◌%◌, ◌^◌, ◌<◌, ◌≤◌, ◌↔◌, ◌⊎◌, inl, inr, bit_or, bit_and, List, length, get_or, Option, Some, None, sym, ap, ◌∙◌, arith}
use Rattle.std.proofs.lemmas.Bool.{cases_lt, cases_eq}
use Rattle.std.specs.Int.{bit_at, w64}
use Rattle.std.proofs.Math.ListN.{set, length-set}
use Rattle.std.proofs.Math.Pow.{pow-lt}
use Rattle.std.proofs.Math.Nat.{pow-suc}
use Rattle.std.proofs.lemmas.Grind.{get_or-set_at}
use Rattle.std.proofs.lemmas.List.{get_or-set_other}
use Rattle.std.proofs.lemmas.Nat.Bits.{bit_at_set_same, bit_at_set_other, bit_at_and, bit_at_ones, bit_at_ones_above, bit_at-lt, bit_at_above, bit_at_cat_high}
use Rattle.std.proofs.lemmas.Option.{slice_get-get_or, get_or_from_slice_get}
use Rattle.wf_base.specs.declared.ids.ClassId.{ClassId}
use Rattle.wf_classes.specs.Above.{Has, Adds, IsHeightAmong, IsCutBelow, IsLastBit, IsLastOf, IsLastSet, IsLastSetIn}

-- ---- adding

abbrev with_bit : List ℕ → ℕ → List ℕ
with_bit bits h = set bits (h / 64) (bit_or (get_or bits (h / 64) 0) (1 * 2 ^ (h % 64) % 2 ^ 64))

pub adds_one : (bits : List ℕ) (h : ℕ) → h / 64 < length bits → Adds bits (with_bit bits h) (λ g. g ≡ h)
adds_one bits h l = record { same_length = length-set bits (h / 64) word; each = λ g. by_word g (cases_eq (g / 64) (h / 64)) } where
  word : ℕ
  word = bit_or (get_or bits (h / 64) 0) (1 * 2 ^ (h % 64) % 2 ^ 64)

  at_word : (g : ℕ) → g / 64 ≡ h / 64 → get_or (with_bit bits h) (g / 64) 0 ≡ bit_or (get_or bits (h / 64) 0) (1 * 2 ^ (h % 64) % 2 ^ 64)
  at_word g e = get_or-set_at bits (h / 64) (g / 64) (bit_or (get_or bits (h / 64) 0) (1 * 2 ^ (h % 64) % 2 ^ 64)) 0 e l

  by_bit : (g : ℕ) → g / 64 ≡ h / 64 → ((g % 64 ≡ h % 64) ⊎ (g % 64 ≡ h % 64 → ⊥)) → Has (with_bit bits h) g ↔ (Has bits g ⊎ (g ≡ h))
  by_bit g e (inl f) = (λ p. inr (omega (arith, e, f)), λ q. ap (λ w. bit_at w (g % 64)) (at_word g e) ∙ ap (bit_at (bit_or (get_or bits (h / 64) 0) (1 * 2 ^ (h % 64) % 2 ^ 64))) f ∙ bit_at_set_same w64 (get_or bits (h / 64) 0) (h % 64) (omega arith))
  by_bit g e (inr d) =
      let same : bit_at (get_or (with_bit bits h) (g / 64) 0) (g % 64) ≡ bit_at (get_or bits (g / 64) 0) (g % 64) = ap (λ w. bit_at w (g % 64)) (at_word g e) ∙ bit_at_set_other w64 (get_or bits (h / 64) 0) (h % 64) (omega arith) (g % 64) d ∙ ap (λ k. bit_at (get_or bits k 0) (g % 64)) (sym e) in
      (λ p. inl (sym same ∙ p), λ q. elim q [ inl a ↦ same ∙ a | inr b ↦ absurd (d (ap (λ n. n % 64) b)) ])

  by_word : (g : ℕ) → ((g / 64 ≡ h / 64) ⊎ (g / 64 ≡ h / 64 → ⊥)) → Has (with_bit bits h) g ↔ (Has bits g ⊎ (g ≡ h))
  by_word g (inl e) = by_bit g e (cases_eq (g % 64) (h % 64))
  by_word g (inr d) =
      let same : bit_at (get_or (with_bit bits h) (g / 64) 0) (g % 64) ≡ bit_at (get_or bits (g / 64) 0) (g % 64) = ap (λ w. bit_at w (g % 64)) (get_or-set_other bits (h / 64) (g / 64) (bit_or (get_or bits (h / 64) 0) (1 * 2 ^ (h % 64) % 2 ^ 64)) 0 d) in
      (λ p. inl (sym same ∙ p), λ q. elim q [ inl a ↦ same ∙ a | inr b ↦ absurd (d (ap (λ n. n / 64) b)) ])

-- ---- the last bit

pub last_bit_is : (w b : ℕ) → b < 64 → 2 ^ b ≤ w → w < 2 * 2 ^ b → IsLastBit w b
last_bit_is w b l low high = record {
  within = l;
  set = ap (λ n. bit_at n b) (whole) ∙ bit_at_cat_high 1 b (w - 2 ^ b) b (omega (arith, low, high)) (omega arith) ∙ ap (bit_at 1) zero_is;
  last = λ k e. elim (cases_lt b k) [ inl above ↦ absurd (omega (arith, e, bit_at_above w (suc b) k (omega (arith, high, pow-suc 2 b)) (omega (arith, above)))) | inr le ↦ le ];
} where
  whole : w ≡ 1 * 2 ^ b + (w - 2 ^ b)
  whole = omega (arith, low)

  zero_is : b - b ≡ 0
  zero_is = omega arith

pub cut_is : (w bound : ℕ) → bound < 64 → IsCutBelow w bound (bit_and w (1 * 2 ^ bound % 2 ^ 64 - 1))
cut_is w bound l = record { each = λ k. by_place k (cases_lt k bound) } where
  mask : 1 * 2 ^ bound % 2 ^ 64 ≡ 2 ^ bound
  mask = omega (arith, pow-lt l)

  by_place : (k : ℕ) → ((k < bound) ⊎ (bound ≤ k)) → (bit_at (bit_and w (1 * 2 ^ bound % 2 ^ 64 - 1)) k ≡ 1) ↔ ((k < bound) × (bit_at w k ≡ 1))
  by_place k (inl below) =
      let e : bit_at (bit_and w (1 * 2 ^ bound % 2 ^ 64 - 1)) k ≡ bit_at w k = ap (λ n. bit_at (bit_and w (n - 1)) k) mask ∙ omega (arith, bit_at_and w (2 ^ bound - 1) k, bit_at_ones bound k below, bit_at-lt w k) in
      (λ p. (below, sym e ∙ p), λ q. e ∙ q.1)
  by_place k (inr above) =
      let e : bit_at (bit_and w (1 * 2 ^ bound % 2 ^ 64 - 1)) k ≡ 0 = ap (λ n. bit_at (bit_and w (n - 1)) k) mask ∙ omega (arith, bit_at_and w (2 ^ bound - 1) k, bit_at_ones_above bound k above) in
      (λ p. absurd (omega (arith, e, p)), λ q. absurd (omega (arith, q.0, above)))

-- ---- the last of a set

-- no height of the set from one bound to below another
abbrev pub HasNone : List ℕ → ℕ → ℕ → Type 0
HasNone bits low high = (k : ℕ) → Has bits k → low ≤ k → k < high → ⊥

pub none_in_word : (bits : List ℕ) (j high : ℕ) → IsLastOf (get_or bits j 0) None → HasNone bits (64 * (j + 1)) high → HasNone bits (64 * j) high
none_in_word bits j high none h k has low below = elim (cases_lt k (64 * (j + 1))) [
  | inl here ↦ none (k % 64) (ap (λ i. bit_at (get_or bits i 0) (k % 64)) (omega arith) ∙ has)
  | inr above ↦ h k has above below
]

pub last_in_word : (bits : List ℕ) (j b high : ℕ) → IsLastBit (get_or bits j 0) b → 64 * j + b < high → HasNone bits (64 * (j + 1)) high → IsLastSet bits 0 high (64 * j + b)
last_in_word bits j b high h l none = record {
  set = place (64 * j + b) j b (omega (arith, h.within)) (omega (arith, h.within)) h.set;
  from = omega arith;
  below = l;
  last = λ k has below. elim (cases_lt (64 * j + b) k) [
    | inl more ↦ (elim (cases_lt k (64 * (j + 1))) [
      | inl here ↦ absurd (omega (arith, more, here, h.last (k % 64) (ap (λ i. bit_at (get_or bits i 0) (k % 64)) (omega arith) ∙ has)))
      | inr above ↦ absurd (none k has above below)
    ])
    | inr le ↦ le
  ];
} where
  place : (k j b : ℕ) → k / 64 ≡ j → k % 64 ≡ b → bit_at (get_or bits j 0) b ≡ 1 → Has bits k
  place k j b e f p = ap (λ i. bit_at (get_or bits i 0) (k % 64)) e ∙ ap (bit_at (get_or bits j 0)) f ∙ p

pub none_beside : (bits : List ℕ) (bound cut : ℕ) → IsCutBelow (get_or bits (bound / 64) 0) (bound % 64) cut → IsLastOf cut None → HasNone bits (64 * (bound / 64)) bound
none_beside bits bound cut is none k has low below = none (k % 64) ((is.each (k % 64)).1 (omega arith, ap (λ i. bit_at (get_or bits i 0) (k % 64)) (omega arith) ∙ has))

pub last_beside_is : (bits : List ℕ) (bound cut b : ℕ) → IsCutBelow (get_or bits (bound / 64) 0) (bound % 64) cut → IsLastBit cut b → IsLastSet bits (64 * (bound / 64)) bound (bound - bound % 64 + b)
last_beside_is bits bound cut b is h =
    let here = (is.each b).0 h.set in
    let low : b < bound % 64 = here.0 in
    record {
      set = ap (λ i. bit_at (get_or bits i 0) ((bound - bound % 64 + b) % 64)) (omega (arith, low)) ∙ ap (bit_at (get_or bits (bound / 64) 0)) (omega (arith, low)) ∙ here.1;
      from = omega arith;
      below = omega (arith, low);
      last = λ k has below. elim (cases_lt (bound - bound % 64 + b) k) [
        | inl more ↦ absurd (omega (arith, low, more, below, h.last (k % 64) ((is.each (k % 64)).1 (omega (arith, low, more, below), ap (λ i. bit_at (get_or bits i 0) (k % 64)) (omega (arith, low, more, below)) ∙ has))))
        | inr le ↦ le
      ];
    }

-- nothing beside the bound, so the last of the words before it
pub last_before : (bits : List ℕ) (bound : ℕ) (found : Option ℕ) → HasNone bits (64 * (bound / 64)) bound → IsLastSetIn bits 0 (64 * (bound / 64)) found → IsLastSetIn bits 0 bound found
last_before bits bound None none h = λ k has low below. elim (cases_lt k (64 * (bound / 64))) [ inl here ↦ h k has low here | inr above ↦ none k has above below ]
last_before bits bound (Some g) none h = record {
  set = h.set;
  from = h.from;
  below = omega (arith, h.below);
  last = λ k has below. elim (cases_lt k (64 * (bound / 64))) [ inl here ↦ h.last k has here | inr above ↦ absurd (none k has above below) ];
}

-- ---- adding several

abbrev no_class : ClassId
no_class = record { 0 = 0 }

pub adds_more : (heights : List ℕ) (ids : List ClassId) (i : ℕ) (start old new : List ℕ) → i < length ids → Adds start old (IsHeightAmong heights ids i) → Adds old new (λ g. g ≡ get_or heights (get_or ids i no_class).0 0) → Adds start new (IsHeightAmong heights ids (i + 1))
adds_more heights ids i start old new l h more = record { same_length = more.same_length ∙ h.same_length; each = λ g. (λ p. there g ((more.each g).0 p), λ q. back g q) } where
  wider : (g : ℕ) → IsHeightAmong heights ids i g → IsHeightAmong heights ids (i + 1) g
  wider g a = record { place = a.place; class = a.class; within = omega (arith, a.within); there = a.there; height = a.height }

  there : (g : ℕ) → (Has old g ⊎ (g ≡ get_or heights (get_or ids i no_class).0 0)) → Has start g ⊎ IsHeightAmong heights ids (i + 1) g
  there g (inl p) = elim ((h.each g).0 p) [ inl a ↦ inl a | inr b ↦ inr (wider g b) ]
  there g (inr e) = inr (record { place = i; class = get_or ids i no_class; within = omega arith; there = slice_get-get_or ids i no_class l; height = e })

  last : (g : ℕ) (a : IsHeightAmong heights ids (i + 1) g) → ((a.place ≡ i) ⊎ (a.place ≡ i → ⊥)) → Has new g
  last g a (inl e) = (more.each g).1 (inr (a.height ∙ ap (λ (k : ClassId). get_or heights k.0 0) (sym (get_or_from_slice_get ids a.place a.class no_class a.there) ∙ ap (λ n. get_or ids n no_class) e)))
  last g a (inr d) = (more.each g).1 (inl ((h.each g).1 (inr (record { place = a.place; class = a.class; within = lower a.place d a.within; there = a.there; height = a.height })))) where
    lower : (p : ℕ) → (p ≡ i → ⊥) → p < i + 1 → p < i
    lower p d l = elim (cases_lt p i) [ inl a ↦ a | inr b ↦ absurd (d (omega (arith, b, l))) ]

  back : (g : ℕ) → (Has start g ⊎ IsHeightAmong heights ids (i + 1) g) → Has new g
  back g (inl p) = (more.each g).1 (inl ((h.each g).1 (inl p)))
  back g (inr a) = last g a (cases_eq a.place i)
