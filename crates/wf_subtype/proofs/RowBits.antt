-- Which bits are put into rows.
use Rattle.std.proofs.Common.{◌≡◌, ℕ, zero, suc, ◌+◌, ◌*◌, ◌/◌, ◌%◌, ◌<◌, ◌≤◌, ◌↔◌, ◌⊎◌, inl, inr, Bool, true, false, List, length, Option, Some, None, get_or, refl, sym, ap, subst, ◌∙◌, arith}
use Rattle.std.specs.Prelude.{slice_get, if◌then◌else◌}
use Rattle.std.proofs.lemmas.Bool.{cases_lt, cases_eq, le-leb, eq-eqb, eqb-true}
use Rattle.std.proofs.lemmas.Option.{slice_get_within}
use Rattle.std.specs.Int.{bit_at}
use Rattle.wf_lattice.specs.Words.{has_bit, words_of}
use Rattle.wf_base.specs.declared.ids.ClassId.{ClassId}
use Rattle.wf_data.specs.declared.class_info.ClassInfo.{ClassInfo}
use Rattle.wf_classes.specs.World.{AreHeights, number_in}
use Rattle.wf_classes.specs.Above.{Has, IsAbove, ClassesAbove, IsBelow, IsHighest}
use Rattle.wf_classes.proofs.Sweep.{height_there, same_height, above_falls}
use Rattle.wf_subtype.specs.declared.reference.Inner.{Inner}
use Rattle.wf_subtype.specs.declared.reference.Inner.TheVariants.{Class, Primitive}
use Rattle.wf_subtype.specs.declared.reference.Reference.{Reference}
use Rattle.wf_subtype.specs.declared.rows.ArrayClasses.{ArrayClasses}
use Rattle.wf_subtype.specs.declared.rows.Rows.{Rows}
use Rattle.wf_subtype.specs.References.{inner_number, target_number, target_count}
use Rattle.wf_subtype.specs.Subtypes.{AllTypes, IsAboveArrays, IsInnerUnder, IsInnerAboveArrays, IsUnder, IsSubtype, AreReferences, IsDeepest}
use Rattle.wf_subtype.specs.Subtypes.IsAboveArrays.{object, cloneable, serializable}
use Rattle.wf_subtype.specs.Subtypes.IsSubtype.{null, under}
use Rattle.wf_subtype.specs.Rows.{AreRows, AreFresh, AreArrayClasses, HaveMasks, IsMask, Puts, IsBit, IsClassBit, IsArraysBit, IsInnerBit, IsTypeBit, IsBitBelow, row_at, row_words}

-- ---- putting one set of bits after another

pub puts_none : (rows : Rows) (P : ℕ → ℕ → Type 0) → AreRows rows → ((u b : ℕ) → P u b → ⊥) → Puts rows rows P
puts_none rows P kept none = record {
  kept = kept;
  width = refl;
  count = refl;
  each = λ u b l. (λ p. inl p, λ q. elim q [ inl a ↦ a | inr p ↦ absurd (none u b p) ]);
}

pub puts_then : (old mid new : Rows) (P Q R : ℕ → ℕ → Type 0) → ((u b : ℕ) → R u b ↔ (P u b ⊎ Q u b)) → Puts old mid P → Puts mid new Q → Puts old new R
puts_then old mid new P Q R alike h g = record {
  kept = g.kept;
  width = g.width ∙ h.width;
  count = g.count ∙ h.count;
  each = λ u b l. (
    λ p. elim ((g.each u b (omega (arith, l, h.count))).0 p) [
      | inl m ↦ (elim ((h.each u b l).0 m) [ inl a ↦ inl a | inr q ↦ inr ((alike u b).1 (inl q)) ])
      | inr q ↦ inr ((alike u b).1 (inr q))
    ],
    λ p. (g.each u b (omega (arith, l, h.count))).1 (elim p [
      | inl a ↦ inl ((h.each u b l).1 (inl a))
      | inr r ↦ (elim ((alike u b).0 r) [ inl q ↦ inl ((h.each u b l).1 (inr q)) | inr q ↦ inr q ])
    ]),
  );
}

pub puts_alike : (old new : Rows) (P Q : ℕ → ℕ → Type 0) → ((u b : ℕ) → P u b → Q u b) → ((u b : ℕ) → Q u b → P u b) → Puts old new P → Puts old new Q
puts_alike old new P Q to from h = record {
  kept = h.kept;
  width = h.width;
  count = h.count;
  each = λ u b l. (
    λ p. elim ((h.each u b l).0 p) [ inl a ↦ inl a | inr q ↦ inr (to u b q) ],
    λ p. (h.each u b l).1 (elim p [ inl a ↦ inl a | inr q ↦ inr (from u b q) ]),
  );
}

-- ---- one class

pub class_put : (old new : Rows) (first b : ℕ) (c : ClassId) → Puts old new (IsBit (first + c.0) b) → Puts old new (IsClassBit first b (λ d. Some c.0 ≡ Some d))
class_put old new first b c h = puts_alike old new (IsBit (first + c.0) b) (IsClassBit first b (λ d. Some c.0 ≡ Some d)) (λ u k p. record { class = c.0; is = refl; target = p.target; bit = p.bit })
    (λ u k p. record { target = p.target ∙ ap (λ d. first + d) (same p.class p.is); bit = p.bit }) h where
      same : (d : ℕ) → Some c.0 ≡ Some d → d ≡ c.0
      same d e = cc

pub no_class_put : (rows : Rows) (first b : ℕ) → AreRows rows → Puts rows rows (IsClassBit first b (λ d. None ≡ Some d))
no_class_put rows first b kept = puts_none rows (IsClassBit first b (λ d. None ≡ Some d)) kept (λ u k p. none p.class p.is) where
  none : (d : ℕ) → None ≡ Some d → ⊥
  none d e = absurd cc

-- ---- the classes above arrays

-- the class of an optional number
abbrev Numbered : ℕ → ℕ → Option ClassId → ℕ → ℕ → Type 0
Numbered first b class = IsClassBit first b (λ c. number_in class ≡ Some c)

array_split : (classes : List ClassInfo) (above : ArrayClasses) (first b u k : ℕ) → AreArrayClasses classes above → IsClassBit first b (IsAboveArrays classes) u k → (Numbered first b above.object u k ⊎ Numbered first b above.cloneable u k) ⊎ Numbered first b above.serializable u k
array_split classes above first b u k are p = go p.is where
  go : IsAboveArrays classes p.class → (Numbered first b above.object u k ⊎ Numbered first b above.cloneable u k) ⊎ Numbered first b above.serializable u k
  go (object e) = inl (inl (record { class = p.class; is = are.object ∙ e; target = p.target; bit = p.bit }))
  go (cloneable e) = inl (inr (record { class = p.class; is = are.cloneable ∙ e; target = p.target; bit = p.bit }))
  go (serializable e) = inr (record { class = p.class; is = are.serializable ∙ e; target = p.target; bit = p.bit })

array_joined : (classes : List ClassInfo) (above : ArrayClasses) (first b u k : ℕ) → AreArrayClasses classes above → ((Numbered first b above.object u k ⊎ Numbered first b above.cloneable u k) ⊎ Numbered first b above.serializable u k) → IsClassBit first b (IsAboveArrays classes) u k
array_joined classes above first b u k are (inl (inl p)) = record { class = p.class; is = object (sym are.object ∙ p.is); target = p.target; bit = p.bit }
array_joined classes above first b u k are (inl (inr p)) = record { class = p.class; is = cloneable (sym are.cloneable ∙ p.is); target = p.target; bit = p.bit }
array_joined classes above first b u k are (inr p) = record { class = p.class; is = serializable (sym are.serializable ∙ p.is); target = p.target; bit = p.bit }

pub array_classes_put : (classes : List ClassInfo) (above : ArrayClasses) (first b : ℕ) (r0 r1 r2 r3 : Rows) → AreArrayClasses classes above
    → Puts r0 r1 (IsClassBit first b (λ c. number_in above.object ≡ Some c)) → Puts r1 r2 (IsClassBit first b (λ c. number_in above.cloneable ≡ Some c)) → Puts r2 r3 (IsClassBit first b (λ c. number_in above.serializable ≡ Some c))
    → Puts r0 r3 (IsClassBit first b (IsAboveArrays classes))
array_classes_put classes above first b r0 r1 r2 r3 are h0 h1 h2 =
    puts_then r0 r2 r3 (λ u k. Numbered first b above.object u k ⊎ Numbered first b above.cloneable u k) (Numbered first b above.serializable) (IsClassBit first b (IsAboveArrays classes))
    (λ u k. (array_split classes above first b u k are, array_joined classes above first b u k are))
    (puts_then r0 r1 r2 (Numbered first b above.object) (Numbered first b above.cloneable) (λ u k. Numbered first b above.object u k ⊎ Numbered first b above.cloneable u k) (λ u k. (λ p. p, λ p. p)) h0 h1)
    h2

pub arrays_none : (classes : List ClassInfo) (rows : Rows) (b : ℕ) → AreRows rows → Puts rows rows (IsArraysBit classes 0 b)
arrays_none classes rows b kept = puts_none rows (IsArraysBit classes 0 b) kept (λ u k p. omega (arith, p.within))

pub arrays_more : (classes : List ClassInfo) (old mid new : Rows) (n b : ℕ) → Puts old mid (IsArraysBit classes n b) → Puts mid new (IsClassBit (n * (length classes + 8)) b (IsAboveArrays classes)) → Puts old new (IsArraysBit classes (n + 1) b)
arrays_more classes old mid new n b = puts_then old mid new (IsArraysBit classes n b) (IsClassBit (n * (length classes + 8)) b (IsAboveArrays classes)) (IsArraysBit classes (n + 1) b) (λ u k. (λ p. split u k p (cases_eq p.n n), joined u k)) where
  lower : (m : ℕ) → (m ≡ n → ⊥) → m < n + 1 → m < n
  lower m d l = elim (cases_lt m n) [ inl a ↦ a | inr o ↦ absurd (d (omega (arith, o, l))) ]

  split : (u k : ℕ) (p : IsArraysBit classes (n + 1) b u k) → ((p.n ≡ n) ⊎ (p.n ≡ n → ⊥)) → IsArraysBit classes n b u k ⊎ IsClassBit (n * (length classes + 8)) b (IsAboveArrays classes) u k
  split u k p (inl e) = inr (subst (λ m. IsClassBit (m * (length classes + 8)) b (IsAboveArrays classes) u k) e p.is)
  split u k p (inr d) = inl (record { n = p.n; within = lower p.n d p.within; is = p.is })

  joined : (u k : ℕ) → IsArraysBit classes n b u k ⊎ IsClassBit (n * (length classes + 8)) b (IsAboveArrays classes) u k → IsArraysBit classes (n + 1) b u k
  joined u k (inl p) = record { n = p.n; within = omega (arith, p.within); is = p.is }
  joined u k (inr p) = record { n = n; within = omega arith; is = p }

-- ---- the classes above a class

-- those whose heights are not below a bound
pub record IsAboveFrom (classes : List ClassInfo) (heights : List ℕ) (class bound d : ℕ) : Type 0 where
  pub is : IsAbove classes class d
  pub high : bound ≤ get_or heights d 0

pub above_starts : (classes : List ClassInfo) (order heights : List ℕ) (class first b : ℕ) (rows : Rows) → AreHeights classes order heights → class < length classes → AreRows rows → Puts rows rows (IsClassBit first b (IsAboveFrom classes heights class (length classes)))
above_starts classes order heights class first b rows ranked inside kept = puts_none rows (IsClassBit first b (IsAboveFrom classes heights class (length classes))) kept (λ u k p. none p.class p.is) where
  none : (d : ℕ) → IsAboveFrom classes heights class (length classes) d → ⊥
  none d h = let within = (above_falls classes order heights class d ranked inside h.is).0 in omega (arith, h.high, (height_there classes order heights d ranked within).2)

pub above_more : (above : ClassesAbove) (bound d first b : ℕ) (old mid new : Rows) → AreHeights above.classes above.order above.heights → above.class < length above.classes → IsHighest above bound d
    → Puts old mid (IsClassBit first b (IsAboveFrom above.classes above.heights above.class bound)) → Puts mid new (IsBit (first + d) b) → Puts old new (IsClassBit first b (IsAboveFrom above.classes above.heights above.class (get_or above.heights d 0)))
above_more above bound d first b old mid new ranked inside h = puts_then old mid new (IsClassBit first b (IsAboveFrom above.classes above.heights above.class bound)) (IsBit (first + d) b) (IsClassBit first b (IsAboveFrom above.classes above.heights above.class (get_or above.heights d 0)))
    (λ u k. (λ p. split u k p (cases_lt (get_or above.heights p.class 0) bound), joined u k)) where
      within : (e : ℕ) → IsAbove above.classes above.class e → e < length above.classes
      within e is = (above_falls above.classes above.order above.heights above.class e ranked inside is).0

      split : (u k : ℕ) (p : IsClassBit first b (IsAboveFrom above.classes above.heights above.class (get_or above.heights d 0)) u k) → ((get_or above.heights p.class 0 < bound) ⊎ (bound ≤ get_or above.heights p.class 0)) → IsClassBit first b (IsAboveFrom above.classes above.heights above.class bound) u k ⊎ IsBit (first + d) b u k
      split u k p (inl l) =
          let highest = h.highest p.class (record { is = p.is.is; lower = l }) in
          let same : p.class ≡ d = same_height above.classes above.order above.heights p.class d ranked (within p.class p.is.is) (within d h.is.is) (omega (arith, highest, p.is.high)) in
          inr (record { target = p.target ∙ ap (λ e. first + e) same; bit = p.bit })
      split u k p (inr o) = inl (record { class = p.class; is = record { is = p.is.is; high = o }; target = p.target; bit = p.bit })

      joined : (u k : ℕ) → IsClassBit first b (IsAboveFrom above.classes above.heights above.class bound) u k ⊎ IsBit (first + d) b u k → IsClassBit first b (IsAboveFrom above.classes above.heights above.class (get_or above.heights d 0)) u k
      joined u k (inl p) = record { class = p.class; is = record { is = p.is.is; high = omega (arith, p.is.high, h.is.lower) }; target = p.target; bit = p.bit }
      joined u k (inr p) = record { class = d; is = record { is = h.is.is; high = omega arith }; target = p.target; bit = p.bit }

pub above_ends : (above : ClassesAbove) (bound first b : ℕ) (old new : Rows) → ((e : ℕ) → IsBelow above bound e → ⊥)
    → Puts old new (IsClassBit first b (IsAboveFrom above.classes above.heights above.class bound)) → Puts old new (IsClassBit first b (IsAbove above.classes above.class))
above_ends above bound first b old new none = puts_alike old new (IsClassBit first b (IsAboveFrom above.classes above.heights above.class bound)) (IsClassBit first b (IsAbove above.classes above.class))
    (λ u k p. record { class = p.class; is = p.is.is; target = p.target; bit = p.bit })
    (λ u k p. record { class = p.class; is = record { is = p.is; high = high p.class p.is (cases_lt (get_or above.heights p.class 0) bound) }; target = p.target; bit = p.bit }) where
      high : (e : ℕ) → IsAbove above.classes above.class e → ((get_or above.heights e 0 < bound) ⊎ (bound ≤ get_or above.heights e 0)) → bound ≤ get_or above.heights e 0
      high e is (inl l) = absurd (none e (record { is = is; lower = l }))
      high e is (inr o) = o

-- ---- an inner type

pub class_inner_put : (classes : List ClassInfo) (old new : Rows) (c : ClassId) (first b : ℕ) → Puts old new (IsClassBit first b (IsAbove classes c.0)) → Puts old new (IsInnerBit classes (Class c) first b)
class_inner_put classes old new c first b = puts_alike old new (IsClassBit first b (IsAbove classes c.0)) (IsInnerBit classes (Class c) first b) (λ u k p. record { above = Class (record { 0 = p.class }); is = p.is; target = p.target; bit = p.bit })
    (λ u k p. from u k p.above p.is p.target p.bit) where
      from : (u k : ℕ) (y : Inner) → IsInnerUnder classes (Class c) y → u ≡ first + inner_number (length classes) y → k ≡ b → IsClassBit first b (IsAbove classes c.0) u k
      from u k (Class d) is e f = record { class = d.0; is = is; target = e; bit = f }
      from u k (Primitive q) is e f = absurd is

pub primitive_put : (classes : List ClassInfo) (old new : Rows) (p first b : ℕ) → Puts old new (IsBit (first + (length classes + p)) b) → Puts old new (IsInnerBit classes (Primitive p) first b)
primitive_put classes old new q first b = puts_alike old new (IsBit (first + (length classes + q)) b) (IsInnerBit classes (Primitive q) first b) (λ u k p. record { above = Primitive q; is = refl; target = p.target; bit = p.bit })
    (λ u k p. from u k p.above p.is p.target p.bit) where
      from : (u k : ℕ) (y : Inner) → IsInnerUnder classes (Primitive q) y → u ≡ first + inner_number (length classes) y → k ≡ b → IsBit (first + (length classes + q)) b u k
      from u k (Class d) is e f = absurd is
      from u k (Primitive r) is e f = record { target = e ∙ ap (λ s. first + (length classes + s)) (sym is); bit = f }

-- ---- a type

-- what a class or an array is under, by dimensions
pub under_cases : (classes : List ClassInfo) (m : ℕ) (x : Inner) (n : ℕ) (y : Inner) → IsUnder classes m x n y → ((n ≡ m) × IsInnerUnder classes x y) ⊎ ((n < m) × IsInnerAboveArrays classes y)
under_cases classes zero x zero y h = inl (refl, h)
under_cases classes zero x (suc n) y h = absurd h
under_cases classes (suc m) x zero y h = inr (omega arith, h)
under_cases classes (suc m) x (suc n) y h = elim (under_cases classes m x n y h) [ inl a ↦ inl (ap suc a.0, a.1) | inr b ↦ inr (omega (arith, b.0), b.1) ]

pub under_same : (classes : List ClassInfo) (m : ℕ) (x y : Inner) → IsInnerUnder classes x y → IsUnder classes m x m y
under_same classes zero x y h = h
under_same classes (suc m) x y h = under_same classes m x y h

pub under_arrays : (classes : List ClassInfo) (m : ℕ) (x : Inner) (n : ℕ) (y : Inner) → n < m → IsInnerAboveArrays classes y → IsUnder classes m x n y
under_arrays classes zero x n y l h = absurd (omega (arith, l))
under_arrays classes (suc m) x zero y l h = h
under_arrays classes (suc m) x (suc n) y l h = under_arrays classes m x n y (omega (arith, l)) h

pub type_put : (classes : List ClassInfo) (r : Reference) (b : ℕ) (old mid new : Rows) → Puts old mid (IsArraysBit classes r.dims b) → Puts mid new (IsInnerBit classes r.inner (r.dims * (length classes + 8)) b) → Puts old new (IsTypeBit classes r b)
type_put classes r b old mid new = puts_then old mid new (IsArraysBit classes r.dims b) (IsInnerBit classes r.inner (r.dims * (length classes + 8)) b) (IsTypeBit classes r b) (λ u k. (λ p. split u k p.dims p.inner p.target p.bit (under_cases classes r.dims r.inner p.dims p.inner p.under), joined u k)) where
  by_class : (u k n : ℕ) (y : Inner) → u ≡ n * (length classes + 8) + inner_number (length classes) y → k ≡ b → n < r.dims → IsInnerAboveArrays classes y → IsArraysBit classes r.dims b u k
  by_class u k n (Class d) e f l h = record { n = n; within = l; is = record { class = d.0; is = h; target = e; bit = f } }
  by_class u k n (Primitive q) e f l h = absurd h

  split : (u k n : ℕ) (y : Inner) → u ≡ n * (length classes + 8) + inner_number (length classes) y → k ≡ b → (((n ≡ r.dims) × IsInnerUnder classes r.inner y) ⊎ ((n < r.dims) × IsInnerAboveArrays classes y)) → IsArraysBit classes r.dims b u k ⊎ IsInnerBit classes r.inner (r.dims * (length classes + 8)) b u k
  split u k n y e f (inl a) = inr (record { above = y; is = a.1; target = e ∙ ap (λ m. m * (length classes + 8) + inner_number (length classes) y) a.0; bit = f })
  split u k n y e f (inr a) = inl (by_class u k n y e f a.0 a.1)

  joined : (u k : ℕ) → IsArraysBit classes r.dims b u k ⊎ IsInnerBit classes r.inner (r.dims * (length classes + 8)) b u k → IsTypeBit classes r b u k
  joined u k (inl p) = record { dims = p.n; inner = Class (record { 0 = p.is.class }); under = under_arrays classes r.dims r.inner p.n (Class (record { 0 = p.is.class })) p.within p.is.is; target = p.is.target; bit = p.is.bit }
  joined u k (inr p) = record { dims = r.dims; inner = p.above; under = under_same classes r.dims r.inner p.above p.is; target = p.target; bit = p.bit }

-- ---- all types

pub bits_none : (classes : List ClassInfo) (references : List Reference) (rows : Rows) → AreRows rows → Puts rows rows (IsBitBelow classes references 0)
bits_none classes references rows kept = puts_none rows (IsBitBelow classes references 0) kept (λ u k p. omega (arith, p.within))

pub bits_more : (classes : List ClassInfo) (references : List Reference) (n : ℕ) (r : Reference) (old mid new : Rows) → slice_get references n ≡ Some r → Puts old mid (IsBitBelow classes references n) → Puts mid new (IsTypeBit classes r (n + 2)) → Puts old new (IsBitBelow classes references (n + 1))
bits_more classes references n r old mid new there = puts_then old mid new (IsBitBelow classes references n) (IsTypeBit classes r (n + 2)) (IsBitBelow classes references (n + 1)) (λ u k. (λ p. split u k p (cases_eq p.place n), joined u k)) where
  lower : (m : ℕ) → (m ≡ n → ⊥) → m < n + 1 → m < n
  lower m d l = elim (cases_lt m n) [ inl a ↦ a | inr o ↦ absurd (d (omega (arith, o, l))) ]

  same : (s : Reference) → Some s ≡ Some r → s ≡ r
  same s e = cc

  split : (u k : ℕ) (p : IsBitBelow classes references (n + 1) u k) → ((p.place ≡ n) ⊎ (p.place ≡ n → ⊥)) → IsBitBelow classes references n u k ⊎ IsTypeBit classes r (n + 2) u k
  split u k p (inl e) = inr (subst (λ (s : Reference). IsTypeBit classes s (n + 2) u k) (same p.reference (sym p.there ∙ ap (slice_get references) e ∙ there)) (subst (λ m. IsTypeBit classes p.reference (m + 2) u k) e p.is))
  split u k p (inr d) = inl (record { place = p.place; within = lower p.place d p.within; reference = p.reference; there = p.there; is = p.is })

  joined : (u k : ℕ) → IsBitBelow classes references n u k ⊎ IsTypeBit classes r (n + 2) u k → IsBitBelow classes references (n + 1) u k
  joined u k (inl p) = record { place = p.place; within = omega (arith, p.within); reference = p.reference; there = p.there; is = p.is }
  joined u k (inr p) = record { place = n; within = omega arith; reference = r; there = there; is = p }

-- ---- masks

-- arrays of no more dimensions than the deepest type have numbers of their own
pub target_below : (classes deepest : ℕ) (r : Reference) → r.dims ≤ deepest → target_number classes deepest r ≡ r.dims * (classes + 8) + inner_number classes r.inner
target_below classes deepest r l = ap (λ (t : Bool). if t then r.dims * (classes + 8) + inner_number classes r.inner else (deepest + 1) * (classes + 8)) (le-leb r.dims deepest l)

bit_has : (words : List ℕ) (b : ℕ) → (has_bit (words_of words) b ≡ true) ↔ Has words b
bit_has words b = (λ e. eqb-true (bit_at (get_or words (b / 64) 0) (b % 64)) 1 e, λ h. eq-eqb (bit_at (get_or words (b / 64) 0) (b % 64)) 1 h)

pub masks_are : (types : AllTypes) (fresh rows : Rows) → AreReferences types.classes types.names types.references → IsDeepest types.references types.deepest
    → AreFresh (row_words (length types.names)) (target_count (length types.classes) types.deepest) fresh → Puts fresh rows (IsBitBelow types.classes types.references (length types.references)) → HaveMasks types rows
masks_are types fresh rows named depth start puts = record {
  kept = puts.kept;
  width = puts.width ∙ start.width;
  count = puts.count ∙ start.count;
  masks = λ u l. record {
    size = puts.kept.wide (get_or rows.places.items u 0) (puts.kept.inside u (omega (arith, l, puts.count, start.count))) ∙ puts.width ∙ start.width;
    each = λ t. (λ e. is_under u t l ((puts.each u (t + 1) (inside u l)).0 ((bit_has (row_at rows u) (t + 1)).0 e)), λ s. (bit_has (row_at rows u) (t + 1)).1 ((puts.each u (t + 1) (inside u l)).1 (has_under u t l s)));
    first = no_first u l (has_bit (words_of (row_at rows u)) 0) refl;
  };
} where
  inside : (u : ℕ) → u < target_count (length types.classes) types.deepest → u < length fresh.places.items
  inside u l = omega (arith, l, start.count)

  shallow : (i : ℕ) (r : Reference) (n : ℕ) (y : Inner) → slice_get types.references i ≡ Some r → IsUnder types.classes r.dims r.inner n y → n ≤ types.deepest
  shallow i r n y there h = elim (under_cases types.classes r.dims r.inner n y h) [ inl a ↦ omega (arith, a.0, depth.within i r there) | inr a ↦ omega (arith, a.0, depth.within i r there) ]

  is_under : (u t : ℕ) → u < target_count (length types.classes) types.deepest → Has (row_at fresh u) (t + 1) ⊎ IsBitBelow types.classes types.references (length types.references) u (t + 1) → IsSubtype types t u
  is_under u t l (inl a) = null (omega (arith, (start.null u (t + 1) l).0 a))
  is_under u t l (inr p) = under p.place p.reference (record { dims = p.is.dims; inner = p.is.inner }) (omega (arith, p.is.bit)) p.there
      (record { number = p.is.target ∙ sym (target_below (length types.classes) types.deepest (record { dims = p.is.dims; inner = p.is.inner }) (shallow p.place p.reference p.is.dims p.is.inner p.there p.is.under)) }) p.is.under

  has_under : (u t : ℕ) → u < target_count (length types.classes) types.deepest → IsSubtype types t u → Has (row_at fresh u) (t + 1) ⊎ IsBitBelow types.classes types.references (length types.references) u (t + 1)
  has_under u t l (null e) = inl ((start.null u (t + 1) l).1 (omega (arith, e)))
  has_under u t l (under i r s e there target h) = inr (record {
    place = i;
    within = slice_get_within types.references i r there;
    reference = r;
    there = there;
    is = record { dims = s.dims; inner = s.inner; under = h; target = target.number ∙ target_below (length types.classes) types.deepest s (shallow i r s.dims s.inner there h); bit = omega (arith, e) };
  })

  no_first : (u : ℕ) → u < target_count (length types.classes) types.deepest → (b : Bool) → has_bit (words_of (row_at rows u)) 0 ≡ b → b ≡ false
  no_first u l false e = refl
  no_first u l true e = elim ((puts.each u 0 (inside u l)).0 ((bit_has (row_at rows u) 0).0 e)) [ inl a ↦ absurd (omega (arith, (start.null u 0 l).0 a)) | inr p ↦ absurd (omega (arith, p.is.bit)) ]

-- what a mask says of a type
pub mask_has : (types : AllTypes) (u t : ℕ) (words : List ℕ) → IsMask types u words → Has words (t + 1) ↔ IsSubtype types t u
mask_has types u t words h = (λ p. (h.each t).0 ((bit_has words (t + 1)).1 p), λ s. (bit_has words (t + 1)).0 ((h.each t).1 s))
