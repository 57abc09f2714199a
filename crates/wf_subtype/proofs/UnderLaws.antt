-- Laws of subtyping and of numbers.
use Rattle.std.proofs.Common.{◌≡◌, ℕ, zero, suc, ◌+◌, ◌*◌, ◌<◌, ◌≤◌, ◌⊎◌, ◌↔◌, inl, inr, List, length, Option, Some, None, refl, sym, ap, subst, ◌∙◌, arith}
use Rattle.std.specs.Prelude.{slice_get}
use Rattle.std.proofs.Math.Nat.{mul-le-mul_right, suc-mul}
use Rattle.std.proofs.lemmas.Bool.{cases_lt}
use Rattle.wf_data.specs.declared.class_info.ClassInfo.{ClassInfo}
use Rattle.wf_classes.specs.World.{AreHeights, IsClosedWorld, IsAscending, class_of, name_at, superclass_of, superinterfaces_of}
use Rattle.wf_classes.specs.Above.{IsAbove, IsDirectlyAbove}
use Rattle.wf_classes.specs.Above.IsAbove.{itself, through}
use Rattle.wf_classes.specs.Above.IsDirectlyAbove.{superclass, superinterface}
use Rattle.wf_classes.proofs.Ranking.{super_is, interface_is}
use Rattle.wf_classes.proofs.Sweep.{above_through, above_antisymmetric}
use Rattle.wf_subtype.specs.declared.reference.Inner.{Inner}
use Rattle.wf_subtype.specs.declared.reference.Inner.TheVariants.{Class, Primitive}
use Rattle.wf_subtype.specs.declared.reference.Reference.{Reference}
use Rattle.wf_subtype.specs.References.{inner_number, target_number}
use Rattle.wf_subtype.specs.Subtypes.{AllTypes, IsAboveArrays, IsInnerUnder, IsInnerAboveArrays, IsUnder, IsSubtype, IsTargetOf, AreReferences, IsDeepest}
use Rattle.wf_subtype.specs.Subtypes.IsAboveArrays.{object, cloneable, serializable}
use Rattle.wf_subtype.specs.Subtypes.IsSubtype.{null, under}
use Rattle.wf_subtype.specs.Rows.{IsThere}
use Rattle.wf_subtype.specs.Laws.{AreClosedAboveArrays, IsUnderReference}
use Rattle.wf_subtype.specs.Laws.IsUnderReference.{is_null, is_under}
use Rattle.wf_subtype.proofs.Naming.{class_there}
use Rattle.wf_subtype.proofs.Numbers.{suc_le, target_above}
use Rattle.wf_subtype.proofs.RowBits.{under_cases, under_same, under_arrays, target_below}
use Rattle.wf_subtype.proofs.TypeFacts.{name_inside, reference_there}

pub same_reference : (m n : ℕ) (x y : Inner) → m ≡ n → x ≡ y → ◌≡◌ {A = Reference} (record { dims = m; inner = x }) (record { dims = n; inner = y })
same_reference m n x y e f = ap (λ k. record { dims = k; inner = x }) e ∙ ap (λ (i : Inner). record { dims = n; inner = i }) f

-- ---- order

inner_itself : (classes : List ClassInfo) (x : Inner) → IsInnerUnder classes x x
inner_itself classes (Class c) = itself c.0
inner_itself classes (Primitive p) = refl

pub under_itself : (classes : List ClassInfo) (r : Reference) → IsUnder classes r.dims r.inner r.dims r.inner
under_itself classes r = under_same classes r.dims r.inner r.inner (inner_itself classes r.inner)

inner_through : (classes : List ClassInfo) (x y z : Inner) → IsInnerUnder classes x y → IsInnerUnder classes y z → IsInnerUnder classes x z
inner_through classes (Class a) (Class b) (Class c) p q = above_through classes a.0 b.0 c.0 p q
inner_through classes (Class a) (Class b) (Primitive c) p q = q
inner_through classes (Class a) (Primitive b) z p q = absurd p
inner_through classes (Primitive a) (Class b) z p q = absurd p
inner_through classes (Primitive a) (Primitive b) (Class c) p q = q
inner_through classes (Primitive a) (Primitive b) (Primitive c) p q = p ∙ q

arrays_through : (classes : List ClassInfo) (y z : Inner) → AreClosedAboveArrays classes → IsInnerAboveArrays classes y → IsInnerUnder classes y z → IsInnerAboveArrays classes z
arrays_through classes (Class a) (Class b) closed p q = closed.above a.0 b.0 p q
arrays_through classes (Class a) (Primitive b) closed p q = q
arrays_through classes (Primitive a) z closed p q = absurd p

pub under_through : (classes : List ClassInfo) (r s t : Reference) → AreClosedAboveArrays classes → IsUnder classes r.dims r.inner s.dims s.inner → IsUnder classes s.dims s.inner t.dims t.inner → IsUnder classes r.dims r.inner t.dims t.inner
under_through classes r s t closed p q = go (under_cases classes r.dims r.inner s.dims s.inner p) (under_cases classes s.dims s.inner t.dims t.inner q) where
  go : (((s.dims ≡ r.dims) × IsInnerUnder classes r.inner s.inner) ⊎ ((s.dims < r.dims) × IsInnerAboveArrays classes s.inner)) → (((t.dims ≡ s.dims) × IsInnerUnder classes s.inner t.inner) ⊎ ((t.dims < s.dims) × IsInnerAboveArrays classes t.inner)) → IsUnder classes r.dims r.inner t.dims t.inner
  go (inl a) (inl b) = subst (λ k. IsUnder classes r.dims r.inner k t.inner) (sym (b.0 ∙ a.0)) (under_same classes r.dims r.inner t.inner (inner_through classes r.inner s.inner t.inner a.1 b.1))
  go (inl a) (inr b) = under_arrays classes r.dims r.inner t.dims t.inner (omega (arith, a.0, b.0)) b.1
  go (inr a) (inl b) = under_arrays classes r.dims r.inner t.dims t.inner (omega (arith, a.0, b.0)) (arrays_through classes s.inner t.inner closed a.1 b.1)
  go (inr a) (inr b) = under_arrays classes r.dims r.inner t.dims t.inner (omega (arith, a.0, b.0)) b.1

inner_antisymmetric : (classes : List ClassInfo) (order heights : List ℕ) (x y : Inner) → AreHeights classes order heights → IsThere (length classes) x → IsInnerUnder classes x y → IsInnerUnder classes y x → x ≡ y
inner_antisymmetric classes order heights (Class a) (Class b) ranked there p q = ap (λ k. Class (record { 0 = k })) (above_antisymmetric classes order heights a.0 b.0 ranked there p q)
inner_antisymmetric classes order heights (Class a) (Primitive b) ranked there p q = absurd p
inner_antisymmetric classes order heights (Primitive a) (Class b) ranked there p q = absurd p
inner_antisymmetric classes order heights (Primitive a) (Primitive b) ranked there p q = ap Primitive p

pub under_antisymmetric : (classes : List ClassInfo) (order heights : List ℕ) (r s : Reference) → AreHeights classes order heights → IsThere (length classes) r.inner → IsUnder classes r.dims r.inner s.dims s.inner → IsUnder classes s.dims s.inner r.dims r.inner → r ≡ s
under_antisymmetric classes order heights r s ranked there p q = go (under_cases classes r.dims r.inner s.dims s.inner p) (under_cases classes s.dims s.inner r.dims r.inner q) where
  go : (((s.dims ≡ r.dims) × IsInnerUnder classes r.inner s.inner) ⊎ ((s.dims < r.dims) × IsInnerAboveArrays classes s.inner)) → (((r.dims ≡ s.dims) × IsInnerUnder classes s.inner r.inner) ⊎ ((r.dims < s.dims) × IsInnerAboveArrays classes r.inner)) → r ≡ s
  go (inl a) (inl b) = same_reference r.dims s.dims r.inner s.inner b.0 (inner_antisymmetric classes order heights r.inner s.inner ranked there a.1 b.1)
  go (inl a) (inr b) = absurd (omega (arith, a.0, b.0))
  go (inr a) (inl b) = absurd (omega (arith, a.0, b.0))
  go (inr a) (inr b) = absurd (omega (arith, a.0, b.0))

-- ---- numbers

inner_apart : (classes : ℕ) (x y : Inner) → IsThere classes x → IsThere classes y → inner_number classes x ≡ inner_number classes y → x ≡ y
inner_apart classes (Class a) (Class b) p q e = ap (λ k. Class (record { 0 = k })) e
inner_apart classes (Class a) (Primitive b) p q e = absurd (omega (arith, p, e))
inner_apart classes (Primitive a) (Class b) p q e = absurd (omega (arith, q, e))
inner_apart classes (Primitive a) (Primitive b) p q e = ap Primitive (omega (arith, e))

pub inner_small : (classes : ℕ) (x : Inner) → IsThere classes x → inner_number classes x < classes + 8
inner_small classes (Class c) h = omega (arith, h)
inner_small classes (Primitive p) h = omega (arith, h)

row_apart : (step m n i j : ℕ) → i < step → j < step → m * step + i ≡ n * step + j → m < n → ⊥
row_apart step m n i j p q e l = omega (arith, p, e, suc-mul m step, mul-le-mul_right step l)

pub numbers_apart : (classes m n : ℕ) (x y : Inner) → IsThere classes x → IsThere classes y → m * (classes + 8) + inner_number classes x ≡ n * (classes + 8) + inner_number classes y → (m ≡ n) × (x ≡ y)
numbers_apart classes m n x y p q e = go (cases_lt m n) (cases_lt n m) where
  go : ((m < n) ⊎ (n ≤ m)) → ((n < m) ⊎ (m ≤ n)) → (m ≡ n) × (x ≡ y)
  go (inl a) b = absurd (row_apart (classes + 8) m n (inner_number classes x) (inner_number classes y) (inner_small classes x p) (inner_small classes y q) e a)
  go (inr a) (inl b) = absurd (row_apart (classes + 8) n m (inner_number classes y) (inner_number classes x) (inner_small classes y q) (inner_small classes x p) (sym e) b)
  go (inr a) (inr b) =
      let same : m ≡ n = omega (arith, a, b) in
      (same, inner_apart classes x y p q (omega (arith, e, ap (λ k. k * (classes + 8)) same)))

-- a number is that of one class or array, where it is no deeper than the types
pub targets_apart : (classes deepest : ℕ) (r s : Reference) → IsThere classes r.inner → IsThere classes s.inner → r.dims ≤ deepest → target_number classes deepest r ≡ target_number classes deepest s → r ≡ s
targets_apart classes deepest r s p q l e = go (cases_lt deepest s.dims) where
  go : ((deepest < s.dims) ⊎ (s.dims ≤ deepest)) → r ≡ s
  go (inl d) = absurd (omega (arith, target_below classes deepest r l, e, target_above classes deepest s d, inner_small classes r.inner p, suc-mul r.dims (classes + 8), mul-le-mul_right (classes + 8) (suc_le r.dims deepest l)))
  go (inr m) = let same = numbers_apart classes r.dims s.dims r.inner s.inner p q (sym (target_below classes deepest r l) ∙ e ∙ target_below classes deepest s m) in same_reference r.dims s.dims r.inner s.inner same.0 same.1

-- ---- what is above is there

direct_inside : (classes : List ClassInfo) (c s : ℕ) → IsDirectlyAbove classes c s → s < length classes
direct_inside classes c s (superclass t e) = let h = super_is classes c s e in name_inside classes s h.name (class_there classes h.name (record { 0 = s }) (sym h.number))
direct_inside classes c s (superinterface i t e) = let h = interface_is classes c i s e in name_inside classes s h.name (class_there classes h.name (record { 0 = s }) (sym h.number))

above_inside : (classes : List ClassInfo) (c d : ℕ) → c < length classes → IsAbove classes c d → d < length classes
above_inside classes c d l (itself k) = l
above_inside classes c d l (through k s e p q) = above_inside classes s d (direct_inside classes c s p) q

named_inside : (classes : List ClassInfo) (d : ℕ) (name : List ℕ) → class_of classes name ≡ Some d → d < length classes
named_inside classes d name e = name_inside classes d name (class_there classes name (record { 0 = d }) (sym e))

arrays_inside : (classes : List ClassInfo) (d : ℕ) → IsAboveArrays classes d → d < length classes
arrays_inside classes d (object e) = named_inside classes d _ e
arrays_inside classes d (cloneable e) = named_inside classes d _ e
arrays_inside classes d (serializable e) = named_inside classes d _ e

inner_there : (classes : List ClassInfo) (x y : Inner) → IsThere (length classes) x → IsInnerUnder classes x y → IsThere (length classes) y
inner_there classes (Class a) (Class b) l h = above_inside classes a.0 b.0 l h
inner_there classes (Class a) (Primitive b) l h = absurd h
inner_there classes (Primitive a) (Class b) l h = absurd h
inner_there classes (Primitive a) (Primitive b) l h = omega (arith, l, h)

arrays_there : (classes : List ClassInfo) (y : Inner) → IsInnerAboveArrays classes y → IsThere (length classes) y
arrays_there classes (Class d) h = arrays_inside classes d.0 h
arrays_there classes (Primitive q) h = absurd h

pub under_there : (classes : List ClassInfo) (r s : Reference) → IsThere (length classes) r.inner → IsUnder classes r.dims r.inner s.dims s.inner → IsThere (length classes) s.inner
under_there classes r s l h = elim (under_cases classes r.dims r.inner s.dims s.inner h) [ inl a ↦ inner_there classes r.inner s.inner l a.1 | inr a ↦ arrays_there classes s.inner a.1 ]

-- ---- subtyping by numbers

to_reference : (types : AllTypes) (t u : ℕ) (s : Reference) → AreReferences types.classes types.names types.references → IsDeepest types.references types.deepest → IsThere (length types.classes) s.inner → IsTargetOf types u s → IsSubtype types t u → IsUnderReference types t s
to_reference types t u s named depth there target (null e) = is_null e
to_reference types t u s named depth there target (under i r q e at number h) =
    let q_there = under_there types.classes r q (reference_there types.classes types.names types.references i r named at) h in
    let shallow : q.dims ≤ types.deepest = elim (under_cases types.classes r.dims r.inner q.dims q.inner h) [ inl a ↦ omega (arith, a.0, depth.within i r at) | inr a ↦ omega (arith, a.0, depth.within i r at) ] in
    let same : q ≡ s = targets_apart (length types.classes) types.deepest q s q_there there shallow (sym number.number ∙ target.number) in
    is_under i r e at (subst (λ (x : Reference). IsUnder types.classes r.dims r.inner x.dims x.inner) same h)

from_reference : (types : AllTypes) (t u : ℕ) (s : Reference) → IsTargetOf types u s → IsUnderReference types t s → IsSubtype types t u
from_reference types t u s target (is_null e) = null e
from_reference types t u s target (is_under i r e at h) = under i r s e at target h

pub by_reference : (types : AllTypes) (t u : ℕ) (s : Reference) → AreReferences types.classes types.names types.references → IsDeepest types.references types.deepest → IsThere (length types.classes) s.inner → IsTargetOf types u s → IsSubtype types t u ↔ IsUnderReference types t s
by_reference types t u s named depth there target = (to_reference types t u s named depth there target, from_reference types t u s target)
