-- Heights of classes that are there.
use Rattle.std.proofs.Common.{◌≡◌, ℕ, ◌<◌, List, length, get_or, Some, arith}
use Rattle.std.specs.Prelude.{slice_get}
use Rattle.std.proofs.lemmas.Option.{slice_get_within, slice_get-get_or, get_or_from_slice_get}
use Rattle.wf_data.specs.declared.class_info.ClassInfo.{ClassInfo}
use Rattle.wf_classes.specs.World.{AreHeights}
use Rattle.wf_classes.specs.Above.{IsDirectlyAbove, superclass, superinterface}

-- what is directly above a class is there, and lower
pub record IsLower (classes : List ClassInfo) (heights : List ℕ) (c s : ℕ) : Type 0 where
  pub there : s < length classes
  pub lower : get_or heights s 0 < get_or heights c 0

lower_is : (classes : List ClassInfo) (order heights : List ℕ) (c s h : ℕ) → AreHeights classes order heights → c < length classes → (l : ℕ) × (slice_get heights s ≡ Some l) × (l < get_or heights c 0) → IsLower classes heights c s
lower_is classes order heights c s h r k x = record {
  there = (let i = slice_get_within heights s x.0 x.1 in omega (arith, r.counted));
  lower = (let e = get_or_from_slice_get heights s x.0 0 x.1 in omega (arith, x.2));
}

pub is_lower : (classes : List ClassInfo) (order heights : List ℕ) (c s : ℕ) → AreHeights classes order heights → c < length classes → IsDirectlyAbove classes c s → IsLower classes heights c s
is_lower classes order heights c t r k (superclass s e) = lower_is classes order heights c s 0 r k (r.superclass c s (get_or heights c 0) e (slice_get-get_or heights c 0 (omega (arith, r.counted))))
is_lower classes order heights c t r k (superinterface i s e) = lower_is classes order heights c s 0 r k (r.superinterface c i s (get_or heights c 0) e (slice_get-get_or heights c 0 (omega (arith, r.counted))))
