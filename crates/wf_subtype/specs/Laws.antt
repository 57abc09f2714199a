-- What the laws of subtyping take for granted.
use Rattle.std.specs.Prelude.{◌≡◌, ℕ, ◌+◌, List, Some, slice_get}
use Rattle.wf_data.specs.declared.class_info.ClassInfo.{ClassInfo}
use Rattle.wf_classes.specs.Above.{IsAbove}
use Rattle.wf_subtype.specs.declared.reference.Reference.{Reference}
use Rattle.wf_subtype.specs.Subtypes.{AllTypes, IsAboveArrays, IsUnder}

-- What is above a class that arrays are under is one too: java/lang/Cloneable and java/io/Serializable extend no other
-- interface (JLS 4.10.3 names no more supertypes of arrays).
pub record AreClosedAboveArrays (classes : List ClassInfo) : Type 0 where
  pub above : (c d : ℕ) → IsAboveArrays classes c → IsAbove classes c d → IsAboveArrays classes d

-- type t is null, or what it is a type of is under a class or an array
pub data IsUnderReference (types : AllTypes) (t : ℕ) (s : Reference) : Type 0 where
  is_null : t ≡ 0 → IsUnderReference types t s
  is_under : (i : ℕ) (r : Reference) → t ≡ i + 1 → slice_get types.references i ≡ Some r → IsUnder types.classes r.dims r.inner s.dims s.inner → IsUnderReference types t s
