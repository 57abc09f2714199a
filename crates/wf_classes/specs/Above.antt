-- The classes above a class, and sets of heights as words of bits.
use Rattle.std.specs.Prelude.{◌≡◌, ℕ, ◌/◌, ◌%◌, ◌<◌, ◌≤◌, ◌↔◌, ◌⊎◌, List, length, Option, Some, None, slice_get, slice_index}
use Rattle.std.specs.Int.{bit_at}
use Rattle.wf_base.specs.declared.ids.ClassId.{ClassId}
use Rattle.wf_data.specs.declared.class_info.ClassInfo.{ClassInfo}
use Rattle.wf_classes.specs.World.{superclass_of, superinterfaces_of, AreHeights}

-- ---- classes

-- s is the superclass of class c, or an interface of its list (JVMS 4.1, super_class and interfaces)
pub data IsDirectlyAbove (classes : List ClassInfo) (c : ℕ) : ℕ → Type 0 where
  superclass : (s : ℕ) → superclass_of classes c ≡ Some s → IsDirectlyAbove classes c s
  superinterface : (i s : ℕ) → slice_get (superinterfaces_of classes c) i ≡ Some s → IsDirectlyAbove classes c s

-- Class d is class c itself, or above a class that is directly above c (JVMS 6.5, instanceof: what an object of
-- class c is an instance of).
pub data IsAbove (classes : List ClassInfo) : ℕ → ℕ → Type 0 where
  itself : (c : ℕ) → IsAbove classes c c
  through : (c s d : ℕ) → IsDirectlyAbove classes c s → IsAbove classes s d → IsAbove classes c d

-- ---- the classes above one class

-- The classes above a class, with an order of all classes by their heights.
pub record ClassesAbove : Type 0 where
  pub classes : List ClassInfo
  pub class : ℕ
  pub order : List ℕ
  pub heights : List ℕ

-- class d is one of them, and its height is below a bound
pub record IsBelow (above : ClassesAbove) (bound d : ℕ) : Type 0 where
  pub is : IsAbove above.classes above.class d
  pub lower : slice_index above.heights d < bound

-- of those below a bound class d has the greatest height
pub record IsHighest (above : ClassesAbove) (bound d : ℕ) : Type 0 where
  pub is : IsBelow above bound d
  pub highest : (e : ℕ) → IsBelow above bound e → slice_index above.heights e ≤ slice_index above.heights d

-- the one of greatest height below a bound, if there is one
abbrev pub IsHighestBelow : ClassesAbove → ℕ → Option ClassId → Type 0
IsHighestBelow above bound None = (e : ℕ) → IsBelow above bound e → ⊥
IsHighestBelow above bound (Some d) = IsHighest above bound d.0

-- ---- sets of heights (this project's own)

-- bit h is set
abbrev pub Has : List ℕ → ℕ → Type 0
Has bits h = bit_at (slice_index bits (h / 64)) (h % 64) ≡ 1

-- the second set has what the first has, and what is added
pub record Adds (old new : List ℕ) (added : ℕ → Type 0) : Type 0 where
  pub same_length : length new ≡ length old
  pub each : (h : ℕ) → Has new h ↔ (Has old h ⊎ added h)

-- h is the height of one of the first n of these classes
pub record IsHeightAmong (heights : List ℕ) (ids : List ClassId) (n h : ℕ) : Type 0 where
  pub place : ℕ
  pub class : ClassId
  pub within : place < n
  pub there : slice_get ids place ≡ Some class
  pub height : h ≡ slice_index heights class.0

-- the bits of a word that are below one
pub record IsCutBelow (word bound cut : ℕ) : Type 0 where
  pub each : (k : ℕ) → (bit_at cut k ≡ 1) ↔ ((k < bound) × (bit_at word k ≡ 1))

-- bit b is set in a word and none above it is
pub record IsLastBit (word b : ℕ) : Type 0 where
  pub within : b < 64
  pub set : bit_at word b ≡ 1
  pub last : (k : ℕ) → bit_at word k ≡ 1 → k ≤ b

-- the last bit that is set, if there is one
abbrev pub IsLastOf : ℕ → Option ℕ → Type 0
IsLastOf word None = (k : ℕ) → bit_at word k ≡ 1 → ⊥
IsLastOf word (Some b) = IsLastBit word b

-- h is in a set, from one bound to below another, and the greatest of these
pub record IsLastSet (bits : List ℕ) (low high h : ℕ) : Type 0 where
  pub set : Has bits h
  pub from : low ≤ h
  pub below : h < high
  pub last : (k : ℕ) → Has bits k → k < high → k ≤ h

abbrev pub IsLastSetIn : List ℕ → ℕ → ℕ → Option ℕ → Type 0
IsLastSetIn bits low high None = (k : ℕ) → Has bits k → low ≤ k → k < high → ⊥
IsLastSetIn bits low high (Some h) = IsLastSet bits low high h

-- ---- the sweep

-- h is the height of a class directly above class c
pub record IsHeightOfDirect (classes : List ClassInfo) (heights : List ℕ) (c h : ℕ) : Type 0 where
  pub class : ℕ
  pub direct : IsDirectlyAbove classes c class
  pub height : h ≡ slice_index heights class

-- h is the height of a class above one
pub record IsHeightOfAbove (classes : List ClassInfo) (heights : List ℕ) (class h : ℕ) : Type 0 where
  pub above : ℕ
  pub is : IsAbove classes class above
  pub inside : above < length classes
  pub height : h ≡ slice_index heights above

-- Only classes above one are marked, the class itself is, and what stands directly above the marked ones whose
-- heights are not below a bound.
pub record IsSwept (classes : List ClassInfo) (heights : List ℕ) (class bound : ℕ) (bits : List ℕ) : Type 0 where
  pub start : Has bits (slice_index heights class)
  pub sound : (h : ℕ) → Has bits h → IsHeightOfAbove classes heights class h
  pub closed : (d s : ℕ) → d < length classes → bound ≤ slice_index heights d → Has bits (slice_index heights d) → IsDirectlyAbove classes d s → Has bits (slice_index heights s)

-- the set has the heights of the classes above one, and no others
pub record MarksAbove (classes : List ClassInfo) (heights : List ℕ) (class : ℕ) (bits : List ℕ) : Type 0 where
  pub each : (d : ℕ) → d < length classes → Has bits (slice_index heights d) ↔ IsAbove classes class d
  pub only : (h : ℕ) → Has bits h → IsHeightOfAbove classes heights class h

-- what is kept with the classes above one
pub record IsAboveKept (classes : List ClassInfo) (order heights : List ℕ) (class : ℕ) (bits : List ℕ) : Type 0 where
  pub inside : class < length classes
  pub few : length classes ≤ 65536
  pub size : length bits ≡ 1024
  pub ranked : AreHeights classes order heights
  pub marked : MarksAbove classes heights class bits
