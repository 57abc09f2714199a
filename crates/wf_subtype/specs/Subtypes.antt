-- Subtyping (JVMS 6.5, instanceof), by classes and arrays and by their numbers.
use Rattle.std.specs.Prelude.{◌≡◌, ℕ, zero, suc, ◌+◌, ◌-◌, ◌≤◌, ◌⊎◌, List, length, codes, Option, Some, None, slice_get}
use Rattle.wf_data.specs.declared.class_info.ClassInfo.{ClassInfo}
use Rattle.wf_names.specs.Names.{object_name}
use Rattle.wf_classes.specs.World.{class_of}
use Rattle.wf_classes.specs.Above.{IsAbove}
use Rattle.wf_subtype.specs.declared.reference.Inner.{Inner}
use Rattle.wf_subtype.specs.declared.reference.Inner.TheVariants.{Class, Primitive}
use Rattle.wf_subtype.specs.declared.reference.Reference.{Reference}
use Rattle.wf_subtype.specs.References.{Refers, target_number, class_of_objects}

-- ---- subtyping

abbrev pub cloneable_name : List ℕ
cloneable_name = codes "java/lang/Cloneable"

abbrev pub serializable_name : List ℕ
serializable_name = codes "java/io/Serializable"

-- the classes that every array is under (JVMS 4.10.1.2, JLS 10.7)
pub data IsAboveArrays (classes : List ClassInfo) (c : ℕ) : Type 0 where
  object : class_of classes object_name ≡ Some c → IsAboveArrays classes c
  cloneable : class_of classes cloneable_name ≡ Some c → IsAboveArrays classes c
  serializable : class_of classes serializable_name ≡ Some c → IsAboveArrays classes c

-- a class is under itself, its superclasses and superinterfaces, a primitive type under itself alone
abbrev pub IsInnerUnder : List ClassInfo → Inner → Inner → Type 0
IsInnerUnder classes (Class c) (Class d) = IsAbove classes c.0 d.0
IsInnerUnder classes (Class c) (Primitive q) = ⊥
IsInnerUnder classes (Primitive p) (Class d) = ⊥
IsInnerUnder classes (Primitive p) (Primitive q) = p ≡ q

-- a class is above arrays, and a primitive type isn't
abbrev pub IsInnerAboveArrays : List ClassInfo → Inner → Type 0
IsInnerAboveArrays classes (Class d) = IsAboveArrays classes d.0
IsInnerAboveArrays classes (Primitive q) = ⊥

-- What has m dimensions over x is under what has n dimensions over y (JVMS 6.5, instanceof): two classes, or two
-- primitive components; an array under one of the classes above arrays; two arrays, by their components.
abbrev pub IsUnder : List ClassInfo → ℕ → Inner → ℕ → Inner → Type 0
IsUnder classes zero x zero y = IsInnerUnder classes x y
IsUnder classes zero x (suc n) y = ⊥
IsUnder classes (suc m) x zero y = IsInnerAboveArrays classes y
IsUnder classes (suc m) x (suc n) y = IsUnder classes m x n y

-- ---- types and targets by their numbers

-- The types of a run: the classes, the names of the types in their order, what these are names of, and the greatest
-- number of dimensions among them.
pub record AllTypes : Type 0 where
  pub classes : List ClassInfo
  pub names : List (List ℕ)
  pub references : List Reference
  pub deepest : ℕ

-- a number is that of a class or an array
pub record IsTargetOf (types : AllTypes) (u : ℕ) (r : Reference) : Type 0 where
  pub number : u ≡ target_number (length types.classes) types.deepest r

-- the number of a class or an array, if there is one
abbrev pub IsNumberOf : AllTypes → Option Reference → Option ℕ → Type 0
IsNumberOf types None u = u ≡ None
IsNumberOf types (Some r) None = ⊥
IsNumberOf types (Some r) (Some u) = IsTargetOf types u r

-- the number of what a name is the name of, if it is that of a class or an array
abbrev pub IsTargetFound : AllTypes → List ℕ → Option ℕ → Type 0
IsTargetFound types name None = (r : Reference) → Refers types.classes name r → ⊥
IsTargetFound types name (Some u) = (r : Reference) × Refers types.classes name r × IsTargetOf types u r

-- Type t is under target u: null is under everything, and a type under the classes and arrays of the number u that
-- it is a subtype of.
pub data IsSubtype (types : AllTypes) (t u : ℕ) : Type 0 where
  null : t ≡ 0 → IsSubtype types t u
  under : (i : ℕ) (r s : Reference) → t ≡ i + 1 → slice_get types.references i ≡ Some r → IsTargetOf types u s → IsUnder types.classes r.dims r.inner s.dims s.inner → IsSubtype types t u

-- class c is the one whose members the objects of type t have
pub record IsClassOfType (types : AllTypes) (t c : ℕ) : Type 0 where
  pub reference : Reference
  pub there : slice_get types.references (t - 1) ≡ Some reference
  pub class : class_of_objects types.classes reference.dims reference.inner ≡ Some c

-- each type is what its name is the name of
pub record AreReferences (classes : List ClassInfo) (names : List (List ℕ)) (references : List Reference) : Type 0 where
  pub count : length references ≡ length names
  pub each : (i : ℕ) (name : List ℕ) (r : Reference) → slice_get names i ≡ Some name → slice_get references i ≡ Some r → Refers classes name r

-- the greatest number of dimensions, or 0 where there is no type
pub record IsDeepest (references : List Reference) (deepest : ℕ) : Type 0 where
  pub within : (i : ℕ) (r : Reference) → slice_get references i ≡ Some r → r.dims ≤ deepest
  pub reached : (deepest ≡ 0) ⊎ ((i : ℕ) × (r : Reference) × (slice_get references i ≡ Some r) × (r.dims ≡ deepest))

-- a name is that of a class or an array
pub record IsNameOfSome (classes : List ClassInfo) (name : List ℕ) : Type 0 where
  pub reference : Reference
  pub refers : Refers classes name reference

-- what the first n names are names of
pub record AreFirstReferences (classes : List ClassInfo) (names : List (List ℕ)) (n : ℕ) (references : List Reference) : Type 0 where
  pub count : length references ≡ n
  pub each : (i : ℕ) (name : List ℕ) (r : Reference) → slice_get names i ≡ Some name → slice_get references i ≡ Some r → Refers classes name r
