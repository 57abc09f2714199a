-- The closed world (this project's own rule, after JVMS 5.3.5 and 5.4.3.1): which of some classes are loadable,
-- and how loadable classes are numbered.
use Rattle.std.specs.Prelude.{◌≡◌, ℕ, ◌<◌, ◌≤◌, Bool, true, false, List, [], length, map, position, sum_by, Option, Some, None, option_and_then, option_map, slice_get}
use Rattle.std.specs.Cmp.Lexicographic.{slice_cmp}
use Rattle.std.specs.List.{filter_map}
use Rattle.std.specs.List.Sorted.{IsStrictlySortedBy}
use Rattle.std.specs.Option.{option_map_or}
use Rattle.std.specs.Ordering.{nat_cmp}
use Rattle.std.specs.Str.{bytes_eq}
use Rattle.wf_base.specs.declared.ids.ClassId.{ClassId}
use Rattle.wf_data.specs.Flags.{is_interface}
use Rattle.wf_data.specs.Pool.{text_in}
use Rattle.wf_data.specs.declared.class_info.ClassInfo.{ClassInfo}
use Rattle.wf_data.specs.declared.class_info.CodeInfo.{CodeInfo}
use Rattle.wf_data.specs.declared.class_info.MethodInfo.{MethodInfo}
use Rattle.wf_data.specs.declared.class_info.PoolEntry.{PoolEntry}
use Rattle.wf_grammar.specs.Writing.{HasSpelling}
use Rattle.wf_names.specs.Names.{object_name}

-- ---- loadable classes

-- one of the classes has this name, and whether it is an interface
pub record Names (files : List ClassInfo) (interface : Bool) (name : List ℕ) : Type 0 where
  pub place : ℕ
  pub class : ClassInfo
  pub there : slice_get files place ≡ Some class
  pub named : class.name ≡ name
  pub kind : is_interface class.flags ≡ interface

-- The classes that are loadable, by their names: the least set in which java/lang/Object is a class with nothing
-- above it, and every other class has a loadable class as its superclass and loadable interfaces as its
-- superinterfaces. So a finite chain leads from each of them to java/lang/Object.
pub data Loadable (files : List ClassInfo) : List ℕ → Type 0 where
  object : (place : ℕ) (k : ClassInfo) → slice_get files place ≡ Some k → k.name ≡ object_name → k.superclass ≡ None → is_interface k.flags ≡ false → k.interfaces ≡ [] → Loadable files k.name
  below : (place : ℕ) (k : ClassInfo) (super : List ℕ) → slice_get files place ≡ Some k → k.superclass ≡ Some super → Names files false super → Loadable files super → ((i : ℕ) (name : List ℕ) → slice_get k.interfaces i ≡ Some name → Names files true name) → ((i : ℕ) (name : List ℕ) → slice_get k.interfaces i ≡ Some name → Loadable files name) → Loadable files k.name

-- ---- class order

-- texts by their bytes
abbrev pub IsAscending : List (List ℕ) → Type 0
IsAscending = IsStrictlySortedBy (slice_cmp nat_cmp)

abbrev pub names_of : List ClassInfo → List (List ℕ)
names_of classes = map (λ (k : ClassInfo). k.name) classes

-- no two of them have one name
pub record HaveNamesOfTheirOwn (files : List ClassInfo) : Type 0 where
  pub apart : (i j : ℕ) (a b : ClassInfo) → slice_get files i ≡ Some a → slice_get files j ≡ Some b → a.name ≡ b.name → i ≡ j

-- the number of a class
abbrev pub number : ClassId → ℕ
number c = c.0

abbrev pub number_in : Option ClassId → Option ℕ
number_in c = option_map number c

-- the number of the class of a name
abbrev pub class_of : List ClassInfo → List ℕ → Option ℕ
class_of classes name = position (λ (k : ClassInfo). bytes_eq k.name name) classes

abbrev pub name_at : List ClassInfo → ℕ → Option (List ℕ)
name_at classes c = option_map (λ (k : ClassInfo). k.name) (slice_get classes c)

-- whether a class is an interface
abbrev pub kind_at : List ClassInfo → ℕ → Option Bool
kind_at classes c = option_map (λ (k : ClassInfo). is_interface k.flags) (slice_get classes c)

-- ---- what stands above a class

-- the number of a class's superclass
abbrev pub superclass_of : List ClassInfo → ℕ → Option ℕ
superclass_of classes c = option_and_then (λ (k : ClassInfo). option_and_then (class_of classes) k.superclass) (slice_get classes c)

-- the numbers of the interfaces in a class's own list, in its order
abbrev pub superinterfaces_of : List ClassInfo → ℕ → List ℕ
superinterfaces_of classes c = option_map_or (λ (k : ClassInfo). filter_map (class_of classes) k.interfaces) (slice_get classes c) []

-- ---- the classes of a run

abbrev pub code_bytes : ClassInfo → ℕ
code_bytes k = sum_by (λ (m : MethodInfo). option_map_or (λ (c : CodeInfo). length c.code) m.code 0) k.methods

abbrev pub text_bytes : ClassInfo → ℕ
text_bytes k = sum_by (λ (e : PoolEntry). option_map_or length (text_in e) 0) k.pool

-- how many and how large the classes of a run may be (this project's own limits)
pub record AreWithinLimits (classes : List ClassInfo) : Type 0 where
  pub count : length classes ≤ 65536
  pub methods : sum_by (λ (k : ClassInfo). length k.methods) classes ≤ 536870912
  pub fields : sum_by (λ (k : ClassInfo). length k.fields) classes ≤ 536870912
  pub code : sum_by code_bytes classes ≤ 536870912
  pub text : sum_by text_bytes classes ≤ 536870912
  pub codes : (c i : ℕ) (k : ClassInfo) (m : MethodInfo) (code : CodeInfo) → slice_get classes c ≡ Some k → slice_get k.methods i ≡ Some m → m.code ≡ Some code → length code.code ≤ 65535

-- some bytes spell each of them
pub record HaveSpellings (classes : List ClassInfo) : Type 0 where
  pub each : (c : ℕ) (k : ClassInfo) → slice_get classes c ≡ Some k → HasSpelling k

-- A closed world: classes in the order of their names, each loadable among them, java/lang/Object too.
pub record IsClosedWorld (classes : List ClassInfo) : Type 0 where
  pub ascending : IsAscending (names_of classes)
  pub loadable : (c : ℕ) (k : ClassInfo) → slice_get classes c ≡ Some k → Loadable classes k.name
  pub object : Loadable classes object_name
  pub spelled : HaveSpellings classes
  pub limits : AreWithinLimits classes

-- The classes that closing leaves of some files: those that are loadable, and no others.
pub record IsClosingOf (files classes : List ClassInfo) : Type 0 where
  pub world : IsClosedWorld classes
  pub kept : (i : ℕ) (k : ClassInfo) → slice_get files i ≡ Some k → Loadable files k.name → (c : ℕ) × (slice_get classes c ≡ Some k)
  pub only : (c : ℕ) (k : ClassInfo) → slice_get classes c ≡ Some k → (i : ℕ) × (slice_get files i ≡ Some k) × Loadable files k.name

-- ---- heights

-- An order of the classes in which each stands behind its superclass and its superinterfaces, and each class's
-- place in it, its height. So heights fall on each way upwards.
pub record AreHeights (classes : List ClassInfo) (order heights : List ℕ) : Type 0 where
  pub count : length order ≡ length classes
  pub counted : length heights ≡ length classes
  pub ordered : (h c : ℕ) → slice_get order h ≡ Some c → slice_get heights c ≡ Some h
  pub placed : (c h : ℕ) → slice_get heights c ≡ Some h → slice_get order h ≡ Some c
  pub superclass : (c s h : ℕ) → superclass_of classes c ≡ Some s → slice_get heights c ≡ Some h → (l : ℕ) × (slice_get heights s ≡ Some l) × (l < h)
  pub superinterface : (c i s h : ℕ) → slice_get (superinterfaces_of classes c) i ≡ Some s → slice_get heights c ≡ Some h → (l : ℕ) × (slice_get heights s ≡ Some l) × (l < h)
