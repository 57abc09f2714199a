-- Which classes and arrays are types of a run.
use Rattle.std.specs.Prelude.{◌≡◌, ℕ, ◌+◌, ◌<◌, ◌≤◌, ◌==◌, ◌⊎◌, false, List, [], ◌∷◌, ◌++◌, length, drop, position, Option, Some, option_and_then, option_map, slice_get, if◌then◌else◌}
use Rattle.std.specs.Str.{bytes_eq}
use Rattle.wf_data.specs.Flags.{is_abstract, is_interface}
use Rattle.wf_data.specs.Pool.{class_at}
use Rattle.wf_data.specs.declared.class_info.ClassInfo.{ClassInfo}
use Rattle.wf_data.specs.declared.class_info.CodeInfo.{CodeInfo}
use Rattle.wf_data.specs.declared.class_info.MethodInfo.{MethodInfo}
use Rattle.wf_data.specs.declared.class_info.PoolEntry.{PoolEntry}
use Rattle.wf_data.specs.declared.instr.Instr.{Instr}
use Rattle.wf_data.specs.declared.instr.Placed.{Placed}
use Rattle.wf_opcode.specs.Instructions.{Instructions, place_of}
use Rattle.wf_classes.specs.World.{IsAscending}
use Rattle.wf_subtype.specs.References.{IsArray, brackets}

-- ---- the arrays that instructions make

-- the letter of the primitive type of a newarray (JVMS table 6.5.newarray-A)
abbrev pub letter_of : ℕ → ℕ
letter_of code = if code == 4 then 90 else if code == 5 then 67 else if code == 6 then 70 else if code == 7 then 68 else if code == 8 then 66 else if code == 9 then 83 else if code == 10 then 73 else 74

-- the name of the arrays of a class or an array (JVMS 4.4.1)
abbrev pub array_name : List ℕ → List ℕ
array_name name = if brackets name == 0 then 91 ∷ 76 ∷ (name ++ 59 ∷ []) else 91 ∷ name

-- the name of a class or an array that an instruction has as its operand
abbrev pub operand_name : List PoolEntry → Instr → Option (List ℕ)
operand_name pool i = option_and_then (class_at pool) (place_of i.a)

-- An instruction makes arrays of this name (JVMS 6.5): newarray, anewarray, and multianewarray, which makes those
-- of its operand and of as many of its components as there are further lengths.
pub data Makes (pool : List PoolEntry) (i : Instr) (name : List ℕ) : Type 0 where
  primitives : (code : ℕ) → i.op ≡ 0xBC → place_of i.a ≡ Some code → name ≡ 91 ∷ letter_of code ∷ [] → Makes pool i name
  references : (component : List ℕ) → i.op ≡ 0xBD → operand_name pool i ≡ Some component → name ≡ array_name component → Makes pool i name
  components : (outer : List ℕ) (lengths n : ℕ) → i.op ≡ 0xC5 → operand_name pool i ≡ Some outer → place_of i.b ≡ Some lengths → n < lengths → name ≡ drop n outer → Makes pool i name

-- some instruction of a list makes arrays of this name
pub record MakesOne (pool : List PoolEntry) (code : List Placed) (name : List ℕ) : Type 0 where
  pub place : ℕ
  pub placed : Placed
  pub there : slice_get code place ≡ Some placed
  pub makes : Makes pool placed.instr name

-- an instruction of a code does, where the code is instructions as a whole (JVMS 4.9.1)
pub record CodeMakes (pool : List PoolEntry) (code : List ℕ) (name : List ℕ) : Type 0 where
  pub placed : List Placed
  pub decoded : Instructions 0 code placed
  pub makes : MakesOne pool placed name

-- the code of a method of a class does
pub record MethodMakes (pool : List PoolEntry) (method : MethodInfo) (name : List ℕ) : Type 0 where
  pub code : CodeInfo
  pub has : method.code ≡ Some code
  pub makes : CodeMakes pool code.code name

pub record ClassMakes (class : ClassInfo) (name : List ℕ) : Type 0 where
  pub place : ℕ
  pub method : MethodInfo
  pub there : slice_get class.methods place ≡ Some method
  pub makes : MethodMakes class.pool method name

-- the code of a method of one of the classes does
pub record IsMade (classes : List ClassInfo) (name : List ℕ) : Type 0 where
  pub place : ℕ
  pub class : ClassInfo
  pub there : slice_get classes place ≡ Some class
  pub makes : ClassMakes class name

-- a code has no more bytes than a class file can hold of it (JVMS 4.7.3)
pub record HasShortCode (method : MethodInfo) : Type 0 where
  pub short : (code : CodeInfo) → method.code ≡ Some code → length code.code ≤ 65535

pub record HaveShortCodes (class : ClassInfo) : Type 0 where
  pub each : (i : ℕ) (method : MethodInfo) → slice_get class.methods i ≡ Some method → HasShortCode method

-- ---- collecting (this project's own)

-- a text is among some
pub record IsAmong (texts : List (List ℕ)) (text : List ℕ) : Type 0 where
  pub place : ℕ
  pub there : slice_get texts place ≡ Some text

-- the second list has the texts of the first, and those that are added
pub record Inserts (old new : List (List ℕ)) (added : List ℕ → Type 0) : Type 0 where
  pub kept : (text : List ℕ) → IsAmong old text → IsAmong new text
  pub all : (text : List ℕ) → added text → IsAmong new text
  pub only : (text : List ℕ) → IsAmong new text → IsAmong old text ⊎ added text

-- those that are names of arrays are added
pub record InsertsArrays (classes : List ClassInfo) (old new : List (List ℕ)) (added : List ℕ → Type 0) : Type 0 where
  pub kept : (text : List ℕ) → IsAmong old text → IsAmong new text
  pub all : (text : List ℕ) → IsArray classes text → added text → IsAmong new text
  pub only : (text : List ℕ) → IsAmong new text → IsAmong old text ⊎ (IsArray classes text × added text)

-- what is left of a name behind fewer than so many bytes
pub record IsComponent (name : List ℕ) (lengths : ℕ) (text : List ℕ) : Type 0 where
  pub n : ℕ
  pub within : n < lengths
  pub is : text ≡ drop n name

-- ---- the universe

-- a class of this name has objects: it is neither an interface nor abstract (JVMS 4.1)
pub record HasObjects (class : ClassInfo) (name : List ℕ) : Type 0 where
  pub named : class.name ≡ name
  pub not_abstract : is_abstract class.flags ≡ false
  pub is_class : is_interface class.flags ≡ false

-- such a class is among the classes
pub record IsInstantiable (classes : List ClassInfo) (name : List ℕ) : Type 0 where
  pub place : ℕ
  pub class : ClassInfo
  pub there : slice_get classes place ≡ Some class
  pub has : HasObjects class name

-- The types of a run by their names: the classes that have objects, and the arrays that some instruction makes or
-- that are named besides (this project's own rule).
pub data IsType (classes : List ClassInfo) (named : List (List ℕ)) (name : List ℕ) : Type 0 where
  class : IsInstantiable classes name → IsType classes named name
  made : IsArray classes name → IsMade classes name → IsType classes named name
  given : IsArray classes name → IsAmong named name → IsType classes named name

-- all of them, in the order of their names' bytes
pub record IsUniverse (classes : List ClassInfo) (named names : List (List ℕ)) : Type 0 where
  pub ascending : IsAscending names
  pub all : (name : List ℕ) → IsType classes named name → IsAmong names name
  pub only : (name : List ℕ) → IsAmong names name → IsType classes named name

-- the number of the type of a name: 0 is null, and the others follow
abbrev pub type_of : List (List ℕ) → List ℕ → Option ℕ
type_of names name = option_map (λ i. i + 1) (position (λ n. bytes_eq n name) names)
