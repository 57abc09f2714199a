-- Descriptors of fields and of methods (JVMS 4.3.2, 4.3.3). A slot is a unit of the limit on parameters: a
-- long and a double take two, and every other value one.
use Rattle.std.specs.Prelude.{◌≡◌, ℕ, suc, ◌+◌, ◌-◌, ◌<◌, ◌≤◌, Bool, true, false, ◌&&◌, ◌||◌, List, [], ◌∷◌, ◌++◌, Option, Some, None, ◌==◌, nat_lt, is_none, length, take, slice_index, if◌then◌else◌}
use Rattle.std.specs.Option.{option_map_or}
use Rattle.wf_base.specs.declared.kind.Kind.{Kind}
use Rattle.wf_base.specs.declared.kind.Kind.TheVariants.{Int, Long, Ref, Float, Double}
use Rattle.wf_descriptor.specs.declared.descriptor.FieldDesc.{FieldDesc}
use Rattle.wf_descriptor.specs.declared.descriptor.MethodDesc.{MethodDesc}
use Rattle.wf_descriptor.specs.declared.descriptor.DescFault.{DescFault}
use Rattle.wf_descriptor.specs.declared.descriptor.DescFault.TheVariants.{NotADescriptor, NoMemory}
use Rattle.wf_descriptor.specs.declared.machine.Follow.{Follow}
use Rattle.wf_descriptor.specs.declared.machine.Follow.TheVariants.{Params, End}
use Rattle.wf_descriptor.specs.declared.machine.State.{State}
use Rattle.wf_descriptor.specs.declared.machine.State.TheVariants.{Open, Behind, Return, Start, Name}
use Rattle.wf_names.specs.Names.{is_forbidden, is_class_name}

-- ---- the grammar

-- the letters that are a type: B, C, D, F, I, J, S and Z (JVMS table 4.3-A)
abbrev pub is_letter : ℕ → Bool
is_letter b = b == 66 || b == 67 || b == 68 || b == 70 || b == 73 || b == 74 || b == 83 || b == 90

-- a type in front of which so many dimensions are still allowed (JVMS 4.3.2)
pub data FieldType : ℕ → List ℕ → Type 0 where
  letter : (dims b : ℕ) → is_letter b ≡ true → FieldType dims (b ∷ [])
  class_type : (dims : ℕ) (name : List ℕ) → is_class_name name ≡ true → FieldType dims (76 ∷ (name ++ 59 ∷ []))
  array : (dims : ℕ) (text : List ℕ) → FieldType dims text → FieldType (suc dims) (91 ∷ text)

-- the kind of the values of a type by its first byte (JVMS table 2.11.1-B): J, F and D, L and [, and all else
abbrev pub kind_of : ℕ → Kind
kind_of b = if b == 74 then Long else if b == 70 then Float else if b == 68 then Double else if b == 76 || b == 91 then Ref else Int

-- a field descriptor as a value: its text, and the kind that the first byte gives
pub record IsFieldDesc (d : FieldDesc) : Type 0 where
  pub spelled : FieldType 255 d.text
  pub kind : d.kind ≡ kind_of (slice_index d.text 0)

-- which bytes are such a descriptor
pub record SpellsField (bytes : List ℕ) (d : FieldDesc) : Type 0 where
  pub text : bytes ≡ d.text
  pub is_desc : IsFieldDesc d

-- the slots that a parameter takes (JVMS 4.3.3)
abbrev pub slots_of : Kind → ℕ
slots_of Int = 1
slots_of Long = 2
slots_of Ref = 1
slots_of Float = 1
slots_of Double = 2

abbrev pub slots_taken : List FieldDesc → ℕ
slots_taken [] = 0
slots_taken (p ∷ ps) = slots_of p.kind + slots_taken ps

-- the parameters one behind another
abbrev pub texts_of : List FieldDesc → List ℕ
texts_of [] = []
texts_of (p ∷ ps) = p.text ++ texts_of ps

pub data AreFieldDescs : List FieldDesc → Type 0 where
  no_more : AreFieldDescs []
  one_more : (p : FieldDesc) (ps : List FieldDesc) → IsFieldDesc p → AreFieldDescs ps → AreFieldDescs (p ∷ ps)

-- what a method returns: V is nothing, or a type (JVMS 4.3.3)
pub data SpellsReturn : List ℕ → Option FieldDesc → Type 0 where
  nothing : SpellsReturn (86 ∷ []) None
  a_value : (bytes : List ℕ) (d : FieldDesc) → SpellsField bytes d → SpellsReturn bytes (Some d)

-- parameters of at most so many slots, `)`, and the result
pub record SpellsParams (slots : ℕ) (bytes : List ℕ) (m : MethodDesc) : Type 0 where
  pub ret : List ℕ
  pub parts : bytes ≡ texts_of m.params ++ 41 ∷ ret
  pub each : AreFieldDescs m.params
  pub fits : slots_taken m.params ≤ slots
  pub returned : SpellsReturn ret m.ret

-- a method descriptor whose parameters take at most so many slots (JVMS 4.3.3)
pub record SpellsMethod (slots : ℕ) (bytes : List ℕ) (m : MethodDesc) : Type 0 where
  pub behind : List ℕ
  pub parts : bytes ≡ 40 ∷ behind
  pub params : SpellsParams slots behind m

-- bytes that are a descriptor of a field
pub record IsFieldDescriptor (bytes : List ℕ) : Type 0 where
  pub desc : FieldDesc
  pub spelled : SpellsField bytes desc

-- the same of a method
pub record IsMethodDescriptor (slots : ℕ) (bytes : List ℕ) : Type 0 where
  pub desc : MethodDesc
  pub spelled : SpellsMethod slots bytes desc

-- How far bytes go as a descriptor: some descriptor begins with the first `at` of them, none with one more,
-- and the bytes themselves are none (this project's own).
pub record LongestBeginning (Is : List ℕ → Type 0) (bytes : List ℕ) (at : ℕ) : Type 0 where
  pub within : at ≤ length bytes
  pub rest : List ℕ
  pub begins : Is (take at bytes ++ rest)
  pub longer : (more : List ℕ) → at < length bytes → Is (take (at + 1) bytes ++ more) → ⊥
  pub none : Is bytes → ⊥

-- a fault of bytes that are no descriptor
abbrev pub IsDescFault : (List ℕ → Type 0) → List ℕ → DescFault → Type 0
IsDescFault Is bytes (NotADescriptor at) = LongestBeginning Is bytes at
IsDescFault Is bytes NoMemory = Unit {0}

-- ---- the test, byte by byte. A state is there only where some bytes end it.

-- one byte of a type
abbrev pub type_step : ℕ → Follow → ℕ → Option State
type_step dims f b =
    if is_letter b then Some (Behind f) else if b == 76 then Some (Name false f)
    else if b == 91 && nat_lt 0 dims then Some (Start (dims - 1) f) else None

-- one byte of a class name, or the `;` behind it
abbrev pub name_step : Bool → Follow → ℕ → Option State
name_step begun f b =
    if b == 47 then (if begun then Some (Name false f) else None)
    else if b == 59 then (if begun then Some (Behind f) else None)
    else if is_forbidden b then None else Some (Name true f)

-- one byte of the parameters, where so many slots are left
abbrev pub param_step : ℕ → ℕ → Option State
param_step slots b =
    if b == 41 then Some Return
    else if nat_lt slots (slots_of (kind_of b)) then None else type_step 255 (Params (slots - slots_of (kind_of b))) b

-- the state after a byte, where there is one
abbrev pub step : State → ℕ → Option State
step (Open slots) b = if b == 40 then Some (Behind (Params slots)) else None
step (Behind (Params slots)) b = param_step slots b
step (Behind End) b = None
step Return b = if b == 86 then Some (Behind End) else type_step 255 End b
step (Start dims f) b = type_step dims f b
step (Name begun f) b = name_step begun f b

-- the bytes are at their end: that is a fault at this place, unless a descriptor may end there
abbrev pub end_fault : State → ℕ → Option ℕ
end_fault (Behind End) at = None
end_fault s at = Some at

-- where the bytes stop to be the beginning of a descriptor, if they are none; `at` of them were passed
abbrev pub stop : State → ℕ → List ℕ → Option ℕ
stop s at [] = end_fault s at
stop s at (b ∷ bytes) = option_map_or (λ t. stop t (at + 1) bytes) (step s b) (Some at)

-- whether bytes are the descriptor of a field
abbrev pub is_field_descriptor : List ℕ → Bool
is_field_descriptor bytes = is_none (stop (Start 255 End) 0 bytes)

-- whether bytes are the descriptor of a method whose parameters take at most so many slots
abbrev pub is_method_descriptor : ℕ → List ℕ → Bool
is_method_descriptor slots bytes = is_none (stop (Open slots) 0 bytes)

-- ---- the values, for bytes that are a descriptor

-- how many bytes a class name takes, with the `;` behind it
abbrev pub name_length : List ℕ → ℕ
name_length [] = 0
name_length (b ∷ bytes) = if b == 59 then 1 else 1 + name_length bytes

-- how many bytes the type at the front takes
abbrev pub type_length : List ℕ → ℕ
type_length [] = 0
type_length (b ∷ bytes) = if b == 91 then 1 + type_length bytes else if b == 76 then 1 + name_length bytes else 1

-- a type by its text
abbrev pub field_desc : List ℕ → FieldDesc
field_desc text = record { kind = kind_of (slice_index text 0); text = text }

-- the result by its text
abbrev pub return_desc : List ℕ → Option FieldDesc
return_desc text = if slice_index text 0 == 86 then None else Some (field_desc text)

-- The bytes spell parameters and a result. Those parameters are found, and the others are spelled by the rest.
pub record ReadUpTo (slots : ℕ) (bytes : List ℕ) (found : List FieldDesc) (rest : List ℕ) : Type 0 where
  pub desc : MethodDesc
  pub spelled : SpellsParams slots bytes desc
  pub coming : List FieldDesc
  pub all : desc.params ≡ found ++ coming
  pub each : AreFieldDescs coming
  pub left : rest ≡ texts_of coming ++ 41 ∷ spelled.ret
