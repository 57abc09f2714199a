-- What a method is refused for where it is entered and the summary says nothing of it (this project's own): floats, threads,
-- reflection and all else that the analysis leaves out.
use Rattle.std.specs.Prelude.{ℕ, Bool, true, false, not, ◌&&◌, ◌||◌, nat_eq, codes, List, [], ◌∷◌, Option, Some, None, option_and_then, slice_get, slice_index, if◌then◌else◌, ◌≡◌}
use Rattle.std.specs.List.{starts_with}
use Rattle.std.specs.Option.{option_or}
use Rattle.std.specs.Str.{bytes_eq}
use Rattle.wf_data.specs.Flags.{is_native}
use Rattle.wf_data.specs.declared.class_info.ClassInfo.{ClassInfo}
use Rattle.wf_data.specs.declared.class_info.MethodInfo.{MethodInfo}
use Rattle.wf_data.specs.declared.class_info.CodeInfo.{CodeInfo}
use Rattle.wf_data.specs.declared.class_info.PoolEntry.{PoolEntry}
use Rattle.wf_data.specs.declared.class_info.PoolEntry.TheVariants as entry
use Rattle.wf_data.specs.declared.instr.Instr.{Instr}
use Rattle.wf_data.specs.declared.instr.Placed.{Placed}
use Rattle.wf_data.specs.declared.what.What.{What}
use Rattle.wf_data.specs.declared.what.What.TheVariants.{Float, MethodHandle, Reflection, Thread, Native, Code, Shape}
use Rattle.wf_descriptor.specs.Descriptors.{kind_of, is_field_descriptor, is_method_descriptor}
use Rattle.wf_opcode.specs.Instructions.{place_of, Instructions, IsBadAt}
use Rattle.wf_opcode.specs.Table.{refused_as}
use Rattle.wf_operation.specs.declared.sort.Call.{Call}
use Rattle.wf_operation.specs.declared.sort.Sort.{Sort}
use Rattle.wf_operation.specs.declared.sort.Sort.TheVariants as sort
use Rattle.wf_operation.specs.PoolSlots.{is_followed, field_desc_at, method_desc_at}
use Rattle.wf_operation.specs.Signatures.{signature_of}
use Rattle.wf_operation.specs.Sorts.{sort_of}
use Rattle.wf_refusals.specs.declared.instruction.Refusal.{Refusal}

-- ---- by an instruction

abbrev pub float_if : Bool → Option What
float_if b = if b then Some Float else None

-- a constant of ldc
abbrev pub constant_refusal : PoolEntry → Option What
constant_refusal (entry.Float bits) = Some Float
constant_refusal (entry.Double bits) = Some Float
constant_refusal (entry.Handle kind i) = Some MethodHandle
constant_refusal (entry.MethodKind i) = Some MethodHandle
constant_refusal e = None

-- a constant of ldc2_w
abbrev pub wide_refusal : PoolEntry → Option What
wide_refusal (entry.Float bits) = Some Float
wide_refusal (entry.Double bits) = Some Float
wide_refusal e = None

-- the descriptor of a field that an instruction names
abbrev pub field_refusal : List ℕ → Option What
field_refusal desc = float_if (is_field_descriptor desc && not (is_followed (kind_of (slice_index desc 0))))

-- the descriptor of a method that is called so
abbrev pub method_refusal : Call → List ℕ → Option What
method_refusal call desc = float_if (is_method_descriptor 255 desc && not (signature_of call desc).followed)

-- what an instruction of this sort names in the pool: an entry of another sort than it needs doesn't count here
abbrev pub pool_refusal : List PoolEntry → ℕ → Sort → Option What
pool_refusal pool place sort.PoolConstant = option_and_then constant_refusal (slice_get pool place)
pool_refusal pool place sort.PoolLong = option_and_then wide_refusal (slice_get pool place)
pool_refusal pool place sort.GetStatic = option_and_then field_refusal (field_desc_at pool place)
pool_refusal pool place sort.PutStatic = option_and_then field_refusal (field_desc_at pool place)
pool_refusal pool place sort.GetField = option_and_then field_refusal (field_desc_at pool place)
pool_refusal pool place sort.PutField = option_and_then field_refusal (field_desc_at pool place)
pool_refusal pool place (sort.Invoke call) = option_and_then (method_refusal call) (method_desc_at pool call place)
pool_refusal pool place other = None

abbrev pub named_refusal : List PoolEntry → Instr → Sort → Option What
named_refusal pool i s = option_and_then (λ place. pool_refusal pool place s) (place_of i.a)

-- as what an instruction is refused: by its opcode, or by what it names in the pool
abbrev pub instruction_refusal : List PoolEntry → Instr → Option What
instruction_refusal pool i = option_or (refused_as i.op) (option_and_then (named_refusal pool i) (sort_of i.op))

-- ---- by a body

abbrev pub refusal : ℕ → What → Refusal
refusal pc what = record { pc = pc; what = what }

-- an instruction is refused, or what is behind it
abbrev pub refusal_from : ℕ → Option What → Option Refusal → Option Refusal
refusal_from pc (Some what) behind = Some (refusal pc what)
refusal_from pc None behind = behind

-- the first of a list of instructions that is refused, wherever it stands
abbrev pub first_refusal : List PoolEntry → List Placed → Option Refusal
first_refusal pool [] = None
first_refusal pool (p ∷ ps) = refusal_from p.pc (instruction_refusal pool p.instr) (first_refusal pool ps)

-- the instructions of a code, none of which is refused
pub record IsReadable (pool : List PoolEntry) (code : List ℕ) (is : List Placed) : Type 0 where
  pub spelled : Instructions 0 code is
  pub passed : first_refusal pool is ≡ None

-- a code is refused for the first place that starts no instruction, or else for its first instruction that is refused
pub data IsUnreadable (pool : List PoolEntry) (code : List ℕ) : Refusal → Type 0 where
  bytes : (pc : ℕ) → IsBadAt code pc → IsUnreadable pool code (refusal pc Code)
  instruction : (is : List Placed) (r : Refusal) → Instructions 0 code is → first_refusal pool is ≡ Some r → IsUnreadable pool code r

-- A body with this code is refused as that, or since its instructions don't fit together. Whether they do is not said here.
pub data IsRefused (pool : List PoolEntry) (code : List ℕ) (Misfits : List Placed → Type 0) : Refusal → Type 0 where
  code : (r : Refusal) → IsUnreadable pool code r → IsRefused pool code Misfits r
  shape : (is : List Placed) → IsReadable pool code is → Misfits is → IsRefused pool code Misfits (refusal 0 Shape)

-- ---- by a method

-- whether every method of a class is one of reflection
abbrev pub is_reflection : List ℕ → Bool
is_reflection class = starts_with nat_eq class (codes "java/lang/reflect/") || starts_with nat_eq class (codes "java/lang/invoke/")

-- methods of the class Class that find or make by name
abbrev pub is_by_name : List ℕ → List ℕ → Bool
is_by_name class name = bytes_eq class (codes "java/lang/Class") && (bytes_eq name (codes "forName") || bytes_eq name (codes "newInstance"))

abbrev pub starts_thread : List ℕ → List ℕ → Bool
starts_thread class name = bytes_eq class (codes "java/lang/Thread") && bytes_eq name (codes "start")

-- as what a method is refused by the names of its class and its own
abbrev pub listed_refusal : List ℕ → List ℕ → Option What
listed_refusal class name =
    if is_reflection class || is_by_name class name then Some Reflection
    else if starts_thread class name then Some Thread else None

-- Of the reasons the first counts: the method's name, that it is native, its body.
pub data IsRefusedMethod (class : ClassInfo) (m : MethodInfo) (Misfits : List Placed → Type 0) : Refusal → Type 0 where
  listed : (what : What) → listed_refusal class.name m.name ≡ Some what → IsRefusedMethod class m Misfits (refusal 0 what)
  native : listed_refusal class.name m.name ≡ None → is_native m.flags ≡ true → IsRefusedMethod class m Misfits (refusal 0 Native)
  body : (c : CodeInfo) (r : Refusal) → listed_refusal class.name m.name ≡ None → is_native m.flags ≡ false → m.code ≡ Some c
      → IsRefused class.pool c.code Misfits r → IsRefusedMethod class m Misfits r
