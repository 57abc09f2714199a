-- What the machine looks up of methods: their code, how a frame of them begins, and their exception tables (JVMS 2.6, 2.10,
-- 4.7.3).
use Rattle.std.specs.Prelude.{◌≡◌, ◌⊎◌, ℕ, zero, suc, ◌+◌, ◌<◌, ◌≤◌, ℤ, pos, Bool, false, ◌||◌, List, [], ◌∷◌, length, Option, Some, None, option_and_then, option_map, slice_get, if◌then◌else◌}
use Rattle.std.specs.Option.{option_map_or}
use Rattle.wf_base.specs.declared.ids.MethodId.{MethodId}
use Rattle.wf_data.specs.declared.class_info.ClassInfo.{ClassInfo}
use Rattle.wf_data.specs.declared.class_info.CodeInfo.{CodeInfo}
use Rattle.wf_data.specs.declared.class_info.Handler.{Handler}
use Rattle.wf_data.specs.declared.class_info.MethodInfo.{MethodInfo}
use Rattle.wf_data.specs.declared.class_info.PoolEntry.{PoolEntry}
use Rattle.wf_data.specs.declared.class_info.PoolEntry.TheVariants as entry
use Rattle.wf_data.specs.declared.instr.Instr.{Instr}
use Rattle.wf_data.specs.declared.instr.Placed.{Placed}
use Rattle.wf_data.specs.Flags.{is_abstract, is_native, is_static}
use Rattle.wf_descriptor.specs.declared.descriptor.MethodDesc.{MethodDesc}
use Rattle.wf_descriptor.specs.Descriptors.{SpellsMethod}
use Rattle.wf_opcode.specs.Instructions.{place_of, Instructions}
use Rattle.wf_operation.specs.declared.operation.Operation.{Operation}
use Rattle.wf_operation.specs.declared.sort.Sort.{Sort}
use Rattle.wf_operation.specs.declared.sort.Sort.TheVariants as sort
use Rattle.wf_operation.specs.Operations.{operation_of}
use Rattle.wf_classes.specs.Own.{IsMethod}
use Rattle.wf_blocks.specs.Methods.{body_of, HasShape}
use Rattle.wf_refusals.specs.Refusals.{IsRefusedMethod}
use Rattle.wf_refusals.specs.declared.instruction.Refusal.{Refusal}
use Rattle.wf_subtype.specs.Subtypes.{AllTypes, IsTargetFound}
use Rattle.wf_rows.specs.declared.joins.HandlerEntry.{HandlerEntry}
use Rattle.wf_actions.specs.Actions.{Program, IsAction}
use Rattle.wf_actions.specs.Named.{number_of_target, caught_name}
use Rattle.wf_machine.specs.World.{Instruction, Entry, Code, Other, NoBody}
use Rattle.wf_runtime.specs.Summaries.{Run, is_summarised}

-- ---- bodies

-- a method with its class, its code, and its code as instructions
pub record Body : Type 0 where
  pub class : ClassInfo
  pub number : ℕ
  pub info : MethodInfo
  pub code : CodeInfo
  pub placed : List Placed

pub record IsBodyOf (p : Run) (m : MethodId) (b : Body) : Type 0 where
  pub there : slice_get p.types.classes b.number ≡ Some b.class
  pub is : IsMethod p.types.classes m.0 b.number b.info
  pub has : b.info.code ≡ Some b.code
  pub decoded : Instructions 0 b.code.code b.placed

-- the instructions of a method don't fit together
pub record Misfits (b : Body) (placed : List Placed) : Type 0 where
  pub desc : MethodDesc
  pub spelled : SpellsMethod 255 b.info.desc desc
  pub misfits : HasShape (body_of desc (is_static b.info.flags) b.class.pool b.code placed)

-- A body is executed where the summary says nothing of its method and the method isn't refused (this project's own).
pub record IsExecuted (p : Run) (m : MethodId) (b : Body) : Type 0 where
  pub body : IsBodyOf p m b
  pub unsaid : is_summarised p m ≡ false
  pub unrefused : (r : Refusal) → IsRefusedMethod b.class b.info (Misfits b) r → ⊥

-- ---- instructions

-- the number of a constant of the pool
abbrev pub constant_number : PoolEntry → ℤ
constant_number (entry.Integer n) = n
constant_number (entry.Long n) = n
constant_number other = pos 0

abbrev pub number_at : List PoolEntry → ℤ → ℤ
number_at pool a = option_map_or constant_number (option_and_then (slice_get pool) (place_of a)) (pos 0)

-- the number that an instruction gives or adds: its own operand, or what the pool has; 0 where it has none (JVMS 6.5, bipush,
-- iinc, ldc)
abbrev pub number_of : List PoolEntry → Instr → Sort → ℤ
number_of pool i sort.IntConstant = i.a
number_of pool i sort.LongConstant = i.a
number_of pool i sort.Increment = i.b
number_of pool i sort.PoolConstant = number_at pool i.a
number_of pool i sort.PoolLong = number_at pool i.a
number_of pool i other = pos 0

abbrev pub pc_of : Placed → ℕ
pc_of p = p.pc

-- the place behind an instruction: that of the next, or the end of the code
abbrev pub behind : Body → ℕ → ℕ
behind b place = option_map_or pc_of (slice_get b.placed (place + 1)) (length b.code.code)

-- what of a run says what its instructions do
abbrev pub acting : Run → Program
acting p = record { types = p.types; literals = p.summary.literals }

-- The instruction of a body at so many bytes: what it does with slots, where it leads, what it does with what it names, and
-- what it gives. Its call site counts for nothing here.
pub record IsInstructionAt (p : Run) (b : Body) (pc : ℕ) (i : Instruction) : Type 0 where
  pub place : ℕ
  pub at : Placed
  pub there : slice_get b.placed place ≡ Some at
  pub here : at.pc ≡ pc
  pub operation : Operation
  pub operates : operation_of b.class.pool at.instr ≡ Some operation
  pub sort : i.sort ≡ operation.sort
  pub effect : i.effect ≡ operation.effect
  pub next : i.next ≡ operation.next
  pub site : ℕ
  pub candidates : List MethodId
  pub acts : IsAction (acting p) (record { pool = b.class.pool; instr = at.instr; operation = operation; site = site; candidates = candidates }) (Some i.action)
  pub number : i.number ≡ number_of b.class.pool at.instr operation.sort
  pub behind_it : i.behind ≡ behind b place

-- an instruction that is executed in a method
pub record IsExecutedAt (p : Run) (m : MethodId) (pc : ℕ) (i : Instruction) : Type 0 where
  pub body : Body
  pub executed : IsExecuted p m body
  pub at : IsInstructionAt p body pc i

-- what is looked up at a place of a method
abbrev pub IsCode : Run → MethodId → ℕ → Option Instruction → Type 0
IsCode p m pc (Some i) = IsExecutedAt p m pc i
IsCode p m pc None = (i : Instruction) → IsExecutedAt p m pc i → ⊥

-- ---- frames

-- How a frame of a method begins: not at all where it is abstract, without code where it is native or the summary says what
-- it does, and else with so many locals.
abbrev pub entry_of : Bool → MethodInfo → Entry
entry_of summarised info =
    if is_abstract info.flags then NoBody
    else if is_native info.flags || summarised then Other
    else option_map_or (λ (c : CodeInfo). Code c.max_locals) info.code NoBody

-- ---- exception tables

-- an entry of a table, by its number there; it catches nothing where its class isn't loadable (own rule)
pub record IsHandler (types : AllTypes) (pool : List PoolEntry) (locals number : ℕ) (h : Handler) (e : HandlerEntry) : Type 0 where
  pub entry : e.entry ≡ number
  pub target : e.target ≡ h.target
  pub locals_are : e.locals ≡ locals
  pub name : List ℕ
  pub named : caught_name pool h.catch_class ≡ Some name
  pub catches : IsTargetFound types name (option_map number_of_target e.catches)

-- the entries that cover a place, in the order of the table, of which the first has this number (JVMS 2.10)
pub data AreHandlers (types : AllTypes) (pool : List PoolEntry) (locals pc : ℕ) : ℕ → List Handler → List HandlerEntry → Type 0 where
  none : (number : ℕ) → AreHandlers types pool locals pc number [] []
  covers : (number : ℕ) (h : Handler) (hs : List Handler) (e : HandlerEntry) (es : List HandlerEntry) → h.start ≤ pc → pc < h.end → IsHandler types pool locals number h e → AreHandlers types pool locals pc (suc number) hs es → AreHandlers types pool locals pc number (h ∷ hs) (e ∷ es)
  passes : (number : ℕ) (h : Handler) (hs : List Handler) (es : List HandlerEntry) → (pc < h.start) ⊎ (h.end ≤ pc) → AreHandlers types pool locals pc (suc number) hs es → AreHandlers types pool locals pc number (h ∷ hs) es

abbrev pub AreHandlersOf : Run → Body → ℕ → List HandlerEntry → Type 0
AreHandlersOf p b pc es = AreHandlers p.types b.class.pool b.code.max_locals pc 0 b.code.table es
