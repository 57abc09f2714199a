-- The body of a method: its code, its exception table and its descriptor by the numbers of places (JVMS 4.7.3, 4.10.1).
use Rattle.std.specs.Prelude.{ℕ, suc, ◌+◌, ◌-◌, Bool, ◌&&◌, ◌||◌, List, [], ◌∷◌, ◌++◌, map, length, replicate, Option, Some, None, is_some, option_map, option_and_then, ◌==◌, nat_lt, nat_le, if◌then◌else◌}
use Rattle.std.specs.List.{range_with_len}
use Rattle.wf_data.specs.declared.class_info.CodeInfo.{CodeInfo}
use Rattle.wf_data.specs.declared.class_info.Handler.{Handler}
use Rattle.wf_data.specs.declared.class_info.PoolEntry.{PoolEntry}
use Rattle.wf_data.specs.declared.instr.Placed.{Placed}
use Rattle.wf_data.specs.Pool.{class_at}
use Rattle.wf_descriptor.specs.declared.descriptor.FieldDesc.{FieldDesc}
use Rattle.wf_descriptor.specs.declared.descriptor.MethodDesc.{MethodDesc}
use Rattle.wf_operation.specs.declared.next.Next.{Next}
use Rattle.wf_operation.specs.declared.operation.Operation.{Operation}
use Rattle.wf_operation.specs.declared.slot.SlotKind.{SlotKind}
use Rattle.wf_operation.specs.declared.slot.SlotKind.TheVariants.{Ref, Unused}
use Rattle.wf_operation.specs.Nexts.{edge_count, target}
use Rattle.wf_operation.specs.Operations.{operation_of}
use Rattle.wf_operation.specs.Slots.{slots_of}
use Rattle.wf_blocks.specs.declared.body.Step.{Step}
use Rattle.wf_blocks.specs.declared.body.Catcher.{Catcher}
use Rattle.wf_blocks.specs.declared.body.Body.{Body}
use Rattle.wf_blocks.specs.Graphs.{BadPaths}
use Rattle.wf_blocks.specs.Bodies.{graph_of}

-- the values, if all are there
abbrev pub all_some : {A : Type 0} → List (Option A) → Option (List A)
all_some [] = Some []
all_some (x ∷ xs) = option_and_then (λ y. option_map (λ ys. y ∷ ys) (all_some xs)) x

-- ---- places by their numbers

-- the number of the instruction at a place in the code, in bytes, where they are counted from `first` on
abbrev pub number_from : ℕ → List ℕ → ℕ → Option ℕ
number_from first [] pc = None
number_from first (p ∷ pcs) pc = if p == pc then Some first else number_from (suc first) pcs pc

abbrev pub number_of : List ℕ → ℕ → Option ℕ
number_of pcs pc = number_from 0 pcs pc

abbrev pub pc_of : Placed → ℕ
pc_of p = p.pc

abbrev pub pcs_of : List Placed → List ℕ
pcs_of code = map pc_of code

-- where an edge leads: to the next instruction, or to the one at that place
abbrev pub number_at : List ℕ → ℕ → Option ℕ → Option ℕ
number_at pcs place None = if nat_lt (place + 1) (length pcs) then Some (place + 1) else None
number_at pcs place (Some pc) = number_of pcs pc

abbrev pub target_at : List ℕ → ℕ → Next → ℕ → Option ℕ
target_at pcs place next edge = number_at pcs place (target next edge)

-- where all edges lead, if they lead to instructions
abbrev pub targets_of : List ℕ → ℕ → Next → Option (List ℕ)
targets_of pcs place next = all_some (map (target_at pcs place next) (range_with_len 0 (edge_count next)))

-- ---- instructions

abbrev pub step_by : List ℕ → ℕ → ℕ → Option Operation → Step
step_by pcs place pc o = record { pc = pc; operation = o; targets = option_and_then (λ (p : Operation). targets_of pcs place p.next) o }

abbrev pub step_of : List PoolEntry → List ℕ → ℕ → Placed → Step
step_of pool pcs place p = step_by pcs place p.pc (operation_of pool p.instr)

abbrev pub steps_from : List PoolEntry → List ℕ → ℕ → List Placed → List Step
steps_from pool pcs place [] = []
steps_from pool pcs place (p ∷ code) = step_of pool pcs place p ∷ steps_from pool pcs (suc place) code

-- ---- the exception table

-- the number of the place where the code that an entry covers ends: that may be the end of the code
abbrev pub end_of : List ℕ → ℕ → ℕ → Option ℕ
end_of pcs size pc = if pc == size then Some (length pcs) else number_of pcs pc

-- whether an entry catches every throwable, or those of a class that the pool names
abbrev pub catches_well : List PoolEntry → ℕ → Bool
catches_well pool class = class == 0 || is_some (class_at pool class)

abbrev pub catcher_by : Option ℕ → Option ℕ → Option ℕ → Option Catcher
catcher_by first end target = option_and_then (λ f. option_map (λ e. record { first = f; end = e; target = target }) end) first

-- An entry by the numbers of places. None where its start isn't below its end, where one of them is no place, or where
-- it names no class.
abbrev pub catcher_of : List PoolEntry → List ℕ → ℕ → Handler → Option Catcher
catcher_of pool pcs size h =
    if nat_lt h.start h.end && catches_well pool h.catch_class
    then catcher_by (number_of pcs h.start) (end_of pcs size h.end) (number_of pcs h.target) else None

-- ---- the entry

abbrev pub receiver_slots : Bool → List SlotKind
receiver_slots is_static = if is_static then [] else Ref ∷ []

abbrev pub param_slots : List FieldDesc → List SlotKind
param_slots [] = []
param_slots (p ∷ params) = slots_of p.kind ++ param_slots params

-- the slots of the receiver and the parameters, in their order (JVMS 2.6.1)
abbrev pub entry_slots : MethodDesc → Bool → List SlotKind
entry_slots desc is_static = receiver_slots is_static ++ param_slots desc.params

-- which parameter each slot holds, where they are numbered from `first` on
abbrev pub numbers_from : ℕ → List FieldDesc → List ℕ
numbers_from first [] = []
numbers_from first (p ∷ params) = replicate (length (slots_of p.kind)) first ++ numbers_from (suc first) params

-- the same with the receiver, which is parameter 0 where there is one
abbrev pub entry_numbers : MethodDesc → Bool → List ℕ
entry_numbers desc is_static = if is_static then numbers_from 0 desc.params else 0 ∷ numbers_from 1 desc.params

-- a list with the same element behind it, so many in all
abbrev pub filled : {A : Type 0} → List A → A → ℕ → List A
filled xs x count = xs ++ replicate (count - length xs) x

-- ---- the method

abbrev pub body_by : MethodDesc → Bool → List PoolEntry → CodeInfo → List Placed → List Catcher → Body
body_by desc is_static pool info code catchers = record {
  entry = filled (entry_slots desc is_static) Unused info.max_locals;
  params = entry_numbers desc is_static;
  max_stack = info.max_stack;
  returns = option_map (λ (d : FieldDesc). d.kind) desc.ret;
  steps = steps_from pool (pcs_of code) 0 code;
  catchers = catchers;
}

-- The body of a method. None where its parameters don't fit into its locals, or where an entry of its exception table
-- is none.
abbrev pub body_of : MethodDesc → Bool → List PoolEntry → CodeInfo → List Placed → Option Body
body_of desc is_static pool info code =
    if nat_le (length (entry_slots desc is_static)) info.max_locals
    then option_map (body_by desc is_static pool info code) (all_some (map (catcher_of pool (pcs_of code) (length info.code)) info.table)) else None

-- A method is refused for its shape: it has no body, or a path in it meets a fault, or paths differ in depth at a place.
pub data HasShape : Option Body → Type 0 where
  no_body : HasShape None
  bad_paths : (b : Body) → BadPaths (graph_of b) → HasShape (Some b)
