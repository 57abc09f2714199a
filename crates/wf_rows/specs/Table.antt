-- The rows of a place, all together.
use Rattle.std.specs.Prelude.{ℕ, ◌^◌, ◌<◌, List, [], ◌++◌, length, Option, Ok}
use Rattle.wf_base.specs.declared.ids.TypeId.{TypeId}
use Rattle.wf_operation.specs.declared.next.Next.{Next}
use Rattle.wf_system.specs.declared.inequality.Inequality.{Inequality}
use Rattle.wf_rows.specs.declared.action.Action.{Action}
use Rattle.wf_rows.specs.declared.action.Action.TheVariants.{Moves, Computes, Literal, Field, Array, Makes, Tests, CallsStatic, Calls, Returns, Throws, Monitors}
use Rattle.wf_rows.specs.declared.context.ArrayType.{ArrayType}
use Rattle.wf_rows.specs.declared.node.Node.{Node}
use Rattle.wf_rows.specs.declared.node.Own.{Own}
use Rattle.wf_rows.specs.declared.throwable.Throwable.{Throwable}
use Rattle.wf_rows.specs.Before.{Before}
use Rattle.wf_rows.specs.Values.{computed_rows, literal_rows}
use Rattle.wf_rows.specs.Branches.{branch_rows}
use Rattle.wf_rows.specs.Fields.{field_rows}
use Rattle.wf_rows.specs.Arrays.{array_rows, making_rows, test_rows}
use Rattle.wf_rows.specs.Calls.{static_rows, selected_rows, return_rows}
use Rattle.wf_rows.specs.Errors.{machine_rows}

-- what an instruction does
abbrev pub rows_at : Before → List ArrayType → Action → List (Inequality (Node Own))
rows_at k arrays Moves = []
rows_at k arrays (Computes c) = computed_rows k c
rows_at k arrays (Literal l) = literal_rows k l
rows_at k arrays (Field f) = field_rows k f
rows_at k arrays (Array a) = array_rows k arrays a
rows_at k arrays (Makes m) = making_rows k m
rows_at k arrays (Tests t) = test_rows k t
rows_at k arrays (CallsStatic c) = static_rows k c
rows_at k arrays (Calls c) = selected_rows k c
rows_at k arrays (Returns kind) = return_rows k kind
rows_at k arrays Throws = []
rows_at k arrays Monitors = []

-- what it does, what is left of its operands along its edges, and what it throws; `keys` is the number of the key list of a
-- switch
abbrev pub place_rows : Before → List ArrayType → (Throwable → Option TypeId) → ℕ → Next → Action → List (Inequality (Node Own))
place_rows k arrays thrown keys next a = branch_rows k next keys ++ rows_at k arrays a ++ machine_rows k thrown a

-- a call has fewer than 2 ^ 32 candidates, as the numbers of candidates ask
abbrev pub IsShort : Action → Type 0
IsShort (Calls (Ok c)) = length c.candidates < 2 ^ 32
IsShort other = Unit {0}
