-- The rows of a body (this project's own, after SkipFlow, CGO 2025): of the entry, of its reached places with their edges and
-- the handlers that cover them, and of its handlers.
use Rattle.std.specs.Prelude.{ℕ, List, [], ◌++◌, Option, Some, None, slice_index_or, if◌then◌else◌}
use Rattle.wf_base.specs.declared.ids.TypeId.{TypeId}
use Rattle.wf_operation.specs.declared.operation.Operation.{Operation}
use Rattle.wf_blocks.specs.declared.body.Catcher.{Catcher}
use Rattle.wf_blocks.specs.declared.body.Step.{Step}
use Rattle.wf_blocks.specs.Bodies.{covers, targets_at}
use Rattle.wf_ssa.specs.declared.before.Before.{Before}
use Rattle.wf_ssa.specs.Environments.{along_edge, entry_before, meets, pc_at}
use Rattle.wf_system.specs.declared.inequality.Inequality.{Inequality}
use Rattle.wf_rows.specs.declared.action.Action.{Action}
use Rattle.wf_rows.specs.declared.context.ArrayType.{ArrayType}
use Rattle.wf_rows.specs.declared.joins.HandlerEntry.{HandlerEntry}
use Rattle.wf_rows.specs.declared.node.Node.{Node}
use Rattle.wf_rows.specs.declared.node.Own.{Own}
use Rattle.wf_rows.specs.declared.throwable.Throwable.{Throwable}
use Rattle.wf_rows.specs.Before.{Before as Known}
use Rattle.wf_rows.specs.Each.{each_from}
use Rattle.wf_rows.specs.Joins.{edge_rows, covered_rows, caught_rows}
use Rattle.wf_rows.specs.Table.{place_rows}
use Rattle.wf_known.specs.Flows.{known_at}
use Rattle.wf_body.specs.Methods.{act_at}
use Rattle.wf_graph.specs.Bodies.{Body, failing_in, is_reached, keys_at}

abbrev pub Row : Type 0
Row = Inequality (Node Own)

-- what is known in front of a place
abbrev pub known_in : Body → ℕ → Step → Known
known_in b place step = known_at b.method step.pc (b.before place)

-- an instruction that does this
abbrev pub act_rows : Known → List ArrayType → (Throwable → Option TypeId) → ℕ → Option Operation → Option Action → List Row
act_rows k arrays thrown keys (Some o) (Some act) = place_rows k arrays thrown keys o.next act
act_rows k arrays thrown keys (Some o) None = []
act_rows k arrays thrown keys None act = []

-- an edge to a place: it counts where ways meet there
abbrev pub edge_into : Body → ℕ → Before → List Row
edge_into b to k = if meets b.shape b.marks to then edge_rows (known_at b.method (pc_at b.shape to) k) else []

-- an edge of the instruction at a place
abbrev pub edge_from : Body → ℕ → ℕ → ℕ → List Row
edge_from b place edge to = edge_into b to (along_edge b.shape (failing_in b) place edge (b.before place))

-- an entry of the exception table over a place
abbrev pub caught_if : Known → Option HandlerEntry → List Row
caught_if k (Some h) = covered_rows k h
caught_if k None = []

abbrev pub entry_over : List (Option HandlerEntry) → Known → ℕ → ℕ → Catcher → List Row
entry_over handlers k place entry c = if covers place c then caught_if k (slice_index_or handlers entry None) else []

-- a place that a path reaches
abbrev pub reached_rows : List ArrayType → (Throwable → Option TypeId) → Body → ℕ → Step → List Row
reached_rows arrays thrown b place step =
    act_rows (known_in b place step) arrays thrown (keys_at b place) step.operation (act_at b.acts place)
    ++ each_from (edge_from b place) 0 (targets_at b.shape place)
    ++ each_from (entry_over b.handlers (known_in b place step) place) 0 b.shape.catchers

abbrev pub rows_of_place : List ArrayType → (Throwable → Option TypeId) → Body → ℕ → Step → List Row
rows_of_place arrays thrown b place step = if is_reached b place then reached_rows arrays thrown b place step else []

-- the entry is an edge to place 0
abbrev pub rows_of_entry : Body → List Row
rows_of_entry b = edge_into b 0 (entry_before b.shape)

-- an entry of the exception table, where a path reaches its handler
abbrev pub rows_of_handler : ℕ → Option HandlerEntry → List Row
rows_of_handler entry (Some h) = caught_rows h
rows_of_handler entry None = []

abbrev pub body_rows : List ArrayType → (Throwable → Option TypeId) → Body → List Row
body_rows arrays thrown b =
    rows_of_entry b
    ++ each_from (rows_of_place arrays thrown b) 0 b.shape.steps
    ++ each_from rows_of_handler 0 b.handlers
