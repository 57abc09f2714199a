-- The nodes of a body, in the order of their numbers (this project's own): those of its reached places, those of the places
-- where ways meet, and those of its handlers.
use Rattle.std.specs.Prelude.{ℕ, Bool, ◌&&◌, List, [], ◌++◌, Option, Some, None, if◌then◌else◌}
use Rattle.wf_operation.specs.declared.operation.Operation.{Operation}
use Rattle.wf_operation.specs.declared.slot.SlotKind.{SlotKind}
use Rattle.wf_blocks.specs.declared.body.Body.{Body as Shape}
use Rattle.wf_blocks.specs.declared.body.Step.{Step}
use Rattle.wf_ssa.specs.Environments.{meets}
use Rattle.wf_rows.specs.declared.action.Action.{Action}
use Rattle.wf_rows.specs.declared.joins.HandlerEntry.{HandlerEntry}
use Rattle.wf_rows.specs.declared.node.Own.{Own}
use Rattle.wf_rows.specs.Each.{each_from}
use Rattle.wf_rows.specs.OwnNodes.{own_at, block_nodes, caught_nodes}
use Rattle.wf_body.specs.Methods.{act_at}
use Rattle.wf_graph.specs.Bodies.{Body, is_marked}

-- of an instruction that does this
abbrev pub act_nodes : ℕ → Option Operation → Option Action → List Own
act_nodes pc (Some o) (Some act) = own_at pc o.next act
act_nodes pc (Some o) None = []
act_nodes pc None act = []

abbrev pub place_nodes : List Bool → List (Option Action) → ℕ → Step → List Own
place_nodes marks acts place step = if is_marked marks place then act_nodes step.pc step.operation (act_at acts place) else []

-- of a place where ways meet
abbrev pub meeting_nodes : Shape → List Bool → (ℕ → List SlotKind) → ℕ → Step → List Own
meeting_nodes shape marks kinds place step = if is_marked marks place && meets shape marks place then block_nodes step.pc (kinds place) else []

-- of an entry of the exception table
abbrev pub handler_nodes : ℕ → Option HandlerEntry → List Own
handler_nodes entry (Some h) = caught_nodes h
handler_nodes entry None = []

abbrev pub body_nodes : Body → List Own
body_nodes b =
    each_from (place_nodes b.marks b.acts) 0 b.shape.steps
    ++ each_from (meeting_nodes b.shape b.marks b.kinds) 0 b.shape.steps
    ++ each_from handler_nodes 0 b.handlers
