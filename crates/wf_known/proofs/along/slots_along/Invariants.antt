use Rattle.std.proofs.Common.{◌≡◌, ℕ, ◌<◌, List, length, get_or, map}
use Rattle.wf_base.specs.declared.ids.MethodId.{MethodId}
use Rattle.wf_operation.specs.Effects.{source_at}
use Rattle.wf_operation.specs.Slots.{from}
use Rattle.wf_ssa.specs.declared.name.FlowName.{FlowName}
use Rattle.wf_ssa.specs.declared.name.FlowName.TheVariants as flow
use Rattle.wf_ssa.specs.Environments.{renamed}
use Rattle.wf_rows.specs.declared.node.Node.TheVariants.{Nothing}
use Rattle.wf_known.specs.Flows.{node_of}
use Rattle.wf_known.proofs.along.slots_along.Given as goal

abbrev pub invariant-loop-slot : goal.invariant-loop-slot
invariant-loop-slot l = record {
  count : length l.after.items ≡ l.slot;
  each : (m : MethodId) (names : List FlowName) (i : ℕ) → l.slots ≡ map (node_of m) names → i < l.slot
      → get_or l.after.items i Nothing ≡ node_of m (from (renamed l.pc l.operation l.edge names) (flow.Res l.pc) flow.Nothing (source_at l.operation.effect (length names) i));
}
