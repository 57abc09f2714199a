use Rattle.std.proofs.Common.{◌≡◌, ℕ, ◌<◌, length, get_or}
use Rattle.wf_ssa.specs.declared.before.Before.{Before}
use Rattle.wf_ssa.specs.Environments.{name_at, IsKnown}
use Rattle.wf_rows.specs.declared.node.Node.TheVariants.{Nothing}
use Rattle.wf_known.specs.Flows.{node_of}
use Rattle.wf_known.proofs.reached.front_at.Given as goal

abbrev pub invariant-loop-slot : goal.invariant-loop-slot
invariant-loop-slot l = record {
  count : length l.slots.items ≡ l.slot;
  each : (k : Before) (i : ℕ) → IsKnown l.blocks l.env.1 l.fn.place k → i < l.slot → get_or l.slots.items i Nothing ≡ node_of l.method (name_at k.names i);
}
