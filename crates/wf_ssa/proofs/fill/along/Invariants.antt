use Rattle.std.proofs.Common.{◌≡◌, ℕ, ◌<◌, List, length, true, get_or}
use Rattle.wf_ssa.specs.declared.before.Before.{Before}
use Rattle.wf_ssa.specs.declared.name.FlowName.TheVariants.{Nothing}
use Rattle.wf_ssa.specs.Environments.{name_at, along_edge, IsKnown}
use Rattle.wf_ssa.specs.Keeping.{answered, AreSound}
use Rattle.wf_ssa.proofs.fill.along.Given as goal

abbrev pub invariant-loop-slot : goal.invariant-loop-slot
invariant-loop-slot l = record {
  count : length l.names.items ≡ l.slot;
  each : (failing : List ℕ) (k : Before) (i : ℕ) → AreSound l.blocks failing l.known → answered l.blocks l.meets l.known l.fn.place ≡ true → IsKnown l.blocks failing l.fn.place k
      → IsKnown l.blocks failing l.fn.to (along_edge l.blocks failing l.fn.place l.fn.edge k) → i < l.slot → get_or l.names.items i Nothing ≡ name_at (along_edge l.blocks failing l.fn.place l.fn.edge k).names i;
}
