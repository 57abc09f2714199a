use Rattle.std.proofs.Common.{◌≡◌, ℕ, ◌<◌, List, length, true}
use Rattle.wf_ssa.specs.declared.before.Before.{Before}
use Rattle.wf_ssa.specs.Environments.{name_at, IsKnown}
use Rattle.wf_ssa.specs.Keeping.{answered, AreSound}
use Rattle.wf_ssa.proofs.TraceLemmas.{IsTraced}
use Rattle.wf_ssa.proofs.walk.flow_in.Given as goal

abbrev pub invariant-loop-name : goal.invariant-loop-name
invariant-loop-name l = record {
  inside : l.at < length l.blocks.steps;
  traced : (failing : List ℕ) (k : Before) → AreSound l.blocks failing l.known → answered l.blocks l.meets l.known l.fn.place ≡ true → IsKnown l.blocks failing l.fn.place k
      → IsTraced l.blocks failing l.meets l.known l.at l.from (name_at k.names l.fn.slot);
}

abbrev pub decreases-loop-name : goal.decreases-loop-name
decreases-loop-name l = l.at
