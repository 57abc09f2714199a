use Rattle.std.proofs.Common.{◌≡◌, ℕ, ◌<◌, List, length, true}
use Rattle.wf_ssa.specs.declared.before.Before.{Before}
use Rattle.wf_ssa.specs.Environments.{IsKnown}
use Rattle.wf_ssa.specs.Keeping.{answered, AreFails, AreSound}
use Rattle.wf_ssa.proofs.TraceLemmas.{IsLed}
use Rattle.wf_ssa.proofs.walk.predicate_in.Given as goal

abbrev pub invariant-loop-own : goal.invariant-loop-own
invariant-loop-own l = record {
  inside : l.at < length l.blocks.steps;
  led : (failing : List ℕ) (k : Before) → AreFails failing l.fails → AreSound l.blocks failing l.known → answered l.blocks l.meets l.known l.fn.place ≡ true → IsKnown l.blocks failing l.fn.place k
      → IsLed l.blocks failing l.meets l.known l.at k.predicate;
}

abbrev pub decreases-loop-own : goal.decreases-loop-own
decreases-loop-own l = l.at
