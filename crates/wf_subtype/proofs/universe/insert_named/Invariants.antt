use Rattle.std.proofs.Common.{◌≡◌, List, ℕ}
use Rattle.wf_subtype.specs.Universe.{InsertsArrays}
use Rattle.wf_subtype.proofs.Collecting.{Below, At}
use Rattle.wf_subtype.proofs.universe.insert_named.Given as goal

abbrev pub invariant-loop-name : goal.invariant-loop-name
invariant-loop-name l = InsertsArrays l.classes l.initial.types.keys l.types.keys (Below (At l.named (λ (n t : List ℕ). t ≡ n)) l.name-index)
