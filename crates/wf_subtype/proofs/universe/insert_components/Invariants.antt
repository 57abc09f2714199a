use Rattle.std.proofs.Common.{◌≡◌, drop}
use Rattle.wf_subtype.specs.Universe.{InsertsArrays}
use Rattle.wf_subtype.proofs.Collecting.{Below}
use Rattle.wf_subtype.proofs.universe.insert_components.Given as goal

abbrev pub invariant-loop-n : goal.invariant-loop-n
invariant-loop-n l = InsertsArrays l.classes l.initial.types.keys l.types.keys (Below (λ n t. t ≡ drop n l.name) l.n)
