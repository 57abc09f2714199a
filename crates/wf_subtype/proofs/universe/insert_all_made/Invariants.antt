use Rattle.wf_data.specs.declared.instr.Placed.{Placed}
use Rattle.wf_subtype.specs.Universe.{InsertsArrays, Makes}
use Rattle.wf_subtype.proofs.Collecting.{Below, At}
use Rattle.wf_subtype.proofs.universe.insert_all_made.Given as goal

abbrev pub invariant-loop-placed : goal.invariant-loop-placed
invariant-loop-placed l = InsertsArrays l.classes l.initial.types.keys l.types.keys (Below (At l.code (λ (p : Placed). Makes l.pool p.instr)) l.placed-index)
