use Rattle.wf_subtype.specs.Universe.{Inserts, HasObjects}
use Rattle.wf_subtype.proofs.Collecting.{Below, At}
use Rattle.wf_subtype.proofs.universe.insert_instantiable.Given as goal

abbrev pub invariant-loop-class : goal.invariant-loop-class
invariant-loop-class l = Inserts l.initial.types.keys l.types.keys (Below (At l.classes HasObjects) l.class-index)
