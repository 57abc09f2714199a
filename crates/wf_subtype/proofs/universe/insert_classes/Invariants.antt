use Rattle.wf_subtype.specs.Universe.{InsertsArrays, ClassMakes}
use Rattle.wf_subtype.proofs.Collecting.{Below, At}
use Rattle.wf_subtype.proofs.universe.insert_classes.Given as goal

abbrev pub invariant-loop-class : goal.invariant-loop-class
invariant-loop-class l = InsertsArrays l.classes l.initial.types.keys l.types.keys (Below (At l.class-items ClassMakes) l.class-index)
