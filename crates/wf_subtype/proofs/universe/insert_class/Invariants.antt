use Rattle.wf_subtype.specs.Universe.{InsertsArrays, MethodMakes}
use Rattle.wf_subtype.proofs.Collecting.{Below, At}
use Rattle.wf_subtype.proofs.universe.insert_class.Given as goal

abbrev pub invariant-loop-method : goal.invariant-loop-method
invariant-loop-method l = InsertsArrays l.classes l.initial.types.keys l.types.keys (Below (At l.method-items (MethodMakes l.pool)) l.method-index)
