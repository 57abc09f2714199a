use Rattle.std.proofs.Common.{refl}
use Rattle.wf_machine.specs.Executions as execution
use Rattle.wf_machine.proofs.NothingRun.{adds_makes_nothing, adds_touches_nothing}
use Rattle.wf_machine.proofs.laws.executions_do_things.Goals as goal

pub returns : goal.returns
returns c = record {
  entered = record { state = _; there = record { place = 2; there = refl }; frame = _; has = record { place = 0; there = refl }; is = execution.IsOf.runs _ _ };
  made = record { state = _; there = record { place = 0; there = refl }; object = _; has = record { place = 0; there = refl }; is = refl };
  touched = execution.Touched.by_instruction _ _ _ _ _ _ _ (record { place = 1; first = refl; second = refl }) refl (execution.NamesField.get _);
  touched_by_native = execution.Touched.by_write _ (record { place = 0; there = refl }) (record { place = 0; there = refl });
  nothing_made = adds_makes_nothing;
  nothing_touched = adds_touches_nothing;
  touched_by_literal = execution.Touched.by_write _ (record { place = 0; there = refl }) (record { place = 0; there = refl });
}
