use Rattle.std.proofs.Common.{◌≡◌, drop}
use Rattle.std.specs.List.{list_all}
use Rattle.wf_data.specs.declared.class_info.MethodInfo.{MethodInfo}
use Rattle.wf_first.specs.Calls.{code_calls_known, class_calls_known}
use Rattle.wf_first.proofs.calls.class_calls_known.Given as goal

abbrev pub invariant-loop-method : goal.invariant-loop-method
invariant-loop-method l = list_all (λ (m : MethodInfo). code_calls_known l.statics l.class.pool m.code) (drop l.method-index l.method-items) ≡ class_calls_known l.statics l.class
