use Rattle.std.proofs.Common.{◌≡◌, drop}
use Rattle.std.specs.List.{list_all}
use Rattle.wf_first.specs.Calls.{class_calls_known}
use Rattle.wf_first.proofs.calls.all_calls_known.Given as goal

abbrev pub invariant-loop-class : goal.invariant-loop-class
invariant-loop-class l = list_all (class_calls_known l.statics) (drop l.class-index l.classes) ≡ list_all (class_calls_known l.statics) l.classes
