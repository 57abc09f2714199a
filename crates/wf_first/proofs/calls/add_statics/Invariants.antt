use Rattle.std.proofs.Common.{◌++◌, drop}
use Rattle.wf_first.specs.Calls.{statics_in}
use Rattle.wf_first.specs.Statics.{HaveSame}
use Rattle.wf_first.proofs.calls.add_statics.Given as goal

abbrev pub invariant-loop-method : goal.invariant-loop-method
invariant-loop-method l = HaveSame (l.statics ++ statics_in l.class (drop l.method-index l.method-items)) (l.fn.statics ++ statics_in l.class l.class.methods)
