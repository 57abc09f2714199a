use Rattle.std.proofs.Common.{◌++◌, drop}
use Rattle.wf_first.specs.Calls.{statics_of}
use Rattle.wf_first.specs.Statics.{HaveSame}
use Rattle.wf_first.proofs.calls.statics_of.Given as goal

abbrev pub invariant-loop-class : goal.invariant-loop-class
invariant-loop-class l = HaveSame (l.statics ++ statics_of (drop l.class-index l.classes)) (statics_of l.classes)
