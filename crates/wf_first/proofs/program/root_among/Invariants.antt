use Rattle.std.proofs.Common.{◌≡◌, drop}
use Rattle.wf_first.specs.Roots.{root_among}
use Rattle.wf_first.proofs.program.root_among.Given as goal

abbrev pub invariant-loop-method : goal.invariant-loop-method
invariant-loop-method l = root_among l.class (drop l.method-index l.method-items) l.line ≡ root_among l.class l.class.methods l.line
