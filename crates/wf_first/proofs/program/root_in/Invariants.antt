use Rattle.std.proofs.Common.{◌≡◌, drop}
use Rattle.wf_first.specs.Roots.{root_in}
use Rattle.wf_first.proofs.program.root_in.Given as goal

abbrev pub invariant-loop-class : goal.invariant-loop-class
invariant-loop-class l = root_in (drop l.class-index l.classes) l.line ≡ root_in l.classes l.line
