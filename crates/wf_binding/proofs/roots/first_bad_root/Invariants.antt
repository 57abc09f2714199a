use Rattle.wf_binding.specs.First.{IsFirst, Upto}
use Rattle.wf_binding.specs.Validity.{IsBadRootLine}
use Rattle.wf_binding.proofs.roots.first_bad_root.Given as goal

abbrev pub invariant-loop-line : goal.invariant-loop-line
invariant-loop-line l = IsFirst (Upto (IsBadRootLine l.classes l.lines) l.line-index) l.found
