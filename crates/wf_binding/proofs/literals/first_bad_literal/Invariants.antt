use Rattle.wf_binding.specs.First.{IsFirst, Upto}
use Rattle.wf_binding.specs.Validity.{IsBadLiteral}
use Rattle.wf_binding.proofs.literals.first_bad_literal.Given as goal

abbrev pub invariant-loop-literal : goal.invariant-loop-literal
invariant-loop-literal l = IsFirst (Upto (IsBadLiteral l.classes l.literals) l.literal-index) l.found
