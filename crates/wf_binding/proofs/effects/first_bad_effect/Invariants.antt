use Rattle.wf_binding.specs.First.{IsFirst, Upto}
use Rattle.wf_binding.specs.Validity.{IsBadEffect}
use Rattle.wf_binding.proofs.effects.first_bad_effect.Given as goal

abbrev pub invariant-loop-effect : goal.invariant-loop-effect
invariant-loop-effect l = IsFirst (Upto (IsBadEffect l.classes l.shape.args.now l.shape.ret.now l.effects) l.effect-index) l.found
