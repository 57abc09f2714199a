use Rattle.std.proofs.Common.{◌≡◌, ◌++◌, take}
use Rattle.std.specs.List.{flat_map}
use Rattle.wf_inputs.specs.Printing.{effect_text}
use Rattle.wf_inputs.proofs.print.push_effects.Given as goal

abbrev pub invariant-loop-effect : goal.invariant-loop-effect
invariant-loop-effect l = l.out ≡ l.fn.out ++ flat_map effect_text (take l.effect-index l.effects)
