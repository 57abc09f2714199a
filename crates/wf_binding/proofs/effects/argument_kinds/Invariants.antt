use Rattle.std.proofs.Common.{◌≡◌, take}
use Rattle.wf_binding.specs.Named.{argument_kinds}
use Rattle.wf_binding.proofs.effects.argument_kinds.Given as goal

abbrev pub invariant-loop-param : goal.invariant-loop-param
invariant-loop-param l = l.kinds.items ≡ argument_kinds l.fn.flags (take l.param-index l.params)
