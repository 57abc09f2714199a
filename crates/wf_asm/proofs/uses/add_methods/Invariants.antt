use Rattle.std.proofs.Common.{◌≡◌, drop}
use Rattle.std.specs.List.{flat_map}
use Rattle.wf_asm.specs.Constants.{with_constants, uses_of_method}
use Rattle.wf_asm.proofs.uses.add_methods.Given as goal

abbrev pub invariant-loop-method : goal.invariant-loop-method
invariant-loop-method l = with_constants l.pool (flat_map uses_of_method (drop l.method-index l.methods)) ≡ with_constants l.initial.pool (flat_map uses_of_method l.methods)
