use Rattle.std.proofs.Common.{◌≡◌, drop}
use Rattle.std.specs.List.{flat_map}
use Rattle.wf_asm.specs.Constants.{with_constants, class_parts}
use Rattle.wf_asm.proofs.uses.add_classes.Given as goal

abbrev pub invariant-loop-name : goal.invariant-loop-name
invariant-loop-name l = with_constants l.pool (flat_map class_parts (drop l.name-index l.names)) ≡ with_constants l.initial.pool (flat_map class_parts l.names)
