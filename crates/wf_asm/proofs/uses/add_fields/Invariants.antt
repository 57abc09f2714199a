use Rattle.std.proofs.Common.{◌≡◌, drop}
use Rattle.std.specs.List.{flat_map}
use Rattle.wf_asm.specs.Constants.{with_constants, uses_of_field}
use Rattle.wf_asm.proofs.uses.add_fields.Given as goal

abbrev pub invariant-loop-field : goal.invariant-loop-field
invariant-loop-field l = with_constants l.pool (flat_map uses_of_field (drop l.field-index l.fields)) ≡ with_constants l.initial.pool (flat_map uses_of_field l.fields)
