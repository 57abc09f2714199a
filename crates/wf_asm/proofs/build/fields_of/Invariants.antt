use Rattle.std.proofs.Common.{◌≡◌, ◌++◌, map, drop}
use Rattle.wf_asm.specs.Building.{field_of}
use Rattle.wf_asm.proofs.build.fields_of.Given as goal

abbrev pub invariant-loop-field : goal.invariant-loop-field
invariant-loop-field l = l.fields.items ++ map (field_of l.pool) (drop l.field-index l.listed) ≡ map (field_of l.pool) l.listed
