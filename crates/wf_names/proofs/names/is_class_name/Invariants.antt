use Rattle.std.proofs.Common.{◌≡◌, false, drop}
use Rattle.wf_names.specs.Names.{are_parts}
use Rattle.wf_names.proofs.names.is_class_name.Given as goal

abbrev pub invariant-loop-byte : goal.invariant-loop-byte
invariant-loop-byte l = are_parts l.begun (drop l.byte-index l.name) ≡ are_parts false l.name
