use Rattle.std.proofs.Common.{◌≡◌, ◌+◌, drop}
use Rattle.wf_descriptor.specs.Descriptors.{type_length}
use Rattle.wf_descriptor.proofs.reader.type_length.Given as goal

abbrev pub invariant-loop-i : goal.invariant-loop-i
invariant-loop-i l = l.i + type_length (drop l.i l.bytes) ≡ type_length l.bytes
