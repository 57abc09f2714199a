use Rattle.std.proofs.Common.{◌≡◌, ◌+◌, drop}
use Rattle.wf_descriptor.specs.Descriptors.{name_length}
use Rattle.wf_descriptor.proofs.reader.name_length.Given as goal

abbrev pub invariant-loop-i : goal.invariant-loop-i
invariant-loop-i l = l.i + name_length (drop l.i l.bytes) ≡ name_length l.bytes
