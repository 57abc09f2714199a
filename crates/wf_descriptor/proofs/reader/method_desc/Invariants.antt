use Rattle.std.proofs.Common.{drop, length}
use Rattle.wf_descriptor.specs.Descriptors.{ReadUpTo}
use Rattle.wf_descriptor.proofs.reader.method_desc.Given as goal

abbrev pub invariant-loop-rest : goal.invariant-loop-rest
invariant-loop-rest l = ReadUpTo 255 (drop 1 l.bytes) l.params.items l.rest

abbrev pub decreases-loop-rest : goal.decreases-loop-rest
decreases-loop-rest l = length l.rest
