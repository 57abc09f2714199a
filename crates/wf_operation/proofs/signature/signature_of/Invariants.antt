use Rattle.std.proofs.Common.{◌≡◌, fold, take}
use Rattle.wf_operation.specs.Signatures.{start, step}
use Rattle.wf_operation.proofs.signature.signature_of.Given as goal

abbrev pub invariant-loop-b : goal.invariant-loop-b
invariant-loop-b l = l.signature ≡ fold step (start l.fn.call) (take l.b-index l.desc)
