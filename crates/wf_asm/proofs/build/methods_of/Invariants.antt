use Rattle.std.proofs.Common.{◌≡◌, drop}
use Rattle.wf_asm.specs.Building.{methods_of}
use Rattle.wf_asm.proofs.ClassLaws.{with_front}
use Rattle.wf_asm.proofs.build.methods_of.Given as goal

abbrev pub invariant-loop-method : goal.invariant-loop-method
invariant-loop-method l = with_front l.methods.items (methods_of l.pool (drop l.method-index l.listed)) ≡ methods_of l.pool l.listed
