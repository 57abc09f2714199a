use Rattle.std.proofs.Common.{◌≡◌, drop}
use Rattle.wf_asm.specs.Building.{classes_of}
use Rattle.wf_asm.proofs.ClassLaws.{with_front}
use Rattle.wf_asm.proofs.build.classes_of.Given as goal

abbrev pub invariant-loop-class : goal.invariant-loop-class
invariant-loop-class l = with_front l.classes.items (classes_of (drop l.class-index l.listed)) ≡ classes_of l.listed
