use Rattle.std.proofs.Common.{◌≡◌, ◌-◌}
use Rattle.wf_asm.specs.Building.{classes_of}
use Rattle.wf_asm.specs.Generating.{generated, generated_from}
use Rattle.wf_asm.proofs.ClassLaws.{with_front}
use Rattle.wf_asm.proofs.generator.make_program.Given as goal

abbrev pub invariant-loop-i : goal.invariant-loop-i
invariant-loop-i l = with_front l.classes.items (classes_of (generated_from l.size l.i (l.size - l.i) l.state)) ≡ classes_of (generated l.seed l.size)
