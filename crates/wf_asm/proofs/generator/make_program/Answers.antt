use Rattle.wf_asm.proofs.GeneratedLaws.{program_begins, program_next, program_done}
use Rattle.wf_asm.specs.Generating.{IsProgramOf}
use Rattle.wf_asm.proofs.NameLaws.{own_names}
use Rattle.wf_asm.proofs.SpelledLaws.{all_spelled}
use Rattle.wf_asm.proofs.generator.make_program.Goals as goal

pub loop-i-init : goal.loop-i-init
loop-i-init c =
    program_begins c.args.seed c.args.size c.in_ok-built.field-0 c.push.new.self.items (rw c.in_ok-object.ensures at c.in_ok-built.ensures) (rw c.new-classes.ensures.items at c.in_ok-push.ensures.items)

pub loop-i-preserved : goal.loop-i-preserved
loop-i-preserved c =
    rw c.state_behind-state.ensures
    (program_next c.args.size c.loop-i.i c.loop-i.state c.in_ok-built-2.field-0 c.loop-i.classes.items c.push-in-loop-i.new.self.items _ c.loop-i-test.true
    (rw c.in_ok-listed.ensures at c.in_ok-built-2.ensures) c.loop-i.invariant c.in_ok-push-2.ensures.items)

pub returns : goal.returns
returns c =
    let program : IsProgramOf c.args.seed c.args.size c.loop-i.classes.items = program_done c.args.size c.loop-i.i c.loop-i.state c.loop-i.classes.items _ c.loop-i-test.false c.loop-i.invariant in
    rw c.from_vec.ensures (record {
      program = program;
      names = own_names c.args.seed c.args.size c.loop-i.classes.items c.ranges.size.fits program;
      spelled = all_spelled c.args.seed c.args.size c.loop-i.classes.items c.ranges.size.fits program;
    })
