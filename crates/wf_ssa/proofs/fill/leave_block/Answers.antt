use Rattle.std.proofs.Common.{Bool, Result, Ok, ap, ◌∙◌, arith}
use Rattle.std.specs.declared.alloc.AllocError.{AllocError}
use Rattle.wf_ssa.specs.Keeping.{nones}
use Rattle.wf_ssa.proofs.FillLemmas.{fewer_more}
use Rattle.wf_ssa.proofs.fill.leave_block.Goals as goal

pub loop-at-preserved : goal.loop-at-preserved
loop-at-preserved c =
    let i = c.loop-at.invariant in
    let kept = c.in_ok-leave.field-0 in
    let ok : Bool → Result Bool AllocError = λ t. Ok t in
    record {
      count = c.leave.auto.known ∙ i.count;
      sound = λ failing fails sound. c.in_ok-leave.ensures.sound failing fails (i.sound failing fails sound);
      fewer = omega (arith, i.fewer, fewer_more kept (nones c.loop-at.known) (nones c.leave.new.known) (λ e. c.in_ok-leave.ensures.less (ap ok e)) (λ e. ap nones (c.in_ok-leave.ensures.same (ap ok e))));
      room = omega (arith, i.room, c.in_ok-leave.ensures.room);
    }
