use Rattle.std.proofs.Common.{arith}
use Rattle.wf_classes.proofs.WaitLists.{moved_none, moved_same, moved_more}
use Rattle.wf_classes.proofs.kept.move_to_front.Goals as goal
use Rattle.wf_classes.proofs.kept.move_to_front.Goals.{then-waiting-i-eq0, else-waiting-i-eq0}

pub loop-i-init : goal.loop-i-init
loop-i-init c = moved_none c.args.waiting.now c.args.files.now

pub loop-i-preserved : goal.loop-i-preserved
loop-i-preserved c =
    let files = c.args.files.now in
    elim c.if-waiting-i-eq0.branch [
      | then-waiting-i-eq0 w ↦ rw (w.files-is, w.kept-is, w.swap.ensures.after) (moved_more c.args.waiting.now files c.loop-i.files c.loop-i.i c.loop-i.kept (omega arith) w.if-waiting-i-eq0.true c.loop-i.invariant)
      | else-waiting-i-eq0 w ↦ rw (w.files-is, w.kept-is) (moved_same c.args.waiting.now files c.loop-i.files c.loop-i.i c.loop-i.kept (omega arith) w.if-waiting-i-eq0.false c.loop-i.invariant)
    ]
