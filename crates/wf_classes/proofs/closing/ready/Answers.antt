use Rattle.wf_classes.proofs.Worklist.{zeros_more, zeros_same}
use Rattle.wf_classes.proofs.closing.ready.Goals as goal
use Rattle.wf_classes.proofs.closing.ready.Goals.{then-left-eq0+in_ok-push, else-left-eq0}

pub loop-i-preserved : goal.loop-i-preserved
loop-i-preserved c =
    elim c.if-left-eq0.branch [
      | then-left-eq0+in_ok-push w ↦ rw (w.order-is, w.in_ok-push.ensures.items) (zeros_more c.args.waiting.now c.loop-i.i c.loop-i.order.items c.loop-i-test.true w.if-left-eq0.true c.loop-i.invariant)
      | else-left-eq0 w ↦ rw w.order-is (zeros_same c.args.waiting.now c.loop-i.i c.loop-i.order.items c.loop-i-test.true w.if-left-eq0.false c.loop-i.invariant)
    ]
