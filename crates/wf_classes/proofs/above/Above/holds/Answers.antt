use Rattle.std.proofs.Common.{arith, ap, length}
use Rattle.wf_classes.specs.Above.{ClassesAbove}
use Rattle.wf_classes.proofs.Sweep.{height_there}
use Rattle.wf_classes.proofs.above.Above.holds.Goals as goal

pub has-requires : goal.has-requires
has-requires c =
    let there = height_there c.self.inside.list.now c.self.inside.order.now c.self.inside.heights.now c.args.d.0 c.self.invariant.ranked (omega (arith, c.requires, ap (λ (v : ClassesAbove). length v.classes) c.self.view_is)) in
    omega (arith, there.2, c.self.invariant.few, c.self.invariant.size)
