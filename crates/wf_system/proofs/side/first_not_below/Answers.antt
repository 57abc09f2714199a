use Rattle.std.proofs.Common.{◌+◌, ◌-◌, ◌/◌, arith}
use Rattle.wf_system.proofs.SideLaws.{narrows_up, narrows_down}
use Rattle.wf_system.proofs.side.first_not_below.Goals as goal

pub loop-low-preserved-then-table-middle : goal.loop-low-preserved-then-table-middle
loop-low-preserved-then-table-middle c = narrows_up c.args.table.now c.args.t c.loop-low.low c.loop-low.high (c.loop-low.low + (c.loop-low.high - c.loop-low.low) / 2)
    (record { t = record { 0 = 0 }; candidate = 0 }) c.requires c.loop-low.invariant (omega arith) (omega arith) c.if-table-middle.true

pub loop-low-preserved : goal.loop-low-preserved
loop-low-preserved c = narrows_down c.args.table.now c.args.t c.loop-low.low c.loop-low.high (c.loop-low.low + (c.loop-low.high - c.loop-low.low) / 2)
    (record { t = record { 0 = 0 }; candidate = 0 }) c.requires c.loop-low.invariant (omega arith) (omega arith) c.if-table-middle.false
