use Rattle.std.proofs.Common.{sym, arith}
use Rattle.wf_system.proofs.SideLaws.{picked_there, picked_none}
use Rattle.wf_system.proofs.side.picked.Goals as goal

pub returns-then-place-table : goal.returns-then-place-table
returns-then-place-table c = sym (picked_none c.args.table.now c.args.t c.first_not_below-place.result (record { t = record { 0 = 0 }; candidate = 0 }) c.requires c.first_not_below-place.ensures
    (λ lt. absurd (omega (arith, c.if-place-table.true))))

pub returns-then-pick-t : goal.returns-then-pick-t
returns-then-pick-t c = sym (picked_none c.args.table.now c.args.t c.first_not_below-place.result (record { t = record { 0 = 0 }; candidate = 0 }) c.requires c.first_not_below-place.ensures
    (λ lt. c.if-pick-t.true))

pub returns : goal.returns
returns c = sym (picked_there c.args.table.now c.args.t c.first_not_below-place.result (record { t = record { 0 = 0 }; candidate = 0 }) c.first_not_below-place.ensures.before
    (omega arith) c.if-pick-t.false)
