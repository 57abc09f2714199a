use Rattle.std.proofs.Common.{arith, refl}
use Rattle.wf_system.specs.declared.pick.Pick.{Pick}
use Rattle.wf_system.proofs.SideLaws.{ascends_more, ascends_whole, ascends_not}
use Rattle.wf_system.proofs.side.ascends.Goals as goal

pub loop-i-init : goal.loop-i-init
loop-i-init c = record { each = λ i j d before inside. absurd (omega arith) }

pub returns-then-table-i : goal.returns-then-table-i
returns-then-table-i c =
    let d : Pick = record { t = record { 0 = 0 }; candidate = 0 } in
    (λ h. absurd cc, λ up. absurd (ascends_not c.args.table.now c.loop-i.i d d c.loop-i.auto.i c.loop-i-test.true c.if-table-i.true up))

pub loop-i-preserved : goal.loop-i-preserved
loop-i-preserved c =
    let d : Pick = record { t = record { 0 = 0 }; candidate = 0 } in
    ascends_more c.args.table.now c.loop-i.i d d c.loop-i.auto.i c.loop-i-test.true c.if-table-i.false c.loop-i.invariant

pub returns : goal.returns
returns c = (λ h. ascends_whole c.args.table.now c.loop-i.i c.loop-i-test.false c.loop-i.invariant, λ up. refl)
