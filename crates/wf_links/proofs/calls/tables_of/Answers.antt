use Rattle.std.proofs.Common.{arith}
use Rattle.std.proofs.lemmas.List.{get_or_default}
use Rattle.wf_links.proofs.Tables.{tables_on}
use Rattle.wf_links.proofs.calls.tables_of.Goals as goal

pub loop-callee-preserved : goal.loop-callee-preserved
loop-callee-preserved c =
    let callees = c.args.callees.now in
    let i = c.loop-callee.callee-index in
    rw (c.in_ok-push.ensures.items, c.in_ok-push-2.ensures.items)
    (tables_on c.args.types.now callees c.loop-callee.candidates.items c.loop-callee.picks.items i _ c.in_ok-table.table.candidates c.in_ok-table.table.picks (omega arith) (get_or_default callees i _ _ (omega arith)) c.loop-callee.invariant c.in_ok-table.ensures)
