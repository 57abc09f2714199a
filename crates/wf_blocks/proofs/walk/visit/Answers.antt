use Rattle.std.proofs.Common.{sym, ◌∙◌}
use Rattle.wf_blocks.proofs.WalkLemmas.{popped}
use Rattle.wf_blocks.proofs.walk.visit.Goals as goal

pub returns-in-Some-clause-bad : goal.returns-in-Some-clause-bad
returns-in-Some-clause-bad c =
    λ e w. c.walk.ensures.bad c.args.first c.in-Some.row e
    (popped c.args.body.now c.args.rows.now c.args.queue.now.items c.args.first c.in-Some.row (sym c.in_ok-row.ensures ∙ c.in-Some.is) w)

pub returns-in-Some-clause-works : goal.returns-in-Some-clause-works
returns-in-Some-clause-works c =
    λ e w. c.walk.ensures.works c.args.first c.in-Some.row e
    (popped c.args.body.now c.args.rows.now c.args.queue.now.items c.args.first c.in-Some.row (sym c.in_ok-row.ensures ∙ c.in-Some.is) w)
