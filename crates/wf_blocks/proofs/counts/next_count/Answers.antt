use Rattle.std.proofs.Common.{ℕ, ◌+◌, Some, arith, sym, ap, subst, ◌∙◌}
use Rattle.wf_blocks.specs.Answers.{IsCount}
use Rattle.wf_blocks.specs.Bodies.{falls_only}
use Rattle.wf_blocks.proofs.CountLemmas.{stops_count, none_count, no_operation_count, next_count, after_fits, count_low}
use Rattle.wf_blocks.proofs.counts.next_count.Goals as goal

pub returns-then-not-falls_only : goal.returns-then-not-falls_only
returns-then-not-falls_only c =
    stops_count c.args.body.now c.args.rows.now c.args.last c.requires.rows c.requires.inside
    (ap (falls_only c.args.last) (sym c.targets_at.ensures) ∙ sym c.falls_only.ensures ∙ c.if-not-falls_only.true)

pub slots_after-requires : goal.slots_after-requires
slots_after-requires c =
    let b = c.args.body.now in
    let low = after_fits b c.args.rows.now c.args.last c.in-Some-before.count c.in-Some.operation.now c.requires.rows (sym c.in-Some.ensures) (subst (IsCount b c.args.rows.now c.args.last) c.in-Some-before.is c.requires.before) in
    let count = count_low b c.args.rows.now c.args.last c.in-Some-before.count c.requires.rows (subst (IsCount b c.args.rows.now c.args.last) c.in-Some-before.is c.requires.before) in
    omega (arith, low, count, c.requires.fits.locals, c.requires.fits.stack)

pub overflow_cast-result : goal.overflow_cast-result
overflow_cast-result c =
    let b = c.args.body.now in
    let low = after_fits b c.args.rows.now c.args.last c.in-Some-before.count c.in-Some.operation.now c.requires.rows (sym c.in-Some.ensures) (subst (IsCount b c.args.rows.now c.args.last) c.in-Some-before.is c.requires.before) in
    omega (arith, low, c.slots_after.ensures, c.requires.fits.locals, c.requires.fits.stack)

pub returns-in-None : goal.returns-in-None
returns-in-None c = no_operation_count c.args.body.now c.args.rows.now c.args.last c.requires.rows c.requires.inside (sym c.in-None.ensures)

pub returns-in-None-before : goal.returns-in-None-before
returns-in-None-before c =
    none_count c.args.body.now c.args.rows.now c.args.last c.requires.rows c.requires.inside (subst (IsCount c.args.body.now c.args.rows.now c.args.last) c.in-None-before.is c.requires.before)

pub returns-in-Some-before : goal.returns-in-Some-before
returns-in-Some-before c =
    let b = c.args.body.now in
    let falls = ap (falls_only c.args.last) (sym c.targets_at.ensures) ∙ sym c.falls_only.ensures ∙ c.if-not-falls_only.false in
    subst (λ (m : ℕ). IsCount b c.args.rows.now (c.args.last + 1) (Some m)) (sym c.slots_after.ensures)
    (next_count b c.args.rows.now c.args.last c.in-Some-before.count c.in-Some.operation.now c.requires.rows c.requires.inside falls (sym c.in-Some.ensures)
    (subst (IsCount b c.args.rows.now c.args.last) c.in-Some-before.is c.requires.before))
