use Rattle.std.proofs.Common.{◌*◌, arith, rules}
use Rattle.wf_system.specs.declared.pick.Pick.{Pick}
use Rattle.wf_system.proofs.SideLaws.{candidates_below, entry_is_picked}
use Rattle.wf_system.proofs.fit.candidates_fit.Goals as goal

pub returns-then-pick-words : goal.returns-then-pick-words
returns-then-pick-words c =
    let d : Pick = record { t = record { 0 = 0 }; candidate = 0 } in
    (λ h. absurd cc, λ all. absurd (omega (arith, all _ _ (entry_is_picked c.args.table.now c.loop-pick.pick-index d c.requires (omega arith)), c.if-pick-words.true)))

pub returns : goal.returns
returns c = (λ h. candidates_below c.args.table.now (64 * c.args.words) (λ i d lt. c.loop-pick.invariant i d (omega (arith, lt))), λ all. search rules)
