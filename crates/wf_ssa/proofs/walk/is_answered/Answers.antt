use Rattle.std.proofs.Common.{sym, ◌∙◌, arith}
use Rattle.wf_ssa.proofs.BackLemmas.{answered_back, answered_end, back_on, back_stops}
use Rattle.wf_ssa.proofs.walk.is_answered.Goals as goal

pub loop-at-preserved : goal.loop-at-preserved
loop-at-preserved c =
    let b = c.args.blocks.now in
    let on = back_on b c.args.meets.now c.loop-at.at (sym c.goes_back.ensures.value ∙ c.loop-at-test.true) in
    record {
      inside = omega (arith, c.loop-at.invariant.inside);
      same = c.loop-at.invariant.same ∙ answered_back b c.args.meets.now c.args.known.now c.loop-at.at on.0 on.1;
    }

pub returns : goal.returns
returns c =
    let b = c.args.blocks.now in
    c.answers_at.ensures ∙ sym (answered_end b c.args.meets.now c.args.known.now c.loop-at.at (λ lt. back_stops b c.args.meets.now c.loop-at.at (sym c.goes_back.ensures.value ∙ c.loop-at-test.false) lt))
    ∙ sym c.loop-at.invariant.same
