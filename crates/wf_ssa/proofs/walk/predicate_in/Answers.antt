use Rattle.std.proofs.Common.{◌-◌, sym, refl, subst, ◌∙◌, arith}
use Rattle.wf_ssa.proofs.BackLemmas.{answered_end, back_on, back_stops}
use Rattle.wf_ssa.proofs.TraceLemmas.{LinkMeans, led_one}
use Rattle.wf_ssa.proofs.walk.predicate_in.Goals as goal

pub loop-own-init : goal.loop-own-init
loop-own-init c = record { inside = c.requires.inside; led = λ failing k fails sound kept there. record { before = k; there = there; same = refl; kept = kept } }

pub returns-in-Some : goal.returns-in-Some
returns-in-Some c =
    λ failing k fails sound kept there. let b = c.args.blocks.now in
    let ms = c.args.meets.now in
    let known = c.args.known.now in
    let on = back_on b ms c.loop-own.at (sym c.goes_back.ensures.value ∙ c.loop-own-test.true) in
    subst (LinkMeans b failing ms known (c.loop-own.at - 1) k.predicate) c.in-Some.is
    (led_one b failing ms known c.loop-own.at k.predicate c.linked_at.result c.requires.meets on.0 on.1 (c.loop-own.invariant.led failing k fails sound kept there) (λ before. c.linked_at.ensures failing before fails))

pub loop-own-preserved : goal.loop-own-preserved
loop-own-preserved c =
    let b = c.args.blocks.now in
    let ms = c.args.meets.now in
    let known = c.args.known.now in
    let on = back_on b ms c.loop-own.at (sym c.goes_back.ensures.value ∙ c.loop-own-test.true) in
    record {
      inside = omega (arith, c.loop-own.invariant.inside);
      led = λ failing k fails sound kept there.
          subst (LinkMeans b failing ms known (c.loop-own.at - 1) k.predicate) c.in-None.is
          (led_one b failing ms known c.loop-own.at k.predicate c.linked_at.result c.requires.meets on.0 on.1 (c.loop-own.invariant.led failing k fails sound kept there) (λ before. c.linked_at.ensures failing before fails));
    }

pub returns : goal.returns
returns c =
    λ failing k fails sound kept there. let b = c.args.blocks.now in
    let ms = c.args.meets.now in
    let known = c.args.known.now in
    let t = c.loop-own.invariant.led failing k fails sound kept there in
    c.kept_predicate.ensures failing t.before sound (sym (answered_end b ms known c.loop-own.at (λ lt. back_stops b ms c.loop-own.at (sym c.goes_back.ensures.value ∙ c.loop-own-test.false) lt)) ∙ t.kept) t.there ∙ t.same
