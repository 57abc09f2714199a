use Rattle.std.proofs.Common.{◌-◌, sym, refl, subst, ◌∙◌, arith}
use Rattle.wf_ssa.specs.Environments.{name_at}
use Rattle.wf_ssa.proofs.BackLemmas.{answered_end, back_on, back_stops}
use Rattle.wf_ssa.proofs.TraceLemmas.{OriginMeans, trace_one}
use Rattle.wf_ssa.proofs.walk.flow_in.Goals as goal

pub loop-name-init : goal.loop-name-init
loop-name-init c = record { inside = c.requires.inside; traced = λ failing k sound kept there. record { before = k; there = there; same = refl; kept = kept } }

pub returns-in-Name : goal.returns-in-Name
returns-in-Name c =
    λ failing k sound kept there. let b = c.args.blocks.now in
    let ms = c.args.meets.now in
    let known = c.args.known.now in
    let on = back_on b ms c.loop-name.at (sym c.goes_back.ensures.value ∙ c.loop-name-test.true) in
    subst (OriginMeans b failing ms known (c.loop-name.at - 1) (name_at k.names c.args.slot)) c.in-Name.is
    (trace_one b failing ms known c.loop-name.at c.loop-name.from (name_at k.names c.args.slot) c.trace.result c.requires.meets on.0 on.1 (c.loop-name.invariant.traced failing k sound kept there) (c.trace.ensures failing))

pub loop-name-preserved : goal.loop-name-preserved
loop-name-preserved c =
    let b = c.args.blocks.now in
    let ms = c.args.meets.now in
    let known = c.args.known.now in
    let on = back_on b ms c.loop-name.at (sym c.goes_back.ensures.value ∙ c.loop-name-test.true) in
    record {
      inside = omega (arith, c.loop-name.invariant.inside);
      traced = λ failing k sound kept there.
          subst (OriginMeans b failing ms known (c.loop-name.at - 1) (name_at k.names c.args.slot)) c.in-Slot.is
          (trace_one b failing ms known c.loop-name.at c.loop-name.from (name_at k.names c.args.slot) c.trace.result c.requires.meets on.0 on.1 (c.loop-name.invariant.traced failing k sound kept there) (c.trace.ensures failing));
    }

pub returns : goal.returns
returns c =
    λ failing k sound kept there. let b = c.args.blocks.now in
    let ms = c.args.meets.now in
    let known = c.args.known.now in
    let t = c.loop-name.invariant.traced failing k sound kept there in
    c.kept_flow.ensures failing t.before sound (sym (answered_end b ms known c.loop-name.at (λ lt. back_stops b ms c.loop-name.at (sym c.goes_back.ensures.value ∙ c.loop-name-test.false) lt)) ∙ t.kept) t.there ∙ t.same
