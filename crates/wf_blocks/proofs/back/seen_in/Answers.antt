use Rattle.std.proofs.Common.{◌≡◌, ◌-◌, Some, arith, refl, sym, ap, subst, ◌∙◌}
use Rattle.wf_operation.specs.declared.slot.Source.{Source}
use Rattle.wf_blocks.specs.declared.back.Trail.{Trail}
use Rattle.wf_blocks.specs.Answers.{count_at, traced}
use Rattle.wf_blocks.specs.Rows.{seen_at}
use Rattle.wf_blocks.proofs.BackLemmas.{TrailMeans, trace_back, sources_between, kept_seen, lost_nothing, goes_back, start_by}
use Rattle.wf_blocks.proofs.CountLemmas.{count_known}
use Rattle.wf_blocks.proofs.back.seen_in.Goals as goal

pub loop-before-init : goal.loop-before-init
loop-before-init c =
    let b = c.args.body.now in
    let known : count_at c.args.counts.now c.args.place ≡ Some c.known_count-after.result = count_known (count_at c.args.counts.now c.args.place) c.known_count-after.result c.requires.reached c.known_count-after.ensures in
    record {
      there = (c.requires.counts.each c.args.place c.requires.inside).has_row c.known_count-after.result known;
      inside = c.requires.inside;
      traced = λ row at. record { row = row; at = at; same = lost_nothing (seen_at row c.args.slot) };
    }

pub source_behind-source-requires-clause-fits : goal.source_behind-source-requires-clause-fits
source_behind-source-requires-clause-fits c =
    let b = c.args.body.now in
    let at = c.loop-before.at in
    let on = goes_back b c.args.rows.now c.args.counts.now c.args.starts.now at c.loop-before.after c.known_count-before.result c.is_start.result
    c.requires.rows c.requires.counts c.requires.marks c.loop-before.invariant.inside c.is_start.ensures c.loop-before-test.true c.loop-before.invariant.there c.known_count-before.ensures in
    sources_between b c.args.rows.now at (at - 1) c.known_count-before.result c.loop-before.after c.requires.rows on.is on.inside on.counted c.loop-before.invariant.there

pub returns-in-Here : goal.returns-in-Here
returns-in-Here c =
    λ row there. let b = c.args.body.now in
    let at = c.loop-before.at in
    let on = goes_back b c.args.rows.now c.args.counts.now c.args.starts.now at c.loop-before.after c.known_count-before.result c.is_start.result
    c.requires.rows c.requires.counts c.requires.marks c.loop-before.invariant.inside c.is_start.ensures c.loop-before-test.true c.loop-before.invariant.there c.known_count-before.ensures in
    subst (λ (t : Trail). TrailMeans b c.args.rows.now (at - 1) (seen_at row c.args.slot) t) (ap (λ (s : Source). traced s c.loop-before.loss) (sym c.source_behind-source.ensures) ∙ sym c.traced.ensures ∙ c.in-Here.is)
    (trace_back b c.args.rows.now at (at - 1) c.loop-before.from c.known_count-before.result c.loop-before.loss (seen_at row c.args.slot) c.requires.rows (c.loop-before.invariant.traced row there) on.is on.inside on.counted)

pub loop-before-preserved : goal.loop-before-preserved
loop-before-preserved c =
    let b = c.args.body.now in
    let at = c.loop-before.at in
    let on = goes_back b c.args.rows.now c.args.counts.now c.args.starts.now at c.loop-before.after c.known_count-before.result c.is_start.result
    c.requires.rows c.requires.counts c.requires.marks c.loop-before.invariant.inside c.is_start.ensures c.loop-before-test.true c.loop-before.invariant.there c.known_count-before.ensures in
    record {
      there = on.counted.has_row c.known_count-before.result refl;
      inside = omega (arith, c.loop-before.invariant.inside);
      traced = λ row there.
          subst (λ (t : Trail). TrailMeans b c.args.rows.now (at - 1) (seen_at row c.args.slot) t) (ap (λ (s : Source). traced s c.loop-before.loss) (sym c.source_behind-source.ensures) ∙ sym c.traced.ensures ∙ c.in-Before.is)
          (trace_back b c.args.rows.now at (at - 1) c.loop-before.from c.known_count-before.result c.loop-before.loss (seen_at row c.args.slot) c.requires.rows (c.loop-before.invariant.traced row there) on.is on.inside on.counted);
    }

pub returns : goal.returns
returns c =
    λ row there. let b = c.args.body.now in
    c.lost.ensures ∙ kept_seen b c.args.rows.now c.loop-before.at c.loop-before.from c.loop-before.loss (seen_at row c.args.slot) c.kept_at.result
    (start_by b c.args.starts.now c.loop-before.at c.is_start.result c.requires.marks c.loop-before.invariant.inside c.is_start.ensures c.loop-before-test.false)
    (c.loop-before.invariant.traced row there) c.kept_at.ensures
