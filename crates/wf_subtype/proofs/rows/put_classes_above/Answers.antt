use Rattle.std.proofs.Common.{◌≡◌, ◌∙◌, ◌+◌, ◌<◌, List, ℕ, length, get_or, sym, ap, subst, arith}
use Rattle.wf_data.specs.declared.class_info.ClassInfo.{ClassInfo}
use Rattle.wf_classes.specs.Above.{IsAbove}
use Rattle.wf_classes.proofs.Sweep.{above_falls}
use Rattle.wf_subtype.specs.Rows.{Puts, IsClassBit}
use Rattle.wf_subtype.proofs.RowBits.{IsAboveFrom, above_starts, above_more, above_ends}
use Rattle.wf_subtype.proofs.rows.put_classes_above.Goals as goal

pub loop-d-init : goal.loop-d-init
loop-d-init c =
    let a = c.above-above.result in
    let rows = c.args.rows.now in
    let inside : a.class < length a.classes = omega (arith, c.requires.class, c.above-above.ensures.class, ap length c.above-above.ensures.classes) in
    let count : length a.classes ≡ length c.as_slice.result.now = ap length (c.above-above.ensures.classes ∙ sym (c.as_slice.ensures ∙ c.list.ensures.same)) in
    record {
      puts = subst (λ n. Puts rows rows (IsClassBit c.args.first c.args.b (IsAboveFrom a.classes a.heights a.class n))) count (above_starts a.classes a.order a.heights a.class c.args.first c.args.b rows c.heights.ensures.ranked inside c.requires.kept);
      within = omega (arith, count);
    }

pub overflow_add-first : goal.overflow_add-first
overflow_add-first c =
    let a = c.above-above.result in
    let inside : a.class < length a.classes = omega (arith, c.requires.class, c.above-above.ensures.class, ap length c.above-above.ensures.classes) in
    let there = (above_falls a.classes a.order a.heights a.class c.in-Some.d.0 c.heights.ensures.ranked inside c.in-Some.ensures.is.is).0 in
    omega (arith, there, ap length c.above-above.ensures.classes, c.requires.inside, c.requires.kept.targets)

pub put-requires-clause-inside : goal.put-requires-clause-inside
put-requires-clause-inside c =
    let a = c.above-above.result in
    let inside : a.class < length a.classes = omega (arith, c.requires.class, c.above-above.ensures.class, ap length c.above-above.ensures.classes) in
    let there = (above_falls a.classes a.order a.heights a.class c.in-Some.d.0 c.heights.ensures.ranked inside c.in-Some.ensures.is.is).0 in
    omega (arith, there, ap length c.above-above.ensures.classes, c.requires.inside, c.loop-d.invariant.puts.count)

pub bounds-heights-d : goal.bounds-heights-d
bounds-heights-d c =
    let a = c.above-above.result in
    let inside : a.class < length a.classes = omega (arith, c.requires.class, c.above-above.ensures.class, ap length c.above-above.ensures.classes) in
    let there = (above_falls a.classes a.order a.heights a.class c.in-Some.d.0 c.heights.ensures.ranked inside c.in-Some.ensures.is.is).0 in
    omega (arith, there, c.heights.ensures.ranked.counted, ap length c.heights.ensures.heights)

pub loop-d-preserved : goal.loop-d-preserved
loop-d-preserved c =
    let a = c.above-above.result in
    let d : ℕ = c.in-Some.d.0 in
    let inside : a.class < length a.classes = omega (arith, c.requires.class, c.above-above.ensures.class, ap length c.above-above.ensures.classes) in
    record {
      puts = subst (λ (hs : List ℕ). Puts c.args.rows.now c.put.new.rows (IsClassBit c.args.first c.args.b (IsAboveFrom a.classes a.heights a.class (get_or hs d 0)))) (sym c.heights.ensures.heights)
          (above_more a c.loop-d.bound d c.args.first c.args.b c.args.rows.now c.loop-d.rows c.put.new.rows c.heights.ensures.ranked inside c.in-Some.ensures c.loop-d.invariant.puts c.in_ok-put.ensures);
      within = omega (arith, ap (λ (hs : List ℕ). get_or hs d 0) c.heights.ensures.heights, c.in-Some.ensures.is.lower, c.loop-d.invariant.within);
    }

pub returns : goal.returns
returns c =
    let a = c.above-above.result in
    let old = c.args.rows.now in
    let new = c.loop-d.rows in
    let first = c.args.first in
    let b = c.args.b in
    subst (λ (ks : List ClassInfo). Puts old new (IsClassBit first b (IsAbove ks c.args.class.0))) c.above-above.ensures.classes
    (subst (λ k. Puts old new (IsClassBit first b (IsAbove a.classes k))) c.above-above.ensures.class (above_ends a c.loop-d.bound first b old new c.in_default.ensures c.loop-d.invariant.puts))
