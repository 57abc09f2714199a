use Rattle.std.proofs.Common.{◌≡◌, ℕ, ◌+◌, ◌<◌, length, get_or, take, arith, sym, ap, ◌∙◌, None, List, Option}
use Rattle.std.specs.Prelude.{map, is_some}
use Rattle.std.proofs.lemmas.List.{length-replicate}
use Rattle.wf_blocks.specs.declared.body.Step.{Step}
use Rattle.wf_blocks.specs.Answers.{entry_ways, ways_from, ways_to}
use Rattle.wf_blocks.proofs.WayLemmas.{capped_more, ways_more, first_way}
use Rattle.wf_blocks.proofs.ways.count_ways.Goals as goal

pub loop-place-init : goal.loop-place-init
loop-place-init c =
    λ p lt. let z : ℕ = 0 in
    let n = length c.args.steps.now in
    let less : p < length c.args.ways.now = omega (arith, lt, ap length c.requires.none, length-replicate n z) in
    first_way p n (get_or c.args.ways.now p 0) (get_or c.add_way.new.ways p 0) (ap (λ (v : List ℕ). get_or v p 0) c.requires.none) (c.add_way.ensures p less)

pub loop-place-preserved : goal.loop-place-preserved
loop-place-preserved c =
    λ p lt. let z : ℕ = 0 in
    let steps = c.args.steps.now in
    let counts = c.args.counts.now in
    let i = c.loop-place.place in
    let d = c.index-steps-place.result in
    let none : Option ℕ = None in
    let less : p < length c.loop-place.ways = omega (arith, lt, c.loop-place.auto.ways, c.add_way.auto.ways, ap length c.requires.none, length-replicate (length steps) z) in
    let inside : i < length counts = omega (arith, c.loop-place-test.true, c.requires.count) in
    let step : ways_from p d (is_some (get_or counts i none)) ≡ ways_from p (get_or steps i d) (is_some (get_or counts i none)) = ap (λ (s : Step). ways_from p s (is_some (get_or counts i none))) c.index-steps-place.is in
    capped_more (get_or c.add_step.new.ways p 0) (get_or c.loop-place.ways p 0) (entry_ways p) (ways_to p (take i steps) (map is_some (take i counts))) (ways_from p d (is_some (get_or counts i none))) (ways_to p (take (i + 1) steps) (map is_some (take (i + 1) counts)))
    (c.add_step.ensures p less) (c.loop-place.invariant p lt)
    (ways_more p steps counts i d none c.loop-place-test.true inside ∙ ap (λ (n : ℕ). ways_to p (take i steps) (map is_some (take i counts)) + n) (sym step))
