use Rattle.std.proofs.Common.{◌+◌, ◌<◌, length, get_or, take, arith}
use Rattle.std.specs.Prelude.{◌==◌, count_by, if◌then◌else◌}
use Rattle.wf_blocks.proofs.WayLemmas.{capped_more, count_more}
use Rattle.wf_blocks.proofs.ways.add_ways.Goals as goal

pub loop-to-preserved : goal.loop-to-preserved
loop-to-preserved c =
    λ p lt. let ts = c.args.targets.now in
    let i = c.loop-to.to-index in
    let less : p < length c.loop-to.ways = omega (arith, lt, c.loop-to.auto.ways) in
    capped_more (get_or c.add_way.new.ways p 0) (get_or c.loop-to.ways p 0) (get_or c.args.ways.now p 0) (count_by (λ t. t == p) (take i ts)) (if get_or ts i 0 == p then 1 else 0) (count_by (λ t. t == p) (take (i + 1) ts))
    (c.add_way.ensures p less) (c.loop-to.invariant p lt) (count_more p ts i 0 c.loop-to-test.true)
