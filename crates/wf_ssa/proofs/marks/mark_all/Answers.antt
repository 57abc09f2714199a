use Rattle.std.proofs.Common.{◌+◌, true, get_or, take}
use Rattle.std.specs.Prelude.{◌==◌}
use Rattle.std.specs.List.{list_any}
use Rattle.wf_blocks.proofs.MarkLemmas.{any_more, marked_more}
use Rattle.wf_ssa.proofs.marks.mark_all.Goals as goal

pub loop-place-preserved : goal.loop-place-preserved
loop-place-preserved c =
    λ p. let ts = c.args.places.now in
    let i = c.loop-place.place-index in
    marked_more (get_or c.args.marks.now p true) (get_or c.loop-place.marks p true) (get_or c.mark.new.marks p true) (list_any (λ t. t == p) (take i ts)) (get_or ts i 0 == p) (list_any (λ t. t == p) (take (i + 1) ts))
    (c.mark.ensures p) (c.loop-place.invariant p) (any_more (λ t. t == p) ts i 0 c.loop-place-test.true)
