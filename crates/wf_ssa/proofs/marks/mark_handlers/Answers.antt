use Rattle.std.proofs.Common.{◌+◌, true, get_or, take, None}
use Rattle.std.specs.List.{list_any}
use Rattle.wf_blocks.specs.declared.body.Catcher.{Catcher}
use Rattle.wf_blocks.specs.Bodies.{is_handler}
use Rattle.wf_blocks.proofs.MarkLemmas.{any_more, marked_more}
use Rattle.wf_ssa.proofs.marks.mark_handlers.Goals as goal

pub loop-catcher-preserved : goal.loop-catcher-preserved
loop-catcher-preserved c =
    λ p. let d : Catcher = record { first = 0; end = 0; target = None } in
    let cs = c.args.catchers.now in
    let i = c.loop-catcher.catcher-index in
    marked_more (get_or c.args.marks.now p true) (get_or c.loop-catcher.marks p true) (get_or c.mark_handler.new.marks p true) (list_any (is_handler p) (take i cs)) (is_handler p (get_or cs i d)) (list_any (is_handler p) (take (i + 1) cs))
    (c.mark_handler.ensures p) (c.loop-catcher.invariant p) (any_more (is_handler p) cs i d c.loop-catcher-test.true)
