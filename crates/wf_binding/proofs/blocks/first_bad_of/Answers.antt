use Rattle.std.proofs.Common.{◌≡◌, ◌∙◌, ◌+◌, ◌∷◌, ◌++◌, [], ap, sym, subst, refl, length, take, List, arith}
use Rattle.std.proofs.lemmas.List.{take_more}
use Rattle.std.proofs.lemmas.Option.{slice_get_read}
use Rattle.wf_inputs.specs.declared.summary.Block.{Block}
use Rattle.wf_binding.specs.First.{IsFirst, Upto}
use Rattle.wf_binding.specs.Marks.{AreMarked}
use Rattle.wf_binding.specs.Validity.{IsBadBlock}
use Rattle.wf_binding.proofs.BlockLines.{more_blocks, all_blocks}
use Rattle.wf_binding.proofs.blocks.first_bad_of.Goals as goal

pub loop-block-preserved : goal.loop-block-preserved
loop-block-preserved c =
    let classes = c.args.classes.now in
    let blocks = c.args.blocks.now in
    let i = c.loop-block.block-index in
    let b = c.block-item.result in
    let more : take (i + 1) blocks ≡ take i blocks ++ b ∷ [] = take_more blocks i b c.loop-block-test.true ∙ ap (λ (x : Block). take i blocks ++ x ∷ []) (sym c.block-item.is) in
    record {
      marked = subst (λ (xs : List Block). AreMarked classes xs c.first_bad_in_block.new.marks) (sym more) (c.in_ok-here.ensures.marked (take i blocks) c.loop-block.invariant.marked);
      first = subst (IsFirst (Upto (IsBadBlock classes blocks) (i + 1))) (sym c.earlier_of-found.ensures)
          (more_blocks classes blocks i b c.loop-block.found c.in_ok-here.here (slice_get_read blocks (length blocks) i b refl c.loop-block-test.true c.block-item.is) c.loop-block.invariant.first
          (c.in_ok-here.ensures.first (take i blocks) c.loop-block.invariant.marked));
    }

pub returns : goal.returns
returns c = all_blocks c.args.classes.now c.args.blocks.now c.loop-block.block-index c.loop-block.found (omega arith) c.loop-block.invariant.first
