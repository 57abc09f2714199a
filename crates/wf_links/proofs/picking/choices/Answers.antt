use Rattle.std.proofs.Common.{arith}
use Rattle.wf_links.proofs.Masks.{none_received}
use Rattle.wf_links.proofs.picking.choices.Goals as goal

pub push_word-requires-clause-none : goal.push_word-requires-clause-none
push_word-requires-clause-none c = λ zero. none_received c.args.types.now c.args.callee c.mask-word-items.result.now c.loop-word.word-index c.loop-word.done c.last_of-last.result c.mask-word-items.ensures zero
    (omega (arith, c.loop-word.invariant.done, c.mask-word-items.ensures.size, c.loop-word-test.true)) (omega (arith, c.last_of-last.ensures, c.loop-word.invariant.end))
