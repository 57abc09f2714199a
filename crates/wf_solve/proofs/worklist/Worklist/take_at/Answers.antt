use Rattle.std.proofs.Common.{◌+◌, ◌*◌, length-set}
use Rattle.wf_solve.proofs.WorkLaws.{takes_at, kept_taken}
use Rattle.wf_solve.proofs.worklist.Worklist.take_at.Goals as goal

pub returns : goal.returns
returns c = takes_at c.self.inside.nodes c.self.inside.bits.items c.args.self.now c.args.place c.index-word.result.now c.lowest_bit-bit.result c.self.view_is c.self.invariant c.index-word.ensures c.requires.inside c.lowest_bit-bit.ensures.below c.lowest_bit-bit.ensures.set

pub invariant_of-self : goal.invariant_of-self
invariant_of-self c = kept_taken c.self.inside.nodes c.self.inside.bits.items _ c.args.self.now (c.args.place * 64 + c.lowest_bit-bit.result) c.self.view_is c.self.invariant (length-set _ _ _)
    (takes_at c.self.inside.nodes c.self.inside.bits.items c.args.self.now c.args.place c.index-word.result.now c.lowest_bit-bit.result c.self.view_is c.self.invariant c.index-word.ensures c.requires.inside c.lowest_bit-bit.ensures.below c.lowest_bit-bit.ensures.set)
