use Rattle.std.proofs.Common.{sym, arith}
use Rattle.wf_listing.proofs.Slots.{is_least}
use Rattle.wf_listing.proofs.lines.members.slots_of.Goals as goal

pub returns-clause-slots : goal.returns-clause-slots
returns-clause-slots c =
    sym (is_least c.loop-low.low c.loop-low.high c.args.desc.now (omega arith) (omega arith) c.loop-low.invariant.top c.loop-low.invariant.fewer c.loop-low.invariant.enough)
