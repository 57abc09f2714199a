use Rattle.wf_ssa.proofs.ThereLemmas.{there}
use Rattle.wf_ssa.proofs.laws.reached_are_known.Goals as goal

pub returns : goal.returns
returns c =
    λ failing place reached. let b = c.args.blocks.now in
    let m = c.has_kinds.ensures.marks in
    let k = there b failing m.marks c.has_kinds.ensures.kinds c.has_kinds.ensures.slots place reached.slots reached.path in
    record { before = k.0; there = record { marks = m.marks; are = m.are; before = k.1 } }
