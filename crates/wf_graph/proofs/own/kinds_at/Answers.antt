use Rattle.std.proofs.Common.{◌≡◌, ℕ, List, length, sym, subst, arith}
use Rattle.wf_operation.specs.declared.slot.SlotKind.{SlotKind}
use Rattle.wf_blocks.specs.Answers.{HasSlots}
use Rattle.wf_graph.specs.Bodies.{AreKindsOf}
use Rattle.wf_graph.proofs.own.kinds_at.Goals as goal

pub returns : goal.returns
returns c reached =
    let kinds = c.loop-slot.kinds.items in
    let all : c.slots_at-slot-end.result ≡ length kinds = omega arith in
    let count = subst (λ (n : ℕ). HasSlots c.args.blocks.now c.args.place n) all (c.slots_at-slot-end.ensures reached) in
    subst (λ (ks : List SlotKind). AreKindsOf c.args.blocks.now c.args.place ks) (sym c.from_vec.ensures) (record { count = count; each = c.loop-slot.invariant.each reached })
