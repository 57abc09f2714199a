use Rattle.std.proofs.Common.{sym, ap, ◌∙◌, length, arith}
use Rattle.wf_ssa.specs.Environments.{name_at, operand_slot}
use Rattle.wf_known.specs.Flows.{node_of}
use Rattle.wf_known.proofs.Nodes.{operand_there, slot_there, same_count, renamed_there}
use Rattle.wf_known.proofs.along.renamed_node.Goals as goal

pub returns : goal.returns
returns c =
    λ m names same. let o = c.args.operation.now in
    let nodes = c.args.slots.now in
    let n = length names in
    c.refined_node.ensures m (name_at names (operand_slot o.effect n 1)) (name_at names (operand_slot o.effect n 2)) (name_at names c.args.slot)
    (c.node_at-one.ensures ∙ operand_there m names nodes o.effect 1 c.operand_slot.result same c.operand_slot.ensures)
    (c.node_at-two.ensures ∙ operand_there m names nodes o.effect 2 c.operand_slot-2.result same c.operand_slot-2.ensures)
    (c.node_at-node.ensures ∙ slot_there m names nodes c.args.slot same)
    ∙ ap (node_of m) (sym (renamed_there names c.args.pc c.args.edge o c.args.slot (omega (arith, c.if-slot-slots.false, same_count m names nodes same))))
