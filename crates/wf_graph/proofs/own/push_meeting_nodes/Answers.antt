use Rattle.std.proofs.Common.{◌≡◌, List, ◌++◌, sym, subst, ◌∙◌}
use Rattle.std.specs.Prelude.{OnOk}
use Rattle.wf_operation.specs.declared.slot.SlotKind.{SlotKind}
use Rattle.wf_rows.specs.declared.node.Own.{Own}
use Rattle.wf_graph.specs.Bodies.{AreKindsOf}
use Rattle.wf_graph.proofs.OwnKinds.{meeting_are}
use Rattle.wf_graph.proofs.own.push_meeting_nodes.Goals as goal

pub returns-in_ok-kinds : goal.returns-in_ok-kinds
returns-in_ok-kinds c marks kinds are kinds_are =
    let found = c.as_slice.result.now in
    let nodes = meeting_are c.args.blocks.now marks kinds c.args.place c.args.step.now found are kinds_are (sym (c.meets_at.ensures marks are) ∙ c.if-meets_at.true)
    (λ reached. subst (λ (ks : List SlotKind). AreKindsOf c.args.blocks.now c.args.place ks) (sym c.as_slice.ensures) (c.in_ok-kinds.ensures reached)) in
    subst (λ (l : List Own). OnOk c.push_block.result (c.push_block.new.self ≡ c.args.own.now ++ l)) nodes c.push_block.ensures
