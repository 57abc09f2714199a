use Rattle.std.proofs.Common.{◌∙◌, ap, List, length, refl, inl, arith}
use Rattle.wf_rows.specs.Renaming.{all_renamed}
use Rattle.wf_rows.specs.declared.node.Own.{Own}
use Rattle.wf_nodes.specs.Thrown.{type_in}
use Rattle.wf_graph.specs.BodyRows.{body_rows}
use Rattle.wf_graph.specs.MethodSystem.{node_number}
use Rattle.wf_graph.proofs.Existing.{a_body}
use Rattle.wf_graph.proofs.system.system_by.Goals as goal

pub returns-then-not-are_few-clause-fault : goal.returns-then-not-are_few-clause-fault
returns-then-not-are_few-clause-fault c =
    let r = c.args.reading.now in
    let body = a_body r.blocks r.failing r.method r.acts r.handlers c.args.first_keys c.requires.failing c.has_kinds.ensures.marks c.has_kinds.ensures.kinds c.has_kinds.ensures.slots c.reached_are_known.ensures in
    (λ e. (body.0, body.1, omega (arith, c.if-not-are_few.ensures.many, ap length (c.in_ok-own.ensures body.0 body.1))), inl refl)

pub returns-clause-system : goal.returns-clause-system
returns-clause-system c =
    let r = c.args.reading.now in
    let body = a_body r.blocks r.failing r.method r.acts r.handlers c.args.first_keys c.requires.failing c.has_kinds.ensures.marks c.has_kinds.ensures.kinds c.has_kinds.ensures.slots c.reached_are_known.ensures in
    let own = c.in_ok-own.ensures body.0 body.1 in
    let rows = body_rows c.args.shared.now.arrays (type_in c.args.thrown.now) body.0 in (
      body.0,
      body.1,
      body.2,
      c.len.ensures ∙ ap length own,
      c.in_ok-inequalities.ensures body.0 body.1 body.2 ∙ ap (λ (owns : List Own). all_renamed (node_number c.args.shared.now c.args.first owns) rows) own,
    )
