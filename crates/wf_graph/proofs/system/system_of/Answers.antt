use Rattle.std.proofs.Common.{◌≡◌, ◌∙◌, ap, Option}
use Rattle.wf_base.specs.declared.ids.TypeId.{TypeId}
use Rattle.wf_rows.specs.Renaming.{all_renamed}
use Rattle.wf_rows.specs.declared.throwable.Throwable.{Throwable}
use Rattle.wf_nodes.specs.Sharing.{thrown_type}
use Rattle.wf_nodes.specs.Thrown.{type_in}
use Rattle.wf_graph.specs.BodyNodes.{body_nodes}
use Rattle.wf_graph.specs.BodyRows.{body_rows}
use Rattle.wf_graph.specs.MethodSystem.{node_number, IsSystemOf}
use Rattle.wf_graph.proofs.Methods.{has_body, if_ok}
use Rattle.wf_graph.proofs.Short.{acts_short}
use Rattle.wf_graph.proofs.system.system_of.Goals as goal

pub system_by-requires-clause-short : goal.system_by-requires-clause-short
system_by-requires-clause-short c =
    let read = c.in_ok-reading.ensures.read in
    let r = c.in_ok-reading.reading in
    acts_short c.args.parts.now c.args.source.now c.requires.candidates read.0 r.blocks r.acts read.1.acts

pub returns-clause-system : goal.returns-clause-system
returns-clause-system c =
    let p = c.args.parts.now in
    let s = c.args.source.now in
    let shared = c.args.shared.now in
    let r = c.in_ok-reading.reading in
    let read = c.in_ok-reading.ensures.read in
    let same : type_in c.args.thrown.now ≡ thrown_type p.types = λ i error. c.requires.thrown error i in
    if_ok c.system_by.result _ (λ m. IsSystemOf p shared s c.args.first_keys c.args.first m.nodes m.inequalities)
    (λ m h. record {
      body = h.0;
      has = has_body p s read.0 r.blocks r.failing r.method r.acts r.handlers h.0 read.1 c.in_ok-reading.ensures.method h.1;
      keys = h.2;
      nodes = h.3;
      rows = h.4 ∙ ap (λ (thrown : Throwable → Option TypeId). all_renamed (node_number shared c.args.first (body_nodes h.0)) (body_rows shared.arrays thrown h.0)) same;
    }) c.system_by.ensures.system
