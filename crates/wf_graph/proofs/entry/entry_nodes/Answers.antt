use Rattle.std.proofs.Common.{List, [], ◌∷◌, ◌++◌, map, sym, ap, ◌∙◌, arith}
use Rattle.std.specs.List.{range_with_len}
use Rattle.std.proofs.lemmas.List.{map-append}
use Rattle.std.proofs.lemmas.List.FromFn.{map-range_with_len_more}
use Rattle.wf_ssa.specs.declared.name.FlowName.{FlowName}
use Rattle.wf_ssa.specs.Environments.{entry_name}
use Rattle.wf_rows.specs.declared.node.Node.{Node}
use Rattle.wf_rows.specs.declared.node.Own.{Own}
use Rattle.wf_known.specs.Flows.{node_of}
use Rattle.wf_graph.proofs.entry.entry_nodes.Goals as goal

pub loop-local-preserved : goal.loop-local-preserved
loop-local-preserved c =
    let local = c.loop-local.local in
    let node = node_of c.args.method in
    let name = entry_name c.args.body.now in
    let names : List FlowName = map name (range_with_len 0 local) in
    c.in_ok-push.ensures.items ∙ ap (λ (l : List (Node Own)). l ++ c.entry_node.result ∷ []) c.loop-local.invariant
    ∙ ap (λ (n : Node Own). map node names ++ n ∷ []) c.entry_node.ensures
    ∙ sym (map-append node names (name local ∷ []))
    ∙ ap (map node) (sym (map-range_with_len_more name 0 local local (omega arith)))
