use Rattle.std.proofs.Common.{◌≡◌, ℕ, List, [], ◌∷◌, ◌++◌, length, get_or, sym, ap, ◌∙◌, arith}
use Rattle.std.proofs.lemmas.List.{length-append}
use Rattle.wf_operation.specs.declared.slot.Source.{Source}
use Rattle.wf_operation.specs.Effects.{source_at}
use Rattle.wf_operation.specs.Slots.{from}
use Rattle.wf_ssa.specs.declared.name.FlowName.{FlowName}
use Rattle.wf_ssa.specs.declared.name.FlowName.TheVariants as flow
use Rattle.wf_ssa.specs.Environments.{renamed, names_along}
use Rattle.wf_rows.specs.declared.node.Node.{Node}
use Rattle.wf_rows.specs.declared.node.Node.TheVariants.{Nothing}
use Rattle.wf_rows.specs.declared.node.Own.{Own}
use Rattle.wf_known.specs.Flows.{node_of}
use Rattle.wf_known.proofs.Nodes.{node_push, all_there, same_count, along_length, along_there}
use Rattle.wf_known.proofs.along.slots_along.Goals as goal

pub loop-slot-preserved : goal.loop-slot-preserved
loop-slot-preserved c =
    let o = c.args.operation.now in
    let nodes = c.loop-slot.after.items in
    let node = c.moved_node.result in
    let count = c.loop-slot.invariant.count in
    let pushed : c.push.new.self.items ≡ nodes ++ node ∷ [] = c.in_ok-push.ensures.items in
    record {
      count = omega (arith, ap length pushed, length-append nodes (node ∷ []), count);
      each = λ m names i same lt.
          (let moved : Source → FlowName = from (renamed c.args.pc o c.args.edge names) (flow.Res c.args.pc) flow.Nothing in
          let f : ℕ → Node Own = λ j. node_of m (moved (source_at o.effect (length names) j)) in
          let source = c.source_at-source.ensures ∙ ap (λ (n : ℕ). source_at o.effect n c.loop-slot.slot) (same_count m names c.args.slots.now same) in
          ap (λ (ns : List (Node Own)). get_or ns i Nothing) pushed
          ∙ node_push nodes node f i (omega (arith, lt, count)) (λ less. c.loop-slot.invariant.each m names i same (omega (arith, less, count)))
          (c.moved_node.ensures m names same ∙ ap (λ (s : Source). node_of m (moved s)) source ∙ ap f (sym count)));
    }

pub returns-clause-along : goal.returns-clause-along
returns-clause-along c =
    λ m names same count. let o = c.args.operation.now in
    let nodes = c.loop-slot.after.items in
    let full : length nodes ≡ c.args.count = omega (arith, c.loop-slot.invariant.count, c.loop-slot-test.false, c.loop-slot.auto.slot-end) in
    c.from_vec.ensures
    ∙ all_there m (names_along c.args.pc o c.args.edge names) nodes (full ∙ count ∙ sym (along_length names c.args.pc c.args.edge o))
    (λ i lt. c.loop-slot.invariant.each m names i same (omega (arith, lt, c.loop-slot.invariant.count)) ∙ ap (node_of m) (sym (along_there names c.args.pc c.args.edge o i (omega (arith, lt, full, count)))))
