use Rattle.std.proofs.Common.{◌≡◌, ℕ, Option, Some, List, [], ◌∷◌, ◌++◌, length, get_or, sym, ap, subst, ◌∙◌, arith}
use Rattle.std.specs.Prelude.{unwrap_or}
use Rattle.std.proofs.lemmas.List.{length-append}
use Rattle.wf_blocks.specs.declared.body.Body.{Body}
use Rattle.wf_ssa.specs.Environments.{name_at, IsKnown}
use Rattle.wf_ssa.proofs.BackLemmas.{known_count}
use Rattle.wf_rows.specs.declared.node.Node.{Node}
use Rattle.wf_rows.specs.declared.node.Node.TheVariants.{Nothing}
use Rattle.wf_rows.specs.declared.node.Own.{Own}
use Rattle.wf_known.specs.Flows.{node_of}
use Rattle.wf_known.proofs.Nodes.{node_push, all_there, says}
use Rattle.wf_known.proofs.reached.front_at.Goals as goal

pub loop-slot-preserved : goal.loop-slot-preserved
loop-slot-preserved c =
    let m = c.args.method in
    let nodes = c.loop-slot.slots.items in
    let node = c.node_of.result in
    let count = c.loop-slot.invariant.count in
    let pushed : c.push.new.self.items ≡ nodes ++ node ∷ [] = c.in_ok-push.ensures.items in
    record {
      count = omega (arith, ap length pushed, length-append nodes (node ∷ []), count);
      each = λ k i there lt.
          (let f : ℕ → Node Own = λ j. node_of m (name_at k.names j) in
          ap (λ (ns : List (Node Own)). get_or ns i Nothing) pushed
          ∙ node_push nodes node f i (omega (arith, lt, count)) (λ less. c.loop-slot.invariant.each k i there (omega (arith, less, count)))
          (c.node_of.ensures ∙ ap (node_of m) (c.flow_in.ensures k (subst (λ (b : Body). IsKnown b c.args.env.now.1 c.args.place k) (sym c.requires.same) there)) ∙ ap f (sym count)));
    }

pub returns : goal.returns
returns c = record {
  each = λ k there.
      (let b = c.args.blocks.now in
      let m = c.args.method in
      let failing = c.args.env.now.1 in
      let n : c.slots.result ≡ Some (length k.names) = known_count b failing c.args.place k c.slots.result c.slots.ensures.every c.slots.ensures.reached there in
      let ends : c.unwrap_or-count.result ≡ length k.names = c.unwrap_or-count.ensures ∙ ap (λ (o : Option ℕ). unwrap_or o 0) n in
      let nodes = c.loop-slot.slots.items in
      says m k _ (c.node_of-2.ensures ∙ ap (node_of m) (c.predicate_in.ensures k (subst (λ (x : Body). IsKnown x failing c.args.place k) (sym c.requires.same) there)))
      (c.from_vec.ensures
      ∙ all_there m k.names nodes (omega (arith, c.loop-slot.invariant.count, c.loop-slot-test.false, c.loop-slot.auto.slot-end, ends))
      (λ i lt. c.loop-slot.invariant.each k i there (omega (arith, lt, c.loop-slot.invariant.count)))));
}
