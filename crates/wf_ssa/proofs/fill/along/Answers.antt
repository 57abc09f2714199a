use Rattle.std.proofs.Common.{◌≡◌, ℕ, Option, Some, List, [], ◌∷◌, ◌++◌, length, get_or, sym, ap, ◌∙◌, arith}
use Rattle.std.specs.Prelude.{unwrap_or}
use Rattle.std.proofs.lemmas.List.{length-append}
use Rattle.wf_ssa.specs.declared.name.FlowName.{FlowName}
use Rattle.wf_ssa.specs.declared.name.FlowName.TheVariants.{Nothing}
use Rattle.wf_ssa.specs.Environments.{name_at, along_edge}
use Rattle.wf_ssa.proofs.BackLemmas.{known_count}
use Rattle.wf_ssa.proofs.FillLemmas.{name_push, row_is, same_names}
use Rattle.wf_ssa.proofs.fill.along.Goals as goal

pub loop-slot-preserved : goal.loop-slot-preserved
loop-slot-preserved c =
    let names = c.loop-slot.names.items in
    let name = c.name_along.result in
    let count = c.loop-slot.invariant.count in
    let pushed : c.push.new.self.items ≡ names ++ name ∷ [] = c.in_ok-push.ensures.items in
    record {
      count = omega (arith, ap length pushed, length-append names (name ∷ []), count);
      each = λ failing k i sound kept here there lt.
          (let f : ℕ → FlowName = name_at (along_edge c.args.blocks.now failing c.args.place c.args.edge k).names in
          ap (λ (ns : List FlowName). get_or ns i Nothing) pushed
          ∙ name_push names name f i (omega (arith, lt, count)) (λ less. c.loop-slot.invariant.each failing k i sound kept here there (omega (arith, less, count)))
          (c.name_along.ensures failing k sound kept here there (c.operand_flow-one.ensures failing k sound kept here) (c.operand_flow-two.ensures failing k sound kept here) ∙ ap f (sym count)));
    }

pub returns : goal.returns
returns c =
    λ failing k fails sound kept here there. let b = c.args.blocks.now in
    let after = along_edge b failing c.args.place c.args.edge k in
    let n : c.slots.result ≡ Some (length after.names) = known_count b failing c.args.to after c.slots.result c.slots.ensures.every c.slots.ensures.reached there in
    let ends : c.unwrap_or-after.result ≡ length after.names = c.unwrap_or-after.ensures ∙ ap (λ (o : Option ℕ). unwrap_or o 0) n in
    let same : c.loop-slot.names.items ≡ after.names =
    same_names c.loop-slot.names.items after.names (omega (arith, c.loop-slot.invariant.count, c.loop-slot-test.false, c.loop-slot.auto.slot-end, ends))
    (λ slot lt. c.loop-slot.invariant.each failing k slot sound kept here there (omega (arith, lt, c.loop-slot.invariant.count))) in
    row_is c.predicate_along.result c.from_vec.result after (c.predicate_along.ensures failing k fails sound kept here) (c.from_vec.ensures ∙ same)
