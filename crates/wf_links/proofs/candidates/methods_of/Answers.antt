use Rattle.std.proofs.Common.{ap, subst, ◌∙◌, map, arith, IsPermutation}
use Rattle.std.specs.Cmp.{unsigned_ties}
use Rattle.std.proofs.lemmas.List.{take_all}
use Rattle.std.proofs.lemmas.List.Filters.{dedup_is}
use Rattle.wf_links.specs.declared.picking.Chosen.{Chosen}
use Rattle.wf_links.proofs.Sorting.{methods_sorted}
use Rattle.wf_links.proofs.candidates.methods_of.Goals as goal

pub returns : goal.returns
returns c =
    let chosen = c.args.chosen.now in
    let moved = c.sort.new.self.items in
    let given = c.loop-choice.invariant ∙ ap (map (λ (x : Chosen). x.method)) (take_all c.loop-choice.choice-index chosen (omega arith)) in
    rw (dedup_is _ _ _ c.dedup.ensures.filtered)
    (methods_sorted (λ a b. unsigned_ties a.0 b.0) chosen moved (subst (λ xs. IsPermutation xs moved) given c.in_ok-sort.ensures.permutation) c.in_ok-sort.ensures.sorted)
