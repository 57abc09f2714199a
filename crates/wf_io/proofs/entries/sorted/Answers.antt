use Rattle.std.proofs.Common.{◌∙◌, List, IsPermutation, subst}
use Rattle.std.proofs.lemmas.List.Filters.{dedup_is}
use Rattle.wf_io.specs.declared.tree.Entry.{Entry}
use Rattle.wf_io.proofs.Listings.{dedup-in_order, entry_ties}
use Rattle.wf_io.proofs.entries.sorted.Goals as goal

pub returns-clause-order : goal.returns-clause-order
returns-clause-order c =
    let moved = subst (λ (xs : List Entry). IsPermutation xs c.sort.new.self.items) c.into_vec-entries.ensures c.in_ok-sort.ensures.permutation in
    c.from_vec.ensures ∙ dedup_is _ _ _ c.dedup.ensures.filtered
    ∙ dedup-in_order entry_ties c.args.entries c.sort.new.self.items moved c.in_ok-sort.ensures.sorted
