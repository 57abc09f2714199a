use Rattle.std.proofs.lemmas.List.Filters.{dedup_is}
use Rattle.wf_binding.proofs.OnceLists.{roots_once}
use Rattle.wf_binding.proofs.numbering.each_once.Goals as goal

pub returns : goal.returns
returns c = rw (c.from_vec.ensures, dedup_is _ _ _ c.dedup.ensures.filtered)
    (roots_once c.args.numbers.items c.sort.new.self.items c.in_ok-sort.ensures.permutation c.in_ok-sort.ensures.sorted)
