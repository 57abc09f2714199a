use Rattle.std.proofs.lemmas.List.Filters.{dedup_is}
use Rattle.wf_first.proofs.MemberLists.{member_ties, lists_sorted}
use Rattle.wf_first.proofs.least.sorted.Goals as goal

pub returns : goal.returns
returns c = rw (c.from_vec.ensures, dedup_is _ _ _ c.dedup.ensures.filtered)
    (lists_sorted member_ties c.args.members.items c.sort.new.self.items c.in_ok-sort.ensures.permutation c.in_ok-sort.ensures.sorted)
