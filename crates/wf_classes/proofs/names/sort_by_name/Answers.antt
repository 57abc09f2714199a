use Rattle.std.proofs.Common.{rules}
use Rattle.std.specs.Cmp.Lexicographic.{slice_cmp}
use Rattle.std.specs.Ordering.{nat_cmp, is_lt}
use Rattle.std.proofs.lemmas.Cmp.{nat_list_cmp_total}
use Rattle.std.proofs.lemmas.List.Sorted.{answers_always, ranks_by}
use Rattle.wf_data.specs.declared.class_info.ClassInfo.{ClassInfo}
use Rattle.wf_classes.proofs.Search.{ascending_from_sort}
use Rattle.wf_classes.proofs.OwnNames.{names_differ}
use Rattle.wf_classes.proofs.names.sort_by_name.Goals as goal

pub returns-clause-ascending : goal.returns-clause-ascending
returns-clause-ascending c apart =
    ascending_from_sort nat_list_cmp_total (λ (k : ClassInfo). k.name) c.args.files.now.items c.sort_unstable_by.new.self.items c.sort_unstable_by.ensures.permutation (names_differ c.args.files.now.items apart)
    (c.sort_unstable_by.ensures.sorted (λ a b. is_lt (slice_cmp nat_cmp a.name b.name)) (ranks_by nat_list_cmp_total (λ (k : ClassInfo). k.name)) (answers_always _ _ _ (λ f a r g h. search rules)))
