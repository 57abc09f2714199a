use Rattle.wf_lattice.proofs.FilterLaws.{filtered_grows, no_null_grows, only_null_grows, equal_refs_grows, unequal_refs_grows, all_under_grows, some_under_grows, tested_grows, null_word_grows}
use Rattle.wf_lattice.proofs.laws.filters_grow.Goals as goal

pub returns : goal.returns
returns c = record {
  filtered = filtered_grows;
  no_null = no_null_grows;
  only_null = only_null_grows;
  equal = equal_refs_grows;
  unequal = unequal_refs_grows;
  all_under = all_under_grows;
  some_under = some_under_grows;
  tested = tested_grows;
  null_tested = null_word_grows;
}
