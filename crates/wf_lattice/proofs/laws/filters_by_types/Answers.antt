use Rattle.std.proofs.Common.{false, true, not, ◌&&◌, ℕ}
use Rattle.wf_lattice.specs.Words.{has_type, is_empty, types_of, both, nothing}
use Rattle.wf_lattice.specs.Meaning.{means, means_null, meant_types}
use Rattle.wf_lattice.specs.Filters.{masked_types, unequal_types}
use Rattle.wf_lattice.proofs.SetLaws.{set_by_types, filtered_named, masked_are, nothing_named, nothing_is, meant_type, meant_are, equal_named, equal_are, unequal_named, unequal_are, under_named, under_are}
use Rattle.wf_lattice.proofs.laws.filters_by_types.Goals as goal

pub returns : goal.returns
returns c = record {
  kept = λ most n v inst mask u words. set_by_types most n (masked_types most n v inst mask) (λ (t : ℕ). means most n v inst t && has_type mask t) (means_null most n v) u (masked_are most n v inst mask words) (filtered_named most n v inst mask);
  dropped = λ most n v inst mask u words. set_by_types most n (masked_types most n v inst mask) (λ (t : ℕ). means most n v inst t && has_type mask t) false u (masked_are most n v inst mask words) (filtered_named most n v inst mask);
  alone = λ most n v inst mask u. set_by_types most n nothing (λ (t : ℕ). false) (means_null most n v) u nothing_is nothing_named;
  no_null = λ most n v inst u words. set_by_types most n (meant_types most n v inst) (means most n v inst) false u (meant_are most n v inst words) (meant_type most n v inst);
  only_null = λ most n v u. set_by_types most n nothing (λ (t : ℕ). false) (means_null most n v) u nothing_is nothing_named;
  equal = λ most n a b inst u words. set_by_types most n (both (meant_types most n a inst) (meant_types most n b inst)) (λ (t : ℕ). means most n a inst t && means most n b inst t) (means_null most n a && means_null most n b) u (equal_are most n a b inst words) (equal_named most n a b inst);
  unequal = λ most n a b inst u words. set_by_types most n (unequal_types most n a b inst) (λ (t : ℕ). not (is_empty n (meant_types most n b inst) && not (means_null most n b)) && means most n a inst t) (means_null most n a && not (is_empty n (meant_types most n b inst))) u (unequal_are most n a b inst words) (unequal_named most n a b inst);
  all_under = λ most n inst mask u words. set_by_types most n (both (types_of inst) mask) (λ (t : ℕ). has_type inst t && has_type mask t) false u (under_are inst mask words) (under_named inst mask);
  some_under = λ most n inst mask u words. set_by_types most n (both (types_of inst) mask) (λ (t : ℕ). has_type inst t && has_type mask t) true u (under_are inst mask words) (under_named inst mask);
}
