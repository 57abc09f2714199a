-- What a plan gives grows with the words.
use Rattle.std.proofs.Common.{◌≡◌, ℕ, zero, suc, ◌+◌, ◌-◌, ◌<◌, Bool, true, false, ◌&&◌, ◌||◌, if◌then◌else◌, ◌⊎◌, inl, inr, List, length, Option, Some, None, slice_index_or, [], nat_lt, bit_and, bit_or, refl, sym, ap, ◌∙◌, subst}
use Rattle.std.specs.Int.{bit_not, w64}
use Rattle.std.proofs.lemmas.Bool.{and_parts, and_from, or_cases, or_left, or_right}
use Rattle.wf_base.specs.declared.ids.NodeId.{NodeId}
use Rattle.wf_lattice.specs.Words.{IsIn, IsWithin, words_of, has_bit, has_type, types_of, flags_of, one_word}
use Rattle.wf_lattice.proofs.BitLaws.{in_itself, in_through, or_grows, and_grows}
use Rattle.wf_lattice.proofs.RowLaws.{within_itself, types_grow, bit_grows}
use Rattle.wf_system.specs.declared.node_shape.NodeShape.{NodeShape}
use Rattle.wf_system.specs.declared.side.Side.{Side}
use Rattle.wf_system.specs.Sides.{pick_of, table_of}
use Rattle.wf_system.specs.Rows.{type_row, row_where}
use Rattle.wf_system.specs.System.{is_candidate, some_type, row_if, elem_row}
use Rattle.wf_system.proofs.RowLaws.{if_grows, row_grows, some_grows}
use Rattle.wf_eval.specs.declared.plan.Meaning.{Meaning}
use Rattle.wf_eval.specs.declared.plan.Source.{Source}
use Rattle.wf_eval.specs.declared.plan.Source.TheVariants.{Made, Meant, Held}
use Rattle.wf_eval.specs.declared.plan.Mask.{Mask}
use Rattle.wf_eval.specs.declared.plan.Mask.TheVariants.{All, Under, NotUnder, Picking, AlsoIn}
use Rattle.wf_eval.specs.declared.plan.TypeSet.{TypeSet}
use Rattle.wf_eval.specs.declared.plan.Plan.{Plan}
use Rattle.wf_eval.specs.declared.plan.Plan.TheVariants.{First, Row, OneType, IfMade, Types, Candidates, Elements}
use Rattle.wf_eval.specs.Reading.{span_row, rows_of}
use Rattle.wf_eval.specs.Plans.{meant_row, source_row, picking_row, masked, set_row, means_if, has_meaning, candidates_row, elements_row, planned}

means_rises : (s : Bool) (v w inst made : ℕ → ℕ) (c : ℕ) → IsWithin v w → IsWithin inst made → means_if s v inst c ≡ true → means_if s w made c ≡ true
means_rises s v w inst made zero p q e = go (or_cases s (has_bit v 1) e)
  where
    go : ((s ≡ true) ⊎ (has_bit v 1 ≡ true)) → (s || has_bit w 1) ≡ true
    go (inl i) = or_left s (has_bit w 1) i
    go (inr i) = or_right s (has_bit w 1) (bit_grows v w 1 p i)
means_rises s v w inst made (suc c) p q e =
    let parts : ((s || has_type v (suc c)) ≡ true) × (has_type inst (suc c) ≡ true) = and_parts (s || has_type v (suc c)) (has_type inst (suc c)) e in
    and_from (s || has_type w (suc c)) (has_type made (suc c)) (go (or_cases s (has_type v (suc c)) parts.0)) (bit_grows inst made (suc c + 1) q parts.1)
  where
    go : ((s ≡ true) ⊎ (has_type v (suc c) ≡ true)) → (s || has_type w (suc c)) ≡ true
    go (inl i) = or_left s (has_type w (suc c)) i
    go (inr i) = or_right s (has_type w (suc c)) (bit_grows v w (suc c + 1) p i)

module _ (nodes : List NodeShape) (side : Side) (x y : ℕ → ℕ) (up : IsWithin x y) where
  pub span_grows : (at : NodeShape) → IsWithin (span_row x at) (span_row y at)
  span_grows at = record { each = λ k. if_grows (nat_lt k at.words) (nat_lt k at.words) (x (at.first_word + k)) (y (at.first_word + k)) (λ e. e) (up.each (at.first_word + k)) }

  meant_grows : (m : Meaning) → IsWithin (meant_row m x) (meant_row m y)
  meant_grows m = record { each = λ k. go m.saturated k }
    where
      go : (s : Bool) (k : ℕ) → IsIn (if s then span_row x m.made k else bit_and (span_row x m.of k) (span_row x m.made k)) (if s then span_row y m.made k else bit_and (span_row y m.of k) (span_row y m.made k))
      go true k = (span_grows m.made).each k
      go false k = and_grows (span_row x m.of k) (span_row x m.made k) (span_row y m.of k) (span_row y m.made k) ((span_grows m.of).each k) ((span_grows m.made).each k)

  source_grows : (s : Source) → IsWithin (source_row s x) (source_row s y)
  source_grows (Made at) = span_grows at
  source_grows (Meant m) = meant_grows m
  source_grows (Held at) = span_grows at

  masked_grows : (mask : Mask) (k u v : ℕ) → IsIn u v → IsIn (masked side mask x k u) (masked side mask y k v)
  masked_grows All k u v p = p
  masked_grows (Under c) k u v p = and_grows u (words_of (slice_index_or side.masks c.0 []) k) v (words_of (slice_index_or side.masks c.0 []) k) p (in_itself (words_of (slice_index_or side.masks c.0 []) k))
  masked_grows (NotUnder c) k u v p = and_grows u (bit_not w64 (words_of (slice_index_or side.masks c.0 []) k)) v (bit_not w64 (words_of (slice_index_or side.masks c.0 []) k)) p (in_itself (bit_not w64 (words_of (slice_index_or side.masks c.0 []) k)))
  masked_grows (Picking site j) k u v p = and_grows u (picking_row side site j k) v (picking_row side site j k) p (in_itself (picking_row side site j k))
  masked_grows (AlsoIn m) k u v p = and_grows u (types_of (meant_row m x) k) v (types_of (meant_row m y) k) p ((types_grow (meant_row m x) (meant_row m y) (meant_grows m)).each k)

  set_grows : (set : TypeSet) → IsWithin (set_row side set x) (set_row side set y)
  set_grows set = record {
    each = λ k. if_grows set.there set.there (masked side set.mask x k (types_of (source_row set.from x) k)) (masked side set.mask y k (types_of (source_row set.from y) k)) (λ e. e)
        (masked_grows set.mask k (types_of (source_row set.from x) k) (types_of (source_row set.from y) k) ((types_grow (source_row set.from x) (source_row set.from y) (source_grows set.from)).each k));
  }

  has_grows : (m : Meaning) (c : ℕ) → has_meaning m x c ≡ true → has_meaning m y c ≡ true
  has_grows m c e = means_rises m.saturated (span_row x m.of) (span_row y m.of) (span_row x m.made) (span_row y m.made) c (span_grows m.of) (span_grows m.made) e

  elem_grows : (o : Option NodeId) (k : ℕ) → IsIn (elem_row (rows_of nodes x) o k) (elem_row (rows_of nodes y) o k)
  elem_grows None k = refl
  elem_grows (Some n) k = (span_grows (Rattle.wf_system.specs.Shapes.shape_at nodes n.0)).each k

  elements_grow : (m : Meaning) (c k : ℕ) → IsIn (elements_row nodes side m x c k) (elements_row nodes side m y c k)
  elements_grow m zero k = refl
  elements_grow m (suc c) k = or_grows (elements_row nodes side m x c k) (row_if (has_meaning m x c) (elem_row (rows_of nodes x) (slice_index_or side.elems c None)) k)
      (elements_row nodes side m y c k) (row_if (has_meaning m y c) (elem_row (rows_of nodes y) (slice_index_or side.elems c None)) k)
      (elements_grow m c k)
      (if_grows (has_meaning m x c) (has_meaning m y c) (elem_row (rows_of nodes x) (slice_index_or side.elems c None) k) (elem_row (rows_of nodes y) (slice_index_or side.elems c None) k) (has_grows m c) (elem_grows (slice_index_or side.elems c None) k))

  -- what a plan gives grows with the words
  pub planned_grows : (p : Plan) (k : ℕ) → IsIn (planned nodes side p x k) (planned nodes side p y k)
  planned_grows (First word) k = in_itself (one_word word k)
  planned_grows (Row at) k = (span_grows at).each k
  planned_grows (OneType c) k = in_itself (type_row c.0 k)
  planned_grows (IfMade c made) k = and_grows (type_row c.0 k) (span_row x made k) (type_row c.0 k) (span_row y made k) (in_itself (type_row c.0 k)) ((span_grows made).each k)
  planned_grows (Types set over null) k = or_grows (set_row side set x k) (flags_of over null k) (set_row side set y k) (flags_of over null k) ((set_grows set).each k) (in_itself (flags_of over null k))
  planned_grows (Candidates m site) k = (row_grows (λ j. some_type (length side.elems) (λ c. has_meaning m x c && is_candidate (pick_of (table_of side.tables side.sites site) c) j))
      (λ j. some_type (length side.elems) (λ c. has_meaning m y c && is_candidate (pick_of (table_of side.tables side.sites site) c) j))
      (λ j. some_grows (length side.elems) (λ c. has_meaning m x c && is_candidate (pick_of (table_of side.tables side.sites site) c) j) (λ c. has_meaning m y c && is_candidate (pick_of (table_of side.tables side.sites site) c) j)
      (λ c e. let parts : (has_meaning m x c ≡ true) × (is_candidate (pick_of (table_of side.tables side.sites site) c) j ≡ true) = and_parts (has_meaning m x c) (is_candidate (pick_of (table_of side.tables side.sites site) c) j) e in
      and_from (has_meaning m y c) (is_candidate (pick_of (table_of side.tables side.sites site) c) j) (has_grows m c parts.0) parts.1))).each k
  planned_grows (Elements m) k = elements_grow m (length side.elems) k
