-- What each plan on references lies between, an operation after the other.
use Rattle.std.proofs.Common.{◌≡◌, ℕ, zero, suc, ◌-◌, Bool, true, false, not, ◌&&◌, ◌||◌, if◌then◌else◌, ◌⊎◌, inl, inr, List, length, Option, None, slice_index_or, [], nat_lt, bit_and, bit_or, pos, refl, sym, ap, ◌∙◌, subst, subst₂, arith, le-ltb}
use Rattle.std.specs.Int.{bit_not, w64}
use Rattle.std.proofs.lemmas.Bool.{true≢false, and_parts, and_from, or_cases, or_left, or_right, not-true, not_from_false, false_from_ne_true}
use Rattle.wf_base.specs.declared.ids.NodeId.{NodeId}
use Rattle.wf_base.specs.declared.ids.TypeId.{TypeId}
use Rattle.wf_base.specs.declared.ids.TargetId.{TargetId}
use Rattle.wf_lattice.specs.declared.view.Nulls.TheVariants.{Keep, Drop}
use Rattle.wf_lattice.specs.Words.{IsIn, IsWithin, words_of, has_bit, has_type, is_empty, counted, types_of, flags_of, both, either, without, one_word, nothing}
use Rattle.wf_lattice.specs.Ints.{constant_word}
use Rattle.wf_lattice.specs.Order.{is_saturated}
use Rattle.wf_lattice.specs.Meaning.{means_null, means, types_if, meant_types}
use Rattle.wf_lattice.specs.Filters.{filtered, no_null, only_null, equal_refs, unequal_types, unequal_refs, all_under, some_under, tested_word, null_word}
use Rattle.wf_lattice.proofs.BitLaws.{in_itself, or_grows}
use Rattle.wf_lattice.proofs.RowLaws.{within_itself, both_grows, nonempty_grows}
use Rattle.wf_lattice.proofs.JoinLaws.{counted_nothing}
use Rattle.wf_system.specs.declared.node_shape.NodeShape.{NodeShape}
use Rattle.wf_system.specs.declared.side.Side.{Side}
use Rattle.wf_system.specs.declared.inequality.ValueOp.TheVariants as ops
use Rattle.wf_system.specs.Shapes.{shape_at}
use Rattle.wf_system.specs.Sides.{pick_of, table_of}
use Rattle.wf_system.specs.Rows.{row_where}
use Rattle.wf_system.specs.System.{is_candidate, some_type, picked_mask, row_if, elem_row, elements_below}
use Rattle.wf_system.specs.Bodies.{tables_of}
use Rattle.wf_system.proofs.RowLaws.{if_grows, row_grows, some_grows}
use Rattle.wf_eval.specs.declared.plan.Meaning.{Meaning}
use Rattle.wf_eval.specs.declared.plan.Source.TheVariants.{Made, Meant}
use Rattle.wf_eval.specs.declared.plan.Mask.{Mask}
use Rattle.wf_eval.specs.declared.plan.Mask.TheVariants.{All, Under, NotUnder, Picking, AlsoIn}
use Rattle.wf_eval.specs.declared.plan.TypeSet.{TypeSet}
use Rattle.wf_eval.specs.declared.plan.Plan.TheVariants.{First, Types, Candidates, Elements}
use Rattle.wf_eval.specs.Said.{Seen, Said, SaidBool}
use Rattle.wf_eval.specs.Reading.{span_row, rows_of}
use Rattle.wf_eval.specs.Plans.{meant_row, source_row, set_row, means_if, has_meaning, candidates_row, elements_row, planned, picking_row, SaidPlan}
use Rattle.wf_eval.proofs.SaidLaws.{said_so}
use Rattle.wf_eval.proofs.PlanLaws.{said_pair, set_low, set_high, meant_low, meant_high, null_up, null_down, along, along_back}

-- the set of the types of a meaning that a mask leaves
abbrev pub set_of : Bool → Meaning → Mask → TypeSet
set_of there m mask = record { there = there; words = m.made.words; from = Meant m; mask = mask }

abbrev pub made_set : NodeShape → Mask → TypeSet
made_set made mask = record { there = true; words = made.words; from = Made made; mask = mask }

-- words that are there unless, or where, a test holds
pub unless_if : (c e : Bool) (u v : ℕ) → (c ≡ false → e ≡ true) → IsIn u v → IsIn (if c then 0 else u) (if e then v else 0)
unless_if true e u v up p = refl
unless_if false true u v up p = p
unless_if false false u v up p = absurd (true≢false (sym (up refl)))

pub if_unless : (e c : Bool) (v u : ℕ) → (e ≡ true → c ≡ false) → IsIn v u → IsIn (if e then v else 0) (if c then 0 else u)
if_unless false c v u up p = refl
if_unless true false v u up p = p
if_unless true true v u up p = absurd (true≢false (up refl))

-- a meaning holds what it holds where more is saturated
pub means_up : (s full : Bool) (v inst : ℕ → ℕ) (c : ℕ) → (s ≡ true → full ≡ true) → means_if s v inst c ≡ true → means_if full v inst c ≡ true
means_up s full v inst zero up e = go (or_cases s (has_bit v 1) e)
  where
    go : ((s ≡ true) ⊎ (has_bit v 1 ≡ true)) → (full || has_bit v 1) ≡ true
    go (inl i) = or_left full (has_bit v 1) (up i)
    go (inr i) = or_right full (has_bit v 1) i
means_up s full v inst (suc c) up e =
    let parts : ((s || has_type v (suc c)) ≡ true) × (has_type inst (suc c) ≡ true) = and_parts (s || has_type v (suc c)) (has_type inst (suc c)) e in
    and_from (full || has_type v (suc c)) (has_type inst (suc c)) (go (or_cases s (has_type v (suc c)) parts.0)) parts.1
  where
    go : ((s ≡ true) ⊎ (has_type v (suc c) ≡ true)) → (full || has_type v (suc c)) ≡ true
    go (inl i) = or_left full (has_type v (suc c)) (up i)
    go (inr i) = or_right full (has_type v (suc c)) i

pub means_is : (most n : ℕ) (v inst : ℕ → ℕ) (c : ℕ) → means most n v inst c ≡ means_if (is_saturated most n v) v inst c
means_is most n v inst zero = refl
means_is most n v inst (suc c) = refl

pub one_word_in : (v w : ℕ) → IsIn v w → IsWithin (one_word v) (one_word w)
one_word_in v w p = record { each = each }
  where
    each : (k : ℕ) → IsIn (one_word v k) (one_word w k)
    each zero = p
    each (suc k) = refl

-- whether the value of a meaning's node is saturated
abbrev pub full_of : ℕ → Meaning → (ℕ → ℕ) → Bool
full_of most m x = is_saturated most m.made.words (span_row x m.of)

-- what is known of a meaning that was looked up
pub record KnownMeaning (nodes : List NodeShape) (most : ℕ) (side : Side) (a : NodeId) (m : Meaning) (old new : Seen) : Type 0 where
  pub of : m.of ≡ shape_at nodes a.0
  pub made : m.made ≡ shape_at nodes side.inst.0
  pub said : SaidBool (full_of most m) old new m.saturated

module _ (nodes : List NodeShape) (most : ℕ) (side : Side) (to : NodeId) where
  -- what is left of a meaning by a mask that is a row, with null or without
  module _ (a : NodeId) (m : Meaning) (mask : Mask) (row : ℕ → ℕ) (same : (x : ℕ → ℕ) (k : ℕ) → set_row side (set_of true m mask) x k ≡ bit_and (types_of (meant_row m x) k) (row k)) where
    masked_low : (x : ℕ → ℕ) → (full_of most m x ≡ true → m.saturated ≡ true) → IsWithin (both (types_if (full_of most m x) (span_row x m.of) (span_row x m.made)) row) (set_row side (set_of true m mask) x)
    masked_low x up = record {
      each = λ k. subst (λ (w : ℕ). IsIn (both (types_if (full_of most m x) (span_row x m.of) (span_row x m.made)) row k) w) (sym (same x k))
          ((both_grows (types_if (full_of most m x) (span_row x m.of) (span_row x m.made)) row (types_of (meant_row m x)) row (meant_low m x (full_of most m x) up) (within_itself row)).each k);
    }

    masked_high : (x : ℕ → ℕ) → (m.saturated ≡ true → full_of most m x ≡ true) → IsWithin (set_row side (set_of true m mask) x) (both (types_if (full_of most m x) (span_row x m.of) (span_row x m.made)) row)
    masked_high x up = record {
      each = λ k. subst (λ (w : ℕ). IsIn w (both (types_if (full_of most m x) (span_row x m.of) (span_row x m.made)) row k)) (sym (same x k))
          ((both_grows (types_of (meant_row m x)) row (types_if (full_of most m x) (span_row x m.of) (span_row x m.made)) row (meant_high m x (full_of most m x) up) (within_itself row)).each k);
    }

    pub keep_said : {s t u v : Seen} (null over : Bool) → KnownMeaning nodes most side a m s t → SaidBool (λ x. m.saturated || has_bit (span_row x m.of) 1) t u null
        → SaidBool (λ x. nat_lt most (counted m.made.words (set_row side (set_of true m mask) x))) u v over
        → Said (λ x. IsWithin (filtered most (shape_at nodes side.inst.0).words (span_row x (shape_at nodes a.0)) (span_row x (shape_at nodes side.inst.0)) row Keep) (planned nodes side (Types (set_of true m mask) over null) x))
        (λ x. IsWithin (planned nodes side (Types (set_of true m mask) over null) x) (filtered most (shape_at nodes side.inst.0).words (span_row x (shape_at nodes a.0)) (span_row x (shape_at nodes side.inst.0)) row Keep)) s v
    keep_said null over known q r = said_so (said_pair (said_pair known.said q) r)
        (λ x h. along (λ (o i : NodeShape). filtered most i.words (span_row x o) (span_row x i) row Keep) (planned nodes side (Types (set_of true m mask) over null) x) m.of m.made (shape_at nodes a.0) (shape_at nodes side.inst.0) known.of known.made
        (set_low nodes side most m.made.words (set_of true m mask) x (both (types_if (full_of most m x) (span_row x m.of) (span_row x m.made)) row) (full_of most m x || has_bit (span_row x m.of) 1) null over
        (masked_low x h.0.0) (null_up m.saturated (full_of most m x) (has_bit (span_row x m.of) 1) null h.0.0 h.0.1) h.1))
        (λ x h. along_back (λ (o i : NodeShape). filtered most i.words (span_row x o) (span_row x i) row Keep) (planned nodes side (Types (set_of true m mask) over null) x) m.of m.made (shape_at nodes a.0) (shape_at nodes side.inst.0) known.of known.made
        (set_high nodes side most m.made.words (set_of true m mask) x (both (types_if (full_of most m x) (span_row x m.of) (span_row x m.made)) row) (full_of most m x || has_bit (span_row x m.of) 1) null over
        (masked_high x h.0.0) (null_down m.saturated (full_of most m x) (has_bit (span_row x m.of) 1) null h.0.0 h.0.1) h.1))

    pub drop_said : {s t v : Seen} (over : Bool) → KnownMeaning nodes most side a m s t
        → SaidBool (λ x. nat_lt most (counted m.made.words (set_row side (set_of true m mask) x))) t v over
        → Said (λ x. IsWithin (filtered most (shape_at nodes side.inst.0).words (span_row x (shape_at nodes a.0)) (span_row x (shape_at nodes side.inst.0)) row Drop) (planned nodes side (Types (set_of true m mask) over false) x))
        (λ x. IsWithin (planned nodes side (Types (set_of true m mask) over false) x) (filtered most (shape_at nodes side.inst.0).words (span_row x (shape_at nodes a.0)) (span_row x (shape_at nodes side.inst.0)) row Drop)) s v
    drop_said over known r = said_so (said_pair known.said r)
        (λ x h. along (λ (o i : NodeShape). filtered most i.words (span_row x o) (span_row x i) row Drop) (planned nodes side (Types (set_of true m mask) over false) x) m.of m.made (shape_at nodes a.0) (shape_at nodes side.inst.0) known.of known.made
        (set_low nodes side most m.made.words (set_of true m mask) x (both (types_if (full_of most m x) (span_row x m.of) (span_row x m.made)) row) false false over (masked_low x h.0) (λ e. e) h.1))
        (λ x h. along_back (λ (o i : NodeShape). filtered most i.words (span_row x o) (span_row x i) row Drop) (planned nodes side (Types (set_of true m mask) over false) x) m.of m.made (shape_at nodes a.0) (shape_at nodes side.inst.0) known.of known.made
        (set_high nodes side most m.made.words (set_of true m mask) x (both (types_if (full_of most m x) (span_row x m.of) (span_row x m.made)) row) false false over (masked_high x h.0) (λ e. e) h.1))

  pub under_said : (a : NodeId) (u : TargetId) (m : Meaning) {s t w v : Seen} (null over : Bool) → KnownMeaning nodes most side a m s t → SaidBool (λ x. m.saturated || has_bit (span_row x m.of) 1) t w null
      → SaidBool (λ x. nat_lt most (counted m.made.words (set_row side (set_of true m (Under u)) x))) w v over → SaidPlan nodes most side (ops.Under a u) to s v (Types (set_of true m (Under u)) over null)
  under_said a u m null over known q r = keep_said a m (Under u) (words_of (slice_index_or side.masks u.0 [])) (λ x k. refl) null over known q r

  pub picked_said : (a : NodeId) (site j : ℕ) (m : Meaning) {s t v : Seen} (over : Bool) → KnownMeaning nodes most side a m s t
      → SaidBool (λ x. nat_lt most (counted m.made.words (set_row side (set_of true m (Picking site j)) x))) t v over → SaidPlan nodes most side (ops.Picked a site j) to s v (Types (set_of true m (Picking site j)) over false)
  picked_said a site j m over known r = drop_said a m (Picking site j) (picking_row side site j) (λ x k. refl) over known r

  -- the meaning without null
  pub no_null_said : (a : NodeId) (m : Meaning) {s t v : Seen} (over : Bool) → KnownMeaning nodes most side a m s t
      → SaidBool (λ x. nat_lt most (counted m.made.words (set_row side (set_of true m All) x))) t v over → SaidPlan nodes most side (ops.NoNull a) to s v (Types (set_of true m All) over false)
  no_null_said a m over known r = said_so (said_pair known.said r)
      (λ x h. along (λ (o i : NodeShape). no_null most i.words (span_row x o) (span_row x i)) (planned nodes side (Types (set_of true m All) over false) x) m.of m.made (shape_at nodes a.0) (shape_at nodes side.inst.0) known.of known.made
      (set_low nodes side most m.made.words (set_of true m All) x (types_if (full_of most m x) (span_row x m.of) (span_row x m.made)) false false over (record { each = λ k. (meant_low m x (full_of most m x) h.0).each k }) (λ e. e) h.1))
      (λ x h. along_back (λ (o i : NodeShape). no_null most i.words (span_row x o) (span_row x i)) (planned nodes side (Types (set_of true m All) over false) x) m.of m.made (shape_at nodes a.0) (shape_at nodes side.inst.0) known.of known.made
      (set_high nodes side most m.made.words (set_of true m All) x (types_if (full_of most m x) (span_row x m.of) (span_row x m.made)) false false over (record { each = λ k. (meant_high m x (full_of most m x) h.0).each k }) (λ e. e) h.1))

  -- all types that are made, under a class
  pub all_under_said : (u : TargetId) (made : NodeShape) {s v : Seen} (over null : Bool) → made ≡ shape_at nodes side.inst.0
      → SaidBool (λ x. nat_lt most (counted made.words (set_row side (made_set made (Under u)) x))) s v over
      → Said (λ x. IsWithin (Rattle.wf_lattice.specs.Filters.set_words most (shape_at nodes side.inst.0).words (both (types_of (span_row x (shape_at nodes side.inst.0))) (words_of (slice_index_or side.masks u.0 []))) null) (planned nodes side (Types (made_set made (Under u)) over null) x))
      (λ x. IsWithin (planned nodes side (Types (made_set made (Under u)) over null) x) (Rattle.wf_lattice.specs.Filters.set_words most (shape_at nodes side.inst.0).words (both (types_of (span_row x (shape_at nodes side.inst.0))) (words_of (slice_index_or side.masks u.0 []))) null)) s v
  all_under_said u made over null is r = said_so r
      (λ x h. subst (λ (i : NodeShape). IsWithin (Rattle.wf_lattice.specs.Filters.set_words most i.words (both (types_of (span_row x i)) (words_of (slice_index_or side.masks u.0 []))) null) (planned nodes side (Types (made_set made (Under u)) over null) x)) is
      (set_low nodes side most made.words (made_set made (Under u)) x (both (types_of (span_row x made)) (words_of (slice_index_or side.masks u.0 []))) null null over (record { each = λ k. in_itself (set_row side (made_set made (Under u)) x k) }) (λ e. e) h))
      (λ x h. subst (λ (i : NodeShape). IsWithin (planned nodes side (Types (made_set made (Under u)) over null) x) (Rattle.wf_lattice.specs.Filters.set_words most i.words (both (types_of (span_row x i)) (words_of (slice_index_or side.masks u.0 []))) null)) is
      (set_high nodes side most made.words (made_set made (Under u)) x (both (types_of (span_row x made)) (words_of (slice_index_or side.masks u.0 []))) null null over (record { each = λ k. in_itself (set_row side (made_set made (Under u)) x k) }) (λ e. e) h))

  -- null alone, and the int of null
  pub only_null_said : (a : NodeId) (m : Meaning) {s t v : Seen} (null : Bool) (word : ℕ) → word ≡ (if null then 2 else 0) → KnownMeaning nodes most side a m s t
      → SaidBool (λ x. m.saturated || has_bit (span_row x m.of) 1) t v null → SaidPlan nodes most side (ops.OnlyNull a) to s v (First word)
  only_null_said a m null word is known q = said_so (said_pair known.said q)
      (λ x h. along (λ (o i : NodeShape). only_null most i.words (span_row x o)) (one_word word) m.of m.made (shape_at nodes a.0) (shape_at nodes side.inst.0) known.of known.made
      (record {
        each = low (full_of most m x || has_bit (span_row x m.of) 1) (nat_lt most (counted m.made.words nothing)) (le-ltb most (counted m.made.words nothing) (omega (arith, counted_nothing m.made.words)))
            (null_up m.saturated (full_of most m x) (has_bit (span_row x m.of) 1) null h.0 h.1);
      }))
      (λ x h. along_back (λ (o i : NodeShape). only_null most i.words (span_row x o)) (one_word word) m.of m.made (shape_at nodes a.0) (shape_at nodes side.inst.0) known.of known.made
      (record {
        each = high (full_of most m x || has_bit (span_row x m.of) 1) (nat_lt most (counted m.made.words nothing)) (le-ltb most (counted m.made.words nothing) (omega (arith, counted_nothing m.made.words)))
            (null_down m.saturated (full_of most m x) (has_bit (span_row x m.of) 1) null h.0 h.1);
      }))
    where
      low_at : (had over b : Bool) → over ≡ false → (had ≡ true → b ≡ true) → IsIn (bit_or 0 (flags_of over had 0)) (if b then 2 else 0)
      low_at had true b e up = absurd (true≢false e)
      low_at true false true e up = refl
      low_at true false false e up = absurd (true≢false (sym (up refl)))
      low_at false false true e up = refl
      low_at false false false e up = refl

      high_at : (had over b : Bool) → over ≡ false → (b ≡ true → had ≡ true) → IsIn (if b then 2 else 0) (bit_or 0 (flags_of over had 0))
      high_at had true b e up = absurd (true≢false e)
      high_at true false true e up = refl
      high_at false false true e up = absurd (true≢false (sym (up refl)))
      high_at true false false e up = refl
      high_at false false false e up = refl

      low : (had over : Bool) → over ≡ false → (had ≡ true → null ≡ true) → (k : ℕ) → IsIn (either nothing (flags_of over had) k) (one_word word k)
      low had over e up zero = subst (λ (w : ℕ). IsIn (bit_or 0 (flags_of over had 0)) w) (sym is) (low_at had over null e up)
      low had over e up (suc k) = refl

      high : (had over : Bool) → over ≡ false → (null ≡ true → had ≡ true) → (k : ℕ) → IsIn (one_word word k) (either nothing (flags_of over had) k)
      high had over e up zero = subst (λ (w : ℕ). IsIn w (bit_or 0 (flags_of over had 0))) (sym is) (high_at had over null e up)
      high had over e up (suc k) = refl

  pub if_null_said : (a : NodeId) (m : Meaning) {s t v : Seen} (null : Bool) (word : ℕ) → word ≡ (if null then constant_word (pos 0) else 0) → KnownMeaning nodes most side a m s t
      → SaidBool (λ x. m.saturated || has_bit (span_row x m.of) 1) t v null → SaidPlan nodes most side (ops.IfNull a) to s v (First word)
  if_null_said a m null word is known q = said_so (said_pair known.said q)
      (λ x h. along (λ (o i : NodeShape). one_word (null_word most i.words (span_row x o))) (one_word word) m.of m.made (shape_at nodes a.0) (shape_at nodes side.inst.0) known.of known.made
      (one_word_in (null_word most m.made.words (span_row x m.of)) word (subst (λ (w : ℕ). IsIn (null_word most m.made.words (span_row x m.of)) w) (sym is)
      (if_grows (full_of most m x || has_bit (span_row x m.of) 1) null (constant_word (pos 0)) (constant_word (pos 0)) (null_up m.saturated (full_of most m x) (has_bit (span_row x m.of) 1) null h.0 h.1) (in_itself (constant_word (pos 0)))))))
      (λ x h. along_back (λ (o i : NodeShape). one_word (null_word most i.words (span_row x o))) (one_word word) m.of m.made (shape_at nodes a.0) (shape_at nodes side.inst.0) known.of known.made
      (one_word_in word (null_word most m.made.words (span_row x m.of)) (subst (λ (w : ℕ). IsIn w (null_word most m.made.words (span_row x m.of))) (sym is)
      (if_grows null (full_of most m x || has_bit (span_row x m.of) 1) (constant_word (pos 0)) (constant_word (pos 0)) (null_down m.saturated (full_of most m x) (has_bit (span_row x m.of) 1) null h.0 h.1) (in_itself (constant_word (pos 0)))))))

  -- the candidates that types of the meaning pick
  pub picks_said : (a : NodeId) (site : ℕ) (m : Meaning) {s t : Seen} → KnownMeaning nodes most side a m s t → SaidPlan nodes most side (ops.Picks a site) to s t (Candidates m site)
  picks_said a site m known = said_so known.said
      (λ x h. along (λ (o i : NodeShape). row_where (λ j. some_type (length side.elems) (λ c. means most i.words (span_row x o) (span_row x i) c && is_candidate (pick_of (table_of side.tables side.sites site) c) j)))
      (candidates_row side m site x) m.of m.made (shape_at nodes a.0) (shape_at nodes side.inst.0) known.of known.made
      (row_grows (λ j. some_type (length side.elems) (λ c. means most m.made.words (span_row x m.of) (span_row x m.made) c && is_candidate (pick_of (table_of side.tables side.sites site) c) j))
      (λ j. some_type (length side.elems) (λ c. has_meaning m x c && is_candidate (pick_of (table_of side.tables side.sites site) c) j))
      (λ j. some_grows (length side.elems) (λ c. means most m.made.words (span_row x m.of) (span_row x m.made) c && is_candidate (pick_of (table_of side.tables side.sites site) c) j) (λ c. has_meaning m x c && is_candidate (pick_of (table_of side.tables side.sites site) c) j)
      (λ c e. let parts : (means most m.made.words (span_row x m.of) (span_row x m.made) c ≡ true) × (is_candidate (pick_of (table_of side.tables side.sites site) c) j ≡ true) = and_parts (means most m.made.words (span_row x m.of) (span_row x m.made) c) (is_candidate (pick_of (table_of side.tables side.sites site) c) j) e in
      and_from (has_meaning m x c) (is_candidate (pick_of (table_of side.tables side.sites site) c) j)
      (means_up (full_of most m x) m.saturated (span_row x m.of) (span_row x m.made) c h (sym (means_is most m.made.words (span_row x m.of) (span_row x m.made) c) ∙ parts.0)) parts.1))))
      (λ x h. along_back (λ (o i : NodeShape). row_where (λ j. some_type (length side.elems) (λ c. means most i.words (span_row x o) (span_row x i) c && is_candidate (pick_of (table_of side.tables side.sites site) c) j)))
      (candidates_row side m site x) m.of m.made (shape_at nodes a.0) (shape_at nodes side.inst.0) known.of known.made
      (row_grows (λ j. some_type (length side.elems) (λ c. has_meaning m x c && is_candidate (pick_of (table_of side.tables side.sites site) c) j))
      (λ j. some_type (length side.elems) (λ c. means most m.made.words (span_row x m.of) (span_row x m.made) c && is_candidate (pick_of (table_of side.tables side.sites site) c) j))
      (λ j. some_grows (length side.elems) (λ c. has_meaning m x c && is_candidate (pick_of (table_of side.tables side.sites site) c) j) (λ c. means most m.made.words (span_row x m.of) (span_row x m.made) c && is_candidate (pick_of (table_of side.tables side.sites site) c) j)
      (λ c e. let parts : (has_meaning m x c ≡ true) × (is_candidate (pick_of (table_of side.tables side.sites site) c) j ≡ true) = and_parts (has_meaning m x c) (is_candidate (pick_of (table_of side.tables side.sites site) c) j) e in
      and_from (means most m.made.words (span_row x m.of) (span_row x m.made) c) (is_candidate (pick_of (table_of side.tables side.sites site) c) j)
      (means_is most m.made.words (span_row x m.of) (span_row x m.made) c ∙ means_up m.saturated (full_of most m x) (span_row x m.of) (span_row x m.made) c h parts.0) parts.1))))

  -- the elements of the array types of a meaning, by the places of its nodes
  abbrev elements_by : NodeShape → NodeShape → (ℕ → ℕ) → ℕ → ℕ → ℕ
  elements_by o i x zero k = 0
  elements_by o i x (suc c) k = bit_or (elements_by o i x c k) (row_if (means most i.words (span_row x o) (span_row x i) c) (elem_row (rows_of nodes x) (slice_index_or side.elems c None)) k)

  elements_are : (a : NodeId) (x : ℕ → ℕ) (c k : ℕ) → elements_by (shape_at nodes a.0) (shape_at nodes side.inst.0) x c k ≡ elements_below (tables_of nodes most side) (rows_of nodes x) a c k
  elements_are a x zero k = refl
  elements_are a x (suc c) k = ap (λ (w : ℕ). bit_or w (row_if (means most (shape_at nodes side.inst.0).words (span_row x (shape_at nodes a.0)) (span_row x (shape_at nodes side.inst.0)) c) (elem_row (rows_of nodes x) (slice_index_or side.elems c None)) k)) (elements_are a x c k)

  elems_low : (m : Meaning) (x : ℕ → ℕ) → (full_of most m x ≡ true → m.saturated ≡ true) → (c k : ℕ) → IsIn (elements_by m.of m.made x c k) (elements_row nodes side m x c k)
  elems_low m x up zero k = refl
  elems_low m x up (suc c) k = or_grows (elements_by m.of m.made x c k) (row_if (means most m.made.words (span_row x m.of) (span_row x m.made) c) (elem_row (rows_of nodes x) (slice_index_or side.elems c None)) k) (elements_row nodes side m x c k) (row_if (has_meaning m x c) (elem_row (rows_of nodes x) (slice_index_or side.elems c None)) k)
      (elems_low m x up c k)
      (if_grows (means most m.made.words (span_row x m.of) (span_row x m.made) c) (has_meaning m x c) (elem_row (rows_of nodes x) (slice_index_or side.elems c None) k) (elem_row (rows_of nodes x) (slice_index_or side.elems c None) k)
      (λ e. means_up (full_of most m x) m.saturated (span_row x m.of) (span_row x m.made) c up (sym (means_is most m.made.words (span_row x m.of) (span_row x m.made) c) ∙ e)) (in_itself (elem_row (rows_of nodes x) (slice_index_or side.elems c None) k)))

  elems_high : (m : Meaning) (x : ℕ → ℕ) → (m.saturated ≡ true → full_of most m x ≡ true) → (c k : ℕ) → IsIn (elements_row nodes side m x c k) (elements_by m.of m.made x c k)
  elems_high m x up zero k = refl
  elems_high m x up (suc c) k = or_grows (elements_row nodes side m x c k) (row_if (has_meaning m x c) (elem_row (rows_of nodes x) (slice_index_or side.elems c None)) k) (elements_by m.of m.made x c k) (row_if (means most m.made.words (span_row x m.of) (span_row x m.made) c) (elem_row (rows_of nodes x) (slice_index_or side.elems c None)) k)
      (elems_high m x up c k)
      (if_grows (has_meaning m x c) (means most m.made.words (span_row x m.of) (span_row x m.made) c) (elem_row (rows_of nodes x) (slice_index_or side.elems c None) k) (elem_row (rows_of nodes x) (slice_index_or side.elems c None) k)
      (λ e. means_is most m.made.words (span_row x m.of) (span_row x m.made) c ∙ means_up m.saturated (full_of most m x) (span_row x m.of) (span_row x m.made) c up e) (in_itself (elem_row (rows_of nodes x) (slice_index_or side.elems c None) k)))

  pub elements_said : (a : NodeId) (m : Meaning) {s t : Seen} → KnownMeaning nodes most side a m s t → SaidPlan nodes most side (ops.ElementsOf a) to s t (Elements m)
  elements_said a m known = said_so known.said
      (λ x h. record {
        each = λ k. subst (λ (w : ℕ). IsIn w (elements_row nodes side m x (length side.elems) k)) (elements_are a x (length side.elems) k)
            ((along (λ (o i : NodeShape). elements_by o i x (length side.elems)) (elements_row nodes side m x (length side.elems)) m.of m.made (shape_at nodes a.0) (shape_at nodes side.inst.0) known.of known.made (record { each = elems_low m x h (length side.elems) })).each k);
      })
      (λ x h. record {
        each = λ k. subst (λ (w : ℕ). IsIn (elements_row nodes side m x (length side.elems) k) w) (elements_are a x (length side.elems) k)
            ((along_back (λ (o i : NodeShape). elements_by o i x (length side.elems)) (elements_row nodes side m x (length side.elems)) m.of m.made (shape_at nodes a.0) (shape_at nodes side.inst.0) known.of known.made (record { each = elems_high m x h (length side.elems) })).each k);
      })
