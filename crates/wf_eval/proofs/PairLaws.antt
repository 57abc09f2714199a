-- What the plans of two references, and of tests, lie between.
use Rattle.std.proofs.Common.{◌≡◌, ℕ, zero, suc, ◌-◌, Bool, true, false, not, ◌&&◌, ◌||◌, if◌then◌else◌, ◌⊎◌, inl, inr, List, length, Option, None, slice_index_or, [], nat_lt, bit_and, bit_or, pos, refl, sym, ap, ltb-true, ◌∙◌, subst, subst₂, arith, le-ltb}
use Rattle.std.specs.Int.{bit_not, w64}
use Rattle.std.proofs.lemmas.Bool.{true≢false, and_parts, and_from, or_cases, or_left, or_right, not-true, not_from_false, false_from_ne_true}
use Rattle.wf_base.specs.declared.ids.NodeId.{NodeId}
use Rattle.wf_base.specs.declared.ids.TypeId.{TypeId}
use Rattle.wf_base.specs.declared.ids.TargetId.{TargetId}
use Rattle.wf_lattice.specs.declared.view.Nulls.TheVariants.{Keep, Drop}
use Rattle.wf_lattice.specs.Words.{IsIn, IsWithin, words_of, has_bit, has_type, is_empty, counted, types_of, flags_of, both, either, without, one_word, nothing}
use Rattle.wf_lattice.specs.Ints.{constant_word}
use Rattle.wf_lattice.specs.Order.{is_saturated}
use Rattle.wf_lattice.specs.Meaning.{means_null, means, types_if, meant_types}
use Rattle.wf_lattice.specs.Filters.{filtered, no_null, only_null, equal_refs, unequal_types, unequal_refs, all_under, some_under, tested_word, null_word}
use Rattle.wf_lattice.proofs.BitLaws.{in_itself, or_grows}
use Rattle.wf_lattice.proofs.RowLaws.{within_itself, both_grows, nonempty_grows}
use Rattle.wf_lattice.proofs.JoinLaws.{counted_nothing}
use Rattle.wf_system.specs.declared.node_shape.NodeShape.{NodeShape}
use Rattle.wf_system.specs.declared.side.Side.{Side}
use Rattle.wf_system.specs.declared.inequality.ValueOp.TheVariants as ops
use Rattle.wf_system.specs.Shapes.{shape_at}
use Rattle.wf_system.specs.Sides.{pick_of, table_of}
use Rattle.wf_system.specs.Rows.{row_where}
use Rattle.wf_system.specs.System.{is_candidate, some_type, picked_mask, row_if, elem_row, elements_below}
use Rattle.wf_system.specs.Bodies.{tables_of}
use Rattle.wf_system.proofs.RowLaws.{if_grows, row_grows, some_grows}
use Rattle.wf_eval.specs.declared.plan.Meaning.{Meaning}
use Rattle.wf_eval.specs.declared.plan.Source.TheVariants.{Made, Meant}
use Rattle.wf_eval.specs.declared.plan.Mask.{Mask}
use Rattle.wf_eval.specs.declared.plan.Mask.TheVariants.{All, Under, NotUnder, Picking, AlsoIn}
use Rattle.wf_eval.specs.declared.plan.TypeSet.{TypeSet}
use Rattle.wf_eval.specs.declared.plan.Plan.TheVariants.{First, Types, Candidates, Elements}
use Rattle.wf_eval.specs.Said.{Seen, Said, SaidBool}
use Rattle.wf_eval.specs.Reading.{span_row, rows_of}
use Rattle.wf_eval.specs.Plans.{meant_row, source_row, set_row, means_if, has_meaning, candidates_row, elements_row, planned, picking_row, SaidPlan}
use Rattle.wf_eval.proofs.SaidLaws.{said_so}
use Rattle.wf_eval.proofs.OpLaws.{set_of, unless_if, if_unless, means_up, means_is, one_word_in, full_of, KnownMeaning}
use Rattle.wf_eval.proofs.PlanLaws.{said_pair, set_low, set_high, meant_low, meant_high, null_up, null_down, along, along_back}

-- from the places of two meanings to those of the nodes
along_two : (F : NodeShape → NodeShape → NodeShape → NodeShape → ℕ → ℕ) (r : ℕ → ℕ) (o i p j o' i' p' j' : NodeShape) → o ≡ o' → i ≡ i' → p ≡ p' → j ≡ j' → IsWithin (F o i p j) r → IsWithin (F o' i' p' j') r
along_two F r o i p j o' i' p' j' a b c d h = subst₂ (λ (u v : NodeShape). IsWithin (F o' i' u v) r) c d (subst₂ (λ (u v : NodeShape). IsWithin (F u v p j) r) a b h)

along_two_back : (F : NodeShape → NodeShape → NodeShape → NodeShape → ℕ → ℕ) (r : ℕ → ℕ) (o i p j o' i' p' j' : NodeShape) → o ≡ o' → i ≡ i' → p ≡ p' → j ≡ j' → IsWithin r (F o i p j) → IsWithin r (F o' i' p' j')
along_two_back F r o i p j o' i' p' j' a b c d h = subst₂ (λ (u v : NodeShape). IsWithin r (F o' i' u v)) c d (subst₂ (λ (u v : NodeShape). IsWithin r (F u v p j)) a b h)

and_up : (a b c d : Bool) → (a ≡ true → c ≡ true) → (b ≡ true → d ≡ true) → (a && b) ≡ true → (c && d) ≡ true
and_up a b c d p q e = let parts : (a ≡ true) × (b ≡ true) = and_parts a b e in and_from c d (p parts.0) (q parts.1)

-- the types of a meaning, and null in it, by the places of its nodes
abbrev types_by : ℕ → NodeShape → NodeShape → (ℕ → ℕ) → ℕ → ℕ
types_by most o i x = meant_types most i.words (span_row x o) (span_row x i)

abbrev null_by : ℕ → NodeShape → NodeShape → (ℕ → ℕ) → Bool
null_by most o i x = means_null most i.words (span_row x o)

module _ (nodes : List NodeShape) (most : ℕ) (side : Side) (to : NodeId) where
  -- what is in both meanings
  abbrev equal_by : (ℕ → ℕ) → NodeShape → NodeShape → NodeShape → NodeShape → ℕ → ℕ
  equal_by x o i p j = Rattle.wf_lattice.specs.Filters.set_words most i.words (both (types_by most o i x) (types_by most p j x)) (null_by most o i x && null_by most p j x)

  pub equal_said : (a b : NodeId) (m o : Meaning) {s t u v w z : Seen} (first second over : Bool) → KnownMeaning nodes most side a m s t → KnownMeaning nodes most side b o t u
      → SaidBool (λ x. m.saturated || has_bit (span_row x m.of) 1) u v first → SaidBool (λ x. o.saturated || has_bit (span_row x o.of) 1) v w second
      → SaidBool (λ x. nat_lt most (counted m.made.words (set_row side (set_of true m (AlsoIn o)) x))) w z over
      → SaidPlan nodes most side (ops.RefEq a b) to s z (Types (set_of true m (AlsoIn o)) over (first && second))
  equal_said a b m o first second over k l p q r = said_so (said_pair (said_pair (said_pair (said_pair k.said l.said) p) q) r)
      (λ x h. along_two (equal_by x) (planned nodes side (Types (set_of true m (AlsoIn o)) over (first && second)) x) m.of m.made o.of o.made (shape_at nodes a.0) (shape_at nodes side.inst.0) (shape_at nodes b.0) (shape_at nodes side.inst.0) k.of k.made l.of l.made
      (set_low nodes side most m.made.words (set_of true m (AlsoIn o)) x (both (types_by most m.of m.made x) (types_by most o.of o.made x)) (null_by most m.of m.made x && null_by most o.of o.made x) (first && second) over
      (both_grows (types_by most m.of m.made x) (types_by most o.of o.made x) (types_of (meant_row m x)) (types_of (meant_row o x)) (meant_low m x (full_of most m x) h.0.0.0.0) (meant_low o x (full_of most o x) h.0.0.0.1))
      (and_up (null_by most m.of m.made x) (null_by most o.of o.made x) first second
      (null_up m.saturated (full_of most m x) (has_bit (span_row x m.of) 1) first h.0.0.0.0 h.0.0.1) (null_up o.saturated (full_of most o x) (has_bit (span_row x o.of) 1) second h.0.0.0.1 h.0.1)) h.1))
      (λ x h. along_two_back (equal_by x) (planned nodes side (Types (set_of true m (AlsoIn o)) over (first && second)) x) m.of m.made o.of o.made (shape_at nodes a.0) (shape_at nodes side.inst.0) (shape_at nodes b.0) (shape_at nodes side.inst.0) k.of k.made l.of l.made
      (set_high nodes side most m.made.words (set_of true m (AlsoIn o)) x (both (types_by most m.of m.made x) (types_by most o.of o.made x)) (null_by most m.of m.made x && null_by most o.of o.made x) (first && second) over
      (both_grows (types_of (meant_row m x)) (types_of (meant_row o x)) (types_by most m.of m.made x) (types_by most o.of o.made x) (meant_high m x (full_of most m x) h.0.0.0.0) (meant_high o x (full_of most o x) h.0.0.0.1))
      (and_up first second (null_by most m.of m.made x) (null_by most o.of o.made x)
      (null_down m.saturated (full_of most m x) (has_bit (span_row x m.of) 1) first h.0.0.0.0 h.0.0.1) (null_down o.saturated (full_of most o x) (has_bit (span_row x o.of) 1) second h.0.0.0.1 h.0.1)) h.1))

  -- what isn't the other
  abbrev none_by : (ℕ → ℕ) → NodeShape → NodeShape → Bool
  none_by x p j = is_empty j.words (types_by most p j x)

  abbrev unequal_by : (ℕ → ℕ) → NodeShape → NodeShape → NodeShape → NodeShape → ℕ → ℕ
  unequal_by x o i p j = Rattle.wf_lattice.specs.Filters.set_words most i.words (λ k. if none_by x p j && not (null_by most p j x) then 0 else types_by most o i x k) (null_by most o i x && not (none_by x p j))

  -- a meaning that has types has them where more is saturated
  some_up : (n : ℕ) (f g : ℕ → ℕ) → IsWithin f g → not (is_empty n f) ≡ true → not (is_empty n g) ≡ true
  some_up n f g p e = not_from_false (is_empty n g) (nonempty_grows n f g p (not-true (is_empty n f) e))

  there_up : (none null some second : Bool) → (not none ≡ true → some ≡ true) → (null ≡ true → second ≡ true) → (none && not null) ≡ false → (some || second) ≡ true
  there_up true true some second p q e = or_right some second (q refl)
  there_up true false some second p q e = absurd (true≢false e)
  there_up false null some second p q e = or_left some second (p refl)

  there_down : (none null some second : Bool) → (some ≡ true → not none ≡ true) → (second ≡ true → null ≡ true) → (some || second) ≡ true → (none && not null) ≡ false
  there_down none null some second p q e = go none null p q (or_cases some second e)
    where
      go : (none null : Bool) → (some ≡ true → not none ≡ true) → (second ≡ true → null ≡ true) → ((some ≡ true) ⊎ (second ≡ true)) → (none && not null) ≡ false
      go true null p q (inl h) = absurd (true≢false (sym (p h)))
      go true true p q (inr h) = refl
      go true false p q (inr h) = absurd (true≢false (sym (q h)))
      go false null p q h = refl

  pub unequal_said : (a b : NodeId) (m o : Meaning) {s t u v w y z : Seen} (first second some over : Bool) → KnownMeaning nodes most side a m s t → KnownMeaning nodes most side b o t u
      → SaidBool (λ x. m.saturated || has_bit (span_row x m.of) 1) u v first → SaidBool (λ x. o.saturated || has_bit (span_row x o.of) 1) v w second
      → SaidBool (λ x. not (is_empty o.made.words (set_row side (set_of true o All) x))) w y some
      → SaidBool (λ x. nat_lt most (counted m.made.words (set_row side (set_of (some || second) m All) x))) y z over
      → SaidPlan nodes most side (ops.RefNe a b) to s z (Types (set_of (some || second) m All) over (first && some))
  unequal_said a b m o first second some over k l p q e r = said_so (said_pair (said_pair (said_pair (said_pair (said_pair k.said l.said) p) q) e) r)
      (λ x h. along_two (unequal_by x) (planned nodes side (Types (set_of (some || second) m All) over (first && some)) x) m.of m.made o.of o.made (shape_at nodes a.0) (shape_at nodes side.inst.0) (shape_at nodes b.0) (shape_at nodes side.inst.0) k.of k.made l.of l.made
      (set_low nodes side most m.made.words (set_of (some || second) m All) x (λ k. if none_by x o.of o.made && not (null_by most o.of o.made x) then 0 else types_by most m.of m.made x k) (null_by most m.of m.made x && not (none_by x o.of o.made)) (first && some) over
      (record {
        each = λ k. unless_if (none_by x o.of o.made && not (null_by most o.of o.made x)) (some || second) (types_by most m.of m.made x k) (types_of (meant_row m x) k)
            (there_up (none_by x o.of o.made) (null_by most o.of o.made x) some second
            (λ i. h.0.1 (some_up o.made.words (types_by most o.of o.made x) (types_of (meant_row o x)) (meant_low o x (full_of most o x) h.0.0.0.0.1) i))
            (null_up o.saturated (full_of most o x) (has_bit (span_row x o.of) 1) second h.0.0.0.0.1 h.0.0.1))
            ((meant_low m x (full_of most m x) h.0.0.0.0.0).each k);
      })
      (and_up (null_by most m.of m.made x) (not (none_by x o.of o.made)) first some
      (null_up m.saturated (full_of most m x) (has_bit (span_row x m.of) 1) first h.0.0.0.0.0 h.0.0.0.1)
      (λ i. h.0.1 (some_up o.made.words (types_by most o.of o.made x) (types_of (meant_row o x)) (meant_low o x (full_of most o x) h.0.0.0.0.1) i))) h.1))
      (λ x h. along_two_back (unequal_by x) (planned nodes side (Types (set_of (some || second) m All) over (first && some)) x) m.of m.made o.of o.made (shape_at nodes a.0) (shape_at nodes side.inst.0) (shape_at nodes b.0) (shape_at nodes side.inst.0) k.of k.made l.of l.made
      (set_high nodes side most m.made.words (set_of (some || second) m All) x (λ k. if none_by x o.of o.made && not (null_by most o.of o.made x) then 0 else types_by most m.of m.made x k) (null_by most m.of m.made x && not (none_by x o.of o.made)) (first && some) over
      (record {
        each = λ k. if_unless (some || second) (none_by x o.of o.made && not (null_by most o.of o.made x)) (types_of (meant_row m x) k) (types_by most m.of m.made x k)
            (there_down (none_by x o.of o.made) (null_by most o.of o.made x) some second
            (λ i. some_up o.made.words (types_of (meant_row o x)) (types_by most o.of o.made x) (meant_high o x (full_of most o x) h.0.0.0.0.1) (h.0.1 i))
            (null_down o.saturated (full_of most o x) (has_bit (span_row x o.of) 1) second h.0.0.0.0.1 h.0.0.1))
            ((meant_high m x (full_of most m x) h.0.0.0.0.0).each k);
      })
      (and_up first some (null_by most m.of m.made x) (not (none_by x o.of o.made))
      (null_down m.saturated (full_of most m x) (has_bit (span_row x m.of) 1) first h.0.0.0.0.0 h.0.0.0.1)
      (λ i. some_up o.made.words (types_of (meant_row o x)) (types_by most o.of o.made x) (meant_high o x (full_of most o x) h.0.0.0.0.1) (h.0.1 i))) h.1))

  -- the int of a test
  pub tested_said : (a : NodeId) (c : TargetId) (m : Meaning) {s t u v w : Seen} (one other null : Bool) (word : ℕ)
      → word ≡ bit_or (if one then constant_word (pos 1) else 0) (if other || null then constant_word (pos 0) else 0) → KnownMeaning nodes most side a m s t
      → SaidBool (λ x. not (is_empty m.made.words (set_row side (set_of true m (Under c)) x))) t u one
      → SaidBool (λ x. not (is_empty m.made.words (set_row side (set_of true m (NotUnder c)) x))) u v other
      → SaidBool (λ x. m.saturated || has_bit (span_row x m.of) 1) v w null
      → SaidPlan nodes most side (ops.Tested a c) to s w (First word)
  tested_said a c m one other null word is k p q r = said_so (said_pair (said_pair (said_pair k.said p) q) r)
      (λ x h. along (λ (o i : NodeShape). one_word (tested_word most i.words (span_row x o) (span_row x i) row)) (one_word word) m.of m.made (shape_at nodes a.0) (shape_at nodes side.inst.0) k.of k.made
      (one_word_in (tested_word most m.made.words (span_row x m.of) (span_row x m.made) row) word (subst (λ (v : ℕ). IsIn (tested_word most m.made.words (span_row x m.of) (span_row x m.made) row) v) (sym is)
      (or_grows (if is_empty m.made.words (inside x) then 0 else constant_word (pos 1)) (if is_empty m.made.words (outside x) && not (null_by most m.of m.made x) then 0 else constant_word (pos 0)) (if one then constant_word (pos 1) else 0) (if other || null then constant_word (pos 0) else 0)
      (unless_if (is_empty m.made.words (inside x)) one (constant_word (pos 1)) (constant_word (pos 1)) (λ e. h.0.0.1 (some_up m.made.words (inside x) (both (types_of (meant_row m x)) row) (inside_low x h.0.0.0) (not_from_false (is_empty m.made.words (inside x)) e))) (in_itself (constant_word (pos 1))))
      (unless_if (is_empty m.made.words (outside x) && not (null_by most m.of m.made x)) (other || null) (constant_word (pos 0)) (constant_word (pos 0))
      (there_up (is_empty m.made.words (outside x)) (null_by most m.of m.made x) other null
      (λ i. h.0.1 (some_up m.made.words (outside x) (both (types_of (meant_row m x)) lacks) (outside_low x h.0.0.0) i))
      (null_up m.saturated (full_of most m x) (has_bit (span_row x m.of) 1) null h.0.0.0 h.1)) (in_itself (constant_word (pos 0))))))))
      (λ x h. along_back (λ (o i : NodeShape). one_word (tested_word most i.words (span_row x o) (span_row x i) row)) (one_word word) m.of m.made (shape_at nodes a.0) (shape_at nodes side.inst.0) k.of k.made
      (one_word_in word (tested_word most m.made.words (span_row x m.of) (span_row x m.made) row) (subst (λ (v : ℕ). IsIn v (tested_word most m.made.words (span_row x m.of) (span_row x m.made) row)) (sym is)
      (or_grows (if one then constant_word (pos 1) else 0) (if other || null then constant_word (pos 0) else 0) (if is_empty m.made.words (inside x) then 0 else constant_word (pos 1)) (if is_empty m.made.words (outside x) && not (null_by most m.of m.made x) then 0 else constant_word (pos 0))
      (if_unless one (is_empty m.made.words (inside x)) (constant_word (pos 1)) (constant_word (pos 1)) (λ e. not-true (is_empty m.made.words (inside x)) (some_up m.made.words (both (types_of (meant_row m x)) row) (inside x) (inside_high x h.0.0.0) (h.0.0.1 e))) (in_itself (constant_word (pos 1))))
      (if_unless (other || null) (is_empty m.made.words (outside x) && not (null_by most m.of m.made x)) (constant_word (pos 0)) (constant_word (pos 0))
      (there_down (is_empty m.made.words (outside x)) (null_by most m.of m.made x) other null
      (λ i. some_up m.made.words (both (types_of (meant_row m x)) lacks) (outside x) (outside_high x h.0.0.0) (h.0.1 i))
      (null_down m.saturated (full_of most m x) (has_bit (span_row x m.of) 1) null h.0.0.0 h.1)) (in_itself (constant_word (pos 0))))))))
    where
      row : ℕ → ℕ
      row = words_of (slice_index_or side.masks c.0 [])

      lacks : ℕ → ℕ
      lacks = λ k. bit_not w64 (row k)

      inside : (ℕ → ℕ) → ℕ → ℕ
      inside x = both (types_by most m.of m.made x) row

      outside : (ℕ → ℕ) → ℕ → ℕ
      outside x = without (types_by most m.of m.made x) row

      inside_low : (x : ℕ → ℕ) → (full_of most m x ≡ true → m.saturated ≡ true) → IsWithin (inside x) (both (types_of (meant_row m x)) row)
      inside_low x up = both_grows (types_by most m.of m.made x) row (types_of (meant_row m x)) row (meant_low m x (full_of most m x) up) (within_itself row)

      inside_high : (x : ℕ → ℕ) → (m.saturated ≡ true → full_of most m x ≡ true) → IsWithin (both (types_of (meant_row m x)) row) (inside x)
      inside_high x up = both_grows (types_of (meant_row m x)) row (types_by most m.of m.made x) row (meant_high m x (full_of most m x) up) (within_itself row)

      outside_low : (x : ℕ → ℕ) → (full_of most m x ≡ true → m.saturated ≡ true) → IsWithin (outside x) (both (types_of (meant_row m x)) lacks)
      outside_low x up = both_grows (types_by most m.of m.made x) lacks (types_of (meant_row m x)) lacks (meant_low m x (full_of most m x) up) (within_itself lacks)

      outside_high : (x : ℕ → ℕ) → (m.saturated ≡ true → full_of most m x ≡ true) → IsWithin (both (types_of (meant_row m x)) lacks) (outside x)
      outside_high x up = both_grows (types_of (meant_row m x)) lacks (types_by most m.of m.made x) lacks (meant_high m x (full_of most m x) up) (within_itself lacks)

  -- what is held of a second reference, where the first has a type
  abbrev held_by : TypeId → (ℕ → ℕ) → (ℕ → ℕ) → NodeShape → NodeShape → NodeShape → NodeShape → ℕ → ℕ
  held_by c row x o i p j = row_if (means most i.words (span_row x o) (span_row x i) c.0) (filtered most j.words (span_row x p) (span_row x j) row Keep)

  no_more : (over : Bool) (n : ℕ) → (over ≡ true → nat_lt most (counted n nothing) ≡ true) → over ≡ false
  no_more true n h = absurd (omega (arith, ltb-true most (counted n nothing) (h refl), counted_nothing n))
  no_more false n h = refl

  held_low : (u : TargetId) (o : Meaning) (x : ℕ → ℕ) (had there null over : Bool) → (had ≡ true → there ≡ true) → (full_of most o x ≡ true → o.saturated ≡ true)
      → ((o.saturated || has_bit (span_row x o.of) 1) ≡ true → null ≡ true) → (nat_lt most (counted o.made.words (set_row side (set_of there o (Under u)) x)) ≡ true → over ≡ true)
      → IsWithin (row_if had (filtered most o.made.words (span_row x o.of) (span_row x o.made) (words_of (slice_index_or side.masks u.0 [])) Keep)) (planned nodes side (Types (set_of there o (Under u)) over (there && null)) x)
  held_low u o x false there null over up k l r = record { each = λ k. refl }
  held_low u o x true false null over up k l r = absurd (true≢false (sym (up refl)))
  held_low u o x true true null over up k l r = record {
    each = λ i. (set_low nodes side most o.made.words (set_of true o (Under u)) x (both (types_by most o.of o.made x) (words_of (slice_index_or side.masks u.0 []))) (null_by most o.of o.made x) null over
        (both_grows (types_by most o.of o.made x) (words_of (slice_index_or side.masks u.0 [])) (types_of (meant_row o x)) (words_of (slice_index_or side.masks u.0 [])) (meant_low o x (full_of most o x) k) (within_itself (words_of (slice_index_or side.masks u.0 []))))
        (null_up o.saturated (full_of most o x) (has_bit (span_row x o.of) 1) null k l) r).each i;
  }

  empty_flags : (over : Bool) (k : ℕ) → over ≡ false → (w : ℕ) → IsIn (bit_or 0 (flags_of over false k)) w
  empty_flags true k e w = absurd (true≢false e)
  empty_flags false zero e w = refl
  empty_flags false (suc k) e w = refl

  held_high : (u : TargetId) (o : Meaning) (x : ℕ → ℕ) (had there null over : Bool) → (there ≡ true → had ≡ true) → (o.saturated ≡ true → full_of most o x ≡ true)
      → (null ≡ true → (o.saturated || has_bit (span_row x o.of) 1) ≡ true) → (over ≡ true → nat_lt most (counted o.made.words (set_row side (set_of there o (Under u)) x)) ≡ true)
      → IsWithin (planned nodes side (Types (set_of there o (Under u)) over (there && null)) x) (row_if had (filtered most o.made.words (span_row x o.of) (span_row x o.made) (words_of (slice_index_or side.masks u.0 [])) Keep))
  held_high u o x had false null over up k l r = record { each = λ i. empty_flags over i (no_more over o.made.words r) (row_if had (filtered most o.made.words (span_row x o.of) (span_row x o.made) (words_of (slice_index_or side.masks u.0 [])) Keep) i) }
  held_high u o x false true null over up k l r = absurd (true≢false (sym (up refl)))
  held_high u o x true true null over up k l r = record {
    each = λ i. (set_high nodes side most o.made.words (set_of true o (Under u)) x (both (types_by most o.of o.made x) (words_of (slice_index_or side.masks u.0 []))) (null_by most o.of o.made x) null over
        (both_grows (types_of (meant_row o x)) (words_of (slice_index_or side.masks u.0 [])) (types_by most o.of o.made x) (words_of (slice_index_or side.masks u.0 [])) (meant_high o x (full_of most o x) k) (within_itself (words_of (slice_index_or side.masks u.0 []))))
        (null_down o.saturated (full_of most o x) (has_bit (span_row x o.of) 1) null k l) r).each i;
  }

  pub held_said : (a : NodeId) (c : TypeId) (b : NodeId) (u : TargetId) (m o : Meaning) {s t v w y z : Seen} (there null over : Bool) → KnownMeaning nodes most side a m s t
      → SaidBool (λ x. has_meaning m x c.0) t v there → KnownMeaning nodes most side b o v w → SaidBool (λ x. o.saturated || has_bit (span_row x o.of) 1) w y null
      → SaidBool (λ x. nat_lt most (counted o.made.words (set_row side (set_of there o (Under u)) x))) y z over
      → SaidPlan nodes most side (ops.IfHolds a c b u) to s z (Types (set_of there o (Under u)) over (there && null))
  held_said a c b u m o there null over k p l q r = said_so (said_pair (said_pair (said_pair (said_pair k.said p) l.said) q) r)
      (λ x h. along_two (held_by c (words_of (slice_index_or side.masks u.0 [])) x) (planned nodes side (Types (set_of there o (Under u)) over (there && null)) x) m.of m.made o.of o.made (shape_at nodes a.0) (shape_at nodes side.inst.0) (shape_at nodes b.0) (shape_at nodes side.inst.0) k.of k.made l.of l.made
      (held_low u o x (means most m.made.words (span_row x m.of) (span_row x m.made) c.0) there null over
      (λ e. h.0.0.0.1 (means_up (full_of most m x) m.saturated (span_row x m.of) (span_row x m.made) c.0 h.0.0.0.0 (sym (means_is most m.made.words (span_row x m.of) (span_row x m.made) c.0) ∙ e))) h.0.0.1 h.0.1 h.1))
      (λ x h. along_two_back (held_by c (words_of (slice_index_or side.masks u.0 [])) x) (planned nodes side (Types (set_of there o (Under u)) over (there && null)) x) m.of m.made o.of o.made (shape_at nodes a.0) (shape_at nodes side.inst.0) (shape_at nodes b.0) (shape_at nodes side.inst.0) k.of k.made l.of l.made
      (held_high u o x (means most m.made.words (span_row x m.of) (span_row x m.made) c.0) there null over
      (λ e. means_is most m.made.words (span_row x m.of) (span_row x m.made) c.0 ∙ means_up m.saturated (full_of most m x) (span_row x m.of) (span_row x m.made) c.0 h.0.0.0.0 (h.0.0.0.1 e)) h.0.0.1 h.0.1 h.1))
