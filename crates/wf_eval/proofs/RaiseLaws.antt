-- A target that is raised word by word.
use Rattle.std.proofs.Common.{◌≡◌, ◌≢◌, ℕ, zero, suc, ◌+◌, ◌-◌, ◌<◌, ◌≤◌, Bool, true, false, ◌||◌, if◌then◌else◌, ◌⊎◌, inl, inr, List, length, slice_index, slice_set, bit_or, refl, sym, ap, ◌∙◌, subst, subst₂, arith, get_or-set_same, get_or-set_other, length-set, nat_lt, lt-ltb, le-ltb, ltb-true}
use Rattle.std.proofs.lemmas.Bool.{cases_eq, cases_lt, cases_order, true≢false, cond-true, cond-false}
use Rattle.std.proofs.lemmas.List.{get_or_past}
use Rattle.wf_base.specs.declared.ids.NodeId.{NodeId}
use Rattle.wf_lattice.specs.Words.{IsIn, IsWithin, words_of, counted}
use Rattle.wf_lattice.proofs.BitLaws.{in_itself, in_through, in_left, in_right, or_in, or_grows}
use Rattle.wf_lattice.proofs.RowLaws.{within_itself, within_through, counted_grows}
use Rattle.wf_system.specs.declared.node_shape.NodeShape.{NodeShape}
use Rattle.wf_system.specs.declared.side.Side.{Side}
use Rattle.wf_system.specs.declared.inequality.Inequality.{Inequality}
use Rattle.wf_system.specs.Shapes.{no_node, shape_at, IsLaidOut}
use Rattle.wf_system.specs.System.{AtLeast, IsBelow, IsMet, guard_holds, given}
use Rattle.wf_system.specs.Fits.{AreShaped, Fits}
use Rattle.wf_system.specs.Bodies.{tables_of}
use Rattle.wf_system.proofs.GrowLaws.{guard_grows, value_grows}
use Rattle.wf_system.proofs.ShapeLaws.{nodes_apart, node_within}
use Rattle.wf_lattice.proofs.OrderLaws.{receives_through}
use Rattle.wf_eval.specs.declared.plan.Plan.{Plan}
use Rattle.wf_eval.specs.Reading.{span_row, rows_of}
use Rattle.wf_eval.specs.Plans.{planned}
use Rattle.wf_eval.specs.Raising.{Raises, JoinsWord}
use Rattle.wf_eval.proofs.EndLaws.{given_ends}
use Rattle.wf_eval.proofs.PlannedLaws.{planned_grows}
use Rattle.wf_eval.proofs.CountLaws.{counted_rises}

-- the words of the target below k are raised by the plan
pub record RaisedTo (nodes : List NodeShape) (most : ℕ) (side : Side) (q : Inequality NodeId) (p : Plan) (at : NodeShape) (k : ℕ) (old now : List ℕ) (changed : Bool) : Type 0 where
  pub same : length now ≡ length old
  pub grown : IsWithin (words_of old) (words_of now)
  pub joined : (j : ℕ) → j < k → IsIn (planned nodes side p (words_of old) j) (slice_index now (at.first_word + j))
  pub below : (y : NodeId → ℕ → ℕ) → IsBelow (tables_of nodes most side) (rows_of nodes (words_of old)) y → IsMet (tables_of nodes most side) q y → IsBelow (tables_of nodes most side) (rows_of nodes (words_of now)) y
  pub later : (i : ℕ) → at.first_word + k ≤ i → slice_index now i ≡ slice_index old i
  pub others : (i : ℕ) → i < at.first_word → slice_index now i ≡ slice_index old i
  pub still : changed ≡ false → now ≡ old
  pub more : changed ≡ true → counted (length old) (words_of old) < counted (length old) (words_of now)

pub raised_none : (nodes : List NodeShape) (most : ℕ) (side : Side) (q : Inequality NodeId) (p : Plan) (at : NodeShape) (old : List ℕ) → RaisedTo nodes most side q p at 0 old old false
raised_none nodes most side q p at old = record {
  same = refl;
  grown = within_itself (words_of old);
  joined = λ j lt. absurd (omega arith);
  below = λ y up met. up;
  later = λ i le. refl;
  others = λ i lt. refl;
  still = λ e. refl;
  more = λ e. absurd (true≢false (sym e));
}

or_false : (a b : Bool) → (a || b) ≡ false → (a ≡ false) × (b ≡ false)
or_false true b e = absurd (true≢false e)
or_false false b e = (refl, e)

-- what is known where the guard holds and the plan is found
pub record Opened (nodes : List NodeShape) (most : ℕ) (side : Side) (q : Inequality NodeId) (p : Plan) (at : NodeShape) (old : List ℕ) : Type 0 where
  pub laid : IsLaidOut nodes
  pub shaped : AreShaped (tables_of nodes most side)
  pub fits : Fits (tables_of nodes most side) q
  pub at_is : at ≡ shape_at nodes q.target.0
  pub there : q.target.0 < length nodes
  pub holds : guard_holds (tables_of nodes most side) q.guard (rows_of nodes (words_of old)) ≡ true
  pub low : IsWithin (given (tables_of nodes most side) q.value (rows_of nodes (words_of old)) q.target) (planned nodes side p (words_of old))
  pub high : (x : ℕ → ℕ) → IsWithin (words_of old) x → IsWithin (planned nodes side p x) (given (tables_of nodes most side) q.value (rows_of nodes x) q.target)

-- a word of a node is at the place of no other word
place_of : (nodes : List NodeShape) (n to j k : ℕ) → IsLaidOut nodes → to < length nodes → j < (shape_at nodes n).words → k < (shape_at nodes to).words
    → (shape_at nodes n).first_word + j ≡ (shape_at nodes to).first_word + k → n ≡ to
place_of nodes n to j k laid there lt le e = go (cases_lt n (length nodes))
  where
    go : ((n < length nodes) ⊎ (length nodes ≤ n)) → n ≡ to
    go (inl here) = turn (cases_order n to)
      where
        turn : ((n ≡ to) ⊎ ((n < to) ⊎ (to < n))) → n ≡ to
        turn (inl same) = same
        turn (inr (inl less)) = absurd (omega (arith, nodes_apart nodes n to laid less there))
        turn (inr (inr more)) = absurd (omega (arith, nodes_apart nodes to n laid more here))
    go (inr past) = absurd (omega (arith, ap (λ (s : NodeShape). s.first_word) (get_or_past nodes n no_node past), node_within nodes to laid there, laid.few))

same_if : (b : Bool) (v w : ℕ) → (b ≡ true → v ≡ w) → (if b then v else 0) ≡ (if b then w else 0)
same_if true v w h = h refl
same_if false v w h = refl

-- a word that rises stays below an assignment that meets the inequality
below_step : (nodes : List NodeShape) (most : ℕ) (side : Side) (q : Inequality NodeId) (p : Plan) (at : NodeShape) (k w : ℕ) (old now new : List ℕ) (y : NodeId → ℕ → ℕ) {rose : Bool} → Opened nodes most side q p at old → k < at.words
    → IsWithin (words_of old) (words_of now) → w ≡ planned nodes side p (words_of now) k → JoinsWord (at.first_word + k) w now new rose
    → IsBelow (tables_of nodes most side) (rows_of nodes (words_of old)) y → IsMet (tables_of nodes most side) q y → IsBelow (tables_of nodes most side) (rows_of nodes (words_of now)) y → IsBelow (tables_of nodes most side) (rows_of nodes (words_of new)) y
below_step nodes most side q p at k w old now new y o inside grown is j start met here = λ n. go n (cases_eq n.0 q.target.0) (here n)
  where
    given_below : AtLeast (tables_of nodes most side) q.target (given (tables_of nodes most side) q.value (rows_of nodes (words_of now)) q.target) (y q.target)
    given_below = receives_through most (shape_at nodes q.target.0).words (shape_at nodes q.target.0).kind
        (given (tables_of nodes most side) q.value (rows_of nodes (words_of now)) q.target) (given (tables_of nodes most side) q.value y q.target) (y q.target)
        (value_grows (tables_of nodes most side) o.shaped (rows_of nodes (words_of now)) y here q.value q.target o.fits.value)
        (met (guard_grows (tables_of nodes most side) o.shaped (rows_of nodes (words_of old)) y start q.guard o.fits.guard o.holds))

    other_word : (n : NodeId) (i : ℕ) → ((at.first_word + k ≡ (shape_at nodes n.0).first_word + i) → i < (shape_at nodes n.0).words → ⊥) → span_row (words_of new) (shape_at nodes n.0) i ≡ span_row (words_of now) (shape_at nodes n.0) i
    other_word n i apart = same_if (nat_lt i (shape_at nodes n.0).words) (slice_index new ((shape_at nodes n.0).first_word + i)) (slice_index now ((shape_at nodes n.0).first_word + i))
        (λ e. j.others ((shape_at nodes n.0).first_word + i) (λ same. apart (sym same) (ltb-true i (shape_at nodes n.0).words e)))

    joined_in : IsIn w (given (tables_of nodes most side) q.value (rows_of nodes (words_of now)) q.target k)
    joined_in = subst (λ (v : ℕ). IsIn v (given (tables_of nodes most side) q.value (rows_of nodes (words_of now)) q.target k)) (sym is) ((o.high (words_of now) grown).each k)

    row_below : IsWithin (rows_of nodes (words_of now) q.target) (y q.target) → IsWithin (given (tables_of nodes most side) q.value (rows_of nodes (words_of now)) q.target) (y q.target) → (i : ℕ) → ((i ≡ k) ⊎ (i ≡ k → ⊥)) → IsIn (rows_of nodes (words_of new) q.target i) (y q.target i)
    row_below r g i (inr other) = subst (λ (v : ℕ). IsIn v (y q.target i)) (sym (other_word q.target i (λ e lt. other (omega (arith, e, ap (λ (s : NodeShape). s.first_word) o.at_is))))) (r.each i)
    row_below r g i (inl same) = subst (λ (n : ℕ). IsIn (rows_of nodes (words_of new) q.target n) (y q.target n)) (sym same)
        (subst (λ (v : ℕ). IsIn v (y q.target k)) (sym (cond-true (nat_lt k (shape_at nodes q.target.0).words) (slice_index new ((shape_at nodes q.target.0).first_word + k)) 0 (lt-ltb k (shape_at nodes q.target.0).words (omega (arith, inside, ap (λ (s : NodeShape). s.words) o.at_is)))))
        (subst (λ (s : NodeShape). IsIn (slice_index new (s.first_word + k)) (y q.target k)) o.at_is
        (subst (λ (v : ℕ). IsIn v (y q.target k)) (sym j.word) (or_in (slice_index now (at.first_word + k)) w (y q.target k)
        (subst (λ (s : NodeShape). IsIn (slice_index now (s.first_word + k)) (y q.target k)) (sym o.at_is)
        (subst (λ (v : ℕ). IsIn v (y q.target k)) (cond-true (nat_lt k (shape_at nodes q.target.0).words) (slice_index now ((shape_at nodes q.target.0).first_word + k)) 0 (lt-ltb k (shape_at nodes q.target.0).words (omega (arith, inside, ap (λ (s : NodeShape). s.words) o.at_is)))) (r.each k)))
        (in_through w (given (tables_of nodes most side) q.value (rows_of nodes (words_of now)) q.target k) (y q.target k) joined_in (g.each k))))))

    at_target : AtLeast (tables_of nodes most side) q.target (rows_of nodes (words_of now) q.target) (y q.target) → AtLeast (tables_of nodes most side) q.target (given (tables_of nodes most side) q.value (rows_of nodes (words_of now)) q.target) (y q.target)
        → AtLeast (tables_of nodes most side) q.target (rows_of nodes (words_of new) q.target) (y q.target)
    at_target (inl full) g = inl full
    at_target (inr r) (inl full) = inl full
    at_target (inr r) (inr g) = inr (record { each = λ i. row_below r g i (cases_eq i k) })

    at_other : (n : NodeId) → (n.0 ≡ q.target.0 → ⊥) → AtLeast (tables_of nodes most side) n (rows_of nodes (words_of now) n) (y n) → AtLeast (tables_of nodes most side) n (rows_of nodes (words_of new) n) (y n)
    at_other n apart (inl full) = inl full
    at_other n apart (inr r) = inr (record {
      each = λ i. subst (λ (v : ℕ). IsIn v (y n i)) (sym (other_word n i (λ e lt. apart (place_of nodes n.0 q.target.0 i k o.laid o.there lt
          (omega (arith, inside, ap (λ (s : NodeShape). s.words) o.at_is)) (omega (arith, e, ap (λ (s : NodeShape). s.first_word) o.at_is)))))) (r.each i);
    })

    go : (n : NodeId) → ((n.0 ≡ q.target.0) ⊎ (n.0 ≡ q.target.0 → ⊥)) → AtLeast (tables_of nodes most side) n (rows_of nodes (words_of now) n) (y n) → AtLeast (tables_of nodes most side) n (rows_of nodes (words_of new) n) (y n)
    go n (inl same) h = let e : q.target ≡ n = λ i. record { 0 = sym same i } in
        subst (λ (m : NodeId). AtLeast (tables_of nodes most side) m (rows_of nodes (words_of new) m) (y m)) e (at_target (here q.target) given_below)
    go n (inr apart) h = at_other n apart h

pub raised_next : (nodes : List NodeShape) (most : ℕ) (side : Side) (q : Inequality NodeId) (p : Plan) (at : NodeShape) (k w : ℕ) (old now new : List ℕ) (changed rose : Bool) → Opened nodes most side q p at old → k < at.words → at.first_word + at.words ≤ length old → RaisedTo nodes most side q p at k old now changed
    → w ≡ planned nodes side p (words_of now) k → JoinsWord (at.first_word + k) w now new rose → RaisedTo nodes most side q p at (k + 1) old new (changed || rose)
raised_next nodes most side q p at k w old now new changed rose o inside room r is j = record {
  same = j.same ∙ r.same;
  grown = within_through (words_of old) (words_of now) (words_of new) r.grown up;
  joined = λ i lt. joined i lt (cases_eq i k);
  below = λ y start met. below_step nodes most side q p at k w old now new y o inside r.grown is j start met (r.below y start met);
  later = λ i le. j.others i (λ e. absurd (omega (arith, e, le))) ∙ r.later i (omega arith);
  others = λ i lt. j.others i (λ e. absurd (omega (arith, e, lt))) ∙ r.others i lt;
  still = λ e. let parts : (changed ≡ false) × (rose ≡ false) = or_false changed rose e in j.still parts.1 ∙ r.still parts.0;
  more = λ e. more changed rose e r.more j.more;
}
  where
    up : IsWithin (words_of now) (words_of new)
    up = record { each = λ i. go i (cases_eq i (at.first_word + k)) }
      where
        go : (i : ℕ) → ((i ≡ at.first_word + k) ⊎ (i ≡ at.first_word + k → ⊥)) → IsIn (slice_index now i) (slice_index new i)
        go i (inl e) = subst (λ (n : ℕ). IsIn (slice_index now n) (slice_index new n)) (sym e) (subst (λ (v : ℕ). IsIn (slice_index now (at.first_word + k)) v) (sym j.word) (in_left (slice_index now (at.first_word + k)) w))
        go i (inr other) = subst (λ (v : ℕ). IsIn (slice_index now i) v) (sym (j.others i other)) (in_itself (slice_index now i))

    more : (b c : Bool) → (b || c) ≡ true → (b ≡ true → counted (length old) (words_of old) < counted (length old) (words_of now)) → (c ≡ true → slice_index now (at.first_word + k) ≢ slice_index new (at.first_word + k))
        → counted (length old) (words_of old) < counted (length old) (words_of new)
    more true c e before last = omega (arith, before refl, counted_grows (length old) (words_of now) (words_of new) up)
    more false c e before last = omega (
      arith,
      counted_grows (length old) (words_of old) (words_of now) r.grown,
      counted_rises (length old) (at.first_word + k) (words_of now) (words_of new) up (omega (arith, room)) (last e),
    )

    joined : (i : ℕ) → i < k + 1 → ((i ≡ k) ⊎ (i ≡ k → ⊥)) → IsIn (planned nodes side p (words_of old) i) (slice_index new (at.first_word + i))
    joined i lt (inl e) = subst (λ (n : ℕ). IsIn (planned nodes side p (words_of old) n) (slice_index new (at.first_word + n))) (sym e)
        (in_through (planned nodes side p (words_of old) k) w (slice_index new (at.first_word + k))
        (subst (λ (v : ℕ). IsIn (planned nodes side p (words_of old) k) v) (sym is) (planned_grows nodes side (words_of old) (words_of now) r.grown p k))
        (subst (λ (v : ℕ). IsIn w v) (sym j.word) (in_right (slice_index now (at.first_word + k)) w)))
    joined i lt (inr other) = in_through (planned nodes side p (words_of old) i) (slice_index now (at.first_word + i)) (slice_index new (at.first_word + i)) (r.joined i (omega (arith, other))) (up.each (at.first_word + i))

-- rows end with their nodes' words
rows_end : (nodes : List NodeShape) (x : ℕ → ℕ) (n : NodeId) (k : ℕ) → (shape_at nodes n.0).words ≤ k → rows_of nodes x n k ≡ 0
rows_end nodes x n k le = cond-false (nat_lt k (shape_at nodes n.0).words) (x ((shape_at nodes n.0).first_word + k)) 0 (le-ltb k (shape_at nodes n.0).words le)

-- the whole target is raised
pub raised_all : (nodes : List NodeShape) (most : ℕ) (side : Side) (q : Inequality NodeId) (p : Plan) (at : NodeShape) (k : ℕ) (old now : List ℕ) (changed : Bool) → Opened nodes most side q p at old → at.words ≤ k → k ≤ at.words
    → RaisedTo nodes most side q p at k old now changed → Raises nodes (tables_of nodes most side) q old now changed
raised_all nodes most side q p at k old now changed o le ge r = record {
  same = r.same;
  grown = r.grown;
  meets = λ held. record { each = λ j. row j (cases_lt j (shape_at nodes q.target.0).words) };
  below = r.below;
  others = λ i out. go i out;
  still = r.still;
  more = r.more;
}
  where
    first : at.first_word ≡ (shape_at nodes q.target.0).first_word
    first = ap (λ (s : NodeShape). s.first_word) o.at_is

    words : at.words ≡ (shape_at nodes q.target.0).words
    words = ap (λ (s : NodeShape). s.words) o.at_is

    inside : (j : ℕ) → j < (shape_at nodes q.target.0).words → j < k
    inside j lt = omega (arith, words)

    row : (j : ℕ) → ((j < (shape_at nodes q.target.0).words) ⊎ ((shape_at nodes q.target.0).words ≤ j)) → IsIn (given (tables_of nodes most side) q.value (rows_of nodes (words_of old)) q.target j) (rows_of nodes (words_of now) q.target j)
    row j (inl lt) = subst (λ (v : ℕ). IsIn (given (tables_of nodes most side) q.value (rows_of nodes (words_of old)) q.target j) v)
        (sym (cond-true (nat_lt j (shape_at nodes q.target.0).words) (slice_index now ((shape_at nodes q.target.0).first_word + j)) 0 (lt-ltb j (shape_at nodes q.target.0).words lt)))
        (subst (λ (s : NodeShape). IsIn (given (tables_of nodes most side) q.value (rows_of nodes (words_of old)) q.target j) (slice_index now (s.first_word + j))) o.at_is
        (in_through (given (tables_of nodes most side) q.value (rows_of nodes (words_of old)) q.target j) (planned nodes side p (words_of old) j) (slice_index now (at.first_word + j)) (o.low.each j) (r.joined j (inside j lt))))
    row j (inr past) = subst (λ (v : ℕ). IsIn v (rows_of nodes (words_of now) q.target j))
        (sym (given_ends (tables_of nodes most side) o.shaped (rows_of nodes (words_of old)) (rows_end nodes (words_of old)) q.value q.target o.fits.value j past)) refl

    go : (i : ℕ) → ((i < (shape_at nodes q.target.0).first_word) ⊎ ((shape_at nodes q.target.0).first_word + (shape_at nodes q.target.0).words ≤ i)) → slice_index now i ≡ slice_index old i
    go i (inl lt) = r.others i (omega (arith, first))
    go i (inr out) = r.later i (omega (arith, first, words))

-- a guard that doesn't hold
pub raised_not : (nodes : List NodeShape) (most : ℕ) (side : Side) (q : Inequality NodeId) (old : List ℕ) → guard_holds (tables_of nodes most side) q.guard (rows_of nodes (words_of old)) ≡ false → Raises nodes (tables_of nodes most side) q old old false
raised_not nodes most side q old closed = record {
  same = refl;
  grown = within_itself (words_of old);
  meets = λ held. absurd (true≢false (sym held ∙ closed));
  below = λ y up met. up;
  others = λ i out. refl;
  still = λ e. refl;
  more = λ e. absurd (true≢false (sym e));
}
