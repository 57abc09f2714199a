-- What a raise does to the inequalities of a system: those that don't read the target stay met, and so does the one that
-- is raised.
use Rattle.std.proofs.Common.{◌≡◌, ℕ, zero, suc, ◌+◌, ◌-◌, ◌*◌, ◌^◌, ◌<◌, ◌≤◌, Bool, true, false, ◌||◌, if◌then◌else◌, ◌⊎◌, inl, inr, List, [], ◌∷◌, length, slice_index, slice_index_or, nat_lt, Contains, refl, sym, ap, ◌∙◌, subst, subst₂, arith, eq-eqb, ltb-true}
use Rattle.std.proofs.lemmas.Bool.{cases_eq, cases_lt, cases_order, true≢false, or_left, or_right}
use Rattle.std.proofs.lemmas.List.{get_or_past}
use Rattle.wf_base.specs.declared.ids.NodeId.{NodeId}
use lib.Count.{ones-le}
use Rattle.wf_lattice.specs.Words.{IsIn, IsWithin, words_of, counted}
use Rattle.wf_lattice.proofs.BitLaws.{in_itself}
use Rattle.wf_lattice.proofs.RowLaws.{within_itself, within_through}
use Rattle.wf_lattice.proofs.OrderLaws.{receives_through}
use Rattle.wf_system.specs.declared.node_shape.NodeShape.{NodeShape}
use Rattle.wf_system.specs.declared.side.Side.{Side}
use Rattle.wf_system.specs.declared.inequality.Inequality.{Inequality}
use Rattle.wf_system.specs.Shapes.{no_node, shape_at, all_words, IsLaidOut}
use Rattle.wf_system.specs.System.{Tables, AtLeast, IsMet, guard_holds, given}
use Rattle.wf_system.specs.declared.inequality.Guard.{Guard}
use Rattle.wf_system.specs.declared.inequality.Guard.TheVariants.{Always, NonEmpty, HasType, HasUnder, Linked}
use Rattle.wf_system.specs.Fits.{GuardIsThere, AreShaped, Fits}
use Rattle.wf_system.specs.Bodies.{System, IsSolved, tables, tables_of, rows_at, is_node, guard_reads, value_reads, reads, AreReaders, SystemFits}
use Rattle.wf_system.proofs.ShapeLaws.{nodes_apart, node_within}
use Rattle.wf_system.proofs.GrowLaws.{guard_rises, value_rises}
use Rattle.wf_eval.specs.Raising.{Raises}
use Rattle.wf_solve.specs.Work.{Work, is_listed, how_many, Adds, Takes, IsDone, HasAll}
use Rattle.wf_solve.proofs.WorkLaws.{one_more, one_less, all_at_most}
use Rattle.wf_solve.specs.Solving.{HasSource, IsCovered, IsCoveredBut, IsBetween, StaysBetween, Visiting, bits_set, IsPaid, IsRunning}

-- the words of another node lie outside those of a node
outside : (nodes : List NodeShape) (n to j : ℕ) → IsLaidOut nodes → to < length nodes → (n ≡ to → ⊥) → j < (shape_at nodes n).words
    → ((shape_at nodes n).first_word + j < (shape_at nodes to).first_word) ⊎ ((shape_at nodes to).first_word + (shape_at nodes to).words ≤ (shape_at nodes n).first_word + j)
outside nodes n to j laid there other lt = go (cases_lt n (length nodes))
  where
    go : ((n < length nodes) ⊎ (length nodes ≤ n)) → ((shape_at nodes n).first_word + j < (shape_at nodes to).first_word) ⊎ ((shape_at nodes to).first_word + (shape_at nodes to).words ≤ (shape_at nodes n).first_word + j)
    go (inl here) = turn (cases_order n to)
      where
        turn : ((n ≡ to) ⊎ ((n < to) ⊎ (to < n))) → ((shape_at nodes n).first_word + j < (shape_at nodes to).first_word) ⊎ ((shape_at nodes to).first_word + (shape_at nodes to).words ≤ (shape_at nodes n).first_word + j)
        turn (inl same) = absurd (other same)
        turn (inr (inl less)) = inl (omega (arith, nodes_apart nodes n to laid less there))
        turn (inr (inr more)) = inr (omega (arith, nodes_apart nodes to n laid more here))
    go (inr past) = inr (omega (arith, ap (λ (s : NodeShape). s.first_word) (get_or_past nodes n no_node past), node_within nodes to laid there, laid.few))

if_same : (b : Bool) (v w : ℕ) → (b ≡ true → v ≡ w) → (if b then v else 0) ≡ (if b then w else 0)
if_same true v w h = h refl
if_same false v w h = refl

same_node : (a b : NodeId) → a.0 ≡ b.0 → a ≡ b
same_node a b e = λ i. record { 0 = e i }

module _ (s : System) (fits : SystemFits s) (laid : IsLaidOut s.nodes) (q : Inequality NodeId) (here : Contains s.rows q) (old new : List ℕ) (changed : Bool) (r : Raises s.nodes (tables s) q old new changed) where
  target_there : q.target.0 < length s.nodes
  target_there = ltb-true q.target.0 (length s.nodes) (fits.each q here).target_there

  -- another node's row stays as it was
  row_stays : (n : NodeId) → (n.0 ≡ q.target.0 → ⊥) → IsWithin (rows_at s.nodes new n) (rows_at s.nodes old n)
  row_stays n other = record {
    each = λ j. subst (λ (v : ℕ). IsIn v (rows_at s.nodes old n j))
        (sym (if_same (nat_lt j (shape_at s.nodes n.0).words) (slice_index new ((shape_at s.nodes n.0).first_word + j)) (slice_index old ((shape_at s.nodes n.0).first_word + j))
        (λ e. r.others ((shape_at s.nodes n.0).first_word + j) (outside s.nodes n.0 q.target.0 j laid target_there other (ltb-true j (shape_at s.nodes n.0).words e)))))
        (in_itself (rows_at s.nodes old n j));
  }

  row_grows : (n : NodeId) → IsWithin (rows_at s.nodes old n) (rows_at s.nodes new n)
  row_grows n = record { each = λ j. go (nat_lt j (shape_at s.nodes n.0).words) ((shape_at s.nodes n.0).first_word + j) }
    where
      go : (b : Bool) (i : ℕ) → IsIn (if b then slice_index old i else 0) (if b then slice_index new i else 0)
      go true i = r.grown.each i
      go false i = refl

  -- what an inequality that doesn't read the target reads is no target
  unread : (p : Inequality NodeId) → reads is_node (tables s) p q.target ≡ false → (n : NodeId) → reads is_node (tables s) p n ≡ true → n.0 ≡ q.target.0 → ⊥
  unread p none n read same = true≢false (sym (subst (λ (m : NodeId). reads is_node (tables s) p m ≡ true) (same_node n q.target same) read) ∙ none)

  -- its guard and value fall back to those of before
  guard_falls : (p : Inequality NodeId) → Contains s.rows p → reads is_node (tables s) p q.target ≡ false → guard_holds (tables s) p.guard (rows_at s.nodes new) ≡ true → guard_holds (tables s) p.guard (rows_at s.nodes old) ≡ true
  guard_falls p there none held = guard_rises (tables s) fits.shaped (rows_at s.nodes new) (rows_at s.nodes old) (λ (n : NodeId). n.0 ≡ q.target.0 → ⊥) (λ n other. inr (row_stays n other)) is_node (λ n. eq-eqb n.0 n.0 refl)
      p.guard (fits.each p there).guard
      (λ n read. unread p none n (or_left (guard_reads is_node (tables s) p.guard n) (value_reads is_node (tables s) p.value ((tables s).kind p.target) n) read)) held

  value_falls : (p : Inequality NodeId) → Contains s.rows p → reads is_node (tables s) p q.target ≡ false
      → AtLeast (tables s) p.target (given (tables s) p.value (rows_at s.nodes new) p.target) (given (tables s) p.value (rows_at s.nodes old) p.target)
  value_falls p there none = value_rises (tables s) fits.shaped (rows_at s.nodes new) (rows_at s.nodes old) (λ (n : NodeId). n.0 ≡ q.target.0 → ⊥) (λ n other. inr (row_stays n other)) is_node (λ n. eq-eqb n.0 n.0 refl)
      p.value p.target (fits.each p there).value
      (λ n read. unread p none n (or_right (guard_reads is_node (tables s) p.guard n) (value_reads is_node (tables s) p.value ((tables s).kind p.target) n) read))

  -- an inequality that was met and doesn't read the target stays met
  pub stays_met : (p : Inequality NodeId) → Contains s.rows p → reads is_node (tables s) p q.target ≡ false → IsMet (tables s) p (rows_at s.nodes old) → IsMet (tables s) p (rows_at s.nodes new)
  stays_met p there none met held = receives_through (tables s).most ((tables s).words p.target) ((tables s).kind p.target)
      (given (tables s) p.value (rows_at s.nodes new) p.target) (rows_at s.nodes old p.target) (rows_at s.nodes new p.target)
      (receives_through (tables s).most ((tables s).words p.target) ((tables s).kind p.target)
      (given (tables s) p.value (rows_at s.nodes new) p.target) (given (tables s) p.value (rows_at s.nodes old) p.target) (rows_at s.nodes old p.target)
      (value_falls p there none) (met (guard_falls p there none held)))
      (inr (row_grows p.target))

  -- the inequality that is raised is met, where it doesn't read its target
  pub becomes_met : reads is_node (tables s) q q.target ≡ false → IsMet (tables s) q (rows_at s.nodes new)
  becomes_met none held = receives_through (tables s).most ((tables s).words q.target) ((tables s).kind q.target)
      (given (tables s) q.value (rows_at s.nodes new) q.target) (given (tables s) q.value (rows_at s.nodes old) q.target) (rows_at s.nodes new q.target)
      (value_falls q here none) (inr (r.meets (guard_falls q here none held)))

  -- or where nothing rose
  pub still_met : changed ≡ false → IsMet (tables s) q (rows_at s.nodes new)
  still_met e held = inr (subst (λ (w : List ℕ). IsWithin (given (tables s) q.value (rows_at s.nodes w) q.target) (rows_at s.nodes new q.target)) (sym (r.still e))
      (r.meets (subst (λ (w : List ℕ). guard_holds (tables s) q.guard (rows_at s.nodes w) ≡ true) (r.still e) held)))

  -- the words stay between those at entry and what solves above them
  pub stays_between : (start : List ℕ) → IsBetween s start old → IsBetween s start new
  stays_between start b = record {
    same = r.same ∙ b.same;
    grown = within_through (words_of start) (words_of old) (words_of new) b.grown r.grown;
    below = λ y solves. r.below y (b.below y solves) (solves.meets q here);
  }

-- where the list is done, the words stand for the least solution above those at entry
pub solved : (s : System) (start now : List ℕ) (work : Work) → IsBetween s start now → IsCovered s now work → IsDone work → IsSolved s start now
solved s start now work between covered done = record {
  solves = record {
    above = λ n. inr (record { each = λ j. go (nat_lt j (shape_at s.nodes n.0).words) ((shape_at s.nodes n.0).first_word + j) });
    meets = λ q there. met q (covered.each q there);
  };
  least = between.below;
}
  where
    go : (b : Bool) (i : ℕ) → IsIn (if b then slice_index start i else 0) (if b then slice_index now i else 0)
    go true i = between.grown.each i
    go false i = refl

    met : (q : Inequality NodeId) → IsMet (tables s) q (rows_at s.nodes now) ⊎ HasSource s q work → IsMet (tables s) q (rows_at s.nodes now)
    met q (inl m) = m
    met q (inr h) = absurd (true≢false (sym h.listed ∙ done.each h.node.0))

-- ---- the inequalities that read a node, one after the other

pub visiting_first : (s : System) (node : NodeId) (rows : List (Inequality NodeId)) (words : List ℕ) (work : Work) → AreReaders s node rows → IsCoveredBut s node words work → Visiting s rows words words work
visiting_first s node rows words work readers covered = record {
  each = λ p there. go p there (covered.each p there);
  only = λ p there. (readers.only p there).0;
  stays = record { from = λ start b. b };
  same = refl;
}
  where
    go : (p : Inequality NodeId) → Contains s.rows p → (IsMet (tables s) p (rows_at s.nodes words) ⊎ (HasSource s p work ⊎ (reads is_node (tables s) p node ≡ true))) → IsMet (tables s) p (rows_at s.nodes words) ⊎ (HasSource s p work ⊎ Contains rows p)
    go p there (inl m) = inl m
    go p there (inr (inl h)) = inr (inl h)
    go p there (inr (inr r)) = inr (inr (readers.all p there r))

bool_cases : (b : Bool) → (b ≡ true) ⊎ (b ≡ false)
bool_cases true = inl refl
bool_cases false = inr refl

-- the next one is raised, and its target is on the list where it rose
pub visiting_next : (s : System) (q : Inequality NodeId) (rest : List (Inequality NodeId)) (old now new : List ℕ) (work more : Work) (changed : Bool) → SystemFits s → IsLaidOut s.nodes
    → Raises s.nodes (tables s) q now new changed → (changed ≡ true → is_listed more q.target.0 ≡ true) → ((m : ℕ) → is_listed work m ≡ true → is_listed more m ≡ true)
    → Visiting s (q ∷ rest) old now work → Visiting s rest old new more
visiting_next s q rest old now new work more changed fits laid r listed keeps v = record {
  each = λ p there. go p there (v.each p there) (bool_cases (reads is_node (tables s) p q.target)) (bool_cases changed);
  only = λ p there. v.only p (later p there);
  stays = record { from = λ start b. stays_between s fits laid q here now new changed r start (v.stays.from start b) };
  same = r.same ∙ v.same;
}
  where
    here : Contains s.rows q
    here = v.only q (0, omega arith, refl)

    later : (p : Inequality NodeId) → Contains rest p → Contains (q ∷ rest) p
    later p there = (suc there.0, omega (arith, there.1), there.2)

    kept : (p : Inequality NodeId) → HasSource s p work → HasSource s p more
    kept p h = record { node = h.node; read = h.read; listed = keeps h.node.0 h.listed }

    go : (p : Inequality NodeId) → Contains s.rows p → (IsMet (tables s) p (rows_at s.nodes now) ⊎ (HasSource s p work ⊎ Contains (q ∷ rest) p)) → ((reads is_node (tables s) p q.target ≡ true) ⊎ (reads is_node (tables s) p q.target ≡ false)) → ((changed ≡ true) ⊎ (changed ≡ false))
        → IsMet (tables s) p (rows_at s.nodes new) ⊎ (HasSource s p more ⊎ Contains rest p)
    go p there (inr (inl h)) reading rose = inr (inl (kept p h))
    go p there (inl m) (inr none) rose = inl (stays_met s fits laid q here now new changed r p there none m)
    go p there (inl m) (inl read) (inl rose) = inr (inl (record { node = q.target; read = read; listed = listed rose }))
    go p there (inl m) (inl read) (inr still) = inl (subst (λ (w : List ℕ). IsMet (tables s) p (rows_at s.nodes w)) (sym (r.still still)) m)
    go p there (inr (inr h)) reading rose = at h.0 h.1 h.2
      where
        at : (k : ℕ) → k < length (q ∷ rest) → slice_index_or (q ∷ rest) k p ≡ p → IsMet (tables s) p (rows_at s.nodes new) ⊎ (HasSource s p more ⊎ Contains rest p)
        at (suc k) lt e = inr (inr (k, omega arith, e))
        at zero lt e = subst (λ (x : Inequality NodeId). IsMet (tables s) x (rows_at s.nodes new) ⊎ (HasSource s x more ⊎ Contains rest x)) e
            (itself (bool_cases (reads is_node (tables s) q q.target)) rose)
          where
            itself : ((reads is_node (tables s) q q.target ≡ true) ⊎ (reads is_node (tables s) q q.target ≡ false)) → ((changed ≡ true) ⊎ (changed ≡ false)) → IsMet (tables s) q (rows_at s.nodes new) ⊎ (HasSource s q more ⊎ Contains rest q)
            itself (inr none) up = inl (becomes_met s fits laid q here now new changed r none)
            itself (inl read) (inl up) = inr (inl (record { node = q.target; read = read; listed = listed up }))
            itself (inl read) (inr still) = inl (still_met s fits laid q here now new changed r still)

-- when all were raised, the system is covered
pub visiting_done : (s : System) (old now : List ℕ) (work : Work) → Visiting s [] old now work → IsCovered s now work
visiting_done s old now work v = record { each = λ p there. go p (v.each p there) }
  where
    go : (p : Inequality NodeId) → (IsMet (tables s) p (rows_at s.nodes now) ⊎ (HasSource s p work ⊎ Contains [] p)) → IsMet (tables s) p (rows_at s.nodes now) ⊎ HasSource s p work
    go p (inl m) = inl m
    go p (inr (inl h)) = inr h
    go p (inr (inr none)) = absurd (omega (arith, none.1))

-- a node that is taken off the list is still read by what has no other source
pub covered_but : (s : System) (node : NodeId) (words : List ℕ) (old new : Work) → IsCovered s words old → ((m : ℕ) → is_listed old m ≡ true → (m ≡ node.0 → ⊥) → is_listed new m ≡ true) → IsCoveredBut s node words new
covered_but s node words old new covered keeps = record { each = λ q there. go q (covered.each q there) }
  where
    go : (q : Inequality NodeId) → IsMet (tables s) q (rows_at s.nodes words) ⊎ HasSource s q old → IsMet (tables s) q (rows_at s.nodes words) ⊎ (HasSource s q new ⊎ (reads is_node (tables s) q node ≡ true))
    go q (inl m) = inl m
    go q (inr h) = at (cases_eq h.node.0 node.0)
      where
        at : ((h.node.0 ≡ node.0) ⊎ (h.node.0 ≡ node.0 → ⊥)) → IsMet (tables s) q (rows_at s.nodes words) ⊎ (HasSource s q new ⊎ (reads is_node (tables s) q node ≡ true))
        at (inl same) = inr (inr (subst (λ (m : NodeId). reads is_node (tables s) q m ≡ true) (same_node h.node node same) h.read))
        at (inr other) = inr (inl (record { node = h.node; read = h.read; listed = keeps h.node.0 h.listed other }))

-- a node that is put back covers what reads it
pub covered_again : (s : System) (node : NodeId) (words : List ℕ) (old new : Work) → IsCoveredBut s node words old → is_listed new node.0 ≡ true → ((m : ℕ) → is_listed old m ≡ true → is_listed new m ≡ true) → IsCovered s words new
covered_again s node words old new covered there keeps = record { each = λ q here. go q (covered.each q here) }
  where
    go : (q : Inequality NodeId) → (IsMet (tables s) q (rows_at s.nodes words) ⊎ (HasSource s q old ⊎ (reads is_node (tables s) q node ≡ true))) → IsMet (tables s) q (rows_at s.nodes words) ⊎ HasSource s q new
    go q (inl m) = inl m
    go q (inr (inl h)) = inr (record { node = h.node; read = h.read; listed = keeps h.node.0 h.listed })
    go q (inr (inr read)) = inr (record { node = node; read = read; listed = there })

tables_same : (n m : List NodeShape) (a b : ℕ) (c d : Side) → n ≡ m → a ≡ b → c ≡ d → tables_of n a c ≡ tables_of m b d
tables_same n m a b c d e f g = λ i. tables_of (e i) (f i) (g i)

-- the same for what a look-up has of a system
pub shaped_as : (s : System) (n : List NodeShape) (a : ℕ) (c : Side) → n ≡ s.nodes → a ≡ s.most → c ≡ s.side → AreShaped (tables s) → AreShaped (tables_of n a c)
shaped_as s n a c e f g h = subst (λ (t : Tables NodeId). AreShaped t) (sym (tables_same n s.nodes a s.most c s.side e f g)) h

pub fits_as : (s : System) (n : List NodeShape) (a : ℕ) (c : Side) (q : Inequality NodeId) → n ≡ s.nodes → a ≡ s.most → c ≡ s.side → Fits (tables s) q → Fits (tables_of n a c) q
fits_as s n a c q e f g h = subst (λ (t : Tables NodeId). Fits t q) (sym (tables_same n s.nodes a s.most c s.side e f g)) h

pub raises_as : (s : System) (n : List NodeShape) (a : ℕ) (c : Side) (q : Inequality NodeId) (old new : List ℕ) (changed : Bool) → n ≡ s.nodes → a ≡ s.most → c ≡ s.side → Raises n (tables_of n a c) q old new changed → Raises s.nodes (tables s) q old new changed
raises_as s n a c q old new changed e f g r = subst₂ (λ (m : List NodeShape) (t : Tables NodeId). Raises m t q old new changed) e (tables_same n s.nodes a s.most c s.side e f g) r

pub keeps_added : (n m : ℕ) (old new : Work) → Adds n old new → is_listed old m ≡ true → is_listed new m ≡ true
keeps_added n m old new a h = go (cases_eq m n)
  where
    go : ((m ≡ n) ⊎ (m ≡ n → ⊥)) → is_listed new m ≡ true
    go (inl same) = ap (is_listed new) same ∙ a.there
    go (inr other) = a.others m other ∙ h

pub between_itself : (s : System) (words : List ℕ) → IsBetween s words words
between_itself s words = record { same = refl; grown = within_itself (words_of words); below = λ y solves. solves.above }

-- ---- a list of all nodes

-- a node of the system that an inequality reads
record Source (s : System) (q : Inequality NodeId) : Type 0 where
  node : NodeId
  there : node.0 < length s.nodes
  read : guard_reads is_node (tables s) q.guard node ≡ true

source_at : (s : System) (g : Guard NodeId) → (g ≡ Always → ⊥) → GuardIsThere (tables s) g → (n : NodeId) × (n.0 < length s.nodes) × (guard_reads is_node (tables s) g n ≡ true)
source_at s Always apart there = absurd (apart refl)
source_at s (NonEmpty n) apart there = (n, ltb-true n.0 (length s.nodes) there, eq-eqb n.0 n.0 refl)
source_at s (HasType c) apart there = (s.side.inst, ltb-true s.side.inst.0 (length s.nodes) there, eq-eqb s.side.inst.0 s.side.inst.0 refl)
source_at s (HasUnder u) apart there = (s.side.inst, ltb-true s.side.inst.0 (length s.nodes) there.0, eq-eqb s.side.inst.0 s.side.inst.0 refl)
source_at s (Linked n j) apart there = (n, ltb-true n.0 (length s.nodes) there, eq-eqb n.0 n.0 refl)

source_of : (s : System) (q : Inequality NodeId) → (q.guard ≡ Always → ⊥) → GuardIsThere (tables s) q.guard → Source s q
source_of s q apart there = let found : (n : NodeId) × (n.0 < length s.nodes) × (guard_reads is_node (tables s) q.guard n ≡ true) = source_at s q.guard apart there in record { node = found.0; there = found.1; read = found.2 }

pub covered_by_all : (s : System) (words : List ℕ) (work : Work) → SystemFits s → HasAll work → work.nodes ≡ length s.nodes → IsCovered s words work
covered_by_all s words work fits all many = record {
  each = λ q there.
      let source : Source s q = source_of s q (fits.seeds_apart q there) (fits.each q there).guard_there in
      inr (record {
        node = source.node;
        read = or_left_true (guard_reads is_node (tables s) q.guard source.node) (value_reads is_node (tables s) q.value ((tables s).kind q.target) source.node) source.read;
        listed = all.each source.node.0 (omega (arith, source.there, many));
      });
}
  where
    or_left_true : (a b : Bool) → a ≡ true → (a || b) ≡ true
    or_left_true a b e = ap (λ (x : Bool). x || b) e

-- ---- what steps are paid by

pub paid_none : (words : List ℕ) (work : Work) → IsPaid words words work work
paid_none words work = record { paid = λ n. omega arith }

pub paid_both : (a b c : List ℕ) (x y z : Work) → IsPaid a b x y → IsPaid b c y z → IsPaid a c x z
paid_both a b c x y z p q = record { paid = λ n. omega (arith, p.paid n, q.paid n) }

pub paid_still : (old new : List ℕ) (work : Work) → new ≡ old → IsPaid old new work work
paid_still old new work e = subst (λ (w : List ℕ). IsPaid old w work work) (sym e) (paid_none old work)

pub paid_added : (old new : List ℕ) (node : ℕ) (was now : Work) → length new ≡ length old → counted (length old) (words_of old) < counted (length old) (words_of new) → Adds node was now → IsPaid old new was now
paid_added old new node was now same more a = record {
  paid = λ n. omega (arith, more, ap (λ (k : ℕ). counted k (words_of new)) same, one_more n node (is_listed was) (is_listed now) a.others);
}

-- words have at most 64 bits each
counted_at_most : (n : ℕ) (f : ℕ → ℕ) → ((i : ℕ) → f i < 2 ^ 64) → counted n f ≤ 64 * n
counted_at_most zero f few = omega arith
counted_at_most (suc n) f few = omega (arith, counted_at_most n f few, ones-le 64 (f n) (few n))

pub bits_at_most : (words : List ℕ) → ((i : ℕ) → slice_index words i < 2 ^ 64) → bits_set words ≤ 64 * length words
bits_at_most words few = counted_at_most (length words) (words_of words) few

-- ---- the run

pub running_first : (s : System) (start : List ℕ) (work : Work) (before : ℕ) → IsCovered s start work → work.nodes ≡ length s.nodes → ((i : ℕ) → slice_index start i < 2 ^ 64) → IsRunning s start start work work before before
running_first s start work before covered nodes few = record {
  between = record { same = refl; grown = within_itself (words_of start); below = λ y solves. solves.above };
  covered = covered;
  nodes = nodes;
  few = bits_at_most start few;
  spent = omega arith;
}

pub running_next : (s : System) (start now new : List ℕ) (first work taken more : Work) (node before steps after : ℕ) → IsRunning s start now first work before steps → Takes node work taken
    → IsCovered s new more → StaysBetween s now new → more.nodes ≡ taken.nodes → IsPaid now new taken more → after ≡ steps + 1 → ((i : ℕ) → slice_index new i < 2 ^ 64) → IsRunning s start new first more before after
running_next s start now new first work taken more node before steps after r t covered stays nodes p one few = record {
  between = stays.from start r.between;
  covered = covered;
  nodes = nodes ∙ t.same ∙ r.nodes;
  few = bits_at_most new few;
  spent = omega (
    arith,
    r.spent,
    one,
    p.paid (length s.nodes),
    one_less (length s.nodes) node (is_listed work) (is_listed taken) (omega (arith, t.below, r.nodes)) t.there t.gone t.others,
  );
}

-- the steps are at most the bits and the nodes
pub steps_at_most : (s : System) (start now : List ℕ) (first work : Work) (before steps : ℕ) → IsRunning s start now first work before steps → length start ≡ all_words s.nodes
    → steps ≤ before + 64 * all_words s.nodes + length s.nodes
steps_at_most s start now first work before steps r all = omega (
  arith,
  r.spent,
  all_at_most (length s.nodes) (is_listed first),
  r.few,
  r.between.same,
  all,
)

-- what a run has still to spend, which each step makes less
abbrev pub left : System → List ℕ → Work → ℕ
left s words work = 64 * length words + how_many (length s.nodes) (is_listed work) - bits_set words

pub left_falls : (s : System) (now new : List ℕ) (work taken more : Work) (node : ℕ) → work.nodes ≡ length s.nodes → Takes node work taken → IsPaid now new taken more → length new ≡ length now → ((i : ℕ) → slice_index new i < 2 ^ 64)
    → left s new more < left s now work
left_falls s now new work taken more node nodes t p same few = omega (
  arith,
  p.paid (length s.nodes),
  bits_at_most new few,
  same,
  one_less (length s.nodes) node (is_listed work) (is_listed taken) (omega (arith, t.below, nodes)) t.there t.gone t.others,
)
