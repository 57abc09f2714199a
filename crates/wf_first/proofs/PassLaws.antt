-- A pass never lowers a value nor raises one above a solution, and raises none only at a solution.
use Rattle.std.proofs.Common.{◌≡◌, ◌≢◌, ℕ, zero, suc, ◌+◌, ◌*◌, ◌<◌, ◌≤◌, Bool, true, false, not, cond, ◌&&◌, ◌||◌, List, [], ◌∷◌, length, slice_index_or, refl, sym, ap, subst, ◌∙◌, arith, inl, inr}
use Rattle.std.specs.Prelude.{◌↔◌, Contains, IsTrue, slice_set, sum_by}
use Rattle.std.specs.Ordering.{int_eq}
use Rattle.std.proofs.lemmas.Bool.{cases_eq}
use Rattle.std.proofs.lemmas.Bool.Decides.{Decides-int_eq}
use Rattle.std.proofs.lemmas.List.{length-set, get_or-set_same, get_or-set_other}
use Rattle.std.proofs.lemmas.List.Sums.{sum_by-set, sum_by-le}
use Rattle.wf_sys.specs.declared.flow.Flow.{Flow}
use Rattle.wf_sys.specs.declared.flow.Flow.TheVariants.{Empty, Set, Is, Any}
use Rattle.wf_sys.specs.declared.inequality.Guard.{Guard}
use Rattle.wf_sys.specs.declared.inequality.Guard.TheVariants.{Always, NonEmpty}
use Rattle.wf_sys.specs.declared.inequality.ValueOp.{ValueOp}
use Rattle.wf_sys.specs.declared.inequality.Inequality.{Inequality}
use Rattle.wf_sys.specs.Values.{◌⊑◌, is_below, join, is_empty, IsNonEmpty}
use Rattle.wf_sys.specs.System.{GuardHolds, value_in, IsMet, IsBelow, Solves, Least}
use Rattle.wf_sys.specs.Assignments.{value_at, IsSeedOf, TargetsFit}
use Rattle.wf_first.specs.Passes.{guard_holds, is_met, raised, passed, is_quiet}

-- ---- what is known of values and systems

-- Values are ordered, their tests decide, the join is their least upper bound, and systems are monotone.
pub record Laws : Type 0 where
  pub reflexive : (a : Flow) → a ⊑ a
  pub transitive : (a b c : Flow) → a ⊑ b → b ⊑ c → a ⊑ c
  pub tests : (a b : Flow) → IsTrue (is_below a b) ↔ (a ⊑ b)
  pub empty : (a : Flow) → (is_empty a ≡ false) ↔ IsNonEmpty a
  pub left : (a b : Flow) → a ⊑ join a b
  pub least : (a b c : Flow) → a ⊑ c → b ⊑ c → join a b ⊑ c
  pub guards : (guard : Guard ℕ) (x y : ℕ → Flow) → IsBelow x y → GuardHolds guard x → GuardHolds guard y
  pub values : (value : ValueOp ℕ) (x y : ℕ → Flow) → IsBelow x y → value_in value x ⊑ value_in value y

-- where it fails the guard holds, and the value is not below the target's
record Open (q : Inequality ℕ) (xs : List Flow) : Type 0 where
  guard : GuardHolds q.guard (value_at xs)
  above : value_in q.value (value_at xs) ⊑ value_at xs q.target → ⊥

-- ---- heights

abbrev pub rank : Flow → ℕ
rank Empty = 0
rank Set = 1
rank (Is c) = 1
rank Any = 2

abbrev pub height : List Flow → ℕ
height xs = sum_by rank xs

rank_small : (a : Flow) → rank a ≤ 2
rank_small Empty = omega arith
rank_small Set = omega arith
rank_small (Is c) = omega arith
rank_small Any = omega arith

pub height_small : (xs : List Flow) → height xs ≤ 2 * length xs
height_small xs = omega (arith, sum_by-le rank 2 xs (λ k d lt. rank_small (slice_index_or xs k d)))

-- the values are above the seeds, and below every solution above the seeds
pub record Between (system : List (Inequality ℕ)) (seeds xs : List Flow) : Type 0 where
  pub above : IsBelow (value_at seeds) (value_at xs)
  pub below : (y : ℕ → Flow) → Solves (Contains system) (IsSeedOf seeds) y → IsBelow (value_at xs) y

module _ (laws : Laws) where
  -- ---- one inequality

  guard_tested : (guard : Guard ℕ) (xs : List Flow) → guard_holds guard xs ≡ true → GuardHolds guard (value_at xs)
  guard_tested Always xs e = tt
  guard_tested (NonEmpty n) xs e = go (is_empty (value_at xs n)) refl e
    where
      go : (b : Bool) → is_empty (value_at xs n) ≡ b → not b ≡ true → IsNonEmpty (value_at xs n)
      go true is e = absurd cc
      go false is e = (laws.empty (value_at xs n)).0 is

  tested_guard : (guard : Guard ℕ) (xs : List Flow) → GuardHolds guard (value_at xs) → guard_holds guard xs ≡ true
  tested_guard Always xs h = refl
  tested_guard (NonEmpty n) xs h = ap not ((laws.empty (value_at xs n)).1 h)

  -- what the test says
  met_tested : (q : Inequality ℕ) (xs : List Flow) → is_met q xs ≡ true → IsMet q (value_at xs)
  met_tested q xs e h = (laws.tests (value_in q.value (value_at xs)) (value_at xs q.target)).0 (go (guard_holds q.guard xs) (is_below (value_in q.value (value_at xs)) (value_at xs q.target)) (tested_guard q.guard xs h) e)
    where
      go : (a b : Bool) → a ≡ true → (not a || b) ≡ true → b ≡ true
      go true b a e = e
      go false b a e = absurd cc

  open_tested : (q : Inequality ℕ) (xs : List Flow) → is_met q xs ≡ false → Open q xs
  open_tested q xs e = go (guard_holds q.guard xs) refl (is_below (value_in q.value (value_at xs)) (value_at xs q.target)) refl e
    where
      go : (a : Bool) → guard_holds q.guard xs ≡ a → (b : Bool) → is_below (value_in q.value (value_at xs)) (value_at xs q.target) ≡ b → (not a || b) ≡ false → Open q xs
      go true is true below e = absurd cc
      go true is false below e = record {
        guard = guard_tested q.guard xs is;
        above = λ p. let t : is_below (value_in q.value (value_at xs)) (value_at xs q.target) ≡ true = (laws.tests (value_in q.value (value_at xs)) (value_at xs q.target)).1 p in absurd cc;
      }
      go false is b below e = absurd cc

  -- ---- one node joined with a value

  abbrev joined : List Flow → ℕ → Flow → List Flow
  joined xs n v = slice_set xs n (join (value_at xs n) v)

  joined_here : (xs : List Flow) (n : ℕ) (v : Flow) → n < length xs → value_at (joined xs n v) n ≡ join (value_at xs n) v
  joined_here xs n v lt = get_or-set_same xs n (join (value_at xs n) v) Empty lt

  joined_there : (xs : List Flow) (n m : ℕ) (v : Flow) → m ≢ n → value_at (joined xs n v) m ≡ value_at xs m
  joined_there xs n m v ne = get_or-set_other xs n m (join (value_at xs n) v) Empty ne

  joined_grows : (xs : List Flow) (n : ℕ) (v : Flow) → n < length xs → IsBelow (value_at xs) (value_at (joined xs n v))
  joined_grows xs n v lt m = elim (cases_eq m n) [
    | inl same ↦ subst (λ (k : ℕ). value_at xs k ⊑ value_at (joined xs n v) k) (sym same) (subst (λ (w : Flow). value_at xs n ⊑ w) (sym (joined_here xs n v lt)) (laws.left (value_at xs n) v))
    | inr other ↦ subst (λ (w : Flow). value_at xs m ⊑ w) (sym (joined_there xs n m v other)) (laws.reflexive (value_at xs m))
  ]

  joined_below : (xs : List Flow) (n : ℕ) (v : Flow) (y : ℕ → Flow) → n < length xs → IsBelow (value_at xs) y → v ⊑ y n → IsBelow (value_at (joined xs n v)) y
  joined_below xs n v y lt below le m = elim (cases_eq m n) [
    | inl same ↦ subst (λ (k : ℕ). value_at (joined xs n v) k ⊑ y k) (sym same) (subst (λ (w : Flow). w ⊑ y n) (sym (joined_here xs n v lt)) (laws.least (value_at xs n) v (y n) (below n) le))
    | inr other ↦ subst (λ (w : Flow). w ⊑ y m) (sym (joined_there xs n m v other)) (below m)
  ]

  -- ---- heights

  -- the join with a value that is not below has a greater rank
  join_rank : (a b : Flow) → (b ⊑ a → ⊥) → rank a < rank (join a b)
  join_rank Empty Empty over = absurd (over tt)
  join_rank Empty Set over = omega arith
  join_rank Empty (Is d) over = omega arith
  join_rank Empty Any over = omega arith
  join_rank Set Empty over = absurd (over tt)
  join_rank Set Set over = absurd (over tt)
  join_rank Set (Is d) over = omega arith
  join_rank Set Any over = omega arith
  join_rank (Is c) Empty over = absurd (over tt)
  join_rank (Is c) Set over = omega arith
  join_rank (Is c) (Is d) over = go (int_eq c d) refl
    where
      go : (t : Bool) → int_eq c d ≡ t → 1 < rank (cond t (Is c) Any)
      go true e = absurd (over (sym ((Decides-int_eq c d).0 e)))
      go false e = omega arith
  join_rank (Is c) Any over = omega arith
  join_rank Any Empty over = absurd (over tt)
  join_rank Any Set over = absurd (over tt)
  join_rank Any (Is d) over = absurd (over tt)
  join_rank Any Any over = absurd (over tt)

  joined_higher : (xs : List Flow) (n : ℕ) (v : Flow) → n < length xs → (v ⊑ value_at xs n → ⊥) → height xs < height (joined xs n v)
  joined_higher xs n v lt over =
      let a : height (joined xs n v) + rank (value_at xs n) ≡ height xs + rank (join (value_at xs n) v) = sum_by-set rank xs n (join (value_at xs n) v) Empty lt in
      let b : rank (value_at xs n) < rank (join (value_at xs n) v) = join_rank (value_at xs n) v over in
      omega arith

  -- ---- one inequality carried out

  -- what carrying it out does, where it is not met
  abbrev lifted : Inequality ℕ → List Flow → List Flow
  lifted q xs = joined xs q.target (value_in q.value (value_at xs))

  raised_met : (q : Inequality ℕ) (xs : List Flow) → is_met q xs ≡ true → raised q xs ≡ xs
  raised_met q xs e = ap (λ (b : Bool). cond b xs (lifted q xs)) e

  raised_open : (q : Inequality ℕ) (xs : List Flow) → is_met q xs ≡ false → raised q xs ≡ lifted q xs
  raised_open q xs e = ap (λ (b : Bool). cond b xs (lifted q xs)) e

  raised_length : (q : Inequality ℕ) (xs : List Flow) → length (raised q xs) ≡ length xs
  raised_length q xs = go (is_met q xs)
    where
      go : (b : Bool) → length (cond b xs (lifted q xs)) ≡ length xs
      go true = refl
      go false = length-set xs q.target (join (value_at xs q.target) (value_in q.value (value_at xs)))

  raised_grows : (q : Inequality ℕ) (xs : List Flow) → q.target < length xs → IsBelow (value_at xs) (value_at (raised q xs))
  raised_grows q xs lt = go (is_met q xs)
    where
      go : (b : Bool) → IsBelow (value_at xs) (value_at (cond b xs (lifted q xs)))
      go true = λ n. laws.reflexive (value_at xs n)
      go false = joined_grows xs q.target (value_in q.value (value_at xs)) lt

  raised_below : (q : Inequality ℕ) (xs : List Flow) (y : ℕ → Flow) → q.target < length xs → IsMet q y → IsBelow (value_at xs) y → IsBelow (value_at (raised q xs)) y
  raised_below q xs y lt met below = go (is_met q xs) refl
    where
      go : (b : Bool) → is_met q xs ≡ b → IsBelow (value_at (cond b xs (lifted q xs))) y
      go true e = below
      go false e =
          let o = open_tested q xs e in
          joined_below xs q.target (value_in q.value (value_at xs)) y lt below
          (laws.transitive (value_in q.value (value_at xs)) (value_in q.value y) (y q.target) (laws.values q.value (value_at xs) y below) (met (laws.guards q.guard (value_at xs) y below o.guard)))

  raised_higher : (q : Inequality ℕ) (xs : List Flow) → q.target < length xs → is_met q xs ≡ false → height xs < height (raised q xs)
  raised_higher q xs lt e =
      let o = open_tested q xs e in
      subst (λ (ys : List Flow). height xs < height ys) (sym (raised_open q xs e)) (joined_higher xs q.target (value_in q.value (value_at xs)) lt o.above)

  -- it never lowers the height
  raised_high : (q : Inequality ℕ) (xs : List Flow) → q.target < length xs → height xs ≤ height (raised q xs)
  raised_high q xs lt = go (is_met q xs) refl
    where
      go : (b : Bool) → is_met q xs ≡ b → height xs ≤ height (raised q xs)
      go true e = subst (λ (ys : List Flow). height xs ≤ height ys) (sym (raised_met q xs e)) (omega arith)
      go false e = let h = raised_higher q xs lt e in omega arith

  -- ---- a pass

  first_fits : (n : ℕ) (q : Inequality ℕ) (rest : List (Inequality ℕ)) → TargetsFit n (q ∷ rest) → q.target < n
  first_fits n q rest fit = fit 0 q (omega arith)

  rest_fits : (q : Inequality ℕ) (rest : List (Inequality ℕ)) (xs : List Flow) → TargetsFit (length xs) (q ∷ rest) → TargetsFit (length (raised q xs)) rest
  rest_fits q rest xs fit = λ k d lt. subst (λ (n : ℕ). (slice_index_or rest k d).target < n) (sym (raised_length q xs)) (fit (suc k) d (omega arith))

  pub pass_grows : (system : List (Inequality ℕ)) (xs : List Flow) → TargetsFit (length xs) system → IsBelow (value_at xs) (value_at (passed system xs))
  pass_grows [] xs fit = λ n. laws.reflexive (value_at xs n)
  pass_grows (q ∷ rest) xs fit = λ n. laws.transitive (value_at xs n) (value_at (raised q xs) n) (value_at (passed rest (raised q xs)) n)
      (raised_grows q xs (first_fits (length xs) q rest fit) n) (pass_grows rest (raised q xs) (rest_fits q rest xs fit) n)

  pub pass_below : (system : List (Inequality ℕ)) (xs : List Flow) (y : ℕ → Flow) → TargetsFit (length xs) system → ((q : Inequality ℕ) → Contains system q → IsMet q y)
      → IsBelow (value_at xs) y → IsBelow (value_at (passed system xs)) y
  pass_below [] xs y fit met below = below
  pass_below (q ∷ rest) xs y fit met below =
      pass_below rest (raised q xs) y (rest_fits q rest xs fit) (λ r h. met r (later q r rest h))
      (raised_below q xs y (first_fits (length xs) q rest fit) (met q (now q rest)) below)
    where
      now : (q : Inequality ℕ) (rest : List (Inequality ℕ)) → Contains (q ∷ rest) q
      now q rest = (0, omega arith, refl)

      later : (q r : Inequality ℕ) (rest : List (Inequality ℕ)) → Contains rest r → Contains (q ∷ rest) r
      later q r rest h = (suc h.0, omega (arith, h.1), h.2)

  pass_high : (system : List (Inequality ℕ)) (xs : List Flow) → TargetsFit (length xs) system → height xs ≤ height (passed system xs)
  pass_high [] xs fit = omega arith
  pass_high (q ∷ rest) xs fit =
      let a = raised_high q xs (first_fits (length xs) q rest fit) in
      let b = pass_high rest (raised q xs) (rest_fits q rest xs fit) in
      omega arith

  -- a pass that is not quiet goes higher
  pub pass_higher : (system : List (Inequality ℕ)) (xs : List Flow) → TargetsFit (length xs) system → is_quiet system xs ≡ false → height xs < height (passed system xs)
  pass_higher [] xs fit e = absurd cc
  pass_higher (q ∷ rest) xs fit e = go (λ h. pass_higher rest (raised q xs) (rest_fits q rest xs fit) h) (is_met q xs) refl e
    where
      go : (is_quiet rest (raised q xs) ≡ false → height (raised q xs) < height (passed rest (raised q xs))) → (b : Bool) → is_met q xs ≡ b → (b && is_quiet rest (raised q xs)) ≡ false → height xs < height (passed rest (raised q xs))
      go higher true is e =
          let a = raised_high q xs (first_fits (length xs) q rest fit) in
          let b = higher e in
          omega arith
      go higher false is e =
          let a = raised_higher q xs (first_fits (length xs) q rest fit) is in
          let b = pass_high rest (raised q xs) (rest_fits q rest xs fit) in
          omega arith

  -- a pass that is quiet changes nothing, and finds each inequality met
  pub pass_quiet : (system : List (Inequality ℕ)) (xs : List Flow) → is_quiet system xs ≡ true → (passed system xs ≡ xs) × ((q : Inequality ℕ) → Contains system q → IsMet q (value_at xs))
  pass_quiet [] xs e = (refl, λ q h. absurd (omega (arith, h.1)))
  pass_quiet (q ∷ rest) xs e =
      let both = and_both (is_met q xs) (is_quiet rest (raised q xs)) e in
      let same = raised_met q xs both.0 in
      let quiet : is_quiet rest xs ≡ true = subst (λ (ys : List Flow). is_quiet rest ys ≡ true) same both.1 in
      let later = pass_quiet rest xs quiet in
      (ap (passed rest) same ∙ later.0, λ r h. go r later.1 both.0 h.0 h.1 h.2)
    where
      and_both : (a b : Bool) → (a && b) ≡ true → (a ≡ true) × (b ≡ true)
      and_both true b e = (refl, e)
      and_both false b e = absurd cc

      go : (r : Inequality ℕ) → ((q : Inequality ℕ) → Contains rest q → IsMet q (value_at xs)) → is_met q xs ≡ true → (k : ℕ) → k < length (q ∷ rest) → slice_index_or (q ∷ rest) k r ≡ r → IsMet r (value_at xs)
      go r later met zero lt e = subst (λ (s : Inequality ℕ). IsMet s (value_at xs)) e (met_tested q xs met)
      go r later met (suc k) lt e = later r (k, omega arith, e)

  -- ---- passes above seeds

  pub starts_between : (system : List (Inequality ℕ)) (seeds : List Flow) → Between system seeds seeds
  starts_between system seeds = record {
    above = λ n. laws.reflexive (value_at seeds n);
    below = λ y solves n. solves.above n (value_at seeds n) refl;
  }

  pub stays_between : (system : List (Inequality ℕ)) (seeds xs : List Flow) → TargetsFit (length xs) system → Between system seeds xs → Between system seeds (passed system xs)
  stays_between system seeds xs fit b = record {
    above = λ n. laws.transitive (value_at seeds n) (value_at xs n) (value_at (passed system xs) n) (b.above n) (pass_grows system xs fit n);
    below = λ y solves. pass_below system xs y fit solves.meets (b.below y solves);
  }

  pub ends_least : (system : List (Inequality ℕ)) (seeds xs : List Flow) → Between system seeds xs → is_quiet system xs ≡ true → Least (Contains system) (IsSeedOf seeds) (value_at (passed system xs))
  ends_least system seeds xs b e =
      let q = pass_quiet system xs e in
      subst (λ (ys : List Flow). Least (Contains system) (IsSeedOf seeds) (value_at ys)) (sym q.0) record {
        solves = record {
          above = λ n v is. subst (λ (w : Flow). w ⊑ value_at xs n) (sym is) (b.above n);
          meets = q.1;
        };
        least = b.below;
      }
