-- The entry of a type in a table that ascends.
use Rattle.std.proofs.Common.{◌≡◌, ◌≢◌, ℕ, zero, suc, ◌<◌, ◌≤◌, ◌==◌, ◌⊎◌, inl, inr, Bool, true, false, if◌then◌else◌, List, [], ◌∷◌, length, Some, None, slice_index_or, refl, sym, ap, ◌+◌, ◌-◌, ◌∙◌, arith, eq-eqb, ne_eqb}
use Rattle.std.proofs.lemmas.Bool.{cond-true, cond-false, cases_eq, cases_order}
use Rattle.std.proofs.lemmas.List.{get_or_default}
use Rattle.wf_system.specs.declared.pick.Pick.{Pick}
use Rattle.wf_system.specs.Sides.{pick_of, Ascends, StartsAt}

-- a table whose entries are all of other types
none_picked : (table : List Pick) (c : ℕ) (d : Pick) → ((i : ℕ) → i < length table → (slice_index_or table i d).t.0 ≢ c) → pick_of table c ≡ None
none_picked [] c d h = refl
none_picked (p ∷ rest) c d h = cond-false (p.t.0 == c) (Some p.candidate) (pick_of rest c) (ne_eqb p.t.0 c (h 0 (omega arith)))
    ∙ none_picked rest c d (λ i lt. h (suc i) (omega arith))

pub picked_there : (table : List Pick) (c place : ℕ) (d : Pick) → ((i : ℕ) (e : Pick) → i < place → (slice_index_or table i e).t.0 < c)
    → place < length table → (slice_index_or table place d).t.0 ≡ c → pick_of table c ≡ Some (slice_index_or table place d).candidate
picked_there [] c place d before lt e = absurd (omega arith)
picked_there (p ∷ rest) c zero d before lt e = cond-true (p.t.0 == c) (Some p.candidate) (pick_of rest c) (eq-eqb p.t.0 c e)
picked_there (p ∷ rest) c (suc place) d before lt e = cond-false (p.t.0 == c) (Some p.candidate) (pick_of rest c) (ne_eqb p.t.0 c (λ same. absurd (omega (arith, before 0 p (omega arith), same))))
    ∙ picked_there rest c place d (λ i f l. before (suc i) f (omega arith)) (omega arith) e

-- a table that starts with another type, or after the last entry, has none of the type
pub picked_none : (table : List Pick) (c place : ℕ) (d : Pick) → Ascends table → StartsAt table c place → (place < length table → (slice_index_or table place d).t.0 ≢ c) → pick_of table c ≡ None
picked_none [] c place d up starts other = refl
picked_none (p ∷ rest) c place d up starts other = none_picked (p ∷ rest) c p each
  where
    each : (i : ℕ) → i < length (p ∷ rest) → (slice_index_or (p ∷ rest) i p).t.0 ≢ c
    each i lt e = go (cases_order i place)
      where
        go : ((i ≡ place) ⊎ ((i < place) ⊎ (place < i))) → ⊥
        go (inl same) = other (omega (arith, same, lt)) (ap (λ (q : Pick). q.t.0) (get_or_default (p ∷ rest) place d p (omega (arith, same, lt))) ∙ ap (λ (k : ℕ). (slice_index_or (p ∷ rest) k p).t.0) (sym same) ∙ e)
        go (inr (inl l)) = absurd (omega (arith, starts.before i p l, e))
        go (inr (inr more)) = absurd (omega (arith, up.each place i p more lt, starts.from place p (omega arith) (omega (arith, more, lt)), e))

-- the entries before `low` are of lesser types, and those from `high` on aren't
pub record Narrows (table : List Pick) (c low high : ℕ) : Type 0 where
  pub order : low ≤ high
  pub inside : high ≤ length table
  pub before : (i : ℕ) (d : Pick) → i < low → (slice_index_or table i d).t.0 < c
  pub from : (i : ℕ) (d : Pick) → high ≤ i → i < length table → c ≤ (slice_index_or table i d).t.0

-- an entry of a lesser type has only lesser ones before it, and one that isn't has none after it
pub narrows_up : (table : List Pick) (c low high middle : ℕ) (d : Pick) → Ascends table → Narrows table c low high → middle < high → low ≤ middle
    → (slice_index_or table middle d).t.0 < c → Narrows table c (middle + 1) high
narrows_up table c low high middle d up n lt le less = record {
  order = omega arith;
  inside = n.inside;
  before = λ i e l. go i e l (cases_eq i middle);
  from = n.from;
}
  where
    go : (i : ℕ) (e : Pick) → i < middle + 1 → ((i ≡ middle) ⊎ (i ≡ middle → ⊥)) → (slice_index_or table i e).t.0 < c
    go i e l (inl same) = omega (arith, less, ap (λ (p : Pick). p.t.0) (get_or_default table middle d e (omega (arith, n.inside))), ap (λ (k : ℕ). (slice_index_or table k e).t.0) same)
    go i e l (inr other) = omega (arith, less, up.each i middle e (omega (arith, other)) (omega (arith, n.inside)), ap (λ (p : Pick). p.t.0) (get_or_default table middle d e (omega (arith, n.inside))))

pub narrows_down : (table : List Pick) (c low high middle : ℕ) (d : Pick) → Ascends table → Narrows table c low high → middle < high → low ≤ middle
    → c ≤ (slice_index_or table middle d).t.0 → Narrows table c low middle
narrows_down table c low high middle d up n lt le more = record {
  order = le;
  inside = omega (arith, n.inside);
  before = n.before;
  from = λ i e from inside. go i e from inside (cases_eq i middle);
}
  where
    go : (i : ℕ) (e : Pick) → middle ≤ i → i < length table → ((i ≡ middle) ⊎ (i ≡ middle → ⊥)) → c ≤ (slice_index_or table i e).t.0
    go i e from inside (inl same) = omega (arith, more, ap (λ (p : Pick). p.t.0) (get_or_default table middle d e (omega (arith, n.inside))), ap (λ (k : ℕ). (slice_index_or table k e).t.0) same)
    go i e from inside (inr other) = omega (arith, more, up.each middle i e (omega (arith, other)) inside, ap (λ (p : Pick). p.t.0) (get_or_default table middle d e (omega (arith, n.inside))))

-- each entry is the one that its type picks
pub entry_is_picked : (table : List Pick) (place : ℕ) (d : Pick) → Ascends table → place < length table → pick_of table (slice_index_or table place d).t.0 ≡ Some (slice_index_or table place d).candidate
entry_is_picked table place d up lt = picked_there table (slice_index_or table place d).t.0 place d
    (λ i e less. omega (arith, up.each i place e less lt, ap (λ (p : Pick). p.t.0) (get_or_default table place e d lt))) lt refl

-- where all candidates are below a number, each that is picked is
pub candidates_below : (table : List Pick) (n : ℕ) → ((i : ℕ) (d : Pick) → i < length table → (slice_index_or table i d).candidate < n) → (c j : ℕ) → pick_of table c ≡ Some j → j < n
candidates_below [] n each c j e = absurd cc
candidates_below (p ∷ rest) n each c j e = go (p.t.0 == c) (λ f. candidates_below rest n (λ i d lt. each (suc i) d (omega arith)) c j f) e
  where
    some_one : (i j : ℕ) → Some i ≡ Some j → i ≡ j
    some_one i j e = cc

    go : (b : Bool) → (pick_of rest c ≡ Some j → j < n) → (if b then Some p.candidate else pick_of rest c) ≡ Some j → j < n
    go true later f = omega (arith, each 0 p (omega arith), some_one p.candidate j f)
    go false later f = later f

-- the entries below a place ascend
pub record AscendsTo (table : List Pick) (n : ℕ) : Type 0 where
  pub each : (i j : ℕ) (d : Pick) → i < j → j < n → (slice_index_or table i d).t.0 < (slice_index_or table j d).t.0

pub ascends_more : (table : List Pick) (n : ℕ) (d e : Pick) → 0 < n → n < length table → (slice_index_or table (n - 1) d).t.0 < (slice_index_or table n e).t.0 → AscendsTo table n → AscendsTo table (n + 1)
ascends_more table n d e some lt less up = record { each = λ i j f before inside. go i j f before inside (cases_eq j n) (cases_eq i (n - 1)) }
  where
    last : (f : Pick) → (slice_index_or table (n - 1) f).t.0 < (slice_index_or table n f).t.0
    last f = omega (arith, less, ap (λ (p : Pick). p.t.0) (get_or_default table (n - 1) d f (omega arith)), ap (λ (p : Pick). p.t.0) (get_or_default table n e f lt))

    go : (i j : ℕ) (f : Pick) → i < j → j < n + 1 → ((j ≡ n) ⊎ (j ≡ n → ⊥)) → ((i ≡ n - 1) ⊎ (i ≡ n - 1 → ⊥)) → (slice_index_or table i f).t.0 < (slice_index_or table j f).t.0
    go i j f before inside (inr other) second = up.each i j f before (omega (arith, inside, other))
    go i j f before inside (inl same) (inl first) = omega (
      arith,
      last f,
      ap (λ (k : ℕ). (slice_index_or table k f).t.0) same,
      ap (λ (k : ℕ). (slice_index_or table k f).t.0) first,
    )
    go i j f before inside (inl same) (inr first) = omega (
      arith,
      last f,
      up.each i (n - 1) f (omega (arith, before, same, first)) (omega arith),
      ap (λ (k : ℕ). (slice_index_or table k f).t.0) same,
    )

pub ascends_whole : (table : List Pick) (n : ℕ) → length table ≤ n → AscendsTo table n → Ascends table
ascends_whole table n le up = record { each = λ i j d before inside. up.each i j d before (omega (arith, le, inside)) }

pub ascends_not : (table : List Pick) (n : ℕ) (d e : Pick) → 0 < n → n < length table → (slice_index_or table n e).t.0 ≤ (slice_index_or table (n - 1) d).t.0 → Ascends table → ⊥
ascends_not table n d e some lt more up = absurd (omega (arith, more, up.each (n - 1) n e (omega arith) lt, ap (λ (p : Pick). p.t.0) (get_or_default table (n - 1) d e (omega arith))))
