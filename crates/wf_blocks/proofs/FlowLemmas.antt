-- What flows along ways.
use Rattle.std.proofs.Common.{◌≡◌, ℕ, zero, suc, ◌+◌, ◌<◌, ◌≤◌, true, List, [], ◌∷◌, ◌++◌, length, get_or, set, Option, Some, None, refl, sym, ap, subst, ◌∙◌, arith, inl, inr}
use Rattle.std.specs.Prelude.{◌⊎◌, Contains, All}
use Rattle.std.proofs.lemmas.Bool.{cases_eq}
use Rattle.std.proofs.lemmas.List.{get_or-set_same, get_or-set_other, length-set}
use Rattle.std.proofs.lemmas.List.Elements.{All-set, All-append, All-contains, Contains-get_or, Contains-append_left, Contains-append_right, Contains-append_cases, Contains-push}
use Rattle.wf_operation.specs.declared.slot.SlotKind.{SlotKind}
use Rattle.wf_blocks.specs.declared.seen.Seen.{Seen}
use Rattle.wf_blocks.specs.declared.rows.Grown.TheVariants.{Differs, Same, More}
use Rattle.wf_blocks.specs.SeenKinds.{has}
use Rattle.wf_blocks.specs.Rows.{seen_at, row_in, grown, IsWithin, HasRow, Grows}
use Rattle.wf_blocks.specs.Flowing.{WasSeen, Came, Flowed, DiffersThere, RowFits, left_of, left_in, IsLess}
use Rattle.wf_blocks.proofs.RowLemmas.{Before, Brought, IsMore, is_more, is_same, is_other, within_itself}

abbrev KeptRows : Type 0
KeptRows = List (Option (List Seen))

pub within_both : (a b c : List Seen) → IsWithin a b → IsWithin b c → IsWithin a c
within_both a b c v w = record { same_length = v.same_length ∙ w.same_length; each = λ i k h. w.each i k (v.each i k h) }

pub row_grows : (old new : ℕ → Option (List Seen)) (place : ℕ) (after : List Seen) → Grows old new → HasRow old place after → HasRow new place after
row_grows old new place after grows h =
    let n = grows.each place h.row h.there in
    record { row = n.row; there = n.there; within = within_both after h.row n.row h.within n.within }

pub grows_itself : (rows : ℕ → Option (List Seen)) → Grows rows rows
grows_itself rows = record { each = λ place row there. record { row = row; there = there; within = within_itself row } }

pub grows_both : (a b c : ℕ → Option (List Seen)) → Grows a b → Grows b c → Grows a c
grows_both a b c v w = record { each = λ place row there. row_grows b c place row w (v.each place row there) }

-- the one place of a list of one
lone : (to place : ℕ) → Contains (to ∷ []) place → place ≡ to
lone to place (zero, lt, is) = sym is
lone to place (suc k, lt, is) = absurd (omega arith)

in_lone : (to : ℕ) → Contains (to ∷ []) to
in_lone to = (0, omega arith, refl)

-- a list of rows with one row changed, at any place
at_set : (old : KeptRows) (to : ℕ) (row : List Seen) → to < length old → (place : ℕ)
    → ((place ≡ to) × (row_in (set old to (Some row)) place ≡ Some row)) ⊎ ((place ≡ to → ⊥) × (row_in (set old to (Some row)) place ≡ row_in old place))
at_set old to row lt place =
    elim (cases_eq place to) [
      | inl e ↦ inl (e, subst (λ (p : ℕ). row_in (set old to (Some row)) p ≡ Some row) (sym e) (get_or-set_same old to (Some row) None lt))
      | inr n ↦ inr (n, get_or-set_other old to place (Some row) None n)
    ]

same_some : {a b : List Seen} (o : Option (List Seen)) → o ≡ Some a → o ≡ Some b → a ≡ b
same_some o e f = cc

no_row : (o : Option (List Seen)) (row : List Seen) → o ≡ Some row → o ≡ None → ⊥
no_row o row e f = cc

pub flowed_more : (to : ℕ) (after row : List Seen) (old : KeptRows) (waiting : List ℕ) → to < length old → grown (row_in old to) after ≡ More row
    → Flowed (to ∷ []) after old (set old to (Some row)) waiting (waiting ++ to ∷ [])
flowed_more to after row old waiting lt is = record {
  there = λ place c. there place (lone to place c) (at_set old to row lt place);
  grows = record { each = λ place r e. grows place r e (at_set old to row lt place) };
  kept = λ place r e. kept place r e (at_set old to row lt place);
  least = λ place r i k e h. least place r i k e h (at_set old to row lt place);
  places = λ place r e. places place r e (at_set old to row lt place);
  queued = λ place c. Contains-append_left waiting (to ∷ []) place c;
  same_length = length-set old to (Some row);
  below = λ count low lower. All-append (λ p. p < count) waiting (to ∷ []) low lower;
}
  where
    m : IsMore (row_in old to) after row
    m = is_more (row_in old to) after row is

    Cases : ℕ → Type 0
    Cases place = ((place ≡ to) × (row_in (set old to (Some row)) place ≡ Some row)) ⊎ ((place ≡ to → ⊥) × (row_in (set old to (Some row)) place ≡ row_in old place))

    there : (place : ℕ) → place ≡ to → ((place ≡ to) × (row_in (set old to (Some row)) place ≡ Some row)) ⊎ ((place ≡ to → ⊥) × (row_in (set old to (Some row)) place ≡ row_in old place)) → HasRow (row_in (set old to (Some row))) place after
    there place e (inl s) = record { row = row; there = s.1; within = m.within }
    there place e (inr o) = absurd (o.0 e)

    grows : (place : ℕ) (r : List Seen) → row_in old place ≡ Some r → ((place ≡ to) × (row_in (set old to (Some row)) place ≡ Some row)) ⊎ ((place ≡ to → ⊥) × (row_in (set old to (Some row)) place ≡ row_in old place)) → HasRow (row_in (set old to (Some row))) place r
    grows place r e (inl s) = record { row = row; there = s.1; within = m.keeps r (subst (λ (p : ℕ). row_in old p ≡ Some r) s.0 e) }
    grows place r e (inr o) = record { row = r; there = o.1 ∙ e; within = within_itself r }

    kept : (place : ℕ) (r : List Seen) → row_in (set old to (Some row)) place ≡ Some r → ((place ≡ to) × (row_in (set old to (Some row)) place ≡ Some row)) ⊎ ((place ≡ to → ⊥) × (row_in (set old to (Some row)) place ≡ row_in old place)) → (row_in old place ≡ Some r) ⊎ Contains (waiting ++ to ∷ []) place
    kept place r e (inl s) = inr (subst (λ (p : ℕ). Contains (waiting ++ to ∷ []) p) (sym s.0) (Contains-push waiting to))
    kept place r e (inr o) = inl (sym o.1 ∙ e)

    by_source : (place : ℕ) (r : List Seen) (i : ℕ) (k : SlotKind) → place ≡ to → r ≡ row → Before (row_in old to) (length row) i k ⊎ Brought after (length row) i k → WasSeen old place (length r) i k ⊎ Came (to ∷ []) after place (length r) i k
    by_source place r i k e f (inl b) = inl (record { row = b.row; there = subst (λ (p : ℕ). row_in old p ≡ Some b.row) (sym e) b.there; count_is = b.count_is ∙ ap length (sym f); seen = b.seen })
    by_source place r i k e f (inr b) = inr (record { here = subst (λ (p : ℕ). Contains (to ∷ []) p) (sym e) (in_lone to); count_is = b.count_is ∙ ap length (sym f); seen = b.seen })

    least : (place : ℕ) (r : List Seen) (i : ℕ) (k : SlotKind) → row_in (set old to (Some row)) place ≡ Some r → has (seen_at r i) k ≡ true → ((place ≡ to) × (row_in (set old to (Some row)) place ≡ Some row)) ⊎ ((place ≡ to → ⊥) × (row_in (set old to (Some row)) place ≡ row_in old place))
        → WasSeen old place (length r) i k ⊎ Came (to ∷ []) after place (length r) i k
    least place r i k e h (inl s) =
        let f : r ≡ row = same_some (row_in (set old to (Some row)) place) e s.1 in
        by_source place r i k s.0 f (m.least i k (subst (λ (q : List Seen). has (seen_at q i) k ≡ true) f h))
    least place r i k e h (inr o) = inl (record { row = r; there = sym o.1 ∙ e; count_is = refl; seen = h })

    places : (place : ℕ) (r : List Seen) → row_in (set old to (Some row)) place ≡ Some r → ((place ≡ to) × (row_in (set old to (Some row)) place ≡ Some row)) ⊎ ((place ≡ to → ⊥) × (row_in (set old to (Some row)) place ≡ row_in old place)) → (row_in old place ≡ None → ⊥) ⊎ Contains (to ∷ []) place
    places place r e (inl s) = inr (subst (λ (p : ℕ). Contains (to ∷ []) p) (sym s.0) (in_lone to))
    places place r e (inr o) = inl (λ none. no_row (row_in old place) r (sym o.1 ∙ e) none)

-- nothing changes where every place has a row that holds what comes
pub flowed_none : (targets : List ℕ) (after : List Seen) (old : KeptRows) (waiting : List ℕ) → ((place : ℕ) → Contains targets place → HasRow (row_in old) place after)
    → Flowed targets after old old waiting waiting
flowed_none targets after old waiting there = record {
  there = there;
  grows = grows_itself (row_in old);
  kept = λ place r e. inl e;
  least = λ place r i k e h. inl (record { row = r; there = e; count_is = refl; seen = h });
  places = λ place r e. inl (λ none. no_row (row_in old place) r e none);
  queued = λ place c. c;
  same_length = refl;
  below = λ count low lower. low;
}

pub flowed_same : (to : ℕ) (after : List Seen) (old : KeptRows) (waiting : List ℕ) → grown (row_in old to) after ≡ Same → Flowed (to ∷ []) after old old waiting waiting
flowed_same to after old waiting is =
    let s = is_same (row_in old to) after is in
    flowed_none (to ∷ []) after old waiting (λ place c.
    record { row = s.row; there = subst (λ (p : ℕ). row_in old p ≡ Some s.row) (sym (lone to place c)) s.there; within = s.within })

no_targets : (place : ℕ) → Contains [] place → ⊥
no_targets place c = omega (arith, c.1)

pub flowed_nowhere : (after : List Seen) (old : KeptRows) (waiting : List ℕ) → Flowed [] after old old waiting waiting
flowed_nowhere after old waiting = flowed_none [] after old waiting (λ place c. absurd (no_targets place c))

pub differs_there : (to : ℕ) (after : List Seen) (old : KeptRows) → grown (row_in old to) after ≡ Differs → DiffersThere (to ∷ []) after old
differs_there to after old is =
    let o = is_other (row_in old to) after is in
    record { to = to; among = in_lone to; row = o.row; there = o.there; differs = o.differs }

-- first into some places, then into others
pub flowed_both : (one two : List ℕ) (after : List Seen) (a b c : KeptRows) (p q r : List ℕ) → Flowed one after a b p q → Flowed two after b c q r → Flowed (one ++ two) after a c p r
flowed_both one two after a b c p q r f s = record {
  there = λ place h. there place (Contains-append_cases one two place h);
  grows = grows_both (row_in a) (row_in b) (row_in c) f.grows s.grows;
  kept = λ place row e. kept place row (s.kept place row e);
  least = λ place row i k e h. least place row i k (s.least place row i k e h);
  places = λ place row e. places place (s.places place row e);
  queued = λ place h. s.queued place (f.queued place h);
  same_length = s.same_length ∙ f.same_length;
  below = λ count low lower. s.below count (f.below count low (first_all count lower)) (second_all count lower);
}
  where
    there : (place : ℕ) → Contains one place ⊎ Contains two place → HasRow (row_in c) place after
    there place (inl h) = row_grows (row_in b) (row_in c) place after s.grows (f.there place h)
    there place (inr h) = s.there place h

    kept : (place : ℕ) (row : List Seen) → (row_in b place ≡ Some row) ⊎ Contains r place → (row_in a place ≡ Some row) ⊎ Contains r place
    kept place row (inr h) = inr h
    kept place row (inl e) = elim (f.kept place row e) [ inl was ↦ inl was | inr h ↦ inr (s.queued place h) ]

    least : (place : ℕ) (row : List Seen) (i : ℕ) (k : SlotKind) → WasSeen b place (length row) i k ⊎ Came two after place (length row) i k
        → WasSeen a place (length row) i k ⊎ Came (one ++ two) after place (length row) i k
    least place row i k (inr h) = inr (record { here = Contains-append_right one two place h.here; count_is = h.count_is; seen = h.seen })
    least place row i k (inl w) = earlier (f.least place w.row i k w.there w.seen)
      where
        earlier : WasSeen a place (length w.row) i k ⊎ Came one after place (length w.row) i k → WasSeen a place (length row) i k ⊎ Came (one ++ two) after place (length row) i k
        earlier (inl v) = inl (record { row = v.row; there = v.there; count_is = v.count_is ∙ w.count_is; seen = v.seen })
        earlier (inr h) = inr (record { here = Contains-append_left one two place h.here; count_is = h.count_is ∙ w.count_is; seen = h.seen })

    some_of : (o : Option (List Seen)) → (o ≡ None → ⊥) → (row : List Seen) × (o ≡ Some row)
    some_of None never = absurd (never refl)
    some_of (Some row) never = (row, refl)

    places : (place : ℕ) → (row_in b place ≡ None → ⊥) ⊎ Contains two place → (row_in a place ≡ None → ⊥) ⊎ Contains (one ++ two) place
    places place (inr h) = inr (Contains-append_right one two place h)
    places place (inl never) =
        let there_was = some_of (row_in b place) never in
        elim (f.places place there_was.0 there_was.1) [ inl was ↦ inl was | inr h ↦ inr (Contains-append_left one two place h) ]

    first_all : (count : ℕ) → All (λ p. p < count) (one ++ two) → All (λ p. p < count) one
    first_all count lower = λ k d lt. All-contains (λ p. p < count) (one ++ two) (get_or one k d) lower (Contains-append_left one two (get_or one k d) (Contains-get_or one k d lt))

    second_all : (count : ℕ) → All (λ p. p < count) (one ++ two) → All (λ p. p < count) two
    second_all count lower = λ k d lt. All-contains (λ p. p < count) (one ++ two) (get_or two k d) lower (Contains-append_right one two (get_or two k d) (Contains-get_or two k d lt))

-- A row in the way of a later one was there from the beginning: what came into a row before has this length.
pub differs_before : (one two : List ℕ) (after : List Seen) (a b : KeptRows) (p q : List ℕ) → Flowed one after a b p q → DiffersThere two after b → DiffersThere (one ++ two) after a
differs_before one two after a b p q f d = from_start (f.places d.to d.row d.there)
  where
    some_of : (o : Option (List Seen)) → (o ≡ None → ⊥) → (row : List Seen) × (o ≡ Some row)
    some_of None never = absurd (never refl)
    some_of (Some row) never = (row, refl)

    from_start : (row_in a d.to ≡ None → ⊥) ⊎ Contains one d.to → DiffersThere (one ++ two) after a
    from_start (inr h) =
        let n = f.there d.to h in
        absurd (d.differs (ap length (same_some (row_in b d.to) d.there n.there) ∙ sym n.within.same_length))
    from_start (inl never) =
        let was = some_of (row_in a d.to) never in
        let n = f.grows.each d.to was.0 was.1 in
        record {
          to = d.to;
          among = Contains-append_right one two d.to d.among;
          row = was.0;
          there = was.1;
          differs = λ e. d.differs (ap length (same_some (row_in b d.to) d.there n.there) ∙ sym n.within.same_length ∙ e);
        }

-- ---- why it ends

left_in-set : (width : ℕ) (old : KeptRows) (to : ℕ) (row : List Seen) → to < length old
    → left_in width (set old to (Some row)) + left_of width (row_in old to) ≡ left_in width old + left_of width (Some row)
left_in-set width [] to row lt = absurd (omega arith)
left_in-set width (r ∷ old) zero row lt = omega arith
left_in-set width (r ∷ old) (suc to) row lt = omega (arith, left_in-set width old to row (omega arith))

pub less_more : (width to : ℕ) (after row : List Seen) (old : KeptRows) (waiting : List ℕ) → to < length old → grown (row_in old to) after ≡ More row
    → All (RowFits width) old → length after ≤ width → IsLess width old (set old to (Some row)) waiting (waiting ++ to ∷ [])
less_more width to after row old waiting lt is fits low =
    let m = (is_more (row_in old to) after row is).less width (fits to None lt) low in
    record {
      fits = All-set (RowFits width) old to (Some row) m.1 fits;
      less = omega (arith, left_in-set width old to row lt, m.0, length_more waiting to);
    }
  where
    length_more : (xs : List ℕ) (x : ℕ) → length (xs ++ x ∷ []) ≡ length xs + 1
    length_more [] x = refl
    length_more (y ∷ xs) x = omega (arith, length_more xs x)

pub less_same : (width : ℕ) (old : KeptRows) (waiting : List ℕ) → All (RowFits width) old → IsLess width old old waiting waiting
less_same width old waiting fits = record { fits = fits; less = omega arith }

pub less_both : (width : ℕ) (a b c : KeptRows) (p q r : List ℕ) → IsLess width a b p q → IsLess width b c q r → IsLess width a c p r
less_both width a b c p q r f s = record { fits = s.fits; less = omega (arith, f.less, s.less) }
