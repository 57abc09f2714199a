-- Settled rows say of each slot exactly the kinds that paths leave there.
use Rattle.std.proofs.Common.{◌≡◌, ℕ, ◌<◌, Bool, true, false, List, length, get_or, Option, Some, refl, sym, ap, subst, ◌∙◌, arith, inl, inr}
use Rattle.std.specs.Prelude.{◌⊎◌, map, Contains}
use Rattle.std.proofs.Math.ListN.{get_or-map}
use Rattle.std.proofs.lemmas.List.{length-map, get_or_past}
use Rattle.wf_operation.specs.declared.slot.SlotKind.{SlotKind}
use Rattle.wf_operation.specs.declared.slot.SlotKind.TheVariants.{Unused}
use Rattle.wf_operation.specs.declared.slot.Source.{Source}
use Rattle.wf_operation.specs.declared.slot.Source.TheVariants.{Keep, KeepNoHead, KeepNoRest, Gives}
use Rattle.wf_operation.specs.Slots.{allows, moved, named_by}
use Rattle.wf_blocks.specs.declared.seen.Seen.{Seen}
use Rattle.wf_blocks.specs.SeenKinds.{has, only, kind_seen}
use Rattle.wf_blocks.specs.Graphs.{Edge, Graph, Path, entry, along, fails, unmet, BadPaths, fault, depths, HasKind, KindIs, kind_at, moved_from}
use Rattle.wf_blocks.specs.Rows.{seen_at, seen_from, seen_after, IsWithin, HasRow, RowAt, Closed, ClosedFrom, Leaves, IsLeft, entry_row, Settled, HasInner, kept, next, closed}
use Rattle.wf_blocks.proofs.SeenLemmas.{true_or_false, has-only, only-has, has-through, ComesFrom, comes_head, comes_rest, allowed-has, kind_seen-has, kind_seen-alone}

-- the kinds of a path are in a row
pub record InRow (slots : List SlotKind) (row : List Seen) : Type 0 where
  pub same_length : length slots ≡ length row
  pub each : (i : ℕ) → has (seen_at row i) (kind_at slots i) ≡ true

kind_at-after : (slots : List SlotKind) (sources : List Source) (i : ℕ) → kind_at (map (moved_from slots) sources) i ≡ moved_from slots (get_or sources i (Gives Unused))
kind_at-after slots sources i = get_or-map (moved_from slots) sources i (Gives Unused)

seen_at-after : (row : List Seen) (sources : List Source) (i : ℕ) → seen_at (seen_after row sources) i ≡ seen_from row (get_or sources i (Gives Unused))
seen_at-after row sources i = get_or-map (seen_from row) sources i (Gives Unused)

pub in_after : (slots : List SlotKind) (row : List Seen) (sources : List Source) → InRow slots row → InRow (map (moved_from slots) sources) (seen_after row sources)
in_after slots row sources h = record {
  same_length = length-map sources (moved_from slots) ∙ sym (length-map sources (seen_from row));
  each = λ i.
      let s = get_or sources i (Gives Unused) in
      let here : has (seen_from row s) (moved_from slots s) ≡ true = has-through s (seen_at row (named_by s)) (kind_at slots (named_by s)) (h.each (named_by s)) in
      subst (λ (q : Seen). has q (kind_at (map (moved_from slots) sources) i) ≡ true) (sym (seen_at-after row sources i))
      (subst (λ (k : SlotKind). has (seen_from row s) k ≡ true) (sym (kind_at-after slots sources i)) here);
}

pub in_within : (slots : List SlotKind) (row more : List Seen) → InRow slots row → IsWithin row more → InRow slots more
in_within slots row more h w = record { same_length = h.same_length ∙ w.same_length; each = λ i. w.each i (kind_at slots i) (h.each i) }

pub in_entry : (g : Graph) → InRow g.entry (entry_row g)
in_entry g = record {
  same_length = sym (length-map g.entry only);
  each = λ i. subst (λ (q : Seen). has q (kind_at g.entry i) ≡ true) (sym (get_or-map only g.entry i Unused)) (has-only (kind_at g.entry i));
}

-- a path that leaves a kind behind a way
record Found (g : Graph) (place count : ℕ) (s : Source) (k : SlotKind) : Type 0 where
  slots : List SlotKind
  path : Path g place slots
  count_is : length slots ≡ count
  kind_is : moved_from slots s ≡ k

found_by : (g : Graph) (place : ℕ) (row : List Seen) → IsLeft g place row → (s : Source) (k : SlotKind) → ComesFrom s (seen_at row (named_by s)) k → Found g place (length row) s k
found_by g place row left s k c =
    let l = left.each (named_by s) c.before c.there in
    record { slots = l.slots; path = l.path; count_is = l.count_is; kind_is = ap (moved s) l.kind_is ∙ c.moved_is }

found : (g : Graph) (place : ℕ) (row : List Seen) → IsLeft g place row → (s : Source) (k : SlotKind) → has (seen_from row s) k ≡ true → Found g place (length row) s k
found g place row left (Keep n) k h = found_by g place row left (Keep n) k (record { before = k; there = h; moved_is = refl })
found g place row left (KeepNoHead n) k h = found_by g place row left (KeepNoHead n) k (comes_head n (seen_at row n) k h)
found g place row left (KeepNoRest n) k h = found_by g place row left (KeepNoRest n) k (comes_rest n (seen_at row n) k h)
found g place row left (Gives new) k h =
    let past : has (seen_at row (length row)) Unused ≡ true = subst (λ (q : Seen). has q Unused ≡ true) (sym (get_or_past row (length row) (only Unused) (omega arith))) refl in
    let l = left.each (length row) Unused past in
    record { slots = l.slots; path = l.path; count_is = l.count_is; kind_is = only-has new k h }

-- behind a way from a place whose row is left by paths
pub left_after : (g : Graph) (place : ℕ) (row : List Seen) (e : Edge) → IsLeft g place row → Contains (g.edges place (length row)) e → IsLeft g e.to (seen_after row e.sources)
left_after g place row e left there = record { each = λ i k h. goes i k (found g place row left (get_or e.sources i (Gives Unused)) k (subst (λ (q : Seen). has q k ≡ true) (seen_at-after row e.sources i) h)) }
  where
    goes : (i : ℕ) (k : SlotKind) → Found g place (length row) (get_or e.sources i (Gives Unused)) k → Leaves g e.to (length (seen_after row e.sources)) i k
    goes i k f = record {
      slots = map (moved_from f.slots) e.sources;
      path = along place f.slots e f.path (subst (λ (n : ℕ). Contains (g.edges place n) e) (sym f.count_is) there);
      count_is = length-map e.sources (moved_from f.slots) ∙ sym (length-map e.sources (seen_from row));
      kind_is = kind_at-after f.slots e.sources i ∙ f.kind_is;
    }

-- ---- settled rows

closed_at : (g : Graph) (inner : ℕ → Bool) (rows : ℕ → Option (List Seen)) → Settled g inner rows → (place : ℕ) (row : List Seen) → RowAt g inner rows place row → ClosedFrom g inner rows place row
closed_at g inner rows settled _ _ (kept place row there) = settled.closed_from place row there
closed_at g inner rows settled _ _ (next place row e at way inside) = further (closed_at g inner rows settled place row at) way inside
  where
    further : ClosedFrom g inner rows place row → Contains (g.edges place (length row)) e → inner e.to ≡ true → ClosedFrom g inner rows e.to (seen_after row e.sources)
    further (closed _ _ here rest) way inside = rest e way inside

pub left_at : (g : Graph) (inner : ℕ → Bool) (rows : ℕ → Option (List Seen)) → Settled g inner rows → (place : ℕ) (row : List Seen) → RowAt g inner rows place row → IsLeft g place row
left_at g inner rows settled _ _ (kept place row there) = settled.left place row there
left_at g inner rows settled _ _ (next place row e at way inside) = left_after g place row e (left_at g inner rows settled place row at) way

here_of : (g : Graph) (inner : ℕ → Bool) (rows : ℕ → Option (List Seen)) (place : ℕ) (row : List Seen) → ClosedFrom g inner rows place row → Closed g inner rows place row
here_of g inner rows _ _ (closed place row here rest) = here

pub closed_here : (g : Graph) (inner : ℕ → Bool) (rows : ℕ → Option (List Seen)) → Settled g inner rows → (place : ℕ) (row : List Seen) → RowAt g inner rows place row → Closed g inner rows place row
closed_here g inner rows settled place row at = here_of g inner rows place row (closed_at g inner rows settled place row at)

-- a path's kinds are in a row of its place
pub record Covered (g : Graph) (inner : ℕ → Bool) (rows : ℕ → Option (List Seen)) (place : ℕ) (slots : List SlotKind) : Type 0 where
  pub row : List Seen
  pub at : RowAt g inner rows place row
  pub holds : InRow slots row

from_row : (g : Graph) (inner : ℕ → Bool) (rows : ℕ → Option (List Seen)) (place : ℕ) (slots : List SlotKind) (after : List Seen) → HasRow rows place after → InRow slots after → Covered g inner rows place slots
from_row g inner rows place slots after h holds = record { row = h.row; at = kept place h.row h.there; holds = in_within slots after h.row holds h.within }

pub covered : (g : Graph) (inner : ℕ → Bool) (rows : ℕ → Option (List Seen)) → Settled g inner rows → (place : ℕ) (slots : List SlotKind) → Path g place slots → Covered g inner rows place slots
covered g inner rows settled _ _ entry = from_row g inner rows 0 g.entry (entry_row g) settled.entry (in_entry g)
covered g inner rows settled _ _ (along place slots e path way) = goes_on (covered g inner rows settled place slots path)
  where
    by_place : (c : Covered g inner rows place slots) → Contains (g.edges place (length c.row)) e → (inner e.to ≡ true) ⊎ (inner e.to ≡ false) → Covered g inner rows e.to (map (moved_from slots) e.sources)
    by_place c way (inl inside) = record { row = seen_after c.row e.sources; at = next place c.row e c.at way inside; holds = in_after slots c.row e.sources c.holds }
    by_place c way (inr start) =
        from_row g inner rows e.to (map (moved_from slots) e.sources) (seen_after c.row e.sources) ((closed_here g inner rows settled place c.row c.at).follows e way start) (in_after slots c.row e.sources c.holds)

    goes_on : Covered g inner rows place slots → Covered g inner rows e.to (map (moved_from slots) e.sources)
    goes_on c = by_place c (subst (λ (n : ℕ). Contains (g.edges place n) e) c.holds.same_length way) (true_or_false (inner e.to))

some_row : {a b : List Seen} (o : Option (List Seen)) → o ≡ Some a → o ≡ Some b → a ≡ b
some_row o e f = cc

clash : (b : Bool) → b ≡ true → b ≡ false → ⊥
clash b e f = cc

-- a place has one row
pub one_row : (g : Graph) (inner : ℕ → Bool) (rows : ℕ → Option (List Seen)) → HasInner g inner → Settled g inner rows
    → (p q : ℕ) (a b : List Seen) → p ≡ q → RowAt g inner rows p a → RowAt g inner rows q b → a ≡ b
one_row g inner rows has settled _ _ _ _ e (kept p a one) (kept q b other) = some_row (rows p) one (ap rows e ∙ other)
one_row g inner rows has settled _ _ _ _ e (kept p a one) (next q b f at way inside) = absurd (clash (inner p) (ap inner e ∙ inside) (settled.starts p a one))
one_row g inner rows has settled _ _ _ _ e (next p a f at way inside) (kept q b other) = absurd (clash (inner q) (ap inner (sym e) ∙ inside) (settled.starts q b other))
one_row g inner rows has settled _ _ _ _ e (next p a f at way inside) (next q b h at' way' inside') =
    let same_place : p ≡ q = has.one p q (length a) (length b) f h way way' e inside in
    let same_row : a ≡ b = one_row g inner rows has settled p q a b same_place at at' in
    let way'' : Contains (g.edges p (length a)) h = subst (λ (m : ℕ). Contains (g.edges m (length a)) h) (sym same_place) (subst (λ (r : List Seen). Contains (g.edges q (length r)) h) (sym same_row) way') in
    let same_way : f ≡ h = has.same p (length a) f h way way'' inside inside' in
    ap (λ (r : List Seen). seen_after r f.sources) same_row ∙ ap (λ (w : Edge). seen_after b w.sources) same_way

pub sound : (g : Graph) (inner : ℕ → Bool) (rows : ℕ → Option (List Seen)) → HasInner g inner → Settled g inner rows → BadPaths g → ⊥
sound g inner rows has settled (fault place slots path (fails _ _ failed)) =
    let c = covered g inner rows settled place slots path in
    clash (g.fails place (length slots)) failed (ap (g.fails place) c.holds.same_length ∙ (closed_here g inner rows settled place c.row c.at).sound)
sound g inner rows has settled (fault place slots path (unmet _ _ i lt failed)) =
    let c = covered g inner rows settled place slots path in
    let met = (closed_here g inner rows settled place c.row c.at).met i (subst (λ (n : ℕ). i < n) c.holds.same_length lt) in
    clash (allows (g.wants place (length slots) i) (kind_at slots i))
    (subst (λ (n : ℕ). allows (g.wants place n i) (kind_at slots i) ≡ true) (sym c.holds.same_length) (allowed-has (g.wants place (length c.row) i) (seen_at c.row i) (kind_at slots i) met (c.holds.each i))) failed
sound g inner rows has settled (depths place one other path path' differ) =
    let c = covered g inner rows settled place one path in
    let d = covered g inner rows settled place other path' in
    differ (c.holds.same_length ∙ ap length (one_row g inner rows has settled place place c.row d.row refl c.at d.at) ∙ sym d.holds.same_length)

-- a path leads to a place whose row is left by paths
pub any_left : (g : Graph) (place : ℕ) (row : List Seen) → IsLeft g place row → Leaves g place (length row) (length row) Unused
any_left g place row left = left.each (length row) Unused (subst (λ (q : Seen). has q Unused ≡ true) (sym (get_or_past row (length row) (only Unused) (omega arith))) refl)

pub reached_at : (g : Graph) (inner : ℕ → Bool) (rows : ℕ → Option (List Seen)) → Settled g inner rows → (place : ℕ) (row : List Seen) → RowAt g inner rows place row → Leaves g place (length row) (length row) Unused
reached_at g inner rows settled place row at = any_left g place row (left_at g inner rows settled place row at)

-- the kind of a slot is read off the row
pub kind_is : (g : Graph) (inner : ℕ → Bool) (rows : ℕ → Option (List Seen)) → HasInner g inner → Settled g inner rows
    → (place slot : ℕ) (row : List Seen) → RowAt g inner rows place row → KindIs g place slot (kind_seen (seen_at row slot))
kind_is g inner rows inners settled place slot row at = record {
  used = λ n. record { every = λ slots path. kind_seen-has (seen_at row slot) (kind_at slots slot) (in_row slots path) n };
  unused = λ none j every. sym (kind_seen-alone (seen_at row slot) j (there j every) (λ k h. only_that j every k h)) ∙ none;
}
  where
    in_row : (slots : List SlotKind) → Path g place slots → has (seen_at row slot) (kind_at slots slot) ≡ true
    in_row slots path =
        let c = covered g inner rows settled place slots path in
        subst (λ (r : List Seen). has (seen_at r slot) (kind_at slots slot) ≡ true) (one_row g inner rows inners settled place place c.row row refl c.at at) (c.holds.each slot)

    there : (j : SlotKind) → HasKind g place slot j → has (seen_at row slot) j ≡ true
    there j every =
        let l = reached_at g inner rows settled place row at in
        subst (λ (k : SlotKind). has (seen_at row slot) k ≡ true) (every.every l.slots l.path) (in_row l.slots l.path)

    only_that : (j : SlotKind) → HasKind g place slot j → (k : SlotKind) → has (seen_at row slot) k ≡ true → k ≡ j
    only_that j every k h =
        let l = (left_at g inner rows settled place row at).each slot k h in
        sym l.kind_is ∙ every.every l.slots l.path
