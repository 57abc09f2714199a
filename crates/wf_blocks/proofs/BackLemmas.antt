-- Back through a block, slot by slot.
use Rattle.std.proofs.Common.{◌≡◌, ℕ, ◌+◌, ◌-◌, ◌<◌, ◌≤◌, Bool, true, false, not, ◌&&◌, ◌||◌, List, length, get_or, Option, Some, None, refl, sym, ap, subst, ◌∙◌, arith}
use Rattle.std.specs.List.{range_with_len}
use Rattle.std.proofs.Math.ListN.{get_or-map}
use Rattle.std.proofs.lemmas.List.{length-map, get_or_past}
use Rattle.std.proofs.lemmas.List.FromFn.{length-range_with_len, get_or-map-range_with_len}
use Rattle.wf_operation.specs.declared.effect.Effect.{Effect}
use Rattle.wf_operation.specs.declared.operation.Operation.{Operation}
use Rattle.wf_operation.specs.declared.slot.SlotKind.TheVariants.{Unused}
use Rattle.wf_operation.specs.declared.slot.Source.{Source}
use Rattle.wf_operation.specs.declared.slot.Source.TheVariants.{Keep, KeepNoHead, KeepNoRest, Gives}
use Rattle.wf_operation.specs.Effects.{slots_after, source_at, sources}
use Rattle.wf_blocks.specs.declared.back.Losses.{Losses}
use Rattle.wf_blocks.specs.declared.back.Trail.{Trail}
use Rattle.wf_blocks.specs.declared.back.Trail.TheVariants.{Before, Here}
use Rattle.wf_blocks.specs.declared.body.Body.{Body}
use Rattle.wf_blocks.specs.declared.seen.Seen.{Seen}
use Rattle.wf_blocks.specs.SeenKinds.{through}
use Rattle.wf_blocks.specs.Answers.{lost, traced, RowIn, IsTraced, AreRows, AreCounts, IsCount, HasCount, count_at}
use Rattle.wf_blocks.specs.Bodies.{operation_at, operation_sources, sources_at, inner_of, AreStarts}
use Rattle.wf_blocks.specs.Rows.{seen_at, seen_from, seen_after, row_in}
use Rattle.wf_blocks.proofs.CountLemmas.{CameFrom, back_one, kept_row, start_positive, counted_before, count_known}

sources_count : (e : Effect) (n : ℕ) → length (sources e n) ≡ slots_after e n
sources_count e n = length-map (range_with_len 0 (slots_after e n)) (source_at e n) ∙ length-range_with_len 0 (slots_after e n)

source_of : (e : Effect) (n slot : ℕ) → slot < length (sources e n) → get_or (sources e n) slot (Gives Unused) ≡ source_at e n slot
source_of e n slot lt = get_or-map-range_with_len (source_at e n) 0 (slots_after e n) slot slot (Gives Unused) (omega (arith, lt, sources_count e n)) (omega arith)

pub source_there : (b : Body) (place n slot : ℕ) (o : Operation) → operation_at b place ≡ Some o → slot < length (sources_at b place n) → get_or (sources_at b place n) slot (Gives Unused) ≡ source_at o.effect n slot
source_there b place n slot o is lt =
    ap (λ (p : Option Operation). get_or (operation_sources p n) slot (Gives Unused)) is ∙ source_of o.effect n slot (subst (λ (p : Option Operation). slot < length (operation_sources p n)) is lt)

pub source_past : (b : Body) (place n slot : ℕ) → length (sources_at b place n) ≤ slot → get_or (sources_at b place n) slot (Gives Unused) ≡ Gives Unused
source_past b place n slot le = get_or_past (sources_at b place n) slot (Gives Unused) le

pub source_none : (b : Body) (place n slot : ℕ) → operation_at b place ≡ None → get_or (sources_at b place n) slot (Gives Unused) ≡ Gives Unused
source_none b place n slot is = ap (λ (p : Option Operation). get_or (operation_sources p n) slot (Gives Unused)) is

-- ---- losses

abbrev seen_of : Bool → Bool → Bool → Bool → Bool → Seen
seen_of a b c d e = record { int = a; reference = b; long = c; rest = d; unused = e }

and_false : (x : Bool) → (x && false) ≡ false
and_false true = refl
and_false false = refl

and_true : (x : Bool) → (x && true) ≡ x
and_true true = refl
and_true false = refl

head_unused : (u c x : Bool) → ((u || (c && true)) || x) ≡ (((u || c) || false) || x)
head_unused true c x = refl
head_unused false true x = refl
head_unused false false x = refl

rest_unused : (u x d : Bool) → ((u || x) || (d && true)) ≡ (((u || d) || x) || false)
rest_unused true x d = refl
rest_unused false true true = refl
rest_unused false true false = refl
rest_unused false false true = refl
rest_unused false false false = refl

none_unused : (u c d : Bool) → ((u || (c && false)) || (d && false)) ≡ u
none_unused true c d = refl
none_unused false true true = refl
none_unused false true false = refl
none_unused false false true = refl
none_unused false false false = refl

lost_head : (l : Losses) (i : ℕ) (s : Seen) → lost (record { head = true; rest = l.rest }) s ≡ lost l (through (KeepNoHead i) s)
lost_head l i s =
    ap (λ (c : Bool). seen_of s.int s.reference c (s.rest && not l.rest) ((s.unused || (s.long && true)) || (s.rest && l.rest))) (and_false s.long)
    ∙ ap (seen_of s.int s.reference false (s.rest && not l.rest)) (head_unused s.unused s.long (s.rest && l.rest))

lost_rest : (l : Losses) (i : ℕ) (s : Seen) → lost (record { head = l.head; rest = true }) s ≡ lost l (through (KeepNoRest i) s)
lost_rest l i s =
    ap (λ (d : Bool). seen_of s.int s.reference (s.long && not l.head) d ((s.unused || (s.long && l.head)) || (s.rest && true))) (and_false s.rest)
    ∙ ap (seen_of s.int s.reference (s.long && not l.head) false) (rest_unused s.unused (s.long && l.head) s.rest)

pub lost_nothing : (s : Seen) → lost (record { head = false; rest = false }) s ≡ s
lost_nothing s =
    ap (λ (c : Bool). seen_of s.int s.reference c (s.rest && true) ((s.unused || (s.long && false)) || (s.rest && false))) (and_true s.long)
    ∙ ap (λ (d : Bool). seen_of s.int s.reference s.long d ((s.unused || (s.long && false)) || (s.rest && false))) (and_true s.rest)
    ∙ ap (seen_of s.int s.reference s.long s.rest) (none_unused s.unused s.long s.rest)

-- ---- one step back

abbrev pub TrailMeans : Body → List (Option (List Seen)) → ℕ → Seen → Trail → Type 0
TrailMeans b rows last seen (Before slot l) = IsTraced b rows last slot l seen
TrailMeans b rows last seen (Here s) = s ≡ seen

by_source : (b : Body) (rows : List (Option (List Seen))) (last : ℕ) (before : List Seen) (l : Losses) (seen : Seen) → RowIn b rows last before
    → (s : Source) → lost l (seen_from before s) ≡ seen → TrailMeans b rows last seen (traced s l)
by_source b rows last before l seen at (Keep i) h = record { row = before; at = at; same = h }
by_source b rows last before l seen at (KeepNoHead i) h = record { row = before; at = at; same = lost_head l i (seen_at before i) ∙ h }
by_source b rows last before l seen at (KeepNoRest i) h = record { row = before; at = at; same = lost_rest l i (seen_at before i) ∙ h }
by_source b rows last before l seen at (Gives k) h = h

pub trace_back : (b : Body) (rows : List (Option (List Seen))) (place last slot n : ℕ) (l : Losses) (seen : Seen) → AreRows b rows → IsTraced b rows place slot l seen → last + 1 ≡ place
    → inner_of b place ≡ true → IsCount b rows last (Some n) → TrailMeans b rows last seen (traced (get_or (sources_at b last n) slot (Gives Unused)) l)
trace_back b rows place last slot n l seen are t is inside counted = from_last (back_one b rows place t.row are t.at inside)
  where
    some_is : {x y : ℕ} → Some x ≡ Some y → x ≡ y
    some_is e = cc

    from_last : CameFrom b rows place t.row → TrailMeans b rows last seen (traced (get_or (sources_at b last n) slot (Gives Unused)) l)
    from_last f =
        let same : f.last ≡ last = omega (arith, f.place_is, is) in
        let at : RowIn b rows last f.before = subst (λ (m : ℕ). RowIn b rows m f.before) same f.at in
        let count : length f.before ≡ n = sym (some_is (counted.of_row f.before at)) in
        let row_is : t.row ≡ seen_after f.before (sources_at b last n) =
        subst (λ (k : ℕ). t.row ≡ seen_after f.before (sources_at b last k)) count (subst (λ (m : ℕ). t.row ≡ seen_after f.before (sources_at b m (length f.before))) same f.row_is) in
        let there : seen_at t.row slot ≡ seen_from f.before (get_or (sources_at b last n) slot (Gives Unused)) =
        ap (λ (r : List Seen). seen_at r slot) row_is ∙ get_or-map (seen_from f.before) (sources_at b last n) slot (Gives Unused) in
        by_source b rows last f.before l seen at (get_or (sources_at b last n) slot (Gives Unused)) (sym (ap (lost l) there) ∙ t.same)

-- the counts of two places that follow each other in a block
pub sources_between : (b : Body) (rows : List (Option (List Seen))) (place last n after : ℕ) → AreRows b rows → last + 1 ≡ place → inner_of b place ≡ true
    → IsCount b rows last (Some n) → HasCount b rows place after → length (sources_at b last n) ≡ after
sources_between b rows place last n after are is inside counted has = from_last (back_one b rows place has.row are has.at inside)
  where
    some_is : {x y : ℕ} → Some x ≡ Some y → x ≡ y
    some_is e = cc

    from_last : CameFrom b rows place has.row → length (sources_at b last n) ≡ after
    from_last f =
        let same : f.last ≡ last = omega (arith, f.place_is, is) in
        let at : RowIn b rows last f.before = subst (λ (m : ℕ). RowIn b rows m f.before) same f.at in
        let count : length f.before ≡ n = sym (some_is (counted.of_row f.before at)) in
        let row_is : has.row ≡ seen_after f.before (sources_at b last n) =
        subst (λ (k : ℕ). has.row ≡ seen_after f.before (sources_at b last k)) count (subst (λ (m : ℕ). has.row ≡ seen_after f.before (sources_at b m (length f.before))) same f.row_is) in
        sym (length-map (sources_at b last n) (seen_from f.before)) ∙ sym (ap length row_is) ∙ has.count_is

pub kept_seen : (b : Body) (rows : List (Option (List Seen))) (place slot : ℕ) (l : Losses) (seen there : Seen) → inner_of b place ≡ false → IsTraced b rows place slot l seen
    → ((row : List Seen) → row_in rows place ≡ Some row → there ≡ seen_at row slot) → lost l there ≡ seen
kept_seen b rows place slot l seen there start t here = ap (lost l) (here t.row (kept_row b rows place t.row start t.at)) ∙ t.same

-- ---- at a place of the walk

pub inside_by : (b : Body) (starts : List Bool) (place : ℕ) (r : Bool) → AreStarts b starts → place < length b.steps → r ≡ get_or starts place true → r ≡ false → inner_of b place ≡ true
inside_by b starts place r are lt is off = ap not (sym (are place lt) ∙ sym is ∙ off)

pub start_by : (b : Body) (starts : List Bool) (place : ℕ) (r : Bool) → AreStarts b starts → place < length b.steps → r ≡ get_or starts place true → r ≡ true → inner_of b place ≡ false
start_by b starts place r are lt is on = ap not (sym (are place lt) ∙ sym is ∙ on)

pub record GoesBack (b : Body) (rows : List (Option (List Seen))) (place before : ℕ) : Type 0 where
  pub is : place - 1 + 1 ≡ place
  pub inside : inner_of b place ≡ true
  pub counted : IsCount b rows (place - 1) (Some before)

pub goes_back : (b : Body) (rows : List (Option (List Seen))) (counts : List (Option ℕ)) (starts : List Bool) (place after before : ℕ) (r : Bool) → AreRows b rows → AreCounts b rows counts → AreStarts b starts
    → place < length b.steps → r ≡ get_or starts place true → r ≡ false → HasCount b rows place after → ((m : ℕ) → count_at counts (place - 1) ≡ Some m → before ≡ m) → GoesBack b rows place before
goes_back b rows counts starts place after before r are cs marks lt is off has known =
    let inside = inside_by b starts place r marks lt is off in
    let positive = start_positive b place inside in
    let next : place - 1 + 1 ≡ place = omega (arith, positive) in
    let there = counted_before b rows counts place (place - 1) after are cs next inside has in
    let counted = cs.each (place - 1) (omega (arith, lt)) in
    record { is = next; inside = inside; counted = subst (IsCount b rows (place - 1)) (count_known (count_at counts (place - 1)) before there known) counted }
