-- The rows of the places inside blocks, and how many slots they have.
use Rattle.std.proofs.Common.{◌≡◌, ℕ, zero, suc, ◌+◌, ◌<◌, ◌≤◌, Bool, true, false, List, [], ◌∷◌, length, Option, Some, None, refl, sym, ap, subst, ◌∙◌, arith}
use Rattle.std.specs.Prelude.{slice_get, option_and_then, option_map, All, is_none, IsSome}
use Rattle.std.proofs.lemmas.List.{length-map}
use Rattle.std.proofs.lemmas.List.Elements.{All-head, All-tail}
use Rattle.std.proofs.lemmas.List.FromFn.{length-range_with_len}
use Rattle.std.specs.List.{range_with_len}
use Rattle.wf_operation.specs.declared.operation.Operation.{Operation}
use Rattle.wf_operation.specs.Effects.{slots_after, source_at}
use Rattle.wf_blocks.specs.declared.body.Body.{Body}
use Rattle.wf_blocks.specs.declared.body.Step.{Step}
use Rattle.wf_blocks.specs.declared.seen.Seen.{Seen}
use Rattle.wf_blocks.specs.Advancing.{width_of}
use Rattle.wf_blocks.specs.Answers.{RowIn, HasCount, IsCount, AreRows, AreCounts, count_at}
use Rattle.wf_blocks.specs.Bodies.{locals_of, step_fails, operation_fails, operation_at, sources_at, operation_sources, targets_at, falls_only, starts_at, inner_of, graph_of}
use Rattle.wf_blocks.specs.Flowing.{RowFits}
use Rattle.wf_blocks.specs.Graphs.{Edge, edge_by}
use Rattle.wf_blocks.specs.Rows.{seen_from, seen_after, row_in, kept, next}
use Rattle.wf_blocks.proofs.EdgeLemmas.{inner_edge, inner_next, inner_falls, edge_of_target, falls_there}
use Rattle.wf_blocks.proofs.PathLemmas.{closed_here}
use Rattle.wf_blocks.proofs.SeenLemmas.{or_none}
use Rattle.wf_blocks.proofs.WalkLemmas.{sources_fit, sound_inside}

clash : (x : Bool) → x ≡ true → x ≡ false → ⊥
clash x e f = cc

-- the row of a place inside a block comes from the place before it
pub record CameFrom (b : Body) (rows : List (Option (List Seen))) (place : ℕ) (row : List Seen) : Type 0 where
  pub last : ℕ
  pub before : List Seen
  pub place_is : last + 1 ≡ place
  pub at : RowIn b rows last before
  pub falls : falls_only last (targets_at b last) ≡ true
  pub row_is : row ≡ seen_after before (sources_at b last (length before))

pub back_one : (b : Body) (rows : List (Option (List Seen))) (place : ℕ) (row : List Seen) → AreRows b rows → RowIn b rows place row → inner_of b place ≡ true → CameFrom b rows place row
back_one b rows _ _ are (kept place row there) inside = absurd (clash (inner_of b place) inside (are.settled.starts place row there))
back_one b rows _ _ are (next last before e at way inside) inside' =
    let one = inner_edge b last (length before) e way inside in
    let two = inner_next b last e.to one.among inside in
    record {
      last = last;
      before = before;
      place_is = sym two.0;
      at = at;
      falls = inner_falls b last e.to one.among inside;
      row_is = ap (λ (w : Edge). seen_after before w.sources) one.is;
    }

-- and each row goes on to it
pub goes_to : (b : Body) (rows : List (Option (List Seen))) (last : ℕ) (before : List Seen) → RowIn b rows last before → falls_only last (targets_at b last) ≡ true → inner_of b (last + 1) ≡ true
    → RowIn b rows (last + 1) (seen_after before (sources_at b last (length before)))
goes_to b rows last before at falls inside =
    next last before (edge_by (sources_at b last (length before)) (last + 1)) at (edge_of_target b last (length before) (last + 1) (falls_there last (targets_at b last) falls)) inside

pub row_inside : (b : Body) (rows : List (Option (List Seen))) (place : ℕ) (row : List Seen) → AreRows b rows → RowIn b rows place row → place < length b.steps
row_inside b rows place row are at = sound_inside b place (length row) (closed_here (graph_of b) (inner_of b) (row_in rows) are.settled place row at).sound

pub row_fits : (width : ℕ) (rows : List (Option (List Seen))) (place : ℕ) (row : List Seen) → All (RowFits width) rows → row_in rows place ≡ Some row → length row ≤ width
row_fits width [] place row fits e = absurd cc
row_fits width (r ∷ rows) zero row fits e = subst (RowFits width) e (All-head (RowFits width) r rows fits)
row_fits width (r ∷ rows) (suc place) row fits e = row_fits width rows place row (All-tail (RowFits width) r rows fits) e

after_count : (b : Body) (last : ℕ) (before : List Seen) → length (seen_after before (sources_at b last (length before))) ≡ length (sources_at b last (length before))
after_count b last before = length-map (sources_at b last (length before)) (seen_from before)

-- no row is wider than there may be slots
pub row_low : (b : Body) (rows : List (Option (List Seen))) (place : ℕ) (row : List Seen) → AreRows b rows → RowIn b rows place row → length row ≤ width_of b
row_low b rows _ _ are (kept place row there) = row_fits (width_of b) rows place row are.fits there
row_low b rows _ _ are (next last before e at way inside) =
    let one = inner_edge b last (length before) e way inside in
    let here : seen_after before e.sources ≡ seen_after before (sources_at b last (length before)) = ap (λ (w : Edge). seen_after before w.sources) one.is in
    let sound = (closed_here (graph_of b) (inner_of b) (row_in rows) are.settled last before at).sound in
    omega (arith, ap length here, after_count b last before, sources_fit b last (length before) sound)

-- ---- counts

count_by_row : (o : Option (List Seen)) (n : ℕ) → option_map length o ≡ Some n → (row : List Seen) × (o ≡ Some row) × (length row ≡ n)
count_by_row None n e = absurd cc
count_by_row (Some row) n e = let same : length row ≡ n = cc in (row, refl, same)

pub kept_row : (b : Body) (rows : List (Option (List Seen))) (place : ℕ) (row : List Seen) → inner_of b place ≡ false → RowIn b rows place row → row_in rows place ≡ Some row
kept_row b rows _ _ outside (kept place row is) = is
kept_row b rows _ _ outside (next last before e at way inside) = absurd (clash (inner_of b e.to) inside outside)

pub kept_count : (b : Body) (rows : List (Option (List Seen))) (place : ℕ) → AreRows b rows → inner_of b place ≡ false → IsCount b rows place (option_map length (row_in rows place))
kept_count b rows place are start = record {
  of_row = λ row at. ap (option_map length) (kept_row b rows place row start at);
  has_row = λ n e. let r = count_by_row (row_in rows place) n e in record { row = r.0; at = kept place r.0 r.1; count_is = r.2 };
}

same_last : (m n : ℕ) → m + 1 ≡ n + 1 → m ≡ n
same_last m n e = omega (arith, e)

-- where the block doesn't come here
pub stops_count : (b : Body) (rows : List (Option (List Seen))) (last : ℕ) → AreRows b rows → inner_of b (last + 1) ≡ true → falls_only last (targets_at b last) ≡ false → IsCount b rows (last + 1) None
stops_count b rows last are inside stops = record {
  of_row = λ row at. absurd (never (back_one b rows (last + 1) row are at inside));
  has_row = λ n e. absurd (none n e);
}
  where
    none : (n : ℕ) → None ≡ Some n → ⊥
    none n e = cc

    never : {row : List Seen} → CameFrom b rows (last + 1) row → ⊥
    never f = clash (falls_only last (targets_at b last)) (subst (λ (m : ℕ). falls_only m (targets_at b m) ≡ true) (same_last f.last last f.place_is) f.falls) stops

-- where no path comes to the place before
pub none_count : (b : Body) (rows : List (Option (List Seen))) (last : ℕ) → AreRows b rows → inner_of b (last + 1) ≡ true → IsCount b rows last None → IsCount b rows (last + 1) None
none_count b rows last are inside before = record {
  of_row = λ row at. absurd (never (back_one b rows (last + 1) row are at inside));
  has_row = λ n e. absurd (none n e);
}
  where
    none : (n : ℕ) → None ≡ Some n → ⊥
    none n e = cc

    never : {row : List Seen} → CameFrom b rows (last + 1) row → ⊥
    never f = none (length f.before) (before.of_row f.before (subst (λ (m : ℕ). RowIn b rows m f.before) (same_last f.last last f.place_is) f.at))

operation_there : (b : Body) (place n : ℕ) → (graph_of b).fails place n ≡ false → operation_at b place ≡ None → ⊥
unfolding graph_of
operation_there b place n sound none = by_step (slice_get b.steps place) (or_none _ _ sound).0 none
  where
    by_operation : (o : Option Operation) → operation_fails b o n ≡ false → o ≡ None → ⊥
    by_operation None e is = cc
    by_operation (Some o) e is = cc

    by_step : (s : Option Step) → step_fails b s n ≡ false → option_and_then (λ (t : Step). t.operation) s ≡ None → ⊥
    by_step None e is = cc
    by_step (Some s) e is = by_operation s.operation (or_none (operation_fails b s.operation n) (is_none s.targets) e).0 is

pub no_operation_count : (b : Body) (rows : List (Option (List Seen))) (last : ℕ) → AreRows b rows → inner_of b (last + 1) ≡ true → operation_at b last ≡ None → IsCount b rows (last + 1) None
no_operation_count b rows last are inside gone = record {
  of_row = λ row at. absurd (never (back_one b rows (last + 1) row are at inside));
  has_row = λ n e. absurd (none n e);
}
  where
    none : (n : ℕ) → None ≡ Some n → ⊥
    none n e = cc

    never : {row : List Seen} → CameFrom b rows (last + 1) row → ⊥
    never f =
        let at : RowIn b rows last f.before = subst (λ (m : ℕ). RowIn b rows m f.before) (same_last f.last last f.place_is) f.at in
        operation_there b last (length f.before) (closed_here (graph_of b) (inner_of b) (row_in rows) are.settled last f.before at).sound gone

pub count_sources : (b : Body) (last n : ℕ) (o : Operation) → operation_at b last ≡ Some o → length (sources_at b last n) ≡ slots_after o.effect n
count_sources b last n o is =
    ap (λ (p : Option Operation). length (operation_sources p n)) is ∙ length-map (range_with_len 0 (slots_after o.effect n)) (source_at o.effect n) ∙ length-range_with_len 0 (slots_after o.effect n)

pub next_count : (b : Body) (rows : List (Option (List Seen))) (last n : ℕ) (o : Operation) → AreRows b rows → inner_of b (last + 1) ≡ true → falls_only last (targets_at b last) ≡ true
    → operation_at b last ≡ Some o → IsCount b rows last (Some n) → IsCount b rows (last + 1) (Some (slots_after o.effect n))
next_count b rows last n o are inside falls is before = record {
  of_row = λ row at. ap (λ (m : ℕ). Some m) (sym (of_row row (back_one b rows (last + 1) row are at inside)));
  has_row = λ m e. has_row m e (before.has_row n refl);
}
  where
    some_is : {x y : ℕ} → Some x ≡ Some y → x ≡ y
    some_is e = cc

    counted : (r : List Seen) → length r ≡ n → length (seen_after r (sources_at b last (length r))) ≡ slots_after o.effect n
    counted r e = after_count b last r ∙ ap (λ (m : ℕ). length (sources_at b last m)) e ∙ count_sources b last n o is

    of_row : (row : List Seen) → CameFrom b rows (last + 1) row → length row ≡ slots_after o.effect n
    of_row row f =
        let same = same_last f.last last f.place_is in
        let at : RowIn b rows last f.before = subst (λ (m : ℕ). RowIn b rows m f.before) same f.at in
        let row_is : row ≡ seen_after f.before (sources_at b last (length f.before)) = subst (λ (m : ℕ). row ≡ seen_after f.before (sources_at b m (length f.before))) same f.row_is in
        ap length row_is ∙ counted f.before (sym (some_is (before.of_row f.before at)))

    has_row : (m : ℕ) → Some (slots_after o.effect n) ≡ Some m → HasCount b rows last n → HasCount b rows (last + 1) m
    has_row m e h = record { row = seen_after h.row (sources_at b last (length h.row)); at = goes_to b rows last h.row h.at falls inside; count_is = counted h.row h.count_is ∙ some_is e }

-- ---- room

pub count_low : (b : Body) (rows : List (Option (List Seen))) (place n : ℕ) → AreRows b rows → IsCount b rows place (Some n) → n ≤ width_of b
count_low b rows place n are c = let h = c.has_row n refl in omega (arith, row_low b rows place h.row are h.at, h.count_is)

pub after_fits : (b : Body) (rows : List (Option (List Seen))) (place n : ℕ) (o : Operation) → AreRows b rows → operation_at b place ≡ Some o → IsCount b rows place (Some n) → slots_after o.effect n ≤ locals_of b + b.max_stack
after_fits b rows place n o are is c =
    let h = c.has_row n refl in
    let sound = (closed_here (graph_of b) (inner_of b) (row_in rows) are.settled place h.row h.at).sound in
    omega (arith, sources_fit b place (length h.row) sound, ap (λ (m : ℕ). length (sources_at b place m)) h.count_is, count_sources b place n o is)

-- a place inside a block whose own count is known has one before it
pub counted_before : (b : Body) (rows : List (Option (List Seen))) (counts : List (Option ℕ)) (place last n : ℕ) → AreRows b rows → AreCounts b rows counts → last + 1 ≡ place
    → inner_of b place ≡ true → HasCount b rows place n → IsSome (count_at counts last)
counted_before b rows counts place last n are cs is inside has = from_last (back_one b rows place has.row are has.at inside)
  where
    known : (o : Option ℕ) (m : ℕ) → o ≡ Some m → IsSome o
    known o m e = subst (λ (p : Option ℕ). IsSome p) (sym e) refl

    from_last : CameFrom b rows place has.row → IsSome (count_at counts last)
    from_last f =
        let same : f.last ≡ last = omega (arith, f.place_is, is) in
        let at : RowIn b rows last f.before = subst (λ (m : ℕ). RowIn b rows m f.before) same f.at in
        known (count_at counts last) (length f.before) ((cs.each last (row_inside b rows last f.before are at)).of_row f.before at)

-- a count that is there is the one that is read
pub count_known : (o : Option ℕ) (n : ℕ) → IsSome o → ((m : ℕ) → o ≡ Some m → n ≡ m) → o ≡ Some n
count_known None n there is = absurd cc
count_known (Some m) n there is = ap (λ (k : ℕ). Some k) (sym (is m refl))

pub start_positive : (b : Body) (place : ℕ) → inner_of b place ≡ true → 0 < place
unfolding starts_at
start_positive b zero inside = absurd (clash (inner_of b 0) inside refl)
start_positive b (suc place) inside = omega arith
