-- What is read off settled rows is what is said of all paths.
use Rattle.std.proofs.Common.{◌≡◌, ℕ, ◌+◌, ◌<◌, ◌≤◌, Bool, true, false, List, length, get_or, Option, Some, None, refl, sym, ap, subst, ◌∙◌, arith, inl, inr}
use Rattle.std.specs.Prelude.{◌⊎◌, nat_lt, map, slice_get, is_some, is_none, IfSome}
use Rattle.std.proofs.Math.ListN.{get_or-map}
use Rattle.std.proofs.lemmas.Bool.{ltb-true, ltb-false}
use Rattle.std.proofs.lemmas.List.{length-map, get_or_past, ext_get_or}
use Rattle.wf_operation.specs.declared.operation.Operation.{Operation}
use Rattle.wf_operation.specs.declared.slot.SlotKind.{SlotKind}
use Rattle.wf_operation.specs.Effects.{taken}
use Rattle.wf_blocks.specs.declared.body.Body.{Body}
use Rattle.wf_blocks.specs.declared.body.Step.{Step}
use Rattle.wf_blocks.specs.declared.seen.Seen.{Seen}
use Rattle.wf_blocks.specs.SeenKinds.{kind_seen}
use Rattle.wf_blocks.specs.Answers.{RowIn, AreRows, AreCounts, AreReached, HasSlots, count_at}
use Rattle.wf_blocks.specs.Bodies.{locals_of, operation_fails, step_fails, inner_of, graph_of}
use Rattle.wf_blocks.specs.Graphs.{Path, BadPaths, Reached, KindIs}
use Rattle.wf_blocks.specs.Methods.{number_of, HasShape, bad_paths}
use Rattle.wf_blocks.specs.Rows.{seen_at, row_in}
use Rattle.wf_blocks.proofs.BodyLemmas.{path_low}
use Rattle.wf_blocks.proofs.CountLemmas.{row_inside}
use Rattle.wf_blocks.proofs.EdgeLemmas.{has_inner}
use Rattle.wf_blocks.proofs.MethodLemmas.{number_below}
use Rattle.wf_blocks.proofs.PathLemmas.{sound, covered, closed_here, one_row, reached_at, kind_is}
use Rattle.wf_blocks.proofs.SeenLemmas.{or_none, true_or_false}
use Rattle.wf_blocks.proofs.WalkLemmas.{or_none4}

clash : (x : Bool) → x ≡ true → x ≡ false → ⊥
clash x e f = cc

pub never_bad : (b : Body) (rows : List (Option (List Seen))) → AreRows b rows → BadPaths (graph_of b) → ⊥
never_bad b rows are = sound (graph_of b) (inner_of b) (row_in rows) (has_inner b) are.settled

some_there : (o : Option ℕ) (n : ℕ) → o ≡ Some n → is_some o ≡ true
some_there o n e = ap (λ (p : Option ℕ). is_some p) e

none_there : (o : Option ℕ) → o ≡ None → is_some o ≡ false
none_there o e = ap (λ (p : Option ℕ). is_some p) e

pub the_count : (o : Option ℕ) → is_some o ≡ true → (n : ℕ) × (o ≡ Some n)
the_count None e = absurd cc
the_count (Some n) e = (n, refl)

count_inside : (counts : List (Option ℕ)) (place : ℕ) → is_some (count_at counts place) ≡ true → place < length counts
count_inside counts place e = by_place (true_or_false (nat_lt place (length counts)))
  where
    by_place : (nat_lt place (length counts) ≡ true) ⊎ (nat_lt place (length counts) ≡ false) → place < length counts
    by_place (inl lt) = ltb-true place (length counts) lt
    by_place (inr le) = absurd (clash (is_some (count_at counts place)) e (none_there (count_at counts place) (get_or_past counts place None (ltb-false place (length counts) le))))

pub reached_counted : (b : Body) (rows : List (Option (List Seen))) (counts : List (Option ℕ)) (place : ℕ) → AreRows b rows → AreCounts b rows counts → Reached (graph_of b) place → is_some (count_at counts place) ≡ true
reached_counted b rows counts place are cs reached =
    let c = covered (graph_of b) (inner_of b) (row_in rows) are.settled place reached.slots reached.path in
    some_there (count_at counts place) (length c.row) ((cs.each place (row_inside b rows place c.row are c.at)).of_row c.row c.at)

pub counted_reached : (b : Body) (rows : List (Option (List Seen))) (counts : List (Option ℕ)) (place : ℕ) → AreRows b rows → AreCounts b rows counts → is_some (count_at counts place) ≡ true → Reached (graph_of b) place
counted_reached b rows counts place are cs there =
    let n = the_count (count_at counts place) there in
    let h = (cs.each place (omega (arith, count_inside counts place there, cs.same_length))).has_row n.0 n.1 in
    let l = reached_at (graph_of b) (inner_of b) (row_in rows) are.settled place h.row h.at in
    record { slots = l.slots; path = l.path }

enough : (b : Body) (place n : ℕ) → (graph_of b).fails place n ≡ false → locals_of b ≤ n
unfolding graph_of
enough b place n e = by_step (slice_get b.steps place) (or_none _ _ e).0
  where
    by_operation : (o : Option Operation) → operation_fails b o n ≡ false → locals_of b ≤ n
    by_operation None e = absurd cc
    by_operation (Some o) e = omega (arith, ltb-false n (locals_of b + taken o.effect) (or_none4 _ _ _ _ e).0)

    by_step : (s : Option Step) → step_fails b s n ≡ false → locals_of b ≤ n
    by_step None e = absurd cc
    by_step (Some s) e = by_operation s.operation (or_none (operation_fails b s.operation n) (is_none s.targets) e).0

pub has_slots : (b : Body) (rows : List (Option (List Seen))) (counts : List (Option ℕ)) (place n : ℕ) → AreRows b rows → AreCounts b rows counts → count_at counts place ≡ Some n → HasSlots b place n
has_slots b rows counts place n are cs is =
    let there = some_there (count_at counts place) n is in
    let h = (cs.each place (omega (arith, count_inside counts place there, cs.same_length))).has_row n is in
    let reached = counted_reached b rows counts place are cs there in
    let every : (slots : List SlotKind) → Path (graph_of b) place slots → length slots ≡ n = λ slots path.
    (let c = covered (graph_of b) (inner_of b) (row_in rows) are.settled place slots path in
    c.holds.same_length ∙ ap length (one_row (graph_of b) (inner_of b) (row_in rows) (has_inner b) are.settled place place c.row h.row refl c.at h.at) ∙ h.count_is) in
    record {
      every = every;
      enough = subst (λ (m : ℕ). locals_of b ≤ m) h.count_is (enough b place (length h.row) (closed_here (graph_of b) (inner_of b) (row_in rows) are.settled place h.row h.at).sound);
      few = omega (arith, every reached.slots reached.path, path_low b (never_bad b rows are) place reached.slots reached.path);
    }

-- marks at reached places are those at places that have a count
pub marks_are : (b : Body) (rows : List (Option (List Seen))) (counts : List (Option ℕ)) (marks : List Bool) → AreRows b rows → AreCounts b rows counts → AreReached b marks → marks ≡ map is_some counts
marks_are b rows counts marks are cs reached =
    ext_get_or false marks (map is_some counts) (omega (arith, reached.same_length, cs.same_length, length-map counts (is_some {T = ℕ}))) (λ i lt. at i ∙ sym (get_or-map (is_some {T = ℕ}) counts i None))
  where
    at : (i : ℕ) → get_or marks i false ≡ is_some (count_at counts i)
    at i = by_mark (true_or_false (get_or marks i false)) (true_or_false (is_some (count_at counts i)))
      where
        by_mark : (get_or marks i false ≡ true) ⊎ (get_or marks i false ≡ false) → (is_some (count_at counts i) ≡ true) ⊎ (is_some (count_at counts i) ≡ false) → get_or marks i false ≡ is_some (count_at counts i)
        by_mark (inl e) f = e ∙ sym (reached_counted b rows counts i are cs ((reached.each i).0 e))
        by_mark (inr e) (inl f) = absurd (clash (get_or marks i false) ((reached.each i).1 (counted_reached b rows counts i are cs f)) e)
        by_mark (inr e) (inr f) = e ∙ sym f

pub kind_there : (b : Body) (rows : List (Option (List Seen))) (place slot : ℕ) (seen : Seen) → AreRows b rows → Reached (graph_of b) place → ((row : List Seen) → RowIn b rows place row → seen ≡ seen_at row slot)
    → KindIs (graph_of b) place slot (kind_seen seen)
kind_there b rows place slot seen are reached is =
    let c = covered (graph_of b) (inner_of b) (row_in rows) are.settled place reached.slots reached.path in
    subst (λ (s : Seen). KindIs (graph_of b) place slot (kind_seen s)) (sym (is c.row c.at)) (kind_is (graph_of b) (inner_of b) (row_in rows) (has_inner b) are.settled place slot c.row c.at)

pub number_inside : (pcs : List ℕ) (pc n : ℕ) (o : Option ℕ) → o ≡ number_of pcs pc → length pcs ≡ n → IfSome o (λ p. p < n)
number_inside pcs pc n None is e = tt
number_inside pcs pc n (Some p) is e = omega (arith, number_below 0 pcs pc p (sym is), e)

pub bad_of : (b : Body) → HasShape (Some b) → BadPaths (graph_of b)
bad_of b (bad_paths _ bad) = bad
