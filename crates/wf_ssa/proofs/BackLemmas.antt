-- Where what is known in front of a place comes from.
use Rattle.std.proofs.Common.{◌≡◌, ℕ, zero, suc, ◌+◌, ◌-◌, ◌<◌, ◌≤◌, Bool, true, false, not, ◌||◌, ◌&&◌, List, [], ◌∷◌, length, get_or, Option, Some, None, refl, sym, ap, subst, ◌∙◌, arith, inl, inr}
use Rattle.std.specs.Prelude.{◌⊎◌, ◌↔◌, ◌==◌, map, nat_lt, is_some, slice_get, unwrap_or, option_map, Contains, count_by, if◌then◌else◌}
use Rattle.std.specs.List.{range_with_len, list_any}
use Rattle.std.proofs.lemmas.Bool.{ltb-true, ltb-false, eqb-true, eqb-false}
use Rattle.std.proofs.lemmas.List.{length-map, get_or_past}
use Rattle.std.proofs.lemmas.List.FromFn.{length-range_with_len}
use Rattle.std.proofs.lemmas.List.Sums.{sum_by-cons}
use Rattle.wf_operation.specs.declared.operation.Operation.{Operation}
use Rattle.wf_operation.specs.declared.slot.SlotKind.{SlotKind}
use Rattle.wf_operation.specs.Effects.{sources}
use Rattle.wf_operation.specs.Slots.{from}
use Rattle.wf_blocks.specs.declared.body.Body.{Body}
use Rattle.wf_blocks.specs.declared.body.Step.{Step}
use Rattle.wf_blocks.specs.Answers.{AreReached, edges_in, entry_ways, ways_to, HasSlots}
use Rattle.wf_blocks.specs.Bodies.{graph_of, inner_of, is_handler, locals_of, operation_at, operation_sources, sources_at, starts_at, targets_at, targets_in}
use Rattle.wf_blocks.specs.Graphs.{Path, entry, along, Reached, edge_by, moved_from}
use Rattle.wf_blocks.proofs.EdgeLemmas.{edge_of_target, inner_next}
use Rattle.wf_blocks.proofs.SeenLemmas.{true_or_false, or_none, and_parts}
use Rattle.wf_ssa.specs.declared.before.Before.{Before}
use Rattle.wf_ssa.specs.declared.name.FlowName.TheVariants.{Nothing, Res}
use Rattle.wf_ssa.specs.Environments.{pc_at, renamed, before_along, along_edge, fails_there, entry_name, entry_before, meets, IsBefore, met, entered, single, IsKnown}
use Rattle.wf_ssa.specs.Keeping.{refines_at, ends, goes_back, row_at, answers_at, answered, AreMeets, IsFilled, IsLeft}

clash : (x : Bool) → x ≡ true → x ≡ false → ⊥
clash x e f = cc

some_is : {A : Type 0} {x y : A} → Some x ≡ Some y → x ≡ y
some_is e = cc

pub contains_at : {A : Type 0} (xs : List A) (i : ℕ) (x : A) → slice_get xs i ≡ Some x → Contains xs x
contains_at [] i x e = absurd cc
contains_at (y ∷ xs) zero x e = (0, omega arith, some_is e)
contains_at (y ∷ xs) (suc i) x e = let r = contains_at xs i x e in (suc r.0, omega (arith, r.1), r.2)

-- ---- how many slots there are

along_count : (o : Option Operation) (pc edge : ℕ) (fails : Bool) (k : Before) → length (before_along o pc edge fails k).names ≡ length (operation_sources o (length k.names))
along_count None pc edge fails k = refl
along_count (Some o) pc edge fails k = length-map (sources o.effect (length k.names)) (from (renamed pc o edge k.names) (Res pc) Nothing)

entry_count : (b : Body) → length (entry_before b).names ≡ locals_of b
entry_count b = length-map (range_with_len 0 (locals_of b)) (entry_name b) ∙ length-range_with_len 0 (locals_of b)

-- a path leads to a place of which something is known, and has as many slots
pub record HasPath (b : Body) (place : ℕ) (k : Before) : Type 0 where
  pub slots : List SlotKind
  pub path : Path (graph_of b) place slots
  pub same : length slots ≡ length k.names

pub entry_path : (b : Body) → Path (graph_of b) 0 b.entry
unfolding graph_of
entry_path b = entry

path_on : (b : Body) (failing : List ℕ) (place edge to : ℕ) (k : Before) → HasPath b place k → Contains (targets_at b place) to → HasPath b to (along_edge b failing place edge k)
path_on b failing place edge to k h among =
    let e = edge_by (sources_at b place (length h.slots)) to in
    record {
      slots = map (moved_from h.slots) (sources_at b place (length h.slots));
      path = along place h.slots e h.path (edge_of_target b place (length h.slots) to among);
      same = length-map (sources_at b place (length h.slots)) (moved_from h.slots) ∙ ap (λ (n : ℕ). length (sources_at b place n)) h.same
          ∙ sym (along_count (operation_at b place) (pc_at b place) edge (fails_there failing (pc_at b place)) k);
    }

pub path_of : (b : Body) (failing : List ℕ) (marks : List Bool) (place : ℕ) (k : Before) → IsBefore b failing marks place k → HasPath b place k
path_of b failing marks _ _ (met place k reached meet is) = record { slots = reached.slots; path = reached.path; same = is.count.every reached.slots reached.path }
path_of b failing marks _ _ (entered alone) = record { slots = b.entry; path = entry_path b; same = sym (entry_count b) }
path_of b failing marks _ _ (single place edge to k before leads alone) = path_on b failing place edge to k (path_of b failing marks place k before) (contains_at (targets_at b place) edge to leads)

pub known_path : (b : Body) (failing : List ℕ) (place : ℕ) (k : Before) → IsKnown b failing place k → HasPath b place k
known_path b failing place k is = path_of b failing is.marks place k is.before

pub known_reached : (b : Body) (failing : List ℕ) (place : ℕ) (k : Before) → IsKnown b failing place k → Reached (graph_of b) place
known_reached b failing place k is = let h = known_path b failing place k is in record { slots = h.slots; path = h.path }

pub known_count : (b : Body) (failing : List ℕ) (place : ℕ) (k : Before) (o : Option ℕ) → ((n : ℕ) → o ≡ Some n → HasSlots b place n) → Reached (graph_of b) place ↔ (is_some o ≡ true)
    → IsKnown b failing place k → o ≡ Some (length k.names)
known_count b failing place k None every reached is = absurd (never (reached.0 (known_reached b failing place k is)))
  where
    never : false ≡ true → ⊥
    never e = cc
known_count b failing place k (Some n) every reached is =
    let h = known_path b failing place k is in
    ap (λ (m : ℕ). Some m) (sym ((every n refl).every h.slots h.path) ∙ h.same)

pub reached_inside : (b : Body) (marks : List Bool) (place : ℕ) → AreReached b marks → Reached (graph_of b) place → place < length b.steps
reached_inside b marks place are reached = by_place (true_or_false (nat_lt place (length marks)))
  where
    by_place : (nat_lt place (length marks) ≡ true) ⊎ (nat_lt place (length marks) ≡ false) → place < length b.steps
    by_place (inl lt) = omega (arith, ltb-true place (length marks) lt, are.same_length)
    by_place (inr le) = absurd (clash (get_or marks place false) ((are.each place).1 reached) (get_or_past marks place false (ltb-false place (length marks) le)))

pub known_inside : (b : Body) (failing : List ℕ) (place : ℕ) (k : Before) → IsKnown b failing place k → place < length b.steps
known_inside b failing place k is = reached_inside b is.marks place is.are (known_reached b failing place k is)

-- ---- one edge into a place where no ways meet

count_cons : (to t : ℕ) (targets : List ℕ) → count_by (λ s. s == to) (t ∷ targets) ≡ (if t == to then 1 else 0) + count_by (λ s. s == to) targets
count_cons to t targets = sum_by-cons (λ s. if s == to then 1 else 0) t targets

one_here : (to t : ℕ) → t ≡ to → ◌≡◌ {A = ℕ} (if t == to then 1 else 0) 1
one_here to t e = subst (λ (s : ℕ). ◌≡◌ {A = ℕ} (if t == s then 1 else 0) 1) e (same t)
  where
    same : (n : ℕ) → ◌≡◌ {A = ℕ} (if n == n then 1 else 0) 1
    same n = grind arith

count_one : (to : ℕ) (targets : List ℕ) (i : ℕ) → slice_get targets i ≡ Some to → 1 ≤ count_by (λ s. s == to) targets
count_one to [] i e = absurd cc
count_one to (t ∷ targets) zero e = omega (arith, count_cons to t targets, one_here to t (some_is e))
count_one to (t ∷ targets) (suc i) e = omega (arith, count_cons to t targets, count_one to targets i e)

count_two : (to : ℕ) (targets : List ℕ) (i j : ℕ) → slice_get targets i ≡ Some to → slice_get targets j ≡ Some to → (i ≡ j → ⊥) → 2 ≤ count_by (λ s. s == to) targets
count_two to [] i j e f apart = absurd cc
count_two to (t ∷ targets) zero zero e f apart = absurd (apart refl)
count_two to (t ∷ targets) zero (suc j) e f apart = omega (arith, count_cons to t targets, one_here to t (some_is e), count_one to targets j f)
count_two to (t ∷ targets) (suc i) zero e f apart = omega (arith, count_cons to t targets, one_here to t (some_is f), count_one to targets i e)
count_two to (t ∷ targets) (suc i) (suc j) e f apart = omega (arith, count_cons to t targets, count_two to targets i j e f (λ same. apart (ap (λ (n : ℕ). suc n) same)))

-- the places to which the step at a place leads
abbrev leads_from : List Step → ℕ → List ℕ
leads_from steps place = unwrap_or (option_map targets_in (slice_get steps place)) []

ways_one : (to : ℕ) (steps : List Step) (marks : List Bool) (p i : ℕ) → get_or marks p false ≡ true → slice_get (leads_from steps p) i ≡ Some to → 1 ≤ ways_to to steps marks
ways_one to [] marks p i m e = absurd cc
ways_one to (s ∷ steps) [] p i m e = absurd cc
ways_one to (s ∷ steps) (true ∷ marks) zero i m e = omega (arith, count_one to (targets_in s) i e)
ways_one to (s ∷ steps) (false ∷ marks) zero i m e = absurd cc
ways_one to (s ∷ steps) (x ∷ marks) (suc p) i m e = omega (arith, ways_one to steps marks p i m e)

ways_two : (to : ℕ) (steps : List Step) (marks : List Bool) (p q i j : ℕ) → get_or marks p false ≡ true → get_or marks q false ≡ true
    → slice_get (leads_from steps p) i ≡ Some to → slice_get (leads_from steps q) j ≡ Some to → (p ≡ q → i ≡ j → ⊥) → 2 ≤ ways_to to steps marks
ways_two to [] marks p q i j m n e f apart = absurd cc
ways_two to (s ∷ steps) [] p q i j m n e f apart = absurd cc
ways_two to (s ∷ steps) (true ∷ marks) zero zero i j m n e f apart = omega (arith, count_two to (targets_in s) i j e f (λ same. apart refl same))
ways_two to (s ∷ steps) (false ∷ marks) zero q i j m n e f apart = absurd cc
ways_two to (s ∷ steps) (true ∷ marks) zero (suc q) i j m n e f apart = omega (arith, count_one to (targets_in s) i e, ways_one to steps marks q j n f)
ways_two to (s ∷ steps) (true ∷ marks) (suc p) zero i j m n e f apart = omega (arith, count_one to (targets_in s) j f, ways_one to steps marks p i m e)
ways_two to (s ∷ steps) (false ∷ marks) (suc p) zero i j m n e f apart = absurd cc
ways_two to (s ∷ steps) (x ∷ marks) (suc p) (suc q) i j m n e f apart =
    omega (arith, ways_two to steps marks p q i j m n e f (λ same. apart (ap (λ (r : ℕ). suc r) same)))

alone_one : (b : Body) (marks : List Bool) (to : ℕ) → meets b marks to ≡ false → edges_in b marks to ≡ 1
alone_one b marks to e = eqb-true (edges_in b marks to) 1 (not_false (edges_in b marks to == 1) (or_none (list_any (is_handler to) b.catchers) (not (edges_in b marks to == 1)) e).1)
  where
    not_false : (x : Bool) → not x ≡ false → x ≡ true
    not_false true e = refl
    not_false false e = absurd cc

pub one_edge : (b : Body) (marks : List Bool) (p q i j to : ℕ) → meets b marks to ≡ false → get_or marks p false ≡ true → get_or marks q false ≡ true
    → slice_get (targets_at b p) i ≡ Some to → slice_get (targets_at b q) j ≡ Some to → (p ≡ q) × (i ≡ j)
one_edge b marks p q i j to alone m n e f = by_place (true_or_false (p == q)) (true_or_false (i == j))
  where
    never : (p ≡ q → i ≡ j → ⊥) → ⊥
    never apart = omega (arith, alone_one b marks to alone, ways_two to b.steps marks p q i j m n e f apart)

    by_place : ((p == q) ≡ true) ⊎ ((p == q) ≡ false) → ((i == j) ≡ true) ⊎ ((i == j) ≡ false) → (p ≡ q) × (i ≡ j)
    by_place (inl a) (inl c) = (eqb-true p q a, eqb-true i j c)
    by_place (inl a) (inr c) = absurd (never (λ x y. eqb-false i j c y))
    by_place (inr a) c = absurd (never (λ x y. eqb-false p q a x))

pub entry_alone : (b : Body) (marks : List Bool) (p i : ℕ) → meets b marks 0 ≡ false → get_or marks p false ≡ true → slice_get (targets_at b p) i ≡ Some 0 → ⊥
entry_alone b marks p i alone m e = omega (arith, alone_one b marks 0 alone, ways_one 0 b.steps marks p i m e, one)
  where
    one : entry_ways 0 ≡ 1
    one = refl

pub marked : (b : Body) (failing : List ℕ) (marks : List Bool) (place : ℕ) (k : Before) → AreReached b marks → IsBefore b failing marks place k → get_or marks place false ≡ true
marked b failing marks place k are before = let h = path_of b failing marks place k before in (are.each place).1 (record { slots = h.slots; path = h.path })

-- What is known behind the one edge into a place comes along it.
pub record CameAlong (b : Body) (failing : List ℕ) (marks : List Bool) (place edge : ℕ) (k : Before) : Type 0 where
  pub before : Before
  pub there : IsBefore b failing marks place before
  pub is : k ≡ along_edge b failing place edge before

pub came_along : (b : Body) (failing : List ℕ) (marks : List Bool) (place edge to : ℕ) (k : Before) → AreReached b marks → IsBefore b failing marks to k → get_or marks place false ≡ true
    → slice_get (targets_at b place) edge ≡ Some to → meets b marks to ≡ false → CameAlong b failing marks place edge k
came_along b failing marks place edge _ _ are (met to k reached meet is) mark leads alone = absurd (clash (meets b marks to) meet alone)
came_along b failing marks place edge _ _ are (entered alone') mark leads alone = absurd (entry_alone b marks place edge alone mark leads)
came_along b failing marks place edge _ _ are (single q j to k before leads' alone') mark leads alone =
    let one = one_edge b marks q place j edge to alone (marked b failing marks q k are before) mark leads' leads in
    record {
      before = k;
      there = subst (λ (p : ℕ). IsBefore b failing marks p k) one.0 before;
      is = ap (λ (p : ℕ). along_edge b failing p j k) one.0 ∙ ap (λ (e : ℕ). along_edge b failing place e k) one.1;
    }

only_one : (ts : List ℕ) (to j : ℕ) → ts ≡ to ∷ [] → slice_get ts j ≡ Some to → j ≡ 0
only_one ts to j is e = first j (subst (λ (us : List ℕ). slice_get us j ≡ Some to) is e)
  where
    first : (j : ℕ) → slice_get (to ∷ []) j ≡ Some to → j ≡ 0
    first zero e = refl
    first (suc j) e = absurd cc

entry_starts : (b : Body) → inner_of b 0 ≡ true → ⊥
unfolding starts_at
entry_starts b inside = clash (inner_of b 0) inside refl

-- what is known inside a block comes from the place before
pub back_one : (b : Body) (failing : List ℕ) (marks : List Bool) (place : ℕ) (k : Before) → IsBefore b failing marks place k → meets b marks place ≡ false → inner_of b place ≡ true
    → CameAlong b failing marks (place - 1) 0 k
back_one b failing marks _ _ (met place k reached meet is) alone inside = absurd (clash (meets b marks place) meet alone)
back_one b failing marks _ _ (entered alone') alone inside = absurd (entry_starts b inside)
back_one b failing marks _ _ (single q j to k before leads alone') alone inside =
    let next = inner_next b q to (contains_at (targets_at b q) j to leads) inside in
    let last : q ≡ to - 1 = omega (arith, next.0) in
    record {
      before = k;
      there = subst (λ (p : ℕ). IsBefore b failing marks p k) last before;
      is = ap (λ (p : ℕ). along_edge b failing p j k) last ∙ ap (λ (e : ℕ). along_edge b failing (to - 1) e k) (only_one (targets_at b q) to j next.1 leads);
    }

-- ---- every place of which something is known is answered

if_true : (c x y : Bool) → c ≡ true → x ≡ true → (if c then x else y) ≡ true
if_true true x y e f = f
if_true false x y e f = absurd cc

if_is : {A : Type 0} (c : Bool) (x y : A) → c ≡ true → (if c then x else y) ≡ x
if_is true x y e = refl
if_is false x y e = absurd cc

if_not : {A : Type 0} (c : Bool) (x y : A) → c ≡ false → (if c then x else y) ≡ y
if_not true x y e = absurd cc
if_not false x y e = refl

pub answered_end : (b : Body) (ms : List Bool) (known : List (Option Before)) (place : ℕ) → (0 < place → ends b ms place ≡ true) → answered b ms known place ≡ answers_at ms known place
answered_end b ms known zero end = refl
answered_end b ms known (suc place) end = if_is (ends b ms (suc place)) (answers_at ms known (suc place)) (answered b ms known place) (end (omega arith))

pub answered_back : (b : Body) (ms : List Bool) (known : List (Option Before)) (place : ℕ) → 0 < place → ends b ms place ≡ false → answered b ms known place ≡ answered b ms known (place - 1)
answered_back b ms known zero lt on = absurd (omega arith)
answered_back b ms known (suc place) lt on =
    let last : suc place - 1 ≡ place = omega arith in
    if_not (ends b ms (suc place)) (answers_at ms known (suc place)) (answered b ms known place) on ∙ ap (answered b ms known) (sym last)

pub back_on : (b : Body) (ms : List Bool) (place : ℕ) → goes_back b ms place ≡ true → (0 < place) × (ends b ms place ≡ false)
back_on b ms place e = let two = and_parts (nat_lt 0 place) (not (ends b ms place)) e in (ltb-true 0 place two.0, not_is (ends b ms place) two.1)
  where
    not_is : (x : Bool) → not x ≡ true → x ≡ false
    not_is true e = absurd cc
    not_is false e = refl

pub back_stops : (b : Body) (ms : List Bool) (place : ℕ) → goes_back b ms place ≡ false → 0 < place → ends b ms place ≡ true
back_stops b ms place e lt = by_test (true_or_false (ends b ms place))
  where
    positive : (place : ℕ) → 0 < place → nat_lt 0 place ≡ true
    positive place lt = by_less place lt (true_or_false (nat_lt 0 place))
      where
        by_less : (n : ℕ) → 0 < n → (nat_lt 0 n ≡ true) ⊎ (nat_lt 0 n ≡ false) → nat_lt 0 n ≡ true
        by_less n lt (inl e) = e
        by_less n lt (inr e) = absurd (omega (arith, lt, ltb-false 0 n e))

    both : (x y : Bool) → x ≡ true → y ≡ false → (x && not y) ≡ true
    both true true e f = absurd cc
    both true false e f = refl
    both false y e f = absurd cc

    by_test : (ends b ms place ≡ true) ⊎ (ends b ms place ≡ false) → ends b ms place ≡ true
    by_test (inl end) = end
    by_test (inr on) = absurd (clash (goes_back b ms place) (both (nat_lt 0 place) (ends b ms place) (positive place lt) on) e)

pub ends_parts : (b : Body) (ms : List Bool) (place : ℕ) → ends b ms place ≡ false → (get_or ms place false ≡ false) × (inner_of b place ≡ true) × (refines_at (operation_at b (place - 1)) ≡ false)
ends_parts b ms place e = parts (get_or ms place false) (starts_at b place) (refines_at (operation_at b (place - 1))) e
  where
    parts : (x y z : Bool) → (x || y || z) ≡ false → (x ≡ false) × (not y ≡ true) × (z ≡ false)
    parts false false false e = (refl, refl, refl)
    parts false false true e = absurd cc
    parts false true z e = absurd cc
    parts true y z e = absurd cc

met_ends : (b : Body) (ms : List Bool) (place : ℕ) → get_or ms place false ≡ true → ends b ms place ≡ true
met_ends b ms place e = first (get_or ms place false) (starts_at b place) (refines_at (operation_at b (place - 1))) e
  where
    first : (x y z : Bool) → x ≡ true → (x || y || z) ≡ true
    first true y z e = refl
    first false y z e = absurd cc

met_answers : (ms : List Bool) (known : List (Option Before)) (place : ℕ) → get_or ms place false ≡ true → answers_at ms known place ≡ true
met_answers ms known place e = first (get_or ms place false) (place == 0) (is_some (row_at known place)) e
  where
    first : (x y z : Bool) → x ≡ true → (x || y || z) ≡ true
    first true y z e = refl
    first false y z e = absurd cc

entry_answers : (ms : List Bool) (known : List (Option Before)) → answers_at ms known 0 ≡ true
entry_answers ms known = second (get_or ms 0 false) (is_some (row_at known 0))
  where
    second : (x z : Bool) → (x || 0 == 0 || z) ≡ true
    second true z = refl
    second false z = refl

pub all_answered : (b : Body) (failing : List ℕ) (marks ms : List Bool) (known : List (Option Before)) (place : ℕ) (k : Before) → AreReached b marks → AreMeets b ms
    → ((p : ℕ) → p < length b.steps → IsLeft b ms known p) → IsBefore b failing marks place k → answered b ms known place ≡ true
all_answered b failing marks ms known _ _ are meets_are left (met place k reached meet is) =
    let here = meets_are.each marks place are (reached_inside b marks place are reached) ∙ meet in
    answered_end b ms known place (λ lt. met_ends b ms place here) ∙ met_answers ms known place here
all_answered b failing marks ms known _ _ are meets_are left (entered alone) = entry_answers ms known
all_answered b failing marks ms known _ _ are meets_are left (single place edge to k before leads alone) =
    on_edge (all_answered b failing marks ms known place k are meets_are left before) (path_of b failing marks place k before) (path_of b failing marks to (along_edge b failing place edge k) (single place edge to k before leads alone))
  where
    on_edge : answered b ms known place ≡ true → HasPath b place k → HasPath b to (along_edge b failing place edge k) → answered b ms known to ≡ true
    on_edge here came there = by_ends (true_or_false (ends b ms to))
      where
        inside : to < length b.steps
        inside = reached_inside b marks to are (record { slots = there.slots; path = there.path })

        filled : IsFilled b ms known to
        filled = (left place (reached_inside b marks place are (record { slots = came.slots; path = came.path }))).each edge to (record { slots = came.slots; path = came.path }) here leads

        by_ends : (ends b ms to ≡ true) ⊎ (ends b ms to ≡ false) → answered b ms known to ≡ true
        by_ends (inl end) = answered_end b ms known to (λ lt. end) ∙ filled.inside inside end
        by_ends (inr on) =
            let next = inner_next b place to (contains_at (targets_at b place) edge to leads) (ends_parts b ms to on).1 in
            let last : to - 1 ≡ place = omega (arith, next.0) in
            answered_back b ms known to (omega (arith, next.0)) on ∙ ap (answered b ms known) last ∙ here
