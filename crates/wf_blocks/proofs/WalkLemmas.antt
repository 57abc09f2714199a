-- How a visit of a block goes on.
use Rattle.std.proofs.Common.{◌≡◌, ℕ, zero, suc, ◌+◌, ◌<◌, ◌≤◌, Bool, true, false, not, ◌&&◌, ◌||◌, List, [], ◌∷◌, ◌++◌, length, Option, Some, None, refl, sym, ap, subst, ◌∙◌, arith, inl, inr}
use Rattle.std.specs.Prelude.{◌⊎◌, Contains, All, map, slice_get, option_and_then, is_none}
use Rattle.std.specs.List.{range_with_len}
use Rattle.std.proofs.lemmas.Bool.{ltb-false}
use Rattle.std.proofs.lemmas.List.{length-map, length-append}
use Rattle.std.proofs.lemmas.List.FromFn.{length-range_with_len}
use Rattle.std.proofs.lemmas.List.Elements.{Contains-push_cases}
use Rattle.wf_operation.specs.declared.operation.Operation.{Operation}
use Rattle.wf_operation.specs.declared.slot.SlotKind.{SlotKind}
use Rattle.wf_operation.specs.declared.slot.SlotKind.TheVariants.{Int, Ref, Long, LongRest, Unused}
use Rattle.wf_operation.specs.declared.slot.Source.TheVariants.{Keep, Gives}
use Rattle.wf_operation.specs.declared.slot.Wanted.{Wanted}
use Rattle.wf_operation.specs.Effects.{slots_after, source_at}
use Rattle.wf_operation.specs.Slots.{allows}
use Rattle.wf_blocks.specs.declared.body.Body.{Body}
use Rattle.wf_blocks.specs.declared.body.Step.{Step}
use Rattle.wf_blocks.specs.declared.seen.Seen.{Seen}
use Rattle.wf_blocks.specs.SeenKinds.{has, all_allowed}
use Rattle.wf_blocks.specs.Bodies.{locals_of, fails_with, operation_fails, operation_sources, step_fails, operation_at, sources_at, targets_at, catchers_at, falls_only, inner_of, graph_of}
use Rattle.wf_blocks.specs.Flowing.{Flowed, WasSeen, Came, DiffersThere, IsLess}
use Rattle.wf_blocks.specs.Graphs.{Edge, Graph, fails, unmet, BadPaths, fault, depths, kind_at, edge_by, caught_sources}
use Rattle.wf_blocks.specs.Rows.{seen_at, seen_from, seen_after, row_in, HasRow, Grows, Closed, ClosedFrom, closed, Leaves, IsLeft, Settled}
use Rattle.wf_blocks.specs.Walking.{Working, IsVisited, Walking, IsSound, IsUnsound, fails_there, unmet_there, row_after, row_thrown, block_goes_on}
use Rattle.wf_blocks.specs.Advancing.{width_of, Ready, Advances}
use Rattle.wf_blocks.proofs.SeenLemmas.{is_false, or_none}
use Rattle.wf_blocks.proofs.PathLemmas.{left_after, any_left}
use Rattle.wf_blocks.proofs.FlowLemmas.{row_grows, grows_itself, grows_both}
use Rattle.wf_blocks.proofs.EdgeLemmas.{edge_cases, edge_of_target, edge_of_catcher, inner_next, inner_falls, inner_is_no_handler, only_next, falls_there}

-- ---- faults

-- a kind that isn't as it is wanted
pub record NotAllowed (w : Wanted) (s : Seen) : Type 0 where
  pub kind : SlotKind
  pub there : has s kind ≡ true
  pub not_so : allows w kind ≡ false

and_fails : (x y : Bool) → (x && y) ≡ false → (x ≡ false) ⊎ (y ≡ false)
and_fails true y e = inr e
and_fails false y e = inl refl

implies_fails : (x y : Bool) → (not x || y) ≡ false → (x ≡ true) × (y ≡ false)
implies_fails true y e = (refl, e)
implies_fails false y e = absurd cc

kind_fails : (w : Wanted) (s : Seen) (k : SlotKind) → (not (has s k) || allows w k) ≡ false → NotAllowed w s
kind_fails w s k e = let two = implies_fails (has s k) (allows w k) e in record { kind = k; there = two.0; not_so = two.1 }

pub not_allowed : (w : Wanted) (s : Seen) → all_allowed w s ≡ false → NotAllowed w s
not_allowed w s e =
    elim (and_fails _ _ e) [
      | inr unused ↦ kind_fails w s Unused unused
      | inl four ↦ elim (and_fails _ _ four) [
        | inr rest ↦ kind_fails w s LongRest rest
        | inl three ↦ elim (and_fails _ _ three) [
          | inr long ↦ kind_fails w s Long long
          | inl two ↦ elim (and_fails _ _ two) [
            | inr reference ↦ kind_fails w s Ref reference
            | inl int ↦ kind_fails w s Int int
          ]
        ]
      ]
    ]

pub unsound_bad : (g : Graph) (place : ℕ) (row : List Seen) → IsLeft g place row → IsUnsound g place row → BadPaths g
unsound_bad g place row left (fails_there e) =
    let l = any_left g place row left in
    fault place l.slots l.path (fails place l.slots (ap (g.fails place) l.count_is ∙ e))
unsound_bad g place row left (unmet_there i lt e) =
    let n = not_allowed (g.wants place (length row) i) (seen_at row i) e in
    let l = left.each i n.kind n.there in
    fault place l.slots l.path (unmet place l.slots i (subst (λ (m : ℕ). i < m) (sym l.count_is) lt)
    (ap (λ (m : ℕ). allows (g.wants place m i) (kind_at l.slots i)) l.count_is ∙ ap (allows (g.wants place (length row) i)) l.kind_is ∙ n.not_so))

-- ---- ways

-- a way from a place whose row is this one to another place, to which it brings that row
pub record WayTo (g : Graph) (place : ℕ) (row : List Seen) (to : ℕ) (after : List Seen) : Type 0 where
  pub way : Edge
  pub there : Contains (g.edges place (length row)) way
  pub to_is : way.to ≡ to
  pub after_is : seen_after row way.sources ≡ after

-- the same to each of these places, which start blocks
pub record AreWays (g : Graph) (inner : ℕ → Bool) (place : ℕ) (row : List Seen) (targets : List ℕ) (after : List Seen) : Type 0 where
  pub each : (to : ℕ) → Contains targets to → WayTo g place row to after
  pub start : (to : ℕ) → Contains targets to → inner to ≡ false

pub left_there : (g : Graph) (place : ℕ) (row : List Seen) (to : ℕ) (after : List Seen) → IsLeft g place row → WayTo g place row to after → IsLeft g to after
left_there g place row to after left w =
    subst (λ (r : List Seen). IsLeft g to r) w.after_is (subst (λ (p : ℕ). IsLeft g p (seen_after row w.way.sources)) w.to_is (left_after g place row w.way left w.there))

here_grows : (g : Graph) (inner : ℕ → Bool) (a b : ℕ → Option (List Seen)) (place : ℕ) (row : List Seen) → Grows a b → Closed g inner a place row → Closed g inner b place row
here_grows g inner a b place row grows c = record { sound = c.sound; met = c.met; follows = λ e way start. row_grows a b e.to (seen_after row e.sources) grows (c.follows e way start) }

pub closed_grows : (g : Graph) (inner : ℕ → Bool) (a b : ℕ → Option (List Seen)) (place : ℕ) (row : List Seen) → Grows a b → ClosedFrom g inner a place row → ClosedFrom g inner b place row
closed_grows g inner a b _ _ grows (closed place row here rest) =
    closed place row (here_grows g inner a b place row grows here) (λ e way inside. closed_grows g inner a b e.to (seen_after row e.sources) grows (rest e way inside))

some_of : (o : Option (List Seen)) → (o ≡ None → ⊥) → (row : List Seen) × (o ≡ Some row)
some_of None never = absurd (never refl)
some_of (Some row) never = (row, refl)

of_count : (g : Graph) (place m n i : ℕ) (k : SlotKind) → m ≡ n → Leaves g place m i k → Leaves g place n i k
of_count g place m n i k e l = record { slots = l.slots; path = l.path; count_is = l.count_is ∙ e; kind_is = l.kind_is }

-- the visit after a row was let into these places
pub walking_on : (g : Graph) (inner : ℕ → Bool) (a b : List (Option (List Seen))) (p q : List ℕ) (first : ℕ) (first_row : List Seen) (place : ℕ) (row : List Seen) (targets : List ℕ) (after : List Seen)
    → Walking g inner a p first first_row place row → AreWays g inner place row targets after → Flowed targets after a b p q → Walking g inner b q first first_row place row
walking_on g inner a b p q first first_row place row targets after w ways f = record {
  entry = row_grows (row_in a) (row_in b) 0 _ f.grows w.entry;
  starts = λ at r e. starts at (f.places at r e);
  left = λ at r e. record { each = λ i k h. left at r i k (f.least at r i k e h) };
  either = λ at r e. either at r (f.kept at r e);
  here = w.here;
  rest = λ later grows. w.rest later (grows_both (row_in a) (row_in b) later f.grows grows);
}
  where
    starts : (at : ℕ) → (row_in a at ≡ None → ⊥) ⊎ Contains targets at → inner at ≡ false
    starts at (inl never) = let was = some_of (row_in a at) never in w.starts at was.0 was.1
    starts at (inr h) = ways.start at h

    left : (at : ℕ) (r : List Seen) (i : ℕ) (k : SlotKind) → WasSeen a at (length r) i k ⊎ Came targets after at (length r) i k → Leaves g at (length r) i k
    left at r i k (inl v) = of_count g at (length v.row) (length r) i k v.count_is ((w.left at v.row v.there).each i k v.seen)
    left at r i k (inr c) = of_count g at (length after) (length r) i k c.count_is ((left_there g place row at after w.here (ways.each at c.here)).each i k c.seen)

    either : (at : ℕ) (r : List Seen) → (row_in a at ≡ Some r) ⊎ Contains q at → Contains q at ⊎ (ClosedFrom g inner (row_in b) at r ⊎ IsVisited at r first first_row)
    either at r (inr h) = inl h
    either at r (inl e) = elim (w.either at r e) [
      | inl h ↦ inl (f.queued at h)
      | inr other ↦ elim other [
        | inl c ↦ inr (inl (closed_grows g inner (row_in a) (row_in b) at r f.grows c))
        | inr v ↦ inr (inr v)
      ]
    ]

-- depths that differ
pub differ_bad : (g : Graph) (inner : ℕ → Bool) (a : List (Option (List Seen))) (p : List ℕ) (first : ℕ) (first_row : List Seen) (place : ℕ) (row : List Seen) (targets : List ℕ) (after : List Seen)
    → Walking g inner a p first first_row place row → AreWays g inner place row targets after → DiffersThere targets after a → BadPaths g
differ_bad g inner a p first first_row place row targets after w ways d =
    let one = any_left g d.to d.row (w.left d.to d.row d.there) in
    let other = any_left g d.to after (left_there g place row d.to after w.here (ways.each d.to d.among)) in
    depths d.to one.slots other.slots one.path other.path (λ e. d.differs (sym one.count_is ∙ e ∙ other.count_is))

-- the block ends
pub visited : (g : Graph) (inner : ℕ → Bool) (b : List (Option (List Seen))) (q : List ℕ) (first : ℕ) (first_row : List Seen) (place : ℕ) (row : List Seen)
    → Walking g inner b q first first_row place row → Closed g inner (row_in b) place row
    → ((e : Edge) → Contains (g.edges place (length row)) e → inner e.to ≡ true → ⊥) → Working g inner b q
visited g inner b q first first_row place row w here ends = record {
  entry = w.entry;
  starts = w.starts;
  left = w.left;
  either = λ at r e. either at r (w.either at r e);
}
  where
    whole : ClosedFrom g inner (row_in b) first first_row
    whole = w.rest (row_in b) (grows_itself (row_in b)) (closed place row here (λ e way inside. absurd (ends e way inside)))

    either : (at : ℕ) (r : List Seen) → Contains q at ⊎ (ClosedFrom g inner (row_in b) at r ⊎ IsVisited at r first first_row) → Contains q at ⊎ ClosedFrom g inner (row_in b) at r
    either at r (inl h) = inl h
    either at r (inr (inl c)) = inr c
    either at r (inr (inr v)) =
        inr (subst (λ (x : ℕ). ClosedFrom g inner (row_in b) x r) (sym v.place_is) (subst (λ (x : List Seen). ClosedFrom g inner (row_in b) first x) (sym v.row_is) whole))

-- what the ways inside the block are
pub record GoesTo (g : Graph) (inner : ℕ → Bool) (place : ℕ) (row : List Seen) (to : ℕ) (after : List Seen) : Type 0 where
  pub way : WayTo g place row to after
  pub only : (e : Edge) → Contains (g.edges place (length row)) e → inner e.to ≡ true → (e.to ≡ to) × (seen_after row e.sources ≡ after)

-- the block goes on
pub goes_on : (g : Graph) (inner : ℕ → Bool) (b : List (Option (List Seen))) (q : List ℕ) (first : ℕ) (first_row : List Seen) (place : ℕ) (row : List Seen) (to : ℕ) (after : List Seen)
    → Walking g inner b q first first_row place row → Closed g inner (row_in b) place row → GoesTo g inner place row to after
    → Walking g inner b q first first_row to after
goes_on g inner b q first first_row place row to after w here goes = record {
  entry = w.entry;
  starts = w.starts;
  left = w.left;
  either = w.either;
  here = left_there g place row to after w.here goes.way;
  rest = λ later grows from_there. w.rest later grows (closed place row (here_grows g inner (row_in b) later place row grows here)
      (λ e way inside. let two = goes.only e way inside in
      subst (λ (x : ℕ). ClosedFrom g inner later x (seen_after row e.sources)) (sym two.0) (subst (λ (r : List Seen). ClosedFrom g inner later to r) (sym two.1) from_there)));
}

-- ---- the ways of a body

clash : (x : Bool) → x ≡ true → x ≡ false → ⊥
clash x e f = cc

both_true : (x y : Bool) → x ≡ true → y ≡ true → (x && y) ≡ true
both_true true y e f = f
both_true false y e f = absurd cc

pub target_way : (b : Body) (place : ℕ) (row : List Seen) (to : ℕ) → Contains (targets_at b place) to → WayTo (graph_of b) place row to (row_after b place row)
target_way b place row to h = record { way = edge_by (sources_at b place (length row)) to; there = edge_of_target b place (length row) to h; to_is = refl; after_is = refl }

pub target_ways : (b : Body) (place : ℕ) (row : List Seen) → block_goes_on b place ≡ false → AreWays (graph_of b) (inner_of b) place row (targets_at b place) (row_after b place row)
target_ways b place row ends = record {
  each = λ to h. target_way b place row to h;
  start = λ to h. is_false (inner_of b to) (λ inside.
      let next = (inner_next b place to h inside).0 in
      clash (block_goes_on b place) (both_true (falls_only place (targets_at b place)) (inner_of b (place + 1)) (inner_falls b place to h inside) (subst (λ (x : ℕ). inner_of b x ≡ true) next inside)) ends);
}

pub catcher_ways : (b : Body) (place : ℕ) (row : List Seen) → AreWays (graph_of b) (inner_of b) place row (catchers_at b place) (row_thrown b row)
catcher_ways b place row = record {
  each = λ to h. record { way = edge_by (caught_sources (locals_of b)) to; there = edge_of_catcher b place (length row) to h; to_is = refl; after_is = refl };
  start = λ to h. is_false (inner_of b to) (λ inside. inner_is_no_handler b place to h inside);
}

-- rows into which everything was let that comes from a place
pub closed_by : (b : Body) (rows : ℕ → Option (List Seen)) (place : ℕ) (row : List Seen) → IsSound (graph_of b) place row
    → ((to : ℕ) → Contains (targets_at b place) to → inner_of b to ≡ false → HasRow rows to (row_after b place row))
    → ((to : ℕ) → Contains (catchers_at b place) to → HasRow rows to (row_thrown b row)) → Closed (graph_of b) (inner_of b) rows place row
closed_by b rows place row sound targets catchers = record {
  sound = sound.sound;
  met = sound.met;
  follows = λ e way start. elim (edge_cases b place (length row) e way) [
    | inl one ↦ subst (λ (w : Edge). HasRow rows e.to (seen_after row w.sources)) (sym one.is) (targets e.to one.among start)
    | inr other ↦ subst (λ (w : Edge). HasRow rows e.to (seen_after row w.sources)) (sym other.is) (catchers e.to other.among)
  ];
}

-- no way of a place where the block ends leads into it
pub no_way_inside : (b : Body) (place : ℕ) (row : List Seen) → block_goes_on b place ≡ false → (e : Edge) → Contains ((graph_of b).edges place (length row)) e → inner_of b e.to ≡ true → ⊥
no_way_inside b place row ends e way inside =
    elim (edge_cases b place (length row) e way) [
      | inl one ↦ clash (inner_of b e.to) inside ((target_ways b place row ends).start e.to one.among)
      | inr other ↦ inner_is_no_handler b place e.to other.among inside
    ]

-- the targets of a place where the block goes on
pub record GoesOn (b : Body) (place : ℕ) : Type 0 where
  pub target : Contains (targets_at b place) (place + 1)
  pub inside : inner_of b (place + 1) ≡ true
  pub only : (to : ℕ) → Contains (targets_at b place) to → to ≡ place + 1

and_true : (x y : Bool) → (x && y) ≡ true → (x ≡ true) × (y ≡ true)
and_true true y e = (refl, e)
and_true false y e = absurd cc

pub falls_on : (b : Body) (place : ℕ) → block_goes_on b place ≡ true → GoesOn b place
falls_on b place e =
    let two = and_true (falls_only place (targets_at b place)) (inner_of b (place + 1)) e in
    record { target = falls_there place (targets_at b place) two.0; inside = two.1; only = λ to h. (only_next place to (targets_at b place) two.0 h).0 }

pub goes_inside : (b : Body) (place : ℕ) (row : List Seen) → block_goes_on b place ≡ true → GoesTo (graph_of b) (inner_of b) place row (place + 1) (row_after b place row)
goes_inside b place row e =
    let g = falls_on b place e in
    record {
      way = target_way b place row (place + 1) g.target;
      only = λ w way inside. elim (edge_cases b place (length row) w way) [
        | inl one ↦ (g.only w.to one.among, ap (λ (x : Edge). seen_after row x.sources) one.is)
        | inr other ↦ absurd (inner_is_no_handler b place w.to other.among inside)
      ];
    }

-- ---- room

pub or_none4 : (x y z u : Bool) → (x || y || z || u) ≡ false → (x ≡ false) × (y ≡ false) × (z ≡ false) × (u ≡ false)
or_none4 x y z u e =
    let one = or_none (x || y || z) u e in
    let two = or_none (x || y) z one.0 in
    let three = or_none x y two.0 in
    (three.0, three.1, two.1, one.1)

-- an instruction that doesn't fail leaves no more slots than there may be
pub slots_fit : (b : Body) (o : Operation) (n : ℕ) → fails_with b o n ≡ false → slots_after o.effect n ≤ locals_of b + b.max_stack
slots_fit b o n e = ltb-false (locals_of b + b.max_stack) (slots_after o.effect n) (or_none4 _ _ _ _ e).1

pub sources_fit : (b : Body) (place n : ℕ) → (graph_of b).fails place n ≡ false → length (sources_at b place n) ≤ locals_of b + b.max_stack
unfolding graph_of
sources_fit b place n e = by_step (slice_get b.steps place) (or_none _ _ e).0
  where
    by_operation : (o : Option Operation) → operation_fails b o n ≡ false → length (operation_sources o n) ≤ locals_of b + b.max_stack
    by_operation None e = absurd cc
    by_operation (Some o) e = omega (arith, slots_fit b o n e, length-map (range_with_len 0 (slots_after o.effect n)) (source_at o.effect n), length-range_with_len 0 (slots_after o.effect n))

    by_step : (s : Option Step) → step_fails b s n ≡ false → length (operation_sources (option_and_then (λ (t : Step). t.operation) s) n) ≤ locals_of b + b.max_stack
    by_step None e = absurd cc
    by_step (Some s) e = by_operation s.operation (or_none (operation_fails b s.operation n) (is_none s.targets) e).0

-- a place that doesn't fail is one
pub sound_inside : (b : Body) (place n : ℕ) → (graph_of b).fails place n ≡ false → place < length b.steps
unfolding graph_of
sound_inside b place n e = at_step b.steps place (or_none _ _ e).0
  where
    at_step : (steps : List Step) (i : ℕ) → step_fails b (slice_get steps i) n ≡ false → i < length steps
    at_step [] i e = absurd cc
    at_step (s ∷ steps) zero e = omega arith
    at_step (s ∷ steps) (suc i) e = omega (arith, at_step steps i e)

pub operation_fits : (b : Body) (place n : ℕ) (o : Operation) → Some o ≡ operation_at b place → (graph_of b).fails place n ≡ false → slots_after o.effect n ≤ locals_of b + b.max_stack
unfolding graph_of
operation_fits b place n o is e = by_step (slice_get b.steps place) is (or_none _ _ e).0
  where
    by_operation : (p : Option Operation) → Some o ≡ p → operation_fails b p n ≡ false → slots_after o.effect n ≤ locals_of b + b.max_stack
    by_operation None is e = absurd cc
    by_operation (Some p) is e = let same : p ≡ o = cc in subst (λ (q : Operation). slots_after q.effect n ≤ locals_of b + b.max_stack) same (slots_fit b p n e)

    by_step : (s : Option Step) → Some o ≡ option_and_then (λ (t : Step). t.operation) s → step_fails b s n ≡ false → slots_after o.effect n ≤ locals_of b + b.max_stack
    by_step None is e = absurd cc
    by_step (Some s) is e = by_operation s.operation is (or_none (operation_fails b s.operation n) (is_none s.targets) e).0

-- ---- what a step leaves

pub after_low : (b : Body) (place : ℕ) (row : List Seen) → (graph_of b).fails place (length row) ≡ false → length (row_after b place row) ≤ width_of b
after_low b place row e = omega (arith, sources_fit b place (length row) e, length-map (sources_at b place (length row)) (seen_from row))

pub thrown_low : (b : Body) (row : List Seen) → length (row_thrown b row) ≤ width_of b
thrown_low b row =
    omega (
      arith,
      length-map (caught_sources (locals_of b)) (seen_from row),
      length-append (map Keep (range_with_len 0 (locals_of b))) (Gives Ref ∷ []),
      length-map (range_with_len 0 (locals_of b)) Keep,
      length-range_with_len 0 (locals_of b),
    )

pub advances_by : (b : Body) (targets : List ℕ) (after : List Seen) (old new : List (Option (List Seen))) (p q : List ℕ) → Ready b old p → Flowed targets after old new p q
    → All (λ t. t < length b.steps) targets → IsLess (width_of b) old new p q → Advances b old new p q
advances_by b targets after old new p q ready f lower less = record {
  ready = record { count = f.same_length ∙ ready.count; fits = less.fits; below = f.below (length b.steps) ready.below lower };
  less = less.less;
}

pub advances_both : (b : Body) (x y z : List (Option (List Seen))) (p q r : List ℕ) → Advances b x y p q → Advances b y z q r → Advances b x z p r
advances_both b x y z p q r f s = record { ready = s.ready; less = omega (arith, f.less, s.less) }

-- the visit goes on to the next place
pub step_on : (b : Body) (x y : List (Option (List Seen))) (p q : List ℕ) (first : ℕ) (first_row : List Seen) (place : ℕ) (row : List Seen)
    → IsSound (graph_of b) place row → Flowed (catchers_at b place) (row_thrown b row) x y p q → block_goes_on b place ≡ true
    → Walking (graph_of b) (inner_of b) x p first first_row place row → Walking (graph_of b) (inner_of b) y q first first_row (place + 1) (row_after b place row)
step_on b x y p q first first_row place row sound f on w =
    let w' = walking_on (graph_of b) (inner_of b) x y p q first first_row place row (catchers_at b place) (row_thrown b row) w (catcher_ways b place row) f in
    let g = falls_on b place on in
    let here = closed_by b (row_in y) place row sound (λ to h start. absurd (clash (inner_of b to) (subst (λ (t : ℕ). inner_of b t ≡ true) (sym (g.only to h)) g.inside) start)) f.there in
    goes_on (graph_of b) (inner_of b) y q first first_row place row (place + 1) (row_after b place row) w' here (goes_inside b place row on)

-- the visit ends
pub step_done : (b : Body) (x y z : List (Option (List Seen))) (p q r : List ℕ) (first : ℕ) (first_row : List Seen) (place : ℕ) (row : List Seen)
    → IsSound (graph_of b) place row → Flowed (catchers_at b place) (row_thrown b row) x y p q → block_goes_on b place ≡ false
    → Flowed (targets_at b place) (row_after b place row) y z q r
    → Walking (graph_of b) (inner_of b) x p first first_row place row → Working (graph_of b) (inner_of b) z r
step_done b x y z p q r first first_row place row sound f ends s w =
    let w' = walking_on (graph_of b) (inner_of b) x y p q first first_row place row (catchers_at b place) (row_thrown b row) w (catcher_ways b place row) f in
    let w'' = walking_on (graph_of b) (inner_of b) y z q r first first_row place row (targets_at b place) (row_after b place row) w' (target_ways b place row ends) s in
    let here = closed_by b (row_in z) place row sound (λ to h start. s.there to h) (λ to h. row_grows (row_in y) (row_in z) to (row_thrown b row) s.grows (f.there to h)) in
    visited (graph_of b) (inner_of b) z r first first_row place row w'' here (no_way_inside b place row ends)

pub thrown_differs : (b : Body) (x : List (Option (List Seen))) (p : List ℕ) (first : ℕ) (first_row : List Seen) (place : ℕ) (row : List Seen)
    → DiffersThere (catchers_at b place) (row_thrown b row) x → Walking (graph_of b) (inner_of b) x p first first_row place row → BadPaths (graph_of b)
thrown_differs b x p first first_row place row d w = differ_bad (graph_of b) (inner_of b) x p first first_row place row (catchers_at b place) (row_thrown b row) w (catcher_ways b place row) d

pub after_differs : (b : Body) (x y : List (Option (List Seen))) (p q : List ℕ) (first : ℕ) (first_row : List Seen) (place : ℕ) (row : List Seen)
    → Flowed (catchers_at b place) (row_thrown b row) x y p q → block_goes_on b place ≡ false → DiffersThere (targets_at b place) (row_after b place row) y
    → Walking (graph_of b) (inner_of b) x p first first_row place row → BadPaths (graph_of b)
after_differs b x y p q first first_row place row f ends d w =
    let w' = walking_on (graph_of b) (inner_of b) x y p q first first_row place row (catchers_at b place) (row_thrown b row) w (catcher_ways b place row) f in
    differ_bad (graph_of b) (inner_of b) y q first first_row place row (targets_at b place) (row_after b place row) w' (target_ways b place row ends) d

-- ---- the worklist

-- a place that was taken off the queue and has no row
pub popped_nothing : (b : Body) (x : List (Option (List Seen))) (p : List ℕ) (first : ℕ) → row_in x first ≡ None → Working (graph_of b) (inner_of b) x (p ++ first ∷ []) → Working (graph_of b) (inner_of b) x p
popped_nothing b x p first none w = record {
  entry = w.entry;
  starts = w.starts;
  left = w.left;
  either = λ at r e. either at r e (w.either at r e);
}
  where
    no_row : (o : Option (List Seen)) (r : List Seen) → o ≡ None → o ≡ Some r → ⊥
    no_row o r e f = cc

    waiting : (at : ℕ) (r : List Seen) → row_in x at ≡ Some r → Contains p at ⊎ (first ≡ at) → Contains p at ⊎ ClosedFrom (graph_of b) (inner_of b) (row_in x) at r
    waiting at r e (inl h) = inl h
    waiting at r e (inr same) = absurd (no_row (row_in x at) r (subst (λ (q : ℕ). row_in x q ≡ None) same none) e)

    either : (at : ℕ) (r : List Seen) → row_in x at ≡ Some r → Contains (p ++ first ∷ []) at ⊎ ClosedFrom (graph_of b) (inner_of b) (row_in x) at r → Contains p at ⊎ ClosedFrom (graph_of b) (inner_of b) (row_in x) at r
    either at r e (inr c) = inr c
    either at r e (inl h) = waiting at r e (Contains-push_cases p first at h)

-- the visit of its block begins
pub popped : (b : Body) (x : List (Option (List Seen))) (p : List ℕ) (first : ℕ) (row : List Seen) → row_in x first ≡ Some row → Working (graph_of b) (inner_of b) x (p ++ first ∷ [])
    → Walking (graph_of b) (inner_of b) x p first row first row
popped b x p first row there w = record {
  entry = w.entry;
  starts = w.starts;
  left = w.left;
  either = λ at r e. either at r e (w.either at r e);
  here = w.left first row there;
  rest = λ later grows c. c;
}
  where
    same_row : (o : Option (List Seen)) (r s : List Seen) → o ≡ Some r → o ≡ Some s → r ≡ s
    same_row o r s e f = cc

    waiting : (at : ℕ) (r : List Seen) → row_in x at ≡ Some r → Contains p at ⊎ (first ≡ at) → Contains p at ⊎ (ClosedFrom (graph_of b) (inner_of b) (row_in x) at r ⊎ IsVisited at r first row)
    waiting at r e (inl h) = inl h
    waiting at r e (inr same) = inr (inr (record { place_is = sym same; row_is = same_row (row_in x at) r row e (subst (λ (q : ℕ). row_in x q ≡ Some row) same there) }))

    either : (at : ℕ) (r : List Seen) → row_in x at ≡ Some r → Contains (p ++ first ∷ []) at ⊎ ClosedFrom (graph_of b) (inner_of b) (row_in x) at r → Contains p at ⊎ (ClosedFrom (graph_of b) (inner_of b) (row_in x) at r ⊎ IsVisited at r first row)
    either at r e (inr c) = inr (inl c)
    either at r e (inl h) = waiting at r e (Contains-push_cases p first at h)

-- nothing waits
pub all_done : (g : Graph) (inner : ℕ → Bool) (x : List (Option (List Seen))) → Working g inner x [] → Settled g inner (row_in x)
all_done g inner x w = record {
  entry = w.entry;
  left = w.left;
  starts = w.starts;
  closed_from = λ at r e. elim (w.either at r e) [ inl h ↦ absurd (nothing at h) | inr c ↦ c ];
}
  where
    nothing : (at : ℕ) → Contains [] at → ⊥
    nothing at (k, lt, is) = omega arith
