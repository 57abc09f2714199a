-- The ways out of a place.
use Rattle.std.proofs.Common.{◌≡◌, ℕ, zero, suc, ◌+◌, ◌<◌, Bool, true, false, not, ◌&&◌, ◌||◌, List, [], ◌∷◌, ◌++◌, length, get_or, take, drop, Option, Some, None, refl, sym, ap, subst, ◌∙◌, arith, inl, inr}
use Rattle.std.specs.Prelude.{◌⊎◌, ◌==◌, Contains, All, slice_get, unwrap_or, option_map, if◌then◌else◌}
use Rattle.std.specs.List.{filter_map, cons_option, list_any}
use Rattle.std.proofs.lemmas.Bool.{eqb-true}
use Rattle.std.proofs.lemmas.List.{take-append-drop, take_more}
use Rattle.std.proofs.lemmas.List.Elements.{All-nil, All-cons, All-head, All-tail, filter_map-append, Contains-append_left, Contains-append_right, Contains-append_cases}
use Rattle.wf_operation.specs.declared.slot.Source.{Source}
use Rattle.wf_blocks.specs.declared.body.Body.{Body}
use Rattle.wf_blocks.specs.declared.body.Catcher.{Catcher}
use Rattle.wf_blocks.specs.declared.body.Step.{Step}
use Rattle.wf_blocks.specs.declared.seen.Seen.{Seen}
use Rattle.wf_blocks.specs.Bodies.{locals_of, caught_by, covers, targets_in, targets_at, catchers_at, sources_at, graph_of, falls_only, leads_apart, any_leads_apart, is_handler, starts_at, inner_of}
use Rattle.wf_blocks.specs.Flowing.{DiffersThere}
use Rattle.wf_blocks.specs.Graphs.{Edge, edge_by, edges_by, caught_sources}
use Rattle.wf_blocks.specs.Rows.{HasInner}
use Rattle.wf_blocks.proofs.SeenLemmas.{or_none, or_left, or_right, and_parts}

-- ---- lists

pub in_front : {X : Type 0} (n : ℕ) (xs : List X) (x : X) → Contains (take n xs) x → Contains xs x
in_front {X = X} n xs x h = subst (λ (ys : List X). Contains ys x) (take-append-drop n xs) (Contains-append_left (take n xs) (drop n xs) x h)

-- an element that is there, whatever stands past the end
pub same_at : {X : Type 0} (xs : List X) (i : ℕ) (d e : X) → i < length xs → get_or xs i d ≡ get_or xs i e
same_at [] i d e lt = absurd (omega arith)
same_at (x ∷ xs) zero d e lt = refl
same_at (x ∷ xs) (suc i) d e lt = same_at xs i d e (omega arith)

pub taken_more : {X : Type 0} (xs : List X) (i : ℕ) (d : X) → i < length xs → take i xs ++ get_or xs i d ∷ [] ≡ take (i + 1) xs
taken_more xs i d lt = sym (take_more xs i d lt)

-- the elements up to a place are among all
pub in_front_more : {X : Type 0} (xs : List X) (i : ℕ) (d x : X) → i < length xs → Contains (take i xs ++ get_or xs i d ∷ []) x → Contains xs x
in_front_more {X = X} xs i d x lt h = in_front (i + 1) xs x (subst (λ (ys : List X). Contains ys x) (taken_more xs i d lt) h)

pub differs_among : (one two : List ℕ) (after : List Seen) (rows : List (Option (List Seen))) → ((t : ℕ) → Contains one t → Contains two t) → DiffersThere one after rows → DiffersThere two after rows
differs_among one two after rows more d = record { to = d.to; among = more d.to d.among; row = d.row; there = d.there; differs = d.differs }

pub filter_map_more : {X Y : Type 0} (f : X → Option Y) (xs : List X) (i : ℕ) (d : X) → i < length xs
    → filter_map f (take i xs) ++ filter_map f (get_or xs i d ∷ []) ≡ filter_map f (take (i + 1) xs)
filter_map_more f xs i d lt = sym (filter_map-append f (take i xs) (get_or xs i d ∷ [])) ∙ ap (filter_map f) (taken_more xs i d lt)

pub in_filter_front : {X Y : Type 0} (f : X → Option Y) (n : ℕ) (xs : List X) (y : Y) → Contains (filter_map f (take n xs)) y → Contains (filter_map f xs) y
in_filter_front {X = X} {Y = Y} f n xs y h =
    subst (λ (ys : List Y). Contains ys y) (sym (filter_map-append f (take n xs) (drop n xs)) ∙ ap (filter_map f) (take-append-drop n xs))
    (Contains-append_left (filter_map f (take n xs)) (filter_map f (drop n xs)) y h)

pub in_filter_front_more : {X Y : Type 0} (f : X → Option Y) (xs : List X) (i : ℕ) (d : X) (y : Y) → i < length xs
    → Contains (filter_map f (take i xs) ++ filter_map f (get_or xs i d ∷ [])) y → Contains (filter_map f xs) y
in_filter_front_more {X = X} {Y = Y} f xs i d y lt h = in_filter_front f (i + 1) xs y (subst (λ (ys : List Y). Contains ys y) (filter_map_more f xs i d lt) h)

-- what is true of all that a function gives is true of what it gives at a place
pub each_given : {X Y : Type 0} (P : Y → Type 0) (f : X → Option Y) (xs : List X) (i : ℕ) (d : X) → i < length xs
    → All P (filter_map f xs) → All P (filter_map f (get_or xs i d ∷ []))
each_given {X = X} {Y = Y} P f [] i d lt h = absurd (omega arith)
each_given {X = X} {Y = Y} P f (x ∷ xs) zero d lt h = first (f x) h
  where
    first : (o : Option Y) → All P (cons_option o (filter_map f xs)) → All P (cons_option o [])
    first None h = All-nil P
    first (Some y) h = All-cons P y [] (All-head P y (filter_map f xs) h) (All-nil P)
each_given {X = X} {Y = Y} P f (x ∷ xs) (suc i) d lt h = each_given P f xs i d (omega arith) (rest (f x) h)
  where
    rest : (o : Option Y) → All P (cons_option o (filter_map f xs)) → All P (filter_map f xs)
    rest None h = h
    rest (Some y) h = All-tail P y (filter_map f xs) h

-- ---- ways

pub in_edges : (sources : List Source) (targets : List ℕ) (e : Edge) → Contains (edges_by sources targets) e → Contains targets e.to × (e ≡ edge_by sources e.to)
in_edges sources [] e (k, lt, is) = absurd (omega arith)
in_edges sources (t ∷ targets) e (zero, lt, is) =
    let to : t ≡ e.to = ap (λ (w : Edge). w.to) is in
    ((0, omega arith, to), sym is ∙ ap (edge_by sources) to)
in_edges sources (t ∷ targets) e (suc k, lt, is) =
    let r = in_edges sources targets e (k, omega arith, is) in
    ((suc r.0.0, omega (arith, r.0.1), r.0.2), r.1)

pub way_to : (sources : List Source) (targets : List ℕ) (t : ℕ) → Contains targets t → Contains (edges_by sources targets) (edge_by sources t)
way_to sources [] t (k, lt, is) = absurd (omega arith)
way_to sources (x ∷ targets) t (zero, lt, is) = (0, omega arith, ap (edge_by sources) is)
way_to sources (x ∷ targets) t (suc k, lt, is) =
    let r = way_to sources targets t (k, omega arith, is) in
    (suc r.0, omega (arith, r.1), r.2)

-- a way out of a place is one of its instruction, or one into a handler
pub record ByInstruction (b : Body) (place n : ℕ) (e : Edge) : Type 0 where
  pub among : Contains (targets_at b place) e.to
  pub is : e ≡ edge_by (sources_at b place n) e.to

pub record IntoHandler (b : Body) (place : ℕ) (e : Edge) : Type 0 where
  pub among : Contains (catchers_at b place) e.to
  pub is : e ≡ edge_by (caught_sources (locals_of b)) e.to

pub edge_cases : (b : Body) (place n : ℕ) (e : Edge) → Contains ((graph_of b).edges place n) e → ByInstruction b place n e ⊎ IntoHandler b place e
unfolding graph_of
edge_cases b place n e h =
    elim (Contains-append_cases (edges_by (sources_at b place n) (targets_at b place)) (edges_by (caught_sources (locals_of b)) (catchers_at b place)) e h) [
      | inl one ↦ (let r = in_edges (sources_at b place n) (targets_at b place) e one in inl (record { among = r.0; is = r.1 }))
      | inr other ↦ (let r = in_edges (caught_sources (locals_of b)) (catchers_at b place) e other in inr (record { among = r.0; is = r.1 }))
    ]

pub edge_of_target : (b : Body) (place n t : ℕ) → Contains (targets_at b place) t → Contains ((graph_of b).edges place n) (edge_by (sources_at b place n) t)
unfolding graph_of
edge_of_target b place n t h =
    Contains-append_left (edges_by (sources_at b place n) (targets_at b place)) (edges_by (caught_sources (locals_of b)) (catchers_at b place)) (edge_by (sources_at b place n) t) (way_to (sources_at b place n) (targets_at b place) t h)

pub edge_of_catcher : (b : Body) (place n t : ℕ) → Contains (catchers_at b place) t → Contains ((graph_of b).edges place n) (edge_by (caught_sources (locals_of b)) t)
unfolding graph_of
edge_of_catcher b place n t h =
    Contains-append_right (edges_by (sources_at b place n) (targets_at b place)) (edges_by (caught_sources (locals_of b)) (catchers_at b place)) (edge_by (caught_sources (locals_of b)) t) (way_to (caught_sources (locals_of b)) (catchers_at b place) t h)

-- ---- places inside blocks

eqb_is : (t to : ℕ) → t ≡ to → (t == to) ≡ true
eqb_is t to e = subst (λ (x : ℕ). (t == x) ≡ true) e (same t)
  where
    same : (n : ℕ) → (n == n) ≡ true
    same n = grind arith

any_is : (targets : List ℕ) (to : ℕ) → Contains targets to → list_any (λ t. t == to) targets ≡ true
any_is [] to (k, lt, is) = absurd (omega arith)
any_is (t ∷ targets) to (zero, lt, is) = or_left (t == to) (list_any (λ t. t == to) targets) (eqb_is t to is)
any_is (t ∷ targets) to (suc k, lt, is) = or_right (t == to) (list_any (λ t. t == to) targets) (any_is targets to (k, omega arith, is))

-- a handler is the start of a block
target_is : (c : Catcher) (covered : Bool) (t : ℕ) → (if covered then c.target else None) ≡ Some t → c.target ≡ Some t
target_is c true t e = e
target_is c false t e = absurd cc

handler_is : (c : Catcher) (t to : ℕ) → c.target ≡ Some t → t ≡ to → is_handler to c ≡ true
handler_is c t to e same = subst (λ (o : Option ℕ). unwrap_or (option_map (λ x. x == to) o) false ≡ true) (sym e) (eqb_is t to same)

first_handler : (c : Catcher) (catchers : List Catcher) (place to : ℕ) → (Contains (filter_map (caught_by place) catchers) to → list_any (is_handler to) catchers ≡ true)
    → (o : Option ℕ) → caught_by place c ≡ o → Contains (cons_option o (filter_map (caught_by place) catchers)) to → (is_handler to c || list_any (is_handler to) catchers) ≡ true
first_handler c catchers place to rest None e h = or_right (is_handler to c) (list_any (is_handler to) catchers) (rest h)
first_handler c catchers place to rest (Some t) e (zero, lt, is) = or_left (is_handler to c) (list_any (is_handler to) catchers) (handler_is c t to (target_is c (covers place c) t e) is)
first_handler c catchers place to rest (Some t) e (suc k, lt, is) = or_right (is_handler to c) (list_any (is_handler to) catchers) (rest (k, omega arith, is))

pub handler_any : (catchers : List Catcher) (place to : ℕ) → Contains (filter_map (caught_by place) catchers) to → list_any (is_handler to) catchers ≡ true
handler_any [] place to (k, lt, is) = absurd (omega arith)
handler_any (c ∷ catchers) place to h = first_handler c catchers place to (λ r. handler_any catchers place to r) (caught_by place c) refl h

apart_any : (steps : List Step) (first place to : ℕ) → any_leads_apart first steps to ≡ false → leads_apart (first + place) (unwrap_or (option_map targets_in (slice_get steps place)) []) to ≡ false
apart_any [] first place to e = refl
apart_any (s ∷ steps) first zero to e =
    let here : first ≡ first + 0 = omega arith in
    subst (λ (n : ℕ). leads_apart n (targets_in s) to ≡ false) here (or_none (leads_apart first (targets_in s) to) (any_leads_apart (suc first) steps to) e).0
apart_any (s ∷ steps) first (suc place) to e =
    let on : suc first + place ≡ first + suc place = omega arith in
    subst (λ (n : ℕ). leads_apart n (unwrap_or (option_map targets_in (slice_get steps place)) []) to ≡ false) on
    (apart_any steps (suc first) place to (or_none (leads_apart first (targets_in s) to) (any_leads_apart (suc first) steps to) e).1)

not_and : (x y : Bool) → (not x && y) ≡ false → y ≡ true → x ≡ true
not_and true y e t = refl
not_and false y e t = absurd cc

not_true : (x : Bool) → not x ≡ true → x ≡ false
not_true true e = absurd cc
not_true false e = refl

clash : (x : Bool) → x ≡ true → x ≡ false → ⊥
clash x e f = cc

pub inner_falls : (b : Body) (place to : ℕ) → Contains (targets_at b place) to → inner_of b to ≡ true → falls_only place (targets_at b place) ≡ true
unfolding starts_at
inner_falls b place to h inside =
    let apart = (or_none (to == 0 || list_any (is_handler to) b.catchers) (any_leads_apart 0 b.steps to) (not_true _ inside)).1 in
    let zero_is : 0 + place ≡ place = omega arith in
    let here : leads_apart place (targets_at b place) to ≡ false = subst (λ (n : ℕ). leads_apart n (targets_at b place) to ≡ false) zero_is (apart_any b.steps 0 place to apart) in
    not_and (falls_only place (targets_at b place)) (list_any (λ t. t == to) (targets_at b place)) here (any_is (targets_at b place) to h)

pub inner_is_no_handler : (b : Body) (place to : ℕ) → Contains (catchers_at b place) to → inner_of b to ≡ true → ⊥
unfolding starts_at
inner_is_no_handler b place to h inside =
    let first = (or_none (to == 0 || list_any (is_handler to) b.catchers) (any_leads_apart 0 b.steps to) (not_true _ inside)).0 in
    clash (list_any (is_handler to) b.catchers) (handler_any b.catchers place to h) (or_none (to == 0) (list_any (is_handler to) b.catchers) first).1

-- an instruction that leads to the next place alone
pub only_next : (place to : ℕ) (targets : List ℕ) → falls_only place targets ≡ true → Contains targets to → (to ≡ place + 1) × (targets ≡ to ∷ [])
only_next place to [] e (k, lt, is) = absurd (omega arith)
only_next place to (t ∷ []) e (zero, lt, is) =
    let two = and_parts (length (t ∷ []) == 1) (t == place + 1) e in
    let next : t ≡ place + 1 = eqb-true t (place + 1) two.1 in
    (sym is ∙ next, ap (λ (x : ℕ). x ∷ []) is)
only_next place to (t ∷ []) e (suc k, lt, is) = absurd (omega arith)
only_next place to (t ∷ u ∷ targets) e h =
    let two = and_parts (length (t ∷ u ∷ targets) == 1) (t == place + 1) e in
    absurd (omega (arith, eqb-true (length (t ∷ u ∷ targets)) 1 two.0))

pub falls_there : (place : ℕ) (targets : List ℕ) → falls_only place targets ≡ true → Contains targets (place + 1)
falls_there place [] e = absurd (omega (arith, eqb-true (length {A = ℕ} []) 1 (and_parts (length {A = ℕ} [] == 1) (0 == place + 1) e).0))
falls_there place (t ∷ targets) e = (0, omega arith, eqb-true t (place + 1) (and_parts (length (t ∷ targets) == 1) (t == place + 1) e).1)

pub inner_next : (b : Body) (place to : ℕ) → Contains (targets_at b place) to → inner_of b to ≡ true → (to ≡ place + 1) × (targets_at b place ≡ to ∷ [])
inner_next b place to h inside = only_next place to (targets_at b place) (inner_falls b place to h inside) h

pub inner_edge : (b : Body) (place n : ℕ) (e : Edge) → Contains ((graph_of b).edges place n) e → inner_of b e.to ≡ true → ByInstruction b place n e
inner_edge b place n e h inside = elim (edge_cases b place n e h) [ inl one ↦ one | inr other ↦ absurd (inner_is_no_handler b place e.to other.among inside) ]

pub has_inner : (b : Body) → HasInner (graph_of b) (inner_of b)
unfolding starts_at
has_inner b = record {
  entry = entry_starts;
  one = λ p q m n e f he hf to inside.
      let inside' : inner_of b f.to ≡ true = subst (λ (t : ℕ). inner_of b t ≡ true) to inside in
      let one = inner_next b p e.to (inner_edge b p m e he inside).among inside in
      let other = inner_next b q f.to (inner_edge b q n f hf inside').among inside' in
      omega (arith, one.0, other.0, to);
  same = λ p n e f he hf inside inside'.
      let one = inner_edge b p n e he inside in
      let other = inner_edge b p n f hf inside' in
      let to : e.to ≡ f.to = omega (arith, (inner_next b p e.to one.among inside).0, (inner_next b p f.to other.among inside').0) in
      one.is ∙ ap (edge_by (sources_at b p n)) to ∙ sym other.is;
}
  where
    entry_starts : inner_of b 0 ≡ false
    entry_starts = refl
