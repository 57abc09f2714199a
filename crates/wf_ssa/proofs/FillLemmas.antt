-- Filling in what is kept.
use Rattle.std.proofs.Common.{◌≡◌, ℕ, zero, suc, ◌+◌, ◌<◌, ◌≤◌, Bool, true, false, not, ◌&&◌, ◌||◌, List, [], ◌∷◌, ◌++◌, length, get_or, set, Option, Some, None, refl, sym, ap, subst, ◌∙◌, arith, inl, inr}
use Rattle.std.specs.Prelude.{◌⊎◌, ◌==◌, nat_lt, is_some, slice_get}
use Rattle.std.proofs.lemmas.Bool.{ltb-true, ltb-false, eqb-true, eqb-false}
use Rattle.std.proofs.lemmas.List.{get_or-set_same, get_or-set_other, ext_get_or}
use Rattle.wf_blocks.specs.declared.body.Body.{Body}
use Rattle.wf_blocks.specs.Bodies.{graph_of, targets_at}
use Rattle.wf_blocks.specs.Graphs.{Reached}
use Rattle.wf_blocks.proofs.SeenLemmas.{true_or_false}
use Rattle.wf_ssa.specs.declared.before.Before.{Before}
use Rattle.wf_ssa.specs.declared.name.FlowName.{FlowName}
use Rattle.wf_ssa.specs.declared.name.FlowName.TheVariants.{Nothing}
use Rattle.wf_ssa.specs.Environments.{name_at, along_edge, IsKnown}
use Rattle.wf_ssa.specs.Keeping.{row_at, ends, answers_at, nones, AreMeets, AreSound, IsFilled}
use Rattle.wf_ssa.proofs.BackLemmas.{came_along, known_inside}

some_is : {A : Type 0} {x y : A} → Some x ≡ Some y → x ≡ y
some_is e = cc

pub nones_set : (known : List (Option Before)) (to : ℕ) (row : Before) → to < length known → row_at known to ≡ None → nones (set known to (Some row)) < nones known
nones_set [] to row lt e = absurd (omega arith)
nones_set (None ∷ known) zero row lt e = omega arith
nones_set (Some r ∷ known) zero row lt e = absurd cc
nones_set (None ∷ known) (suc to) row lt e = omega (arith, nones_set known to row (omega arith) e)
nones_set (Some r ∷ known) (suc to) row lt e = nones_set known to row (omega arith) e

pub sound_set : (b : Body) (failing : List ℕ) (known : List (Option Before)) (to : ℕ) (row : Before) → to < length known → AreSound b failing known
    → ((k : Before) → IsKnown b failing to k → row ≡ k) → AreSound b failing (set known to (Some row))
sound_set b failing known to row lt sound here = record { each = λ place r k e there. by_place place r k e there (true_or_false (place == to)) }
  where
    by_place : (place : ℕ) (r k : Before) → row_at (set known to (Some row)) place ≡ Some r → IsKnown b failing place k → ((place == to) ≡ true) ⊎ ((place == to) ≡ false) → r ≡ k
    by_place place r k e there (inl same) =
        let at : place ≡ to = eqb-true place to same in
        let e' : row_at (set known to (Some row)) to ≡ Some r = subst (λ (p : ℕ). row_at (set known to (Some row)) p ≡ Some r) at e in
        some_is (sym e' ∙ get_or-set_same known to (Some row) None lt) ∙ here k (subst (λ (p : ℕ). IsKnown b failing p k) at there)
    by_place place r k e there (inr other) = sound.each place r k (sym (get_or-set_other known to place (Some row) None (eqb-false place to other)) ∙ e) there

-- what comes along an edge into a place where no ways meet is all that is known there
pub row_sound : (b : Body) (failing : List ℕ) (ms : List Bool) (place edge to : ℕ) (row : Before) → AreMeets b ms → get_or ms to false ≡ false → Reached (graph_of b) place
    → slice_get (targets_at b place) edge ≡ Some to
    → ((k : Before) → IsKnown b failing place k → IsKnown b failing to (along_edge b failing place edge k) → row ≡ along_edge b failing place edge k)
    → (k : Before) → IsKnown b failing to k → row ≡ k
row_sound b failing ms place edge to row meets_are apart reached leads here k there =
    let alone = sym (meets_are.each there.marks to there.are (known_inside b failing to k there)) ∙ apart in
    let came = came_along b failing there.marks place edge to k there.are there.before ((there.are.each place).1 reached) leads alone in
    here came.before (record { marks = there.marks; are = there.are; before = came.there }) (subst (λ (x : Before). IsKnown b failing to x) came.is there) ∙ sym came.is

pub nothing_sound : (b : Body) (failing : List ℕ) (known : List (Option Before)) → ((place : ℕ) → row_at known place ≡ None) → AreSound b failing known
nothing_sound b failing known none = record { each = λ place row k e there. absurd (never (sym (none place) ∙ e)) }
  where
    never : {row : Before} → None ≡ Some row → ⊥
    never e = cc

pub none_push : (known : List (Option Before)) (place : ℕ) → row_at known place ≡ None → row_at (known ++ None ∷ []) place ≡ None
none_push [] zero e = refl
none_push [] (suc place) e = refl
none_push (k ∷ known) zero e = e
none_push (k ∷ known) (suc place) e = none_push known place e

-- two lists of flows with the same flow in each slot
pub same_names : (one two : List FlowName) → length one ≡ length two → ((slot : ℕ) → slot < length one → get_or one slot Nothing ≡ name_at two slot) → one ≡ two
same_names one two count each = ext_get_or Nothing one two count each

-- a flow is pushed
pub name_push : (names : List FlowName) (name : FlowName) (f : ℕ → FlowName) (i : ℕ) → i < length names + 1 → (i < length names → get_or names i Nothing ≡ f i) → name ≡ f (length names)
    → get_or (names ++ name ∷ []) i Nothing ≡ f i
name_push [] name f zero lt below is = is
name_push [] name f (suc i) lt below is = absurd (omega (arith, lt))
name_push (n ∷ names) name f zero lt below is = below (omega arith)
name_push (n ∷ names) name f (suc i) lt below is = name_push names name (λ j. f (suc j)) i (omega (arith, lt)) (λ less. below (omega (arith, less))) is

pub row_is : (predicate : FlowName) (names : List FlowName) (k : Before) → predicate ≡ k.predicate → names ≡ k.names → record { predicate = predicate; names = names } ≡ k
row_is predicate names k e f = ap (λ (p : FlowName). record { predicate = p; names = names }) e ∙ ap (λ (ns : List FlowName). record { predicate = k.predicate; names = ns }) f

-- nothing is kept of a place where the walk ends
pub lacks_parts : (b : Body) (ms : List Bool) (known : List (Option Before)) (to : ℕ) → (nat_lt to (length known) && not (answers_at ms known to) && ends b ms to) ≡ true
    → (to < length known) × (get_or ms to false ≡ false) × (row_at known to ≡ None)
lacks_parts b ms known to e =
    let two = parts (nat_lt to (length known)) (get_or ms to false) (to == 0) (is_some (row_at known to)) (ends b ms to) e in
    (ltb-true to (length known) two.0, two.1, none_is (row_at known to) two.2)
  where
    parts : (x y z w v : Bool) → (x && not (y || z || w) && v) ≡ true → (x ≡ true) × (y ≡ false) × (w ≡ false)
    parts true false false false true e = (refl, refl, refl)
    parts true false false false false e = absurd cc
    parts true false false true v e = absurd cc
    parts true false true w v e = absurd cc
    parts true true z w v e = absurd cc
    parts false y z w v e = absurd cc

    none_is : (o : Option Before) → is_some o ≡ false → o ≡ None
    none_is None e = refl
    none_is (Some row) e = absurd cc

-- where none is lacking, an edge's place is filled
pub not_lacking : (b : Body) (ms : List Bool) (known : List (Option Before)) (to : ℕ) → length known ≡ length b.steps → (nat_lt to (length known) && not (answers_at ms known to) && ends b ms to) ≡ false
    → IsFilled b ms known to
not_lacking b ms known to count e = record { inside = λ lt end. filled (nat_lt to (length known)) (answers_at ms known to) (ends b ms to) (ltb-of to (length known) (omega (arith, lt, count))) end e }
  where
    filled : (x y z : Bool) → x ≡ true → z ≡ true → (x && not y && z) ≡ false → y ≡ true
    filled true true z e f g = refl
    filled true false true e f g = absurd cc
    filled true false false e f g = absurd cc
    filled false y z e f g = absurd cc

    ltb-of : (i n : ℕ) → i < n → nat_lt i n ≡ true
    ltb-of i n lt = by_test (true_or_false (nat_lt i n))
      where
        by_test : (nat_lt i n ≡ true) ⊎ (nat_lt i n ≡ false) → nat_lt i n ≡ true
        by_test (inl e) = e
        by_test (inr e) = absurd (omega (arith, lt, ltb-false i n e))

pub either_first : (more kept now : Bool) → more ≡ true → now ≡ more → now ≡ (more || kept)
either_first true kept now e f = f
either_first false kept now e f = absurd cc

pub either_next : (more kept now : Bool) → more ≡ false → now ≡ kept → now ≡ (more || kept)
either_next true kept now e f = absurd cc
either_next false kept now e f = f

pub neither : (more kept : Bool) → (more || kept) ≡ false → (more ≡ false) × (kept ≡ false)
neither true kept e = absurd cc
neither false kept e = (refl, e)

-- what one more turn of a loop leaves to keep
pub less_more : (more kept : Bool) (first was now : ℕ) → (more || kept) ≡ true → (more ≡ true → was < first) → (more ≡ false → was ≡ first) → (kept ≡ true → now < was) → (kept ≡ false → now ≡ was) → now < first
less_more true true first was now e a s l n = omega (arith, a refl, l refl)
less_more true false first was now e a s l n = omega (arith, a refl, n refl)
less_more false true first was now e a s l n = omega (arith, s refl, l refl)
less_more false false first was now e a s l n = absurd cc

pub fewer_more : (kept : Bool) (was now : ℕ) → (kept ≡ true → now < was) → (kept ≡ false → now ≡ was) → now ≤ was
fewer_more true was now l n = omega (arith, l refl)
fewer_more false was now l n = omega (arith, n refl)

pub get_inside : {A : Type 0} (xs : List A) (i : ℕ) (x : A) → slice_get xs i ≡ Some x → i < length xs
get_inside [] i x e = absurd cc
get_inside (y ∷ xs) zero x e = omega arith
get_inside (y ∷ xs) (suc i) x e = omega (arith, get_inside xs i x e)
