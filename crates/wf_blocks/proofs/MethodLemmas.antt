-- How the body of a method is made, place by place.
use Rattle.std.proofs.Common.{◌≡◌, ℕ, zero, suc, ◌+◌, ◌-◌, ◌<◌, ◌≤◌, Bool, true, false, List, [], ◌∷◌, ◌++◌, length, get_or, set, take, drop, Option, Some, None, refl, sym, ap, ◌∙◌, arith, inl, inr}
use Rattle.std.specs.Prelude.{◌⊎◌, ◌==◌, map, replicate, option_and_then, option_map, if◌then◌else◌}
use Rattle.std.specs.List.{range_with_len}
use Rattle.std.proofs.Math.Seq.{drop-cons, take-append_seam}
use Rattle.std.proofs.Math.Numerals.{add-one}
use Rattle.std.proofs.lemmas.Bool.{eqb-true, eqb-false}
use Rattle.std.proofs.lemmas.List.{get_or-set_same, get_or-set_other, length-append, append_assoc, append-nil, take_more, map-append, length-map}
use Rattle.std.proofs.lemmas.List.FromFn.{map-range_with_len_more, get_or-map-range_with_len, length-map-range_with_len}
use Rattle.wf_base.specs.declared.kind.Kind.{Kind}
use Rattle.wf_base.specs.declared.kind.Kind.TheVariants as kind
use Rattle.wf_data.specs.declared.class_info.PoolEntry.{PoolEntry}
use Rattle.wf_data.specs.declared.instr.Placed.{Placed}
use Rattle.wf_descriptor.specs.declared.descriptor.FieldDesc.{FieldDesc}
use Rattle.wf_operation.specs.declared.slot.SlotKind.{SlotKind}
use Rattle.wf_operation.specs.Slots.{slots_of}
use Rattle.wf_blocks.specs.declared.body.Step.{Step}
use Rattle.wf_blocks.specs.Methods.{all_some, number_from, step_of, steps_from, param_slots, filled, numbers_from}
use Rattle.wf_blocks.proofs.SeenLemmas.{true_or_false}

-- ---- all or none

push : {A : Type 0} → Option (List A) → Option A → Option (List A)
push None x = None
push (Some ys) None = None
push (Some ys) (Some y) = Some (ys ++ y ∷ [])

push_behind : {A : Type 0} (o : Option A) (ys : Option (List A)) (x : Option A)
    → option_and_then (λ y. option_map (λ zs. y ∷ zs) (push ys x)) o ≡ push (option_and_then (λ y. option_map (λ zs. y ∷ zs) ys) o) x
unfolding push
push_behind None ys x = refl
push_behind (Some y) None x = refl
push_behind (Some y) (Some zs) None = refl
push_behind (Some y) (Some zs) (Some z) = refl

push_first : {A : Type 0} (x : Option A) → option_and_then (λ y. option_map (λ zs. y ∷ zs) (Some [])) x ≡ push (Some []) x
unfolding push
push_first None = refl
push_first (Some y) = refl

all_push : {A : Type 0} (xs : List (Option A)) (x : Option A) → all_some (xs ++ x ∷ []) ≡ push (all_some xs) x
all_push [] x = push_first x
all_push {A = A} (o ∷ xs) x =
    ap (λ (r : Option (List A)). option_and_then (λ y. option_map (λ zs. y ∷ zs) r) o) (all_push xs x) ∙ push_behind o (all_some xs) x

-- one more that is there
pub all_more : {A : Type 0} (xs : List (Option A)) (ys : List A) (x : Option A) (y : A) → all_some xs ≡ Some ys → x ≡ Some y → all_some (xs ++ x ∷ []) ≡ Some (ys ++ y ∷ [])
unfolding push
all_more {A = A} xs ys x y e f = all_push xs x ∙ ap (λ (r : Option (List A)). push r x) e ∙ ap (push (Some ys)) f

-- one that isn't
pub all_none : {A : Type 0} (xs : List (Option A)) (i : ℕ) → i < length xs → get_or xs i None ≡ None → all_some xs ≡ None
all_none [] i lt e = absurd (omega arith)
all_none {A = A} (x ∷ xs) zero lt e = ap (λ (o : Option A). option_and_then (λ y. option_map (λ ys. y ∷ ys) (all_some xs)) o) e
all_none {A = A} (x ∷ xs) (suc i) lt e = ap (λ (r : Option (List A)). option_and_then (λ y. option_map (λ ys. y ∷ ys) r) x) (all_none xs i (omega arith) e) ∙ none_behind x
  where
    none_behind : (o : Option A) → option_and_then (λ y. option_map (λ (ys : List A). y ∷ ys) None) o ≡ None
    none_behind None = refl
    none_behind (Some y) = refl

pub ranged_more : {A : Type 0} (f : ℕ → Option A) (i : ℕ) (ys : List A) (y : A) → all_some (map f (range_with_len 0 i)) ≡ Some ys → f i ≡ Some y
    → all_some (map f (range_with_len 0 (i + 1))) ≡ Some (ys ++ y ∷ [])
ranged_more f i ys y e g = ap all_some (map-range_with_len_more f 0 i i (omega arith)) ∙ all_more (map f (range_with_len 0 i)) ys (f i) y e g

pub ranged_none : {A : Type 0} (f : ℕ → Option A) (n i : ℕ) → i < n → f i ≡ None → all_some (map f (range_with_len 0 n)) ≡ None
ranged_none f n i lt e =
    all_none (map f (range_with_len 0 n)) i (omega (arith, length-map-range_with_len f 0 n)) (get_or-map-range_with_len f 0 n i i None lt (omega arith) ∙ e)

pub map_taken_more : {A B : Type 0} (f : A → B) (xs : List A) (i : ℕ) (d : A) → i < length xs → map f (take (i + 1) xs) ≡ map f (take i xs) ++ f (get_or xs i d) ∷ []
map_taken_more f xs i d lt = ap (map f) (take_more xs i d lt) ∙ map-append f (take i xs) (get_or xs i d ∷ [])

pub listed_more : {A B : Type 0} (f : A → Option B) (xs : List A) (i : ℕ) (d : A) (ys : List B) (y : B) → i < length xs → all_some (map f (take i xs)) ≡ Some ys → f (get_or xs i d) ≡ Some y
    → all_some (map f (take (i + 1) xs)) ≡ Some (ys ++ y ∷ [])
listed_more f xs i d ys y lt e g = ap all_some (map_taken_more f xs i d lt) ∙ all_more (map f (take i xs)) ys (f (get_or xs i d)) y e g

pub listed_none : {A B : Type 0} (f : A → Option B) (xs : List A) (i : ℕ) (d : A) → i < length xs → f (get_or xs i d) ≡ None → all_some (map f xs) ≡ None
listed_none f xs i d lt e = all_none (map f xs) i (omega (arith, length-map xs f)) (at_map f xs i d lt ∙ e)
  where
    at_map : {A B : Type 0} (f : A → Option B) (xs : List A) (i : ℕ) (d : A) → i < length xs → get_or (map f xs) i None ≡ f (get_or xs i d)
    at_map f [] i d lt = absurd (omega arith)
    at_map f (x ∷ xs) zero d lt = refl
    at_map f (x ∷ xs) (suc i) d lt = at_map f xs i d (omega arith)

-- ---- numbers

pub dropped_more : {A : Type 0} (xs : List A) (i : ℕ) (d : A) → i < length xs → drop i xs ≡ get_or xs i d ∷ drop (i + 1) xs
dropped_more {A = A} xs i d lt = drop-cons xs i d lt ∙ ap (λ (n : ℕ). get_or xs i d ∷ drop n xs) (sym (add-one i))

if_true : {A : Type 0} (b : Bool) (x y : A) → b ≡ true → (if b then x else y) ≡ x
if_true true x y e = refl
if_true false x y e = absurd cc

if_false : {A : Type 0} (b : Bool) (x y : A) → b ≡ false → (if b then x else y) ≡ y
if_false false x y e = refl
if_false true x y e = absurd cc

-- the table of numbers, with one place more in front
pub number_more : (pcs : List ℕ) (numbers : List (Option ℕ)) (k pc : ℕ) → k < length pcs → get_or pcs k 0 < length numbers
    → ((q : ℕ) → get_or numbers q None ≡ number_from (k + 1) (drop (k + 1) pcs) q)
    → get_or (set numbers (get_or pcs k 0) (Some k)) pc None ≡ number_from k (drop k pcs) pc
number_more pcs numbers k pc lt low rest =
    by_place (true_or_false (p == pc)) ∙ ap (λ (qs : List ℕ). number_from k qs pc) (sym (dropped_more pcs k 0 lt))
  where
    p : ℕ
    p = get_or pcs k 0

    after : number_from (suc k) (drop (k + 1) pcs) pc ≡ number_from (k + 1) (drop (k + 1) pcs) pc
    after = ap (λ (n : ℕ). number_from n (drop (k + 1) pcs) pc) (sym (add-one k))

    by_place : ((get_or pcs k 0 == pc) ≡ true) ⊎ ((get_or pcs k 0 == pc) ≡ false)
        → get_or (set numbers (get_or pcs k 0) (Some k)) pc None ≡ number_from k (get_or pcs k 0 ∷ drop (k + 1) pcs) pc
    by_place (inl e) =
        ap (λ (q : ℕ). get_or (set numbers (get_or pcs k 0) (Some k)) q None) (sym (eqb-true (get_or pcs k 0) pc e)) ∙ get_or-set_same numbers (get_or pcs k 0) (Some k) None low
        ∙ sym (if_true (get_or pcs k 0 == pc) (Some k) (number_from (suc k) (drop (k + 1) pcs) pc) e)
    by_place (inr e) =
        get_or-set_other numbers (get_or pcs k 0) pc (Some k) None (λ same. eqb-false (get_or pcs k 0) pc e (sym same)) ∙ rest pc ∙ sym after
        ∙ sym (if_false (get_or pcs k 0 == pc) (Some k) (number_from (suc k) (drop (k + 1) pcs) pc) e)

pub all_alike : {A : Type 0} (n i : ℕ) (x : A) → get_or (replicate n x) i x ≡ x
all_alike zero i x = refl
all_alike (suc n) zero x = refl
all_alike (suc n) (suc i) x = all_alike n i x

pub numbered_at_end : (pcs : List ℕ) (k pc : ℕ) → length pcs ≤ k → number_from k (drop k pcs) pc ≡ None
numbered_at_end pcs k pc le = ap (λ (qs : List ℕ). number_from k qs pc) (all_dropped pcs k le)
  where
    all_dropped : (xs : List ℕ) (n : ℕ) → length xs ≤ n → drop n xs ≡ []
    all_dropped [] zero le = refl
    all_dropped [] (suc n) le = refl
    all_dropped (x ∷ xs) zero le = absurd (omega arith)
    all_dropped (x ∷ xs) (suc n) le = all_dropped xs n (omega arith)

-- a number that is given is below the count
pub number_below : (first : ℕ) (pcs : List ℕ) (pc n : ℕ) → number_from first pcs pc ≡ Some n → n < first + length pcs
number_below first [] pc n e = absurd cc
number_below first (p ∷ pcs) pc n e = by_place (λ f. number_below (suc first) pcs pc n f) (p == pc) e
  where
    by_place : (number_from (suc first) pcs pc ≡ Some n → n < suc first + length pcs) → (b : Bool) → (if b then Some first else number_from (suc first) pcs pc) ≡ Some n
        → n < first + length (p ∷ pcs)
    by_place rest true e = let same : first ≡ n = cc in omega arith
    by_place rest false e = omega (arith, rest e)

-- ---- steps

pub steps_more : (pool : List PoolEntry) (pcs : List ℕ) (steps : List Step) (code : List Placed) (i : ℕ) (d : Placed) → i < length code
    → steps ++ steps_from pool pcs i (drop i code) ≡ (steps ++ step_of pool pcs i (get_or code i d) ∷ []) ++ steps_from pool pcs (i + 1) (drop (i + 1) code)
steps_more pool pcs steps code i d lt =
    ap (λ (c : List Placed). steps ++ steps_from pool pcs i c) (dropped_more code i d lt)
    ∙ ap (λ (n : ℕ). steps ++ step_of pool pcs i (get_or code i d) ∷ steps_from pool pcs n (drop (i + 1) code)) (sym (add-one i))
    ∙ sym (append_assoc steps (step_of pool pcs i (get_or code i d) ∷ []) (steps_from pool pcs (i + 1) (drop (i + 1) code)))

pub steps_all : (pool : List PoolEntry) (pcs : List ℕ) (steps : List Step) (code : List Placed) (i : ℕ) → length code ≤ i → steps ++ steps_from pool pcs i (drop i code) ≡ steps
steps_all pool pcs steps code i le = ap (λ (c : List Placed). steps ++ steps_from pool pcs i c) (all_dropped code i le) ∙ append-nil steps
  where
    all_dropped : (xs : List Placed) (n : ℕ) → length xs ≤ n → drop n xs ≡ []
    all_dropped [] zero le = refl
    all_dropped [] (suc n) le = refl
    all_dropped (x ∷ xs) zero le = absurd (omega arith)
    all_dropped (x ∷ xs) (suc n) le = all_dropped xs n (omega arith)

-- ---- the entry

params_push : (params : List FieldDesc) (p : FieldDesc) → param_slots (params ++ p ∷ []) ≡ param_slots params ++ slots_of p.kind
params_push [] p = append-nil (slots_of p.kind)
params_push (q ∷ params) p = ap (λ (s : List SlotKind). slots_of q.kind ++ s) (params_push params p) ∙ sym (append_assoc (slots_of q.kind) (param_slots params) (slots_of p.kind))

pub params_more : (slots : List SlotKind) (params : List FieldDesc) (i : ℕ) (d : FieldDesc) → i < length params
    → slots ++ param_slots (take (i + 1) params) ≡ (slots ++ param_slots (take i params)) ++ slots_of (get_or params i d).kind
params_more slots params i d lt =
    ap (λ (ps : List FieldDesc). slots ++ param_slots ps) (take_more params i d lt) ∙ ap (λ (s : List SlotKind). slots ++ s) (params_push (take i params) (get_or params i d))
    ∙ sym (append_assoc slots (param_slots (take i params)) (slots_of (get_or params i d).kind))

pub filled_more : {A : Type 0} (xs : List A) (x : A) (count : ℕ) → length xs < count → filled (xs ++ x ∷ []) x count ≡ filled xs x count
filled_more {A = A} xs x count lt =
    let more : length (xs ++ x ∷ []) ≡ length xs + 1 = length-append xs (x ∷ []) in
    let rest : count - length (xs ++ x ∷ []) ≡ count - (length xs + 1) = omega (arith, more) in
    let here : suc (count - (length xs + 1)) ≡ count - length xs = omega arith in
    append_assoc xs (x ∷ []) (replicate (count - length (xs ++ x ∷ [])) x)
    ∙ ap (λ (n : ℕ). xs ++ replicate (suc n) x) rest ∙ ap (λ (n : ℕ). xs ++ replicate n x) here

pub filled_all : {A : Type 0} (xs : List A) (x : A) (count : ℕ) → count ≤ length xs → filled xs x count ≡ xs
filled_all {A = A} xs x count le =
    let none : count - length xs ≡ 0 = omega arith in
    ap (λ (n : ℕ). xs ++ replicate n x) none ∙ append-nil xs

-- what a call wrote into all of a list
pub written : {A : Type 0} (count : ℕ) (new old : List A) → count ≡ length new → take count (new ++ drop (length new) old) ≡ new
written {A = A} count new old e = ap (λ (n : ℕ). take n (new ++ drop (length new) old)) e ∙ take-append_seam new (drop (length new) old)

-- ---- the numbers of parameters

pub numbers_more : (numbers : List ℕ) (first : ℕ) (params : List FieldDesc) (i : ℕ) (d : FieldDesc) → i < length params
    → numbers ++ numbers_from (first + i) (drop i params) ≡ (numbers ++ replicate (length (slots_of (get_or params i d).kind)) (first + i)) ++ numbers_from (first + (i + 1)) (drop (i + 1) params)
numbers_more numbers first params i d lt =
    let next : suc (first + i) ≡ first + (i + 1) = omega arith in
    ap (λ (ps : List FieldDesc). numbers ++ numbers_from (first + i) ps) (dropped_more params i d lt)
    ∙ ap (λ (n : ℕ). numbers ++ (replicate (length (slots_of (get_or params i d).kind)) (first + i) ++ numbers_from n (drop (i + 1) params))) next
    ∙ sym (append_assoc numbers (replicate (length (slots_of (get_or params i d).kind)) (first + i)) (numbers_from (first + (i + 1)) (drop (i + 1) params)))

pub numbers_all : (numbers : List ℕ) (first : ℕ) (params : List FieldDesc) (i : ℕ) → length params ≤ i → numbers ++ numbers_from (first + i) (drop i params) ≡ numbers
numbers_all numbers first params i le = ap (λ (ps : List FieldDesc). numbers ++ numbers_from (first + i) ps) (all_dropped params i le) ∙ append-nil numbers
  where
    all_dropped : (xs : List FieldDesc) (n : ℕ) → length xs ≤ n → drop n xs ≡ []
    all_dropped [] zero le = refl
    all_dropped [] (suc n) le = refl
    all_dropped (x ∷ xs) zero le = absurd (omega arith)
    all_dropped (x ∷ xs) (suc n) le = all_dropped xs n (omega arith)

slots_some : (k : Kind) → 1 ≤ length (slots_of k)
slots_some kind.Int = omega arith
slots_some kind.Ref = omega arith
slots_some kind.Long = omega arith
slots_some kind.Float = omega arith
slots_some kind.Double = omega arith

-- each parameter takes a slot
pub params_few : (params : List FieldDesc) → length params ≤ length (param_slots params)
params_few [] = omega arith
params_few (p ∷ params) = omega (arith, params_few params, slots_some p.kind, length-append (slots_of p.kind) (param_slots params))
