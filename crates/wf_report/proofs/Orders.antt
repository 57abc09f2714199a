-- Lists that ascend.
use Rattle.std.proofs.Common.{◌≡◌, ℕ, suc, ◌-◌, true, List, [], ◌∷◌, ◌++◌, length, Option, refl, sym, ap, ◌∙◌, rules, arith}
use Rattle.std.proofs.lemmas.Map.Keys.{sorted_head, sorted_tail}
use Rattle.std.specs.declared.cmp.Ordering.{Ordering}
use Rattle.std.specs.declared.cmp.Ordering.TheVariants.{Less, Equal, Greater}
use Rattle.std.specs.Cmp.{IsTotalOrder, then_total, on_total, nat_cmp_total}
use Rattle.std.specs.Cmp.Rules.{comparing}
use Rattle.std.specs.List.{AllByRecursion, slice_get}
use Rattle.std.specs.List.Sorted.{IsStrictlySortedBy}
use Rattle.std.specs.Ordering.{is_lt}
use Rattle.wf_names.specs.declared.world.Unresolved.{Unresolved}
use Rattle.wf_report.specs.Reading.{is_behind, last_of}
use Rattle.wf_report.specs.Worlds.{name_cmp, member_cmp, place_cmp}

pub name_total : IsTotalOrder name_cmp
name_total = search (comparing, rules)

pub member_total : IsTotalOrder member_cmp
member_total = search (comparing, rules)

pub place_total : IsTotalOrder place_cmp
place_total = then_total (on_total (λ (u : Unresolved). u.method) member_total) (on_total (λ (u : Unresolved). u.pc) nat_cmp_total)

less : (o : Ordering) → is_lt o ≡ true → o ≡ Less
less Less h = refl
less Equal h = absurd cc
less Greater h = absurd cc

-- the last of a list that has one more in front
last_more : {X : Type 0} (x y : X) (ys : List X) → last_of (x ∷ y ∷ ys) ≡ last_of (y ∷ ys)
last_more x y ys =
    let e : length (x ∷ y ∷ ys) - 1 ≡ suc (length (y ∷ ys) - 1) = omega arith in
    ap (λ (n : ℕ). slice_get (x ∷ y ∷ ys) n) e

-- ---- one more behind the last

all_below : {X : Type 0} (cmp : X → X → Ordering) (x z : X) (ys : List X) → AllByRecursion (λ y. cmp x y ≡ Less) ys → cmp x z ≡ Less → AllByRecursion (λ y. cmp x y ≡ Less) (ys ++ z ∷ [])
all_below cmp x z [] all h = (h, tt)
all_below cmp x z (y ∷ ys) all h = (all.0, all_below cmp x z ys all.1 h)

first_below : {X : Type 0} (cmp : X → X → Ordering) → IsTotalOrder cmp → (x z : X) (ys : List X) → IsStrictlySortedBy cmp (x ∷ ys) → is_behind cmp (last_of (x ∷ ys)) z ≡ true → cmp x z ≡ Less
first_below cmp o x z [] sorted h = less (cmp x z) h
first_below {X} cmp o x z (y ∷ ys) sorted h =
    let head = sorted_head cmp x (y ∷ ys) sorted in
    o.trans x y z head.0 (first_below cmp o y z ys (sorted_tail cmp x (y ∷ ys) sorted) (ap (λ (l : Option X). is_behind cmp l z) (sym (last_more x y ys)) ∙ h))

behind_tail : {X : Type 0} (cmp : X → X → Ordering) (x z : X) (xs : List X) → is_behind cmp (last_of (x ∷ xs)) z ≡ true → is_behind cmp (last_of xs) z ≡ true
behind_tail cmp x z [] h = refl
behind_tail {X} cmp x z (y ∷ ys) h = ap (λ (l : Option X). is_behind cmp l z) (sym (last_more x y ys)) ∙ h

pub sorted_push : {X : Type 0} (cmp : X → X → Ordering) → IsTotalOrder cmp → (xs : List X) (z : X) → IsStrictlySortedBy cmp xs → is_behind cmp (last_of xs) z ≡ true → IsStrictlySortedBy cmp (xs ++ z ∷ [])
unfolding IsStrictlySortedBy
sorted_push cmp o [] z sorted h = (tt, tt)
sorted_push cmp o (x ∷ xs) z sorted h =
    (all_below cmp x z xs (sorted_head cmp x xs sorted) (first_below cmp o x z xs sorted h), sorted_push cmp o xs z (sorted_tail cmp x xs sorted) (behind_tail cmp x z xs h))

-- ---- what stands behind others

pub sorted_behind : {X : Type 0} (cmp : X → X → Ordering) (xs : List X) (z : X) (zs : List X) → IsStrictlySortedBy cmp (xs ++ z ∷ zs) → is_behind cmp (last_of xs) z ≡ true
sorted_behind cmp [] z zs sorted = refl
sorted_behind cmp (x ∷ []) z zs sorted = ap is_lt (sorted_head cmp x (z ∷ zs) sorted).0
sorted_behind {X} cmp (x ∷ y ∷ ys) z zs sorted =
    ap (λ (l : Option X). is_behind cmp l z) (last_more x y ys) ∙ sorted_behind cmp (y ∷ ys) z zs (sorted_tail cmp x ((y ∷ ys) ++ z ∷ zs) sorted)
