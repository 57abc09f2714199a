-- Listings rise strictly, and are known by their entries.
use Rattle.std.proofs.Common.{◌≡◌, ℕ, zero, suc, ◌+◌, ◌<◌, ◌⊎◌, inl, inr, arith, List, [], ◌∷◌, drop, length, get_or, Bool, ◌&&◌, nat_eq, true, false, refl, sym, ap, subst, ◌∙◌, Option, None, Some, Ordering}
use mathlib.Core.Bool.{beq}
use Rattle.std.specs.declared.cmp.Ordering.TheVariants.{Less, Equal, Greater}
use Rattle.std.specs.Option.{option_map_or}
use Rattle.std.specs.Ordering.{nat_cmp, bool_cmp, match_ordering, ordering_reverse, ordering_then, eq_by_cmp, is_eq}
use Rattle.std.proofs.lemmas.List.{drop_more}
use Rattle.std.specs.Cmp.{IsTotalOrder, IsEquivalence, both_ways, then_total, on_total, nat_cmp_total, bool_cmp_total, eq_by_cmp_equiv, both_tied}
use Rattle.std.specs.Cmp.Lexicographic.{pointwise, slice_cmp, lists_total, texts_ties}
use Rattle.std.specs.List.{AllByRecursion, Contains, dedup}
use Rattle.std.specs.List.Sorted.{IsStrictlySortedBy, IsPermutation, IsSorted}
use Rattle.std.specs.BTreeSet.{insert_key}
use Rattle.std.proofs.lemmas.List.Elements.{All-contains, All-contains_itself, All-weaker, Contains-append_left, Contains-append_right, Contains-append_cases}
use Rattle.std.proofs.lemmas.List.Sorted.{Contains-permutation, IsPermutation-sym}
use Rattle.std.proofs.lemmas.Cmp.{ranked}
use Rattle.std.proofs.lemmas.List.Kept.{IsStrictlySortedBy-dedup, Contains-dedup, Contains-from_dedup}
use Rattle.std.proofs.lemmas.Map.Lookups.{CmpEqualImpliesEq, btree_set_from_contains}
use Rattle.std.proofs.lemmas.Map.Views.{All-insert_key, btree_set_contains_iff}
use Rattle.wf_io.specs.declared.tree.Entry.{Entry}
use Rattle.wf_io.specs.declared.tree.MemFile.{MemFile}
use Rattle.wf_io.specs.Tree.{entry_cmp, entry_of, with_entry, in_order, listing}

pub entry_total : IsTotalOrder entry_cmp
entry_total = then_total (on_total (λ (e : Entry). e.name) (lists_total nat_cmp_total)) (on_total (λ (e : Entry). e.is_dir) bool_cmp_total)

bool_ties : (a b : Bool) → beq a b ≡ eq_by_cmp bool_cmp a b
bool_ties true true = refl
bool_ties true false = refl
bool_ties false true = refl
bool_ties false false = refl

-- `==` of entries holds just where they compare as equal
pub entry_ties : (a b : Entry) → (pointwise nat_eq a.name b.name && beq a.is_dir b.is_dir) ≡ eq_by_cmp entry_cmp a b
entry_ties a b = both_tied _ _ _ _ (texts_ties a.name b.name) (bool_ties a.is_dir b.is_dir)

both_equal : (r s : Ordering) → ordering_then r s ≡ Equal → (r ≡ Equal) × (s ≡ Equal)
both_equal Less s h = cc
both_equal Equal s h = (refl, h)
both_equal Greater s h = cc

nat_exact : (x y : ℕ) → nat_cmp x y ≡ Equal → x ≡ y
nat_exact x y h = rw h at (ranked x y (nat_cmp x y) refl)

bool_exact : (a b : Bool) → bool_cmp a b ≡ Equal → a ≡ b
bool_exact true true h = refl
bool_exact true false h = cc
bool_exact false true h = cc
bool_exact false false h = refl

name_exact : (xs ys : List ℕ) → slice_cmp nat_cmp xs ys ≡ Equal → xs ≡ ys
name_exact [] [] h = refl
name_exact [] (y ∷ ys) h = cc
name_exact (x ∷ xs) [] h = cc
name_exact (x ∷ xs) (y ∷ ys) h =
    let parts = both_equal (nat_cmp x y) (slice_cmp nat_cmp xs ys) h in
    let first = nat_exact x y parts.0 in
    let rest = name_exact xs ys parts.1 in
    λ i. first i ∷ rest i

-- entries that compare as equal are the same
pub entry_exact : CmpEqualImpliesEq entry_cmp
entry_exact a b h =
    let parts = both_equal (slice_cmp nat_cmp a.name b.name) (bool_cmp a.is_dir b.is_dir) h in
    let names = name_exact a.name b.name parts.0 in
    let dirs = bool_exact a.is_dir b.is_dir parts.1 in
    λ i. record { name = names i; is_dir = dirs i }

is_Equal : (r : Ordering) → is_eq r ≡ true → r ≡ Equal
is_Equal Less h = cc
is_Equal Equal h = refl
is_Equal Greater h = cc

-- what a set does with one more entry
pub with_entry-is : (e : Entry) (xs : List Entry) → with_entry e xs ≡ insert_key entry_cmp xs e
with_entry-is e [] = refl
with_entry-is e (x ∷ xs) = ap (λ rest. match_ordering (entry_cmp e x) (e ∷ x ∷ xs) (x ∷ xs) (x ∷ rest)) (with_entry-is e xs)

AllByRecursion-with_entry : (P : Entry → Type 0) (e : Entry) (xs : List Entry) → P e → AllByRecursion P xs → AllByRecursion P (with_entry e xs)
AllByRecursion-with_entry P e [] p ps = (p, tt)
AllByRecursion-with_entry P e (x ∷ xs) p ps =
    elim (entry_cmp e x) as (λ r. AllByRecursion P (match_ordering r (e ∷ x ∷ xs) (x ∷ xs) (x ∷ with_entry e xs)))
    [ Less ↦ (p, ps) | Equal ↦ ps | Greater ↦ (ps.0, AllByRecursion-with_entry P e xs p ps.1) ]

below_all : (e x : Entry) (xs : List Entry) → entry_cmp e x ≡ Less → AllByRecursion (λ y. entry_cmp x y ≡ Less) xs → AllByRecursion (λ y. entry_cmp e y ≡ Less) xs
below_all e x [] is h = tt
below_all e x (y ∷ ys) is h = (entry_total.trans e x y is h.0, below_all e x ys is h.1)

rising_by : (e x : Entry) (xs : List Entry) → IsStrictlySortedBy entry_cmp (x ∷ xs) → IsStrictlySortedBy entry_cmp (with_entry e xs) → (r : Ordering) → entry_cmp e x ≡ r → IsStrictlySortedBy entry_cmp (match_ordering r (e ∷ x ∷ xs) (x ∷ xs) (x ∷ with_entry e xs))
unfolding IsStrictlySortedBy
rising_by e x xs s t Less is = ((is, below_all e x xs is s.0), s)
rising_by e x xs s t Equal is = s
rising_by e x xs s t Greater is =
    (AllByRecursion-with_entry (λ y. entry_cmp x y ≡ Less) e xs (entry_total.antisymm x e ∙ ap ordering_reverse is) s.0, t)

rising-with_entry : (e : Entry) (xs : List Entry) → IsStrictlySortedBy entry_cmp xs → IsStrictlySortedBy entry_cmp (with_entry e xs)
unfolding IsStrictlySortedBy
rising-with_entry e [] s = (tt, tt)
rising-with_entry e (x ∷ xs) s = rising_by e x xs s (rising-with_entry e xs s.1) (entry_cmp e x) refl

rising_either : (found : Option Entry) (xs : List Entry) → IsStrictlySortedBy entry_cmp xs → IsStrictlySortedBy entry_cmp (option_map_or (λ e. with_entry e xs) found xs)
rising_either None xs s = s
rising_either (Some e) xs s = rising-with_entry e xs s

pub rising-listing : (files : List MemFile) (dir : List ℕ) → IsStrictlySortedBy entry_cmp (listing files dir)
unfolding IsStrictlySortedBy
rising-listing [] dir = tt
rising-listing (file ∷ files) dir = rising_either (entry_of dir file.path) (listing files dir) (rising-listing files dir)

-- one more file, whose path leads through an entry
pub listing-more : (files : List MemFile) (dir : List ℕ) (i j : ℕ) (file : MemFile) (e : Entry) → i < length files → j ≡ i + 1 → file ≡ get_or files i file → entry_of dir file.path ≡ Some e → listing (drop i files) dir ≡ insert_key entry_cmp (listing (drop j files) dir) e
listing-more files dir i j file e h next is found =
    let rest = listing (drop (i + 1) files) dir in
    rw (next, drop_more files i file h, ← is)
    (ap (λ o. option_map_or (λ e. with_entry e rest) o rest) found ∙ with_entry-is e rest)

-- lists that rise strictly and have the same entries are one
one_list : (xs ys : List Entry) → IsStrictlySortedBy entry_cmp xs → IsStrictlySortedBy entry_cmp ys → ((e : Entry) → Contains xs e → Contains ys e) → ((e : Entry) → Contains ys e → Contains xs e) → xs ≡ ys
one_list xs ys s t f g =
    let has = λ (zs : List Entry) (e : Entry). btree_set_contains_iff entry_total entry_exact (record { keys = zs }) e in
    btree_set_from_contains entry_total (record { keys = xs }) (record { keys = ys }) s t
    (λ e. both_ways _ _ (λ h. (has ys e).1 (f e ((has xs e).0 h))) (λ h. (has xs e).1 (g e ((has ys e).0 h))))
    entry_exact

-- ---- membership

head_in : {X : Type 0} (x : X) (xs : List X) → Contains (x ∷ xs) x
head_in x xs = Contains-append_left (x ∷ []) xs x (0, omega arith, refl)

later_in : {X : Type 0} (y x : X) (xs : List X) → Contains xs x → Contains (y ∷ xs) x
later_in y x xs h = Contains-append_right (y ∷ []) xs x h

only_one : {X : Type 0} (y x : X) (i : ℕ) → i < 1 → get_or (y ∷ []) i x ≡ x → y ≡ x
only_one y x zero lt e = e
only_one y x (suc i) lt e = absurd (omega (arith, lt))

from_cons : {X : Type 0} (y x : X) (xs : List X) → Contains (y ∷ xs) x → (y ≡ x) ⊎ Contains xs x
from_cons y x xs h = elim (Contains-append_cases (y ∷ []) xs x h) [
  | inl first ↦ inl (only_one y x first.0 first.1 first.2)
  | inr later ↦ inr later
]

-- the new entry is among them
with_entry-new : (e : Entry) (xs : List Entry) → Contains (with_entry e xs) e
with_entry-new e [] = head_in e []
with_entry-new e (x ∷ xs) = by_case (with_entry-new e xs) (entry_cmp e x) refl
  where
    by_case : Contains (with_entry e xs) e → (r : Ordering) → entry_cmp e x ≡ r → Contains (match_ordering r (e ∷ x ∷ xs) (x ∷ xs) (x ∷ with_entry e xs)) e
    by_case rest Less is = head_in e (x ∷ xs)
    by_case rest Equal is = subst (λ (y : Entry). Contains (x ∷ xs) y) (sym (entry_exact e x is)) (head_in x xs)
    by_case rest Greater is = later_in x e (with_entry e xs) rest

-- and so are those that were there
with_entry-keeps : (e y : Entry) (xs : List Entry) → Contains xs y → Contains (with_entry e xs) y
with_entry-keeps e y [] h = absurd (omega (arith, h.1))
with_entry-keeps e y (x ∷ xs) h = elim (entry_cmp e x) as (λ r. Contains (match_ordering r (e ∷ x ∷ xs) (x ∷ xs) (x ∷ with_entry e xs)) y) [
  | Less ↦ later_in e y (x ∷ xs) h
  | Equal ↦ h
  | Greater ↦ kept (with_entry-keeps e y xs) (from_cons x y xs h)
]
  where
    kept : (Contains xs y → Contains (with_entry e xs) y) → (x ≡ y) ⊎ Contains xs y → Contains (x ∷ with_entry e xs) y
    kept rest (inl is) = subst (λ (z : Entry). Contains (x ∷ with_entry e xs) z) is (head_in x (with_entry e xs))
    kept rest (inr later) = later_in x y (with_entry e xs) (rest later)

-- and nothing else
with_entry-only : (e y : Entry) (xs : List Entry) → Contains (with_entry e xs) y → (y ≡ e) ⊎ Contains xs y
with_entry-only e y xs h =
    let P : Entry → Type 0 = λ z. (z ≡ e) ⊎ Contains xs z in
    All-contains P (with_entry e xs) y (rw (with_entry-is e xs) (All-insert_key entry_cmp e P xs (All-weaker (Contains xs) P (λ z m. inr m) xs (All-contains_itself xs)) (inl refl))) h

pub rising-in_order : (entries : List Entry) → IsStrictlySortedBy entry_cmp (in_order entries)
unfolding IsStrictlySortedBy
rising-in_order [] = tt
rising-in_order (e ∷ entries) = rising-with_entry e (in_order entries) (rising-in_order entries)

in_order-has : (entries : List Entry) (y : Entry) → Contains entries y → Contains (in_order entries) y
in_order-has [] y h = h
in_order-has (e ∷ entries) y h = by_case (in_order-has entries y) (from_cons e y entries h)
  where
    by_case : (Contains entries y → Contains (in_order entries) y) → (e ≡ y) ⊎ Contains entries y → Contains (with_entry e (in_order entries)) y
    by_case rest (inl is) = subst (λ (z : Entry). Contains (with_entry e (in_order entries)) z) is (with_entry-new e (in_order entries))
    by_case rest (inr later) = with_entry-keeps e y (in_order entries) (rest later)

in_order-only : (entries : List Entry) (y : Entry) → Contains (in_order entries) y → Contains entries y
in_order-only [] y h = h
in_order-only (e ∷ entries) y h = by_case (in_order-only entries y) (with_entry-only e y (in_order entries) h)
  where
    by_case : (Contains (in_order entries) y → Contains entries y) → (y ≡ e) ⊎ Contains (in_order entries) y → Contains (e ∷ entries) y
    by_case rest (inl is) = subst (λ (z : Entry). Contains (e ∷ entries) z) (sym is) (head_in e entries)
    by_case rest (inr later) = later_in e y entries (rest later)

-- entries that were moved, sorted and rid of doubles
pub dedup-in_order : {E : Entry → Entry → Bool} (ties : (x y : Entry) → E x y ≡ eq_by_cmp entry_cmp x y) (given moved : List Entry) → IsPermutation given moved → IsSorted entry_cmp moved → dedup E moved ≡ in_order given
dedup-in_order {E} ties given moved p s =
    let e : IsEquivalence E = subst IsEquivalence (λ i x y. sym (ties x y) i) (eq_by_cmp_equiv entry_total) in
    one_list (dedup E moved) (in_order given)
    (IsStrictlySortedBy-dedup entry_total ties moved s) (rising-in_order given)
    (λ x h. in_order-has given x (Contains-permutation moved given x (IsPermutation-sym given moved p) (Contains-from_dedup E moved x h)))
    (λ x h. Contains-dedup e (λ a b same. entry_exact a b (is_Equal _ (sym (ties a b) ∙ same))) moved x (Contains-permutation given moved x p (in_order-only given x h)))

-- The entries of a directory, in whatever order they came, are its listing.
pub in_order-listing : (files : List MemFile) (dir : List ℕ) (given : List Entry) → IsPermutation (listing files dir) given → in_order given ≡ listing files dir
in_order-listing files dir given p =
    one_list (in_order given) (listing files dir) (rising-in_order given) (rising-listing files dir)
    (λ x h. Contains-permutation given (listing files dir) x (IsPermutation-sym (listing files dir) given p) (in_order-only given x h))
    (λ x h. in_order-has given x (Contains-permutation (listing files dir) given x p h))
