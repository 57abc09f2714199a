-- A number is that of one member, and a member stands once in its class.
use Rattle.std.proofs.Common.{◌≡◌, ℕ, zero, suc, ◌+◌, ◌<◌, ◌≤◌, Bool, true, false, ◌||◌, cond, List, [], ◌∷◌, length, get_or, sum_by, count_by, Some, None, Ordering, refl, sym, ap, subst, ◌∙◌, add-one, arith, inl, inr}
use Rattle.std.specs.Prelude.{slice_get, option_map}
use Rattle.std.specs.List.{list_any}
use Rattle.std.specs.Cmp.{IsTotalOrder}
use Rattle.std.specs.Ordering.{is_lt, is_eq, ordering_reverse}
use Rattle.std.specs.declared.cmp.Ordering.TheVariants.{Less, Equal, Greater}
use Rattle.std.proofs.lemmas.Bool.{cases_lt, cases_Bool}
use Rattle.std.proofs.lemmas.Cmp.{nat_list_cmp_total, then_total, on_total, tied_itself}
use Rattle.std.proofs.lemmas.List.{take_all, get_or_past}
use Rattle.std.proofs.lemmas.List.Sums.{sum_by-cons, sum_by_more}
use Rattle.std.proofs.lemmas.Option.{same_Some}
use Rattle.wf_grammar.specs.ClassFile.{Key}
use Rattle.wf_classes.specs.Members.{key_cmp, offset, rank, member_of, number_of}
use Rattle.wf_classes.proofs.Tables.{same_key}

pub total : IsTotalOrder key_cmp
total = then_total (on_total (λ (k : Key). k.0) nat_list_cmp_total) (on_total (λ (k : Key). k.1) nat_list_cmp_total)

-- ---- counts

step : (a b : Bool) → (a ≡ true → b ≡ true) → cond a 1 0 ≤ cond b 1 0
step true true h = omega arith
step true false h = absurd (let e = h refl in cc)
step false true h = omega arith
step false false h = omega arith

zero_at : (b : Bool) → b ≡ false → cond b 1 0 ≤ 0
zero_at true e = absurd cc
zero_at false e = omega arith

one_at : (b : Bool) → b ≡ true → 1 ≤ cond b 1 0
one_at true e = omega arith
one_at false e = absurd cc

count_le : {X : Type 0} (p q : X → Bool) (xs : List X) → ((x : X) → p x ≡ true → q x ≡ true) → count_by p xs ≤ count_by q xs
count_le p q [] h = omega arith
count_le p q (x ∷ xs) h = omega (arith, sum_by-cons (λ y. cond (p y) 1 0) x xs, sum_by-cons (λ y. cond (q y) 1 0) x xs, step (p x) (q x) (h x), count_le p q xs h)

-- one element more passes the second test
count_lt : {X : Type 0} (p q : X → Bool) (xs : List X) (i : ℕ) (x : X) → ((y : X) → p y ≡ true → q y ≡ true) → slice_get xs i ≡ Some x → p x ≡ false → q x ≡ true → count_by p xs < count_by q xs
count_lt p q [] i x h e f t = absurd cc
count_lt p q (y ∷ xs) zero x h e f t =
    let same : y ≡ x = cc in
    omega (arith, sum_by-cons (λ y. cond (p y) 1 0) y xs, sum_by-cons (λ y. cond (q y) 1 0) y xs, zero_at (p y) (ap p same ∙ f), one_at (q y) (ap q same ∙ t), count_le p q xs h)
count_lt p q (y ∷ xs) (suc i) x h e f t = omega (arith, sum_by-cons (λ y. cond (p y) 1 0) y xs, sum_by-cons (λ y. cond (q y) 1 0) y xs, step (p y) (q y) (h y), count_lt p q xs i x h e f t)

count_all : {X : Type 0} (xs : List X) → count_by (λ x. true) xs ≡ length xs
count_all [] = refl
count_all (x ∷ xs) = omega (arith, sum_by-cons (λ y. cond true 1 0) x xs, count_all xs)

-- ---- ranks

is_less : (o : Ordering) → is_lt o ≡ true → o ≡ Less
is_less Less e = refl
is_less Equal e = absurd cc
is_less Greater e = absurd cc

not_less : (o : Ordering) → o ≡ Equal → is_lt o ≡ false
not_less Less e = absurd cc
not_less Equal e = refl
not_less Greater e = absurd cc

less : (o : Ordering) → o ≡ Less → is_lt o ≡ true
less Less e = refl
less Equal e = absurd cc
less Greater e = absurd cc

rank_within : (keys : List Key) (i : ℕ) (key : Key) → slice_get keys i ≡ Some key → rank keys key < length keys
rank_within keys i key e =
    omega (arith, count_lt (λ k. is_lt (key_cmp k key)) (λ k. true) keys i key (λ y t. refl) e (not_less _ (tied_itself total key)) refl, count_all keys)

rank_rises : (keys : List Key) (i : ℕ) (a b : Key) → slice_get keys i ≡ Some a → key_cmp a b ≡ Less → rank keys a < rank keys b
rank_rises keys i a b e l =
    count_lt (λ k. is_lt (key_cmp k a)) (λ k. is_lt (key_cmp k b)) keys i a (λ y t. less _ (total.trans y a b (is_less _ t) l)) e (not_less _ (tied_itself total a)) (less _ l)

-- keys of one rank are one
one_rank : (keys : List Key) (i j : ℕ) (a b : Key) → slice_get keys i ≡ Some a → slice_get keys j ≡ Some b → rank keys a ≡ rank keys b → a ≡ b
one_rank keys i j a b e f same = go (key_cmp a b) refl where
  go : (o : Ordering) → key_cmp a b ≡ o → a ≡ b
  go Less is = absurd (let r = rank_rises keys i a b e is in omega arith)
  go Equal is = same_key a b is
  go Greater is = absurd (let r = rank_rises keys j b a f (total.antisymm b a ∙ ap ordering_reverse is) in omega arith)

-- ---- numbers

-- member n has this key, and is in class c
pub record IsIn (keys : List (List Key)) (n c : ℕ) (key : Key) : Type 0 where
  pub at : ℕ
  pub there : slice_get (get_or keys c []) at ≡ Some key
  pub number : number_of keys c key ≡ n

any_place : {X : Type 0} (p : X → Bool) (xs : List X) → list_any p xs ≡ true → (i : ℕ) × (x : X) × (slice_get xs i ≡ Some x) × (p x ≡ true)
any_place p [] e = absurd cc
any_place {X} p (x ∷ xs) e = elim (cases_Bool (p x)) [
  | inl t ↦ (0, x, refl, t)
  | inr f ↦ (let r = any_place p xs (sym (ap (λ b. b || list_any p xs) f) ∙ e) in (suc r.0, r.1, r.2, r.3))
]

pub is_equal : (o : Ordering) → is_eq o ≡ true → o ≡ Equal
is_equal Less e = absurd cc
is_equal Equal e = refl
is_equal Greater e = absurd cc

pub is_in : (keys : List (List Key)) (n c : ℕ) (key : Key) → member_of keys c key ≡ Some n → IsIn keys n c key
is_in keys n c key e = go (list_any (λ k. is_eq (key_cmp k key)) (get_or keys c [])) refl e where
  go : (b : Bool) → list_any (λ k. is_eq (key_cmp k key)) (get_or keys c []) ≡ b → option_map (λ r. offset keys c + r) (cond b (Some (rank (get_or keys c []) key)) None) ≡ Some n → IsIn keys n c key
  go false is e = absurd cc
  go true is e =
      let p = any_place (λ k. is_eq (key_cmp k key)) (get_or keys c []) is in
      record { at = p.0; there = p.2 ∙ ap (λ k. Some k) (same_key p.1 key (is_equal _ p.3)); number = same_Some _ _ e }

any_from : {X : Type 0} (p : X → Bool) (xs : List X) (i : ℕ) (x : X) → slice_get xs i ≡ Some x → p x ≡ true → list_any p xs ≡ true
any_from p [] i x e t = absurd cc
any_from p (y ∷ xs) zero x e t = (let same : y ≡ x = cc in rw (ap p same ∙ t) refl)
any_from p (y ∷ xs) (suc i) x e t = rw (any_from p xs i x e t) (or_true (p y)) where
  or_true : (b : Bool) → (b || true) ≡ true
  or_true true = refl
  or_true false = refl

pub eq_is : (o : Ordering) → o ≡ Equal → is_eq o ≡ true
eq_is Less e = absurd cc
eq_is Equal e = refl
eq_is Greater e = absurd cc

pub in_is : (keys : List (List Key)) (n c i : ℕ) (key : Key) → slice_get (get_or keys c []) i ≡ Some key → number_of keys c key ≡ n → member_of keys c key ≡ Some n
in_is keys n c i key e is =
    rw (any_from (λ k. is_eq (key_cmp k key)) (get_or keys c []) i key e (eq_is _ (tied_itself total key))) (ap (λ m. Some m) is)

offset_rises : (keys : List (List Key)) (c d : ℕ) → c < d → c < length keys → offset keys c + length (get_or keys c []) ≤ offset keys d
offset_rises keys c zero l m = absurd (omega arith)
offset_rises keys c (suc d) l m =
    elim (cases_lt c d) [
      | inl a ↦ (let r = offset_rises keys c d a m in omega (arith, r, upto d))
      | inr b ↦ (let same : c ≡ d = omega arith in
          subst (λ e. offset keys c + length (get_or keys c []) ≤ offset keys (suc e)) same (omega (arith, more c m, ap (offset keys) (add-one c))))
    ] where
      more : (c : ℕ) → c < length keys → offset keys (c + 1) ≡ offset keys c + length (get_or keys c [])
      more c l = sum_by_more length keys c [] l

      upto : (d : ℕ) → offset keys d ≤ offset keys (suc d)
      upto d = elim (cases_lt d (length keys)) [
        | inl a ↦ omega (arith, more d a, ap (offset keys) (add-one d))
        | inr b ↦ omega (arith, ap (λ xs. sum_by length xs) (take_all d keys b), ap (λ xs. sum_by length xs) (take_all (suc d) keys (omega arith)))
      ]

-- a member's class is there
class_there : (keys : List (List Key)) (n c : ℕ) (key : Key) → IsIn keys n c key → c < length keys
class_there keys n c key h = elim (cases_lt c (length keys)) [
  | inl a ↦ a
  | inr b ↦ absurd (none h.at (sym (ap (λ (xs : List Key). slice_get xs h.at) (get_or_past keys c [] b)) ∙ h.there))
] where
  none : (i : ℕ) → slice_get {X = Key} [] i ≡ Some key → ⊥
  none i e = cc

pub one_class : (keys : List (List Key)) (n c d : ℕ) (a b : Key) → IsIn keys n c a → IsIn keys n d b → c ≡ d
one_class keys n c d a b h k = elim (cases_lt c d) [
  | inl l ↦ absurd (let r = offset_rises keys c d l (class_there keys n c a h) in omega (arith, r, h.number, k.number, rank_within (get_or keys c []) h.at a h.there))
  | inr m ↦ elim (cases_lt d c) [
    | inl l ↦ absurd (let r = offset_rises keys d c l (class_there keys n d b k) in omega (arith, r, h.number, k.number, rank_within (get_or keys d []) k.at b k.there))
    | inr o ↦ omega arith
  ]
]

-- a number is that of one member
pub one_member : (keys : List (List Key)) (n c d : ℕ) (a b : Key) → IsIn keys n c a → IsIn keys n d b → (c ≡ d) × (a ≡ b)
one_member keys n c d a b h k =
    let same = one_class keys n c d a b h k in
    let here : IsIn keys n c b = subst (λ e. IsIn keys n e b) (sym same) k in
    (same, one_rank (get_or keys c []) h.at here.at a b h.there here.there (omega (arith, h.number, here.number)))
