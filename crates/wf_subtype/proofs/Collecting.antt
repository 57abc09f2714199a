-- Collecting names in their order.
use Rattle.std.proofs.Common.{◌≡◌, ℕ, zero, suc, ◌+◌, ◌<◌, ◌≤◌, List, [], ◌∷◌, length, Some, Ordering, refl, sym, ap, subst, ◌∙◌, arith, inl, inr, ◌⊎◌}
use Rattle.std.specs.Prelude.{slice_get, Result, Ok, Err, OnOk}
use Rattle.std.specs.BTreeSet.{insert_key}
use Rattle.std.specs.Cmp.Lexicographic.{slice_cmp}
use Rattle.std.specs.Ordering.{nat_cmp, is_eq, match_ordering}
use Rattle.std.specs.declared.cmp.Ordering.TheVariants.{Less, Equal, Greater}
use Rattle.std.proofs.lemmas.Bool.{cases_lt, cases_eq}
use Rattle.std.proofs.lemmas.Option.{slice_get_within}
use Rattle.wf_data.specs.declared.class_info.ClassInfo.{ClassInfo}
use Rattle.wf_classes.proofs.OwnNames.{same_text}
use Rattle.wf_subtype.specs.References.{IsArray}
use Rattle.wf_subtype.specs.Universe.{IsAmong, Inserts, InsertsArrays}

-- ---- the texts of a list

abbrev Has : List (List ℕ) → List ℕ → Type 0
Has [] t = ⊥
Has (x ∷ xs) t = (x ≡ t) ⊎ Has xs t

has : (xs : List (List ℕ)) (t : List ℕ) (i : ℕ) → slice_get xs i ≡ Some t → Has xs t
has [] t i e = absurd cc
has (x ∷ xs) t zero e = inl cc
has (x ∷ xs) t (suc i) e = inr (has xs t i e)

among : (xs : List (List ℕ)) (t : List ℕ) → Has xs t → IsAmong xs t
among [] t h = absurd h
among (x ∷ xs) t (inl e) = record { place = 0; there = ap (λ (x : List ℕ). Some x) e }
among (x ∷ xs) t (inr h) = let a = among xs t h in record { place = suc a.place; there = a.there }

keeps : (xs : List (List ℕ)) (k t : List ℕ) → Has xs t → Has (insert_key (slice_cmp nat_cmp) xs k) t
keeps [] k t h = absurd h
keeps (x ∷ xs) k t h = go (slice_cmp nat_cmp k x) (keeps xs k t) h where
  go : (o : Ordering) → (Has xs t → Has (insert_key (slice_cmp nat_cmp) xs k) t) → ((x ≡ t) ⊎ Has xs t) → Has (match_ordering o (k ∷ x ∷ xs) (x ∷ xs) (x ∷ insert_key (slice_cmp nat_cmp) xs k)) t
  go Less r h = inr h
  go Equal r h = h
  go Greater r (inl e) = inl e
  go Greater r (inr h) = inr (r h)

takes : (xs : List (List ℕ)) (k : List ℕ) → Has (insert_key (slice_cmp nat_cmp) xs k) k
takes [] k = inl refl
takes (x ∷ xs) k = go (slice_cmp nat_cmp k x) refl (takes xs k) where
  go : (o : Ordering) → slice_cmp nat_cmp k x ≡ o → Has (insert_key (slice_cmp nat_cmp) xs k) k → Has (match_ordering o (k ∷ x ∷ xs) (x ∷ xs) (x ∷ insert_key (slice_cmp nat_cmp) xs k)) k
  go Less e r = inl refl
  go Equal e r = inl (sym (same_text k x (ap is_eq e)))
  go Greater e r = inr r

no_other : (xs : List (List ℕ)) (k t : List ℕ) → Has (insert_key (slice_cmp nat_cmp) xs k) t → Has xs t ⊎ (t ≡ k)
no_other [] k t (inl e) = inr (sym e)
no_other [] k t (inr h) = absurd h
no_other (x ∷ xs) k t h = go (slice_cmp nat_cmp k x) (no_other xs k t) h where
  go : (o : Ordering) → (Has (insert_key (slice_cmp nat_cmp) xs k) t → Has xs t ⊎ (t ≡ k)) → Has (match_ordering o (k ∷ x ∷ xs) (x ∷ xs) (x ∷ insert_key (slice_cmp nat_cmp) xs k)) t → ((x ≡ t) ⊎ Has xs t) ⊎ (t ≡ k)
  go Less r (inl e) = inr (sym e)
  go Less r (inr h) = inl h
  go Equal r h = inl h
  go Greater r (inl e) = inl (inl e)
  go Greater r (inr h) = elim (r h) [ inl a ↦ inl (inr a) | inr b ↦ inr b ]

-- ---- inserting

pub insert_adds : (xs : List (List ℕ)) (k : List ℕ) → Inserts xs (insert_key (slice_cmp nat_cmp) xs k) (λ t. t ≡ k)
insert_adds xs k = record {
  kept = λ t a. among (insert_key (slice_cmp nat_cmp) xs k) t (keeps xs k t (has xs t a.place a.there));
  all = λ t e. subst (IsAmong (insert_key (slice_cmp nat_cmp) xs k)) (sym e) (among (insert_key (slice_cmp nat_cmp) xs k) k (takes xs k));
  only = λ t a. elim (no_other xs k t (has (insert_key (slice_cmp nat_cmp) xs k) t a.place a.there)) [ inl h ↦ inl (among xs t h) | inr e ↦ inr e ];
}

pub array_added : (classes : List ClassInfo) (xs : List (List ℕ)) (k : List ℕ) → IsArray classes k → InsertsArrays classes xs (insert_key (slice_cmp nat_cmp) xs k) (λ t. t ≡ k)
array_added classes xs k array =
    let h = insert_adds xs k in
    record {
      kept = h.kept;
      all = λ t a e. h.all t e;
      only = λ t a. elim (h.only t a) [ inl b ↦ inl b | inr e ↦ inr (subst (IsArray classes) (sym e) array, e) ];
    }

pub none_added : (classes : List ClassInfo) (xs : List (List ℕ)) (P : List ℕ → Type 0) → ((t : List ℕ) → IsArray classes t → P t → ⊥) → InsertsArrays classes xs xs P
none_added classes xs P none = record { kept = λ t a. a; all = λ t a p. absurd (none t a p); only = λ t a. inl a }

pub added_alike : (classes : List ClassInfo) (xs ys : List (List ℕ)) (P Q : List ℕ → Type 0) → ((t : List ℕ) → P t → Q t) → ((t : List ℕ) → IsArray classes t → Q t → P t) → InsertsArrays classes xs ys P → InsertsArrays classes xs ys Q
added_alike classes xs ys P Q to from h = record {
  kept = h.kept;
  all = λ t a q. h.all t a (from t a q);
  only = λ t a. elim (h.only t a) [ inl b ↦ inl b | inr c ↦ inr (c.0, to t c.1) ];
}

-- ---- going over a list

-- what is added at one of the first n places
pub record Below (P : ℕ → List ℕ → Type 0) (n : ℕ) (t : List ℕ) : Type 0 where
  pub place : ℕ
  pub within : place < n
  pub is : P place t

-- what an element adds, at its place
pub record At {X : Type 0} (xs : List X) (Q : X → List ℕ → Type 0) (place : ℕ) (t : List ℕ) : Type 0 where
  pub value : X
  pub there : slice_get xs place ≡ Some value
  pub is : Q value t

pub below_none : (classes : List ClassInfo) (xs : List (List ℕ)) (P : ℕ → List ℕ → Type 0) → InsertsArrays classes xs xs (Below P 0)
below_none classes xs P = none_added classes xs (Below P 0) (λ t a b. absurd (omega (arith, b.within)))

split_below : (P : ℕ → List ℕ → Type 0) (n : ℕ) (t : List ℕ) → Below P (n + 1) t → Below P n t ⊎ P n t
split_below P n t b = elim (cases_eq b.place n) [
  | inl e ↦ inr (subst (λ k. P k t) e b.is)
  | inr d ↦ inl (record { place = b.place; within = lower b.place n d b.within; is = b.is })
] where
  lower : (p n : ℕ) → (p ≡ n → ⊥) → p < n + 1 → p < n
  lower p n d l = elim (cases_lt p n) [ inl a ↦ a | inr o ↦ absurd (d (omega (arith, o, l))) ]

wider : (P : ℕ → List ℕ → Type 0) (n : ℕ) (t : List ℕ) → Below P n t → Below P (n + 1) t
wider P n t b = record { place = b.place; within = omega (arith, b.within); is = b.is }

pub below_more : (classes : List ClassInfo) (xs ys zs : List (List ℕ)) (P : ℕ → List ℕ → Type 0) (n : ℕ) → InsertsArrays classes xs ys (Below P n) → InsertsArrays classes ys zs (P n) → InsertsArrays classes xs zs (Below P (n + 1))
below_more classes xs ys zs P n h g = record {
  kept = λ t a. g.kept t (h.kept t a);
  all = λ t a b. elim (split_below P n t b) [ inl c ↦ g.kept t (h.all t a c) | inr c ↦ g.all t a c ];
  only = λ t a. elim (g.only t a) [
    | inl b ↦ (elim (h.only t b) [ inl c ↦ inl c | inr c ↦ inr (c.0, wider P n t c.1) ])
    | inr c ↦ inr (c.0, record { place = n; within = omega arith; is = c.1 })
  ];
}

-- the element at a place adds what is added there
pub at_one : {X : Type 0} (classes : List ClassInfo) (xs ys : List (List ℕ)) (items : List X) (Q : X → List ℕ → Type 0) (n : ℕ) (x : X) → slice_get items n ≡ Some x → InsertsArrays classes xs ys (Q x) → InsertsArrays classes xs ys (At items Q n)
at_one {X = X} classes xs ys items Q n x e h = added_alike classes xs ys (Q x) (At items Q n) (λ t q. record { value = x; there = e; is = q }) (λ t a q. subst (λ (y : X). Q y t) (same q.value (sym q.there ∙ e)) q.is) h where
  same : (y : X) → Some y ≡ Some x → y ≡ x
  same y f = cc

-- the same without arrays

pub plain_none : (xs : List (List ℕ)) (P : ℕ → List ℕ → Type 0) → Inserts xs xs (Below P 0)
plain_none xs P = record { kept = λ t a. a; all = λ t b. absurd (omega (arith, b.within)); only = λ t a. inl a }

pub plain_more : (xs ys zs : List (List ℕ)) (P : ℕ → List ℕ → Type 0) (n : ℕ) → Inserts xs ys (Below P n) → Inserts ys zs (P n) → Inserts xs zs (Below P (n + 1))
plain_more xs ys zs P n h g = record {
  kept = λ t a. g.kept t (h.kept t a);
  all = λ t b. elim (split_below P n t b) [ inl c ↦ g.kept t (h.all t c) | inr c ↦ g.all t c ];
  only = λ t a. elim (g.only t a) [
    | inl b ↦ (elim (h.only t b) [ inl c ↦ inl c | inr c ↦ inr (wider P n t c) ])
    | inr c ↦ inr (record { place = n; within = omega arith; is = c })
  ];
}

pub plain_alike : (xs ys : List (List ℕ)) (P Q : List ℕ → Type 0) → ((t : List ℕ) → P t → Q t) → ((t : List ℕ) → Q t → P t) → Inserts xs ys P → Inserts xs ys Q
plain_alike xs ys P Q to from h = record {
  kept = h.kept;
  all = λ t q. h.all t (from t q);
  only = λ t a. elim (h.only t a) [ inl b ↦ inl b | inr c ↦ inr (to t c) ];
}

pub on_ok : {A E : Type 0} (r : Result A E) (P Q : Type 0) → (P → Q) → OnOk r P → OnOk r Q
on_ok (Ok a) P Q f h = f h
on_ok (Err e) P Q f h = h

-- over a whole list, what its elements add
pub added_over : {X : Type 0} (classes : List ClassInfo) (xs ys : List (List ℕ)) (items : List X) (Q : X → List ℕ → Type 0) (R : List ℕ → Type 0) (n : ℕ) → length items ≤ n
    → ((place : ℕ) (x : X) (t : List ℕ) → slice_get items place ≡ Some x → Q x t → R t)
    → ((t : List ℕ) → R t → (place : ℕ) × (x : X) × (slice_get items place ≡ Some x) × Q x t)
    → InsertsArrays classes xs ys (Below (At items Q) n) → InsertsArrays classes xs ys R
added_over classes xs ys items Q R n all to from h = added_alike classes xs ys (Below (At items Q) n) R (λ t b. to b.place b.is.value t b.is.there b.is.is)
    (λ t a r. let p = from t r in record { place = p.0; within = omega (arith, all, slice_get_within items p.0 p.1 p.2); is = record { value = p.1; there = p.2; is = p.3 } }) h

pub plain_over : {X : Type 0} (xs ys : List (List ℕ)) (items : List X) (Q : X → List ℕ → Type 0) (R : List ℕ → Type 0) (n : ℕ) → length items ≤ n
    → ((place : ℕ) (x : X) (t : List ℕ) → slice_get items place ≡ Some x → Q x t → R t)
    → ((t : List ℕ) → R t → (place : ℕ) × (x : X) × (slice_get items place ≡ Some x) × Q x t)
    → Inserts xs ys (Below (At items Q) n) → Inserts xs ys R
plain_over xs ys items Q R n all to from h = plain_alike xs ys (Below (At items Q) n) R (λ t b. to b.place b.is.value t b.is.there b.is.is)
    (λ t r. let p = from t r in record { place = p.0; within = omega (arith, all, slice_get_within items p.0 p.1 p.2); is = record { value = p.1; there = p.2; is = p.3 } }) h

pub plain_at : {X : Type 0} (xs ys : List (List ℕ)) (items : List X) (Q : X → List ℕ → Type 0) (n : ℕ) (x : X) → slice_get items n ≡ Some x → Inserts xs ys (Q x) → Inserts xs ys (At items Q n)
plain_at {X = X} xs ys items Q n x e h = plain_alike xs ys (Q x) (At items Q n) (λ t q. record { value = x; there = e; is = q }) (λ t q. subst (λ (y : X). Q y t) (same q.value (sym q.there ∙ e)) q.is) h where
  same : (y : X) → Some y ≡ Some x → y ≡ x
  same y f = cc

pub nothing_added : (xs : List (List ℕ)) (P : List ℕ → Type 0) → ((t : List ℕ) → P t → ⊥) → Inserts xs xs P
nothing_added xs P none = record { kept = λ t a. a; all = λ t p. absurd (none t p); only = λ t a. inl a }
