-- What is read off the calls of a tree.
use Rattle.std.proofs.Common.{◌≡◌, ℕ, ◌+◌, ◌-◌, ◌^◌, ◌≤◌, Bool, true, false, List, [], ◌∷◌, ◌++◌, refl, ap, ◌∙◌, min, cond, inl, inr, arith, if◌then◌else◌}
use Rattle.std.specs.Prelude.{count_by}
use Rattle.std.specs.List.{fold}
use Rattle.std.proofs.lemmas.Bool.{cases_lt}
use Rattle.wf_io.specs.Faults.{Rose}
use Rattle.wf_io.specs.declared.calls.Answer.{Answer}
use Rattle.wf_io.specs.Log.{Event, has_failed, failures, Seen, Logs, event_of, events_of}

-- one pair more is one call more
pub events_of-more : (pairs : List (List ℕ × Answer)) (pair : List ℕ × Answer) → events_of (pairs ++ pair ∷ []) ≡ events_of pairs ++ event_of pair ∷ []
events_of-more [] pair = refl
events_of-more (p ∷ pairs) pair = ap (λ es. event_of p ∷ es) (events_of-more pairs pair)

fold-more : {A B : Type 0} (f : B → A → B) (b : B) (xs : List A) (x : A) → fold f b (xs ++ x ∷ []) ≡ f (fold f b xs) x
fold-more f b [] x = refl
fold-more f b (y ∷ xs) x = fold-more f (f b y) xs x

-- a failed call is counted, and no other
pub failures-more : (log : List Event) (e : Event) → failures (log ++ e ∷ []) ≡ (if has_failed e then min (failures log + 1) (2 ^ 64 - 1) else failures log)
failures-more log e =
    let more = fold-more (λ (n : ℕ) (x : Event). n + cond (has_failed x) 1 0) 0 log e in
    ap (λ n. min n (2 ^ 64 - 1)) more ∙ by_case (has_failed e) (count_by has_failed log)
  where
    by_case : (b : Bool) (n : ℕ) → min (n + cond b 1 0) (2 ^ 64 - 1) ≡ (if b then min (min n (2 ^ 64 - 1) + 1) (2 ^ 64 - 1) else min n (2 ^ 64 - 1))
    by_case true n = omega arith
    by_case false n = omega arith

-- where a call failed, the count rose
pub failed_is_counted : (e : Event) (old new : Seen) → Logs e old new → has_failed e ≡ true → Rose (failures old.log) (failures new.log)
failed_is_counted e old new logs is =
    let more : failures new.log ≡ min (failures old.log + 1) (2 ^ 64 - 1) = ap failures logs.logged ∙ failures-more old.log e ∙ ap (λ b. if b then min (failures old.log + 1) (2 ^ 64 - 1) else failures old.log) is in
    rose (failures old.log) (failures new.log) more
  where
    rose : (m n : ℕ) → n ≡ min (m + 1) (2 ^ 64 - 1) → Rose m n
    rose m n e = elim (cases_lt m (2 ^ 64 - 1)) [
      | inl lt ↦ inl (omega (arith, lt))
      | inr le ↦ inr (omega (arith, le))
    ]

fold-append : {A B : Type 0} (f : B → A → B) (b : B) (xs ys : List A) → fold f b (xs ++ ys) ≡ fold f (fold f b xs) ys
fold-append f b [] ys = refl
fold-append f b (x ∷ xs) ys = fold-append f (f b x) xs ys

counted_from : ℕ → List Event → ℕ
counted_from n events = fold (λ (m : ℕ) (x : Event). m + cond (has_failed x) 1 0) n events

counted_from-grows : (n : ℕ) (events : List Event) → n ≤ counted_from n events
unfolding counted_from
counted_from-grows n [] = omega arith
counted_from-grows n (e ∷ events) = let rest = counted_from-grows (n + cond (has_failed e) 1 0) events in omega (arith, rest)

-- where the last of more calls failed, the count rose
pub last_is_counted : (log before : List Event) (last : Event) → has_failed last ≡ true → Rose (failures log) (failures (log ++ (before ++ last ∷ [])))
unfolding counted_from
last_is_counted log before last is =
    let count = λ (m : ℕ) (x : Event). m + cond (has_failed x) 1 0 in
    let n = count_by has_failed log in
    let total : count_by has_failed (log ++ (before ++ last ∷ [])) ≡ counted_from n before + 1 =
    fold-append count 0 log (before ++ last ∷ []) ∙ fold-more count n before last ∙ ap (λ b. counted_from n before + cond b 1 0) is in
    rose n (counted_from n before) (count_by has_failed (log ++ (before ++ last ∷ []))) (counted_from-grows n before) total
  where
    rose : (n m t : ℕ) → n ≤ m → t ≡ m + 1 → Rose (min n (2 ^ 64 - 1)) (min t (2 ^ 64 - 1))
    rose n m t le e = elim (cases_lt n (2 ^ 64 - 1)) [
      | inl lt ↦ inl (omega (arith, lt, le, e))
      | inr ge ↦ inr (omega (arith, ge, le, e))
    ]
