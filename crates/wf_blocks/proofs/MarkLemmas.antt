-- Marks at the places to which something leads.
use Rattle.std.proofs.Common.{◌≡◌, ℕ, zero, suc, ◌+◌, ◌<◌, Bool, true, false, ◌||◌, List, [], ◌∷◌, ◌++◌, length, get_or, take, refl, sym, ap, ◌∙◌, arith}
use Rattle.std.specs.Prelude.{◌==◌, replicate}
use Rattle.std.specs.List.{list_any}
use Rattle.std.proofs.lemmas.List.{take_more, length-take-le}
use Rattle.wf_blocks.specs.declared.body.Body.{Body}
use Rattle.wf_blocks.specs.declared.body.Step.{Step}
use Rattle.wf_blocks.specs.Bodies.{targets_in, leads_apart, any_leads_apart, is_handler, starts_at}

or_nothing : (x : Bool) → (x || false) ≡ x
or_nothing true = refl
or_nothing false = refl

or_assoc : (x y z : Bool) → (x || (y || z)) ≡ ((x || y) || z)
or_assoc true y z = refl
or_assoc false y z = refl

any_push : {A : Type 0} (test : A → Bool) (xs : List A) (x : A) → list_any test (xs ++ x ∷ []) ≡ (list_any test xs || test x)
any_push test [] x = or_nothing (test x)
any_push test (y ∷ xs) x = ap (λ (b : Bool). test y || b) (any_push test xs x) ∙ or_assoc (test y) (list_any test xs) (test x)

pub any_more : {A : Type 0} (test : A → Bool) (xs : List A) (i : ℕ) (d : A) → i < length xs → list_any test (take (i + 1) xs) ≡ (list_any test (take i xs) || test (get_or xs i d))
any_more {A = A} test xs i d lt = ap (list_any test) (take_more xs i d lt) ∙ any_push test (take i xs) (get_or xs i d)

-- a mark that was set by what came so far, or by one more
pub marked_more : (first old new so_far here more : Bool) → new ≡ (old || here) → old ≡ (first || so_far) → more ≡ (so_far || here) → new ≡ (first || more)
marked_more first old new so_far here more now was all =
    now ∙ ap (λ (b : Bool). b || here) was ∙ sym (or_assoc first so_far here) ∙ ap (λ (b : Bool). first || b) (sym all)

apart_push : (first : ℕ) (steps : List Step) (s : Step) (to : ℕ) → any_leads_apart first (steps ++ s ∷ []) to ≡ (any_leads_apart first steps to || leads_apart (first + length steps) (targets_in s) to)
apart_push first [] s to =
    let here : first ≡ first + 0 = omega arith in
    or_nothing (leads_apart first (targets_in s) to) ∙ ap (λ (n : ℕ). leads_apart n (targets_in s) to) here
apart_push first (x ∷ steps) s to =
    let on : suc first + length steps ≡ first + suc (length steps) = omega arith in
    ap (λ (b : Bool). leads_apart first (targets_in x) to || b) (apart_push (suc first) steps s to)
    ∙ or_assoc (leads_apart first (targets_in x) to) (any_leads_apart (suc first) steps to) (leads_apart (suc first + length steps) (targets_in s) to)
    ∙ ap (λ (n : ℕ). (leads_apart first (targets_in x) to || any_leads_apart (suc first) steps to) || leads_apart n (targets_in s) to) on

pub apart_more : (steps : List Step) (i : ℕ) (d : Step) (to : ℕ) → i < length steps
    → any_leads_apart 0 (take (i + 1) steps) to ≡ (any_leads_apart 0 (take i steps) to || leads_apart i (targets_in (get_or steps i d)) to)
apart_more steps i d to lt =
    let at : 0 + length (take i steps) ≡ i = omega (arith, length-take-le i steps (omega arith)) in
    ap (λ (ss : List Step). any_leads_apart 0 ss to) (take_more steps i d lt) ∙ apart_push 0 (take i steps) (get_or steps i d) to
    ∙ ap (λ (n : ℕ). any_leads_apart 0 (take i steps) to || leads_apart n (targets_in (get_or steps i d)) to) at

is_entry : (p : ℕ) → (false || (0 == p)) ≡ (p == 0)
is_entry zero = refl
is_entry (suc p) = grind arith

unmarked : (n p : ℕ) → p < n → get_or (replicate n false) p true ≡ false
unmarked zero p lt = absurd (omega arith)
unmarked (suc n) zero lt = refl
unmarked (suc n) (suc p) lt = unmarked n p (omega arith)

pub starts_are : (b : Body) (p : ℕ) (a c d e : Bool) → p < length b.steps → a ≡ get_or (replicate (length b.steps) false) p true → c ≡ (a || (0 == p))
    → d ≡ (c || list_any (is_handler p) b.catchers) → e ≡ (d || any_leads_apart 0 b.steps p) → e ≡ starts_at b p
unfolding starts_at
starts_are b p a c d e lt first entry handlers apart =
    apart ∙ ap (λ (x : Bool). x || any_leads_apart 0 b.steps p) handlers
    ∙ ap (λ (x : Bool). (x || list_any (is_handler p) b.catchers) || any_leads_apart 0 b.steps p) (entry ∙ ap (λ (x : Bool). x || (0 == p)) (first ∙ unmarked (length b.steps) p lt) ∙ is_entry p)
