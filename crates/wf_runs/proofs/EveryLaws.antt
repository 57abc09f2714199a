-- What each value of a run has, of runs that are made of others.
use Rattle.std.proofs.Common.{◌≡◌, ℕ, Bool, true, false, List, [], ◌∷◌, Result, Ok, Err, subst, sym, refl, if◌then◌else◌}
use Rattle.std.specs.Prelude.{IfOk}
use Rattle.wf_io.specs.declared.tree.TreeFault.{TreeFault}
use Rattle.wf_io.specs.declared.tree.TreeFault.TheVariants.{Failed, More}
use Rattle.wf_io.specs.declared.tree.TreeFault.TheVariants as tree
use Rattle.wf_io.specs.Log.{Event, Listed, WasRead, Seen}
use Rattle.wf_io.specs.Tree.{in_order}
use Rattle.wf_runs.specs.declared.fault.Refusal.{Refusal}
use Rattle.wf_runs.specs.declared.fault.RunFault.{RunFault}
use Rattle.wf_runs.specs.Every.{Every}
use Rattle.wf_runs.specs.Run.{Run, Gives, Refuses, Lists, Reads, ◌>>=◌, each, Rest, Goes, Fails, NoRoom, heard, IsNext, behind, Leads, Ends, Does}

-- where each value of the first leads to runs whose values have Q
pub every-bind : {X Y : Type 0} (P : X → Type 0) (Q : Y → Type 0) (m : Run X) (f : X → Run Y) → Every P m → ((x : X) → P x → Every Q (f x)) → Every Q (m >>= f)
every-bind P Q (Gives x) f h k = k x h
every-bind P Q (Refuses refusal) f h k = tt
every-bind P Q (Lists dir most over run) f h k = λ entries. every-bind P Q (run entries) f (h entries) k
every-bind P Q (Reads path most over run) f h k = λ bytes. every-bind P Q (run bytes) f (h bytes) k

-- what each element keeps
pub every-each : {X S : Type 0} (P : S → Type 0) (f : X → S → Run S) (xs : List X) (s : S) → P s → ((x : X) (t : S) → P t → Every P (f x t)) → Every P (each f xs s)
every-each P f [] s h k = h
every-each P f (x ∷ xs) s h k = every-bind P P (f x s) (each f xs) (k x s h) (λ t p. every-each P f xs t p k)

-- nothing is asked of the values
pub every_any : {X : Type 0} (m : Run X) → Every (λ _. Unit {0}) m
every_any (Gives x) = tt
every_any (Refuses refusal) = tt
every_any (Lists dir most over k) = λ entries. every_any (k entries)
every_any (Reads path most over k) = λ bytes. every_any (k bytes)

-- where a test decides
pub every_if : {X : Type 0} (P : X → Type 0) (b : Bool) (m n : Run X) → (b ≡ true → Every P m) → (b ≡ false → Every P n) → Every P (if b then m else n)
every_if P true m n h k = h refl
every_if P false m n h k = k refl

-- the same of what is left
abbrev EveryLeft : {X : Type 0} → (X → Type 0) → Rest X → Type 0
EveryLeft P (Goes run) = Every P run
EveryLeft P (Fails path) = Unit {0}
EveryLeft P NoRoom = Unit {0}

heard_has : {X Y : Type 0} (P : X → Type 0) (path : List ℕ) (over : Refusal) (k : Y → Run X) (answer : Result Y TreeFault) → ((y : Y) → Every P (k y)) → EveryLeft P (heard path over k answer)
heard_has P path over k (Ok y) h = h y
heard_has P path over k (Err More) h = tt
heard_has P path over k (Err Failed) h = tt
heard_has P path over k (Err tree.NoMemory) h = tt

behind_has : {X : Type 0} (P : X → Type 0) (from : Rest X) (e : Event) → IsNext from e → EveryLeft P from → EveryLeft P (behind from e)
behind_has P (Goes (Gives x)) e is h = absurd is
behind_has P (Goes (Refuses refusal)) e is h = absurd is
behind_has P (Goes (Lists dir most over k)) (Listed d m answer) is h = heard_has P dir over (λ entries. k (in_order entries)) answer (λ entries. h (in_order entries))
behind_has P (Goes (Lists dir most over k)) (WasRead p m answer) is h = absurd is
behind_has P (Goes (Reads path most over k)) (Listed d m answer) is h = absurd is
behind_has P (Goes (Reads path most over k)) (WasRead p m answer) is h = heard_has P path over k answer h
behind_has P (Fails path) e is h = absurd is
behind_has P NoRoom e is h = absurd is

left_has : {X : Type 0} (P : X → Type 0) (from : Rest X) (events : List Event) (to : Rest X) → Leads from events to → EveryLeft P from → EveryLeft P to
left_has {X = X} P from [] to leads h = subst (λ (r : Rest X). EveryLeft P r) (sym leads) h
left_has P from (e ∷ events) to leads h = left_has P (behind from e) events to leads.1 (behind_has P from e leads.0 h)

ends_have : {X : Type 0} (P : X → Type 0) (rest : Rest X) (result : Result X RunFault) → Ends rest result → EveryLeft P rest → IfOk result P
ends_have {X = X} P (Goes (Gives x)) (Ok y) ends h = subst P (sym ends) h
ends_have P (Goes (Gives x)) (Err fault) ends h = tt
ends_have P (Goes (Refuses refusal)) (Ok y) ends h = absurd ends
ends_have P (Goes (Refuses refusal)) (Err fault) ends h = tt
ends_have P (Goes (Lists dir most over k)) (Ok y) ends h = absurd ends
ends_have P (Goes (Lists dir most over k)) (Err fault) ends h = tt
ends_have P (Goes (Reads path most over k)) (Ok y) ends h = absurd ends
ends_have P (Goes (Reads path most over k)) (Err fault) ends h = tt
ends_have P (Fails path) (Ok y) ends h = absurd ends
ends_have P (Fails path) (Err fault) ends h = tt
ends_have P NoRoom (Ok y) ends h = absurd ends
ends_have P NoRoom (Err fault) ends h = tt

-- what a function answers is a value of its run, whatever the tree answered
pub answer_has : {X : Type 0} (P : X → Type 0) (run : Run X) (old new : Seen) (result : Result X RunFault) → Does run old new result → Every P run → IfOk result P
answer_has P run old new result does h = ends_have P does.rest result does.ends (left_has P (Goes run) does.reached.events does.rest does.reached.leads h)
