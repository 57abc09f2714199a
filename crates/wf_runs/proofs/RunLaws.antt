-- How the runs of parts make up the run of the whole.
use Rattle.std.proofs.Common.{◌≡◌, ℕ, ◌+◌, ◌<◌, ◌≤◌, List, [], ◌∷◌, ◌++◌, length, get_or, drop, Result, Ok, Err, refl, sym, ap, ◌∙◌, subst, inl, inr, append_assoc, append-nil, add-one, drop-cons}
use Rattle.std.specs.List.{AllByRecursion}
use Rattle.std.specs.Prelude.{IsErrAnd}
use Rattle.std.proofs.lemmas.List.{drop_all}
use Rattle.wf_io.specs.declared.tree.Entry.{Entry}
use Rattle.wf_io.specs.declared.tree.TreeFault.{TreeFault}
use Rattle.wf_io.specs.declared.tree.TreeFault.TheVariants.{Failed, More}
use Rattle.wf_io.specs.declared.tree.TreeFault.TheVariants as tree
use Rattle.wf_io.specs.Log.{Event, Listed, WasRead, Seen, Logs}
use Rattle.wf_io.specs.Tree.{in_order}
use Rattle.wf_runs.specs.declared.fault.Refusal.{Refusal}
use Rattle.wf_runs.specs.declared.fault.RunFault.{RunFault}
use Rattle.wf_runs.specs.declared.fault.RunFault.TheVariants.{NoMemory}
use Rattle.wf_runs.specs.Faults.{fault_of}
use Rattle.wf_runs.specs.Run.{Run, Gives, Refuses, Lists, Reads, ◌>>=◌, each, Rest, Goes, Fails, NoRoom, heard, IsNext, behind, Leads, Reached, Ends, Does, Answers, leaves}

-- ---- two stretches of calls

all_on : {X : Type 0} (P : X → Type 0) (xs ys : List X) → AllByRecursion P xs → AllByRecursion P ys → AllByRecursion P (xs ++ ys)
all_on P [] ys h k = k
all_on P (x ∷ xs) ys h k = (h.0, all_on P xs ys h.1 k)

leads_on : {X : Type 0} (events more : List Event) (a b c : Rest X) → Leads a events b → Leads b more c → Leads a (events ++ more) c
leads_on {X = X} [] more a b c h k = subst (λ (r : Rest X). Leads r more c) h k
leads_on (e ∷ events) more a b c h k = (h.0, leads_on events more (behind a e) b c h.1 k)

pub reached_on : {X : Type 0} {a b c : Rest X} {old mid new : Seen} → Reached a old mid b → Reached b mid new c → Reached a old new c
reached_on {a = a} {b = b} {c = c} {old = old} r q = record {
  events = r.events ++ q.events;
  log = q.log ∙ ap (λ (l : List Event). l ++ q.events) r.log ∙ append_assoc old.log r.events q.events;
  leads = leads_on r.events q.events a b c r.leads q.leads;
  told = q.told ∙ r.told;
  honest = λ files is. all_on _ r.events q.events (r.honest files is) (q.honest files (r.told ∙ is));
}

-- ---- a run behind what is left

abbrev pub bind : {X Y : Type 0} → Rest X → (X → Run Y) → Rest Y
bind (Goes run) f = Goes (run >>= f)
bind (Fails path) f = Fails path
bind NoRoom f = NoRoom

is_next-bind : {X Y : Type 0} (f : X → Run Y) (a : Rest X) (e : Event) → IsNext a e → IsNext (bind a f) e
is_next-bind f (Goes (Gives x)) e h = absurd h
is_next-bind f (Goes (Refuses refusal)) e h = absurd h
is_next-bind f (Goes (Lists dir most over k)) (Listed d m answer) h = h
is_next-bind f (Goes (Lists dir most over k)) (WasRead p m answer) h = absurd h
is_next-bind f (Goes (Reads path most over k)) (Listed d m answer) h = absurd h
is_next-bind f (Goes (Reads path most over k)) (WasRead p m answer) h = h
is_next-bind f (Fails path) e h = absurd h
is_next-bind f NoRoom e h = absurd h

heard-bind : {X Y Z : Type 0} (f : X → Run Y) (path : List ℕ) (over : Refusal) (k : Z → Run X) (answer : Result Z TreeFault) → heard path over (λ z. k z >>= f) answer ≡ bind (heard path over k answer) f
heard-bind f path over k (Ok z) = refl
heard-bind f path over k (Err More) = refl
heard-bind f path over k (Err Failed) = refl
heard-bind f path over k (Err tree.NoMemory) = refl

behind-bind : {X Y : Type 0} (f : X → Run Y) (a : Rest X) (e : Event) → IsNext a e → behind (bind a f) e ≡ bind (behind a e) f
behind-bind f (Goes (Gives x)) e h = absurd h
behind-bind f (Goes (Refuses refusal)) e h = absurd h
behind-bind f (Goes (Lists dir most over k)) (Listed d m answer) h = heard-bind f dir over (λ entries. k (in_order entries)) answer
behind-bind f (Goes (Lists dir most over k)) (WasRead p m answer) h = absurd h
behind-bind f (Goes (Reads path most over k)) (Listed d m answer) h = absurd h
behind-bind f (Goes (Reads path most over k)) (WasRead p m answer) h = heard-bind f path over k answer
behind-bind f (Fails path) e h = absurd h
behind-bind f NoRoom e h = absurd h

leads-bind : {X Y : Type 0} (f : X → Run Y) (events : List Event) (a b : Rest X) → Leads a events b → Leads (bind a f) events (bind b f)
leads-bind f [] a b h = ap (λ r. bind r f) h
leads-bind {Y = Y} f (e ∷ events) a b h =
    (is_next-bind f a e h.0, subst (λ (r : Rest Y). Leads r events (bind b f)) (sym (behind-bind f a e h.0)) (leads-bind f events (behind a e) b h.1))

reached-bind : {X Y : Type 0} (f : X → Run Y) (a b : Rest X) (old new : Seen) → Reached a old new b → Reached (bind a f) old new (bind b f)
reached-bind f a b old new r = record { events = r.events; log = r.log; leads = leads-bind f r.events a b r.leads; told = r.told; honest = r.honest }

-- ---- what functions cite

-- nothing was done yet
pub here : {X : Type 0} (run : Run X) (seen : Seen) → Reached (Goes run) seen seen (Goes run)
here run seen = record { events = []; log = sym (append-nil seen.log); leads = refl; told = refl; honest = λ files is. tt }

-- where a test decides what is left
pub turns : {X : Type 0} {from : Rest X} {old new : Seen} {a b : Run X} → a ≡ b → Reached from old new (Goes a) → Reached from old new (Goes b)
turns {X = X} {from = from} {old = old} {new = new} is reached = subst (λ (run : Run X). Reached from old new (Goes run)) is reached

-- one call
pub lists : {X : Type 0} (dir : List ℕ) (most : ℕ) (over : Refusal) (k : List Entry → Run X) (old new : Seen) (answer : Result (List Entry) TreeFault)
    → Logs (Listed dir most answer) old new → Reached (Goes (Lists dir most over k)) old new (heard dir over (λ entries. k (in_order entries)) answer)
lists dir most over k old new answer logs =
    record { events = Listed dir most answer ∷ []; log = logs.logged; leads = ((refl, refl), refl); told = logs.told; honest = λ files is. (logs.honest files is, tt) }

pub reads : {X : Type 0} (path : List ℕ) (most : ℕ) (over : Refusal) (k : List ℕ → Run X) (old new : Seen) (answer : Result (List ℕ) TreeFault)
    → Logs (WasRead path most answer) old new → Reached (Goes (Reads path most over k)) old new (heard path over k answer)
reads path most over k old new answer logs =
    record { events = WasRead path most answer ∷ []; log = logs.logged; leads = ((refl, refl), refl); told = logs.told; honest = λ files is. (logs.honest files is, tt) }

-- the fault of a call that gave nothing ends the run
pub ends_heard : {X Y : Type 0} (path : List ℕ) (over : Refusal) (k : Y → Run X) (fault : TreeFault) → Ends (heard path over k (Err fault)) (Err (fault_of path over fault))
ends_heard path over k More = inl refl
ends_heard path over k Failed = refl
ends_heard path over k tree.NoMemory = refl

-- memory may run out at any place
pub ends_without_memory : {X : Type 0} (run : Run X) (fault : RunFault) → fault ≡ NoMemory → Ends (Goes run) (Err fault)
ends_without_memory (Gives x) fault is = is
ends_without_memory (Refuses refusal) fault is = inr is
ends_without_memory (Lists dir most over k) fault is = is
ends_without_memory (Reads path most over k) fault is = is

-- a value comes only where the run gives it
gives_it : {X : Type 0} (rest : Rest X) (x : X) → Ends rest (Ok x) → rest ≡ Goes (Gives x)
gives_it (Goes (Gives y)) x h = ap (λ z. Goes (Gives z)) (sym h)
gives_it (Goes (Refuses refusal)) x h = absurd h
gives_it (Goes (Lists dir most over k)) x h = absurd h
gives_it (Goes (Reads path most over k)) x h = absurd h
gives_it (Fails path) x h = absurd h
gives_it NoRoom x h = absurd h

ends-bind : {X Y : Type 0} (f : X → Run Y) (rest : Rest X) (fault : RunFault) → Ends rest (Err fault) → Ends (bind rest f) (Err fault)
ends-bind f (Goes (Gives x)) fault h = ends_without_memory (f x) fault h
ends-bind f (Goes (Refuses refusal)) fault h = h
ends-bind f (Goes (Lists dir most over k)) fault h = h
ends-bind f (Goes (Reads path most over k)) fault h = h
ends-bind f (Fails path) fault h = h
ends-bind f NoRoom fault h = h

-- a part gave a value, and the run goes on with it
pub then : {X Y : Type 0} (f : X → Run Y) {from : Rest Y} {m : Run X} {x : X} {old mid new : Seen} → Reached from old mid (Goes (m >>= f)) → Does m mid new (Ok x) → Reached from old new (Goes (f x))
then {X = X} {Y = Y} f {m = m} {x = x} {mid = mid} {new = new} reached part =
    reached_on reached (subst (λ (r : Rest X). Reached (Goes (m >>= f)) mid new (bind r f)) (gives_it part.rest x part.ends) (reached-bind f (Goes m) part.rest mid new part.reached))

-- a part gave none, and the run ends with its fault
pub refused : {X Y : Type 0} (f : X → Run Y) {run : Run Y} {m : Run X} {fault : RunFault} {old mid new : Seen} → Reached (Goes run) old mid (Goes (m >>= f)) → Does m mid new (Err fault) → Does run old new (Err fault)
refused f {m = m} {fault = fault} {mid = mid} {new = new} reached part =
    record { rest = bind part.rest f; reached = reached_on reached (reached-bind f (Goes m) part.rest mid new part.reached); ends = ends-bind f part.rest fault part.ends }

-- what is left is done to its end
pub done : {X : Type 0} {run m : Run X} {result : Result X RunFault} {old mid new : Seen} → Reached (Goes run) old mid (Goes m) → Does m mid new result → Does run old new result
done reached part = record { rest = part.rest; reached = reached_on reached part.reached; ends = part.ends }

-- what is left says how it ends
pub ended : {X : Type 0} {run : Run X} {rest : Rest X} {result : Result X RunFault} {old new : Seen} → Reached (Goes run) old new rest → Ends rest result → Does run old new result
ended {rest = rest} reached ends = record { rest = rest; reached = reached; ends = ends }

-- what is left needs no call
pub answered : {X : Type 0} {run m : Run X} {result : Result X RunFault} {old new : Seen} → Reached (Goes run) old new (Goes m) → Answers m result → Does run old new result
answered {m = m} reached ends = record { rest = Goes m; reached = reached; ends = ends }

pub at_once : {X : Type 0} {run : Run X} {result : Result X RunFault} (seen : Seen) → Answers run result → Does run seen seen result
at_once {run = run} seen ends = answered (here run seen) ends

-- ---- the exits of functions

-- memory ran out, before a call or behind one
pub no_memory : {X : Type 0} {run m : Run X} {old new : Seen} (result : Result X RunFault) → IsErrAnd result (λ e. e ≡ NoMemory) → Reached (Goes run) old new (Goes m) → Does run old new result
no_memory (Ok x) h reached = absurd h
no_memory {m = m} (Err fault) h reached = answered reached (ends_without_memory m fault h)

pub no_memory_leaves : {X U : Type 0} {run m : Run X} {old new : Seen} (state : X) (result : Result U RunFault) → IsErrAnd result (λ e. e ≡ NoMemory) → Reached (Goes run) old new (Goes m) → Does run old new (leaves state result)
no_memory_leaves state (Ok u) h reached = absurd h
no_memory_leaves {m = m} state (Err fault) h reached = answered reached (ends_without_memory m fault h)

-- a part gave none, and its fault is handed on
pub hands_on : {X Y : Type 0} (f : X → Run Y) {run : Run Y} {m : Run X} {fault : RunFault} {old mid new : Seen} (result : Result Y RunFault) → IsErrAnd result (λ e. e ≡ fault)
    → Reached (Goes run) old mid (Goes (m >>= f)) → Does m mid new (Err fault) → Does run old new result
hands_on f (Ok y) h reached part = absurd h
hands_on {X = X} {Y = Y} f {run = run} {old = old} {new = new} (Err e) h reached part = subst (λ (x : RunFault). Does run old new (Err x)) (sym h) (refused f reached part)

pub hands_on_leaves : {X Y U : Type 0} (f : X → Run Y) {run : Run Y} {m : Run X} {fault : RunFault} {old mid new : Seen} (state : Y) (result : Result U RunFault) → IsErrAnd result (λ e. e ≡ fault)
    → Reached (Goes run) old mid (Goes (m >>= f)) → Does m mid new (Err fault) → Does run old new (leaves state result)
hands_on_leaves f state (Ok u) h reached part = absurd h
hands_on_leaves {X = X} {Y = Y} f {run = run} {old = old} {new = new} state (Err e) h reached part = subst (λ (x : RunFault). Does run old new (Err x)) (sym h) (refused f reached part)

-- a call gave nothing
pub list_fails : {X : Type 0} (dir : List ℕ) (most : ℕ) (over : Refusal) (k : List Entry → Run X) (old new : Seen) (fault : TreeFault) → Logs (Listed dir most (Err fault)) old new → Does (Lists dir most over k) old new (Err (fault_of dir over fault))
list_fails dir most over k old new fault logs = ended (lists dir most over k old new (Err fault) logs) (ends_heard dir over (λ entries. k (in_order entries)) fault)

pub read_fails : {X : Type 0} (path : List ℕ) (most : ℕ) (over : Refusal) (k : List ℕ → Run X) (old new : Seen) (fault : TreeFault) → Logs (WasRead path most (Err fault)) old new → Does (Reads path most over k) old new (Err (fault_of path over fault))
read_fails path most over k old new fault logs = ended (reads path most over k old new (Err fault) logs) (ends_heard path over k fault)

-- ---- parts without a call

pub then_at_once : {X Y : Type 0} (f : X → Run Y) (m : Run X) (x : X) (result : Result Y RunFault) → Answers m (Ok x) → Answers (f x) result → Answers (m >>= f) result
then_at_once {X = X} f (Gives y) x result is ends = subst (λ (z : X). Answers (f z) result) is ends
then_at_once f (Refuses refusal) x result h ends = absurd h
then_at_once f (Lists dir most over k) x result h ends = absurd h
then_at_once f (Reads path most over k) x result h ends = absurd h

pub wants_memory : {X : Type 0} (run : Run X) (result : Result X RunFault) → IsErrAnd result (λ e. e ≡ NoMemory) → Answers run result
wants_memory run (Ok x) h = absurd h
wants_memory run (Err fault) h = ends_without_memory run fault h

pub wants_memory_leaves : {X U : Type 0} (run : Run X) (state : X) (result : Result U RunFault) → IsErrAnd result (λ e. e ≡ NoMemory) → Answers run (leaves state result)
wants_memory_leaves run state (Ok u) h = absurd h
wants_memory_leaves run state (Err fault) h = ends_without_memory run fault h

pub refused_at_once : {X Y : Type 0} (f : X → Run Y) (m : Run X) (fault : RunFault) → Answers m (Err fault) → Answers (m >>= f) (Err fault)
refused_at_once f m fault h = ends-bind f (Goes m) fault h

-- ---- going over a list

each-next : {X S : Type 0} (f : X → S → Run S) (xs : List X) (i : ℕ) (x : X) (s : S) → i < length xs → x ≡ get_or xs i x → each f (drop i xs) s ≡ (f x s >>= each f (drop (i + 1) xs))
each-next f xs i x s lt is =
    let cut : drop i xs ≡ get_or xs i x ∷ drop (i + 1) xs = rw (add-one, drop-cons xs i x) refl in
    let next : drop i xs ≡ x ∷ drop (i + 1) xs = cut ∙ ap (λ y. y ∷ drop (i + 1) xs) (sym is) in
    ap (λ ys. each f ys s) next

-- the next element is done, and what is left is the run over those behind it
pub goes_on : {X S : Type 0} (f : X → S → Run S) (xs : List X) (i : ℕ) (x : X) (s : S) {t : S} {from : Rest S} {old mid new : Seen} → i < length xs → x ≡ get_or xs i x
    → Reached from old mid (Goes (each f (drop i xs) s)) → Does (f x s) mid new (Ok t) → Reached from old new (Goes (each f (drop (i + 1) xs) t))
goes_on f xs i x s lt is reached part = then (each f (drop (i + 1) xs)) (turns (each-next f xs i x s lt is) reached) part

-- the next element ends the run
pub stops : {X S : Type 0} (f : X → S → Run S) (xs : List X) (i : ℕ) (x : X) (s : S) {fault : RunFault} {run : Run S} {old mid new : Seen} → i < length xs → x ≡ get_or xs i x
    → Reached (Goes run) old mid (Goes (each f (drop i xs) s)) → Does (f x s) mid new (Err fault) → Does run old new (Err fault)
stops f xs i x s lt is reached part = refused (each f (drop (i + 1) xs)) (turns (each-next f xs i x s lt is) reached) part

pub stops_leaves : {X S U : Type 0} (f : X → S → Run S) (xs : List X) (i : ℕ) (x : X) (s : S) {fault : RunFault} {run : Run S} {old mid new : Seen} (state : S) (result : Result U RunFault) → IsErrAnd result (λ e. e ≡ fault)
    → i < length xs → x ≡ get_or xs i x → Reached (Goes run) old mid (Goes (each f (drop i xs) s)) → Does (f x s) mid new (Err fault) → Does run old new (leaves state result)
stops_leaves f xs i x s state result h lt is reached part = hands_on_leaves (each f (drop (i + 1) xs)) state result h (turns (each-next f xs i x s lt is) reached) part

-- no element is left
pub is_done : {X S : Type 0} (f : X → S → Run S) (xs : List X) (i : ℕ) (s : S) {from : Rest S} {old new : Seen} → length xs ≤ i → Reached from old new (Goes (each f (drop i xs) s)) → Reached from old new (Goes (Gives s))
is_done f xs i s le reached = turns (ap (λ ys. each f ys s) (drop_all i xs le)) reached
