-- Where a tree tells its files, a run's calls are those of the files, and what is answered is due.
use Rattle.std.proofs.Common.{◌≡◌, ℕ, ◌<◌, ◌≤◌, true, false, List, [], ◌∷◌, ◌++◌, length, map, Option, Some, None, Result, Ok, Err, refl, sym, ap, ◌∙◌, subst, cond, inl, inr, arith, append-nil}
use Rattle.std.specs.Prelude.{IsPermutation, IsSomeAnd, nat_lt}
use Rattle.std.specs.List.{AllByRecursion, list_any}
use Rattle.std.specs.Option.{option_map_or}
use Rattle.std.proofs.lemmas.Bool.{lt-ltb, le-ltb}
use Rattle.std.proofs.lemmas.List.Sorted.{length_permutation}
use Rattle.wf_io.specs.declared.tree.Entry.{Entry}
use Rattle.wf_io.specs.declared.tree.MemFile.{MemFile}
use Rattle.wf_io.specs.declared.tree.TreeFault.TheVariants.{Failed, More}
use Rattle.wf_io.specs.declared.tree.TreeFault.TheVariants as tree
use Rattle.wf_io.specs.Log.{Call, ListOf, ReadOf, Event, Listed, WasRead, IsOf, Seen, call_of, has_failed, failures}
use Rattle.wf_io.specs.Tree.{listing, content, in_order}
use Rattle.wf_io.specs.Faults.{Rose}
use Rattle.wf_io.proofs.Listings.{in_order-listing}
use Rattle.wf_io.proofs.LogLaws.{last_is_counted}
use Rattle.wf_runs.specs.declared.fault.Refusal.{Refusal}
use Rattle.wf_runs.specs.declared.fault.RunFault.{RunFault}
use Rattle.wf_runs.specs.declared.fault.RunFault.TheVariants.{Refused, ReadFault, WriteFault, NoMemory}
use Rattle.wf_runs.specs.Due.{Due, Given, RefusedFor, Missing, due, calls, IsDue, MakesPart, MakesAll, path_of, EndsFailed, NoneFails}
use Rattle.wf_runs.specs.Run.{Run, Gives, Refuses, Lists, Reads, Rest, Goes, Fails, NoRoom, IsNext, behind, Leads, Ends, Does}

-- ---- one call, of told files

-- a listing of no more entries than were asked for
listing_within : {Y : Type 0} (files : List MemFile) (dir : List ℕ) (most : ℕ) (entries : List Entry) (f : List Entry → Y) (over : Y) → IsPermutation (listing files dir) entries → length entries ≤ most
    → cond (nat_lt most (length (listing files dir))) over (f (listing files dir)) ≡ f (in_order entries)
listing_within files dir most entries f over given within =
    let few : length (listing files dir) ≤ most = omega (arith, length_permutation (listing files dir) entries given, within) in
    rw (le-ltb _ _ few) (ap f (sym (in_order-listing files dir entries given)))

listing_over : {Y : Type 0} (files : List MemFile) (dir : List ℕ) (most : ℕ) (rest over : Y) → most < length (listing files dir) → cond (nat_lt most (length (listing files dir))) over rest ≡ over
listing_over files dir most rest over many = rw (lt-ltb _ _ many) refl

-- a file of no more bytes than were asked for
content_within : {Y : Type 0} (file : Option (List ℕ)) (most : ℕ) (bytes : List ℕ) (f : List ℕ → Y) (over none : Y) → file ≡ Some bytes → length bytes ≤ most
    → option_map_or (λ (bs : List ℕ). cond (nat_lt most (length bs)) over (f bs)) file none ≡ f bytes
content_within file most bytes f over none is within = rw is (rw (le-ltb _ _ within) refl)

content_over : {Y : Type 0} (file : Option (List ℕ)) (most : ℕ) (f : List ℕ → Y) (over none : Y) → IsSomeAnd file (λ bytes. most < length bytes)
    → option_map_or (λ (bs : List ℕ). cond (nat_lt most (length bs)) over (f bs)) file none ≡ over
content_over None most f over none h = absurd h
content_over (Some bytes) most f over none h = rw (lt-ltb _ _ h) refl

-- ---- what is due

-- what is due for what is left; where a call failed, anything may be
abbrev IsDueLeft : {X : Type 0} → List MemFile → Due X → Rest X → Type 0
IsDueLeft files what (Goes run) = due files run ≡ what
IsDueLeft files what (Fails path) = Unit {0}
IsDueLeft files what NoRoom = Unit {0}

due_behind : {X : Type 0} (files : List MemFile) (what : Due X) (from : Rest X) (e : Event) → IsNext from e → IsOf files e → IsDueLeft files what from → IsDueLeft files what (behind from e)
due_behind files what (Goes (Gives x)) e is of h = absurd is
due_behind files what (Goes (Refuses refusal)) e is of h = absurd is
due_behind {X = X} files what (Goes (Lists dir most over k)) (Listed d m (Ok entries)) is of h =
    let same : IsPermutation (listing files dir) entries = subst (λ (p : List ℕ). IsPermutation (listing files p) entries) is.0 of.0 in
    sym (listing_within files dir most entries (λ es. due files (k es)) (RefusedFor over) same (subst (λ (n : ℕ). length entries ≤ n) is.1 of.1)) ∙ h
due_behind files what (Goes (Lists dir most over k)) (Listed d m (Err More)) is of h =
    let many : most < length (listing files dir) = subst (λ (n : ℕ). n < length (listing files dir)) is.1 (subst (λ (p : List ℕ). m < length (listing files p)) is.0 of) in
    sym (listing_over files dir most (due files (k (listing files dir))) (RefusedFor over) many) ∙ h
due_behind files what (Goes (Lists dir most over k)) (Listed d m (Err Failed)) is of h = tt
due_behind files what (Goes (Lists dir most over k)) (Listed d m (Err tree.NoMemory)) is of h = tt
due_behind files what (Goes (Lists dir most over k)) (WasRead p m answer) is of h = absurd is
due_behind files what (Goes (Reads path most over k)) (Listed d m answer) is of h = absurd is
due_behind files what (Goes (Reads path most over k)) (WasRead p m (Ok bytes)) is of h =
    let there : content files path ≡ Some bytes = subst (λ (q : List ℕ). content files q ≡ Some bytes) is.0 of.0 in
    sym (content_within (content files path) most bytes (λ bs. due files (k bs)) (RefusedFor over) (Missing path) there (subst (λ (n : ℕ). length bytes ≤ n) is.1 of.1)) ∙ h
due_behind files what (Goes (Reads path most over k)) (WasRead p m (Err More)) is of h =
    let many : IsSomeAnd (content files path) (λ bytes. most < length bytes) = subst (λ (n : ℕ). IsSomeAnd (content files path) (λ bytes. n < length bytes)) is.1 (subst (λ (q : List ℕ). IsSomeAnd (content files q) (λ bytes. m < length bytes)) is.0 of) in
    sym (content_over (content files path) most (λ bs. due files (k bs)) (RefusedFor over) (Missing path) many) ∙ h
due_behind files what (Goes (Reads path most over k)) (WasRead p m (Err Failed)) is of h = tt
due_behind files what (Goes (Reads path most over k)) (WasRead p m (Err tree.NoMemory)) is of h = tt
due_behind files what (Fails path) e is of h = absurd is
due_behind files what NoRoom e is of h = absurd is

due_left : {X : Type 0} (files : List MemFile) (what : Due X) (from : Rest X) (events : List Event) (to : Rest X) → Leads from events to → AllByRecursion (IsOf files) events → IsDueLeft files what from → IsDueLeft files what to
due_left {X = X} files what from [] to leads of h = subst (λ (r : Rest X). IsDueLeft files what r) (sym leads) h
due_left files what from (e ∷ events) to leads of h = due_left files what (behind from e) events to leads.1 of.1 (due_behind files what from e leads.0 of.0 h)

due_refusal : {X : Type 0} (what : Due X) (refusal : Refusal) (fault : RunFault) → RefusedFor refusal ≡ what → fault ≡ Refused refusal → IsDue what (Err fault)
due_refusal {X = X} what refusal fault h is = subst (λ (f : RunFault). IsDue what (Err f)) (sym is) (sym h)

due_no_memory : {X : Type 0} (what : Due X) (fault : RunFault) → fault ≡ NoMemory → IsDue what (Err fault)
due_no_memory what fault is = subst (λ (f : RunFault). IsDue what (Err f)) (sym is) tt

due_ends : {X : Type 0} (files : List MemFile) (what : Due X) (rest : Rest X) (result : Result X RunFault) → Ends rest result → IsDueLeft files what rest → IsDue what result
due_ends files what (Goes (Gives x)) (Ok y) ends h = sym h ∙ ap Given (sym ends)
due_ends files what (Goes (Gives x)) (Err fault) ends h = due_no_memory what fault ends
due_ends files what (Goes (Refuses refusal)) (Ok y) ends h = absurd ends
due_ends files what (Goes (Refuses refusal)) (Err fault) (inl is) h = due_refusal what refusal fault h is
due_ends files what (Goes (Refuses refusal)) (Err fault) (inr is) h = due_no_memory what fault is
due_ends files what (Goes (Lists dir most over k)) (Ok y) ends h = absurd ends
due_ends files what (Goes (Lists dir most over k)) (Err fault) ends h = due_no_memory what fault ends
due_ends files what (Goes (Reads path most over k)) (Ok y) ends h = absurd ends
due_ends files what (Goes (Reads path most over k)) (Err fault) ends h = due_no_memory what fault ends
due_ends files what (Fails path) (Ok y) ends h = absurd ends
due_ends files what (Fails path) (Err fault) ends h = subst (λ (f : RunFault). IsDue what (Err f)) (sym ends) tt
due_ends files what NoRoom (Ok y) ends h = absurd ends
due_ends files what NoRoom (Err fault) ends h = due_no_memory what fault ends

-- what a function answers is due
pub gives_due : {X : Type 0} (files : List MemFile) (run : Run X) (old new : Seen) (result : Result X RunFault) → Does run old new result → old.told ≡ Some files → IsDue (due files run) result
gives_due files run old new result does told =
    due_ends files (due files run) does.rest result does.ends (due_left files (due files run) (Goes run) does.reached.events does.rest does.reached.leads (does.reached.honest files told) refl)

-- ---- the calls

-- the calls of what is left; where a call failed, any may be left
abbrev HasCalls : {X : Type 0} → List MemFile → List Call → Rest X → Type 0
HasCalls files all (Goes run) = calls files run ≡ all
HasCalls files all (Fails path) = Unit {0}
HasCalls files all NoRoom = Unit {0}

-- a call, and those behind it
record Behind {X : Type 0} (files : List MemFile) (all : List Call) (e : Event) (to : Rest X) : Type 0 where
  left : List Call
  is : all ≡ call_of e ∷ left
  has : HasCalls files left to

list_call : (d dir : List ℕ) (m most : ℕ) (all left more : List Call) → (d ≡ dir) × (m ≡ most) → ListOf dir most ∷ more ≡ all → more ≡ left → all ≡ ListOf d m ∷ left
list_call d dir m most all left more is h same = sym h ∙ ap (λ cs. ListOf dir most ∷ cs) same ∙ ap (λ p. ListOf p most ∷ left) (sym is.0) ∙ ap (λ n. ListOf d n ∷ left) (sym is.1)

read_call : (p path : List ℕ) (m most : ℕ) (all left more : List Call) → (p ≡ path) × (m ≡ most) → ReadOf path most ∷ more ≡ all → more ≡ left → all ≡ ReadOf p m ∷ left
read_call p path m most all left more is h same = sym h ∙ ap (λ cs. ReadOf path most ∷ cs) same ∙ ap (λ q. ReadOf q most ∷ left) (sym is.0) ∙ ap (λ n. ReadOf p n ∷ left) (sym is.1)

calls_behind : {X : Type 0} (files : List MemFile) (all : List Call) (from : Rest X) (e : Event) → IsNext from e → IsOf files e → HasCalls files all from → Behind files all e (behind from e)
calls_behind files all (Goes (Gives x)) e is of h = absurd is
calls_behind files all (Goes (Refuses refusal)) e is of h = absurd is
calls_behind files all (Goes (Lists dir most over k)) (Listed d m (Ok entries)) is of h =
    let same : IsPermutation (listing files dir) entries = subst (λ (p : List ℕ). IsPermutation (listing files p) entries) is.0 of.0 in
    let left = calls files (k (in_order entries)) in
    let next = listing_within files dir most entries (λ es. calls files (k es)) [] same (subst (λ (n : ℕ). length entries ≤ n) is.1 of.1) in
    record { left = left; is = list_call d dir m most all left _ is h next; has = refl }
calls_behind files all (Goes (Lists dir most over k)) (Listed d m (Err More)) is of h =
    let many : most < length (listing files dir) = subst (λ (n : ℕ). n < length (listing files dir)) is.1 (subst (λ (p : List ℕ). m < length (listing files p)) is.0 of) in
    let next = listing_over files dir most (calls files (k (listing files dir))) [] many in
    record { left = []; is = list_call d dir m most all [] _ is h next; has = refl }
calls_behind files all (Goes (Lists dir most over k)) (Listed d m (Err Failed)) is of h = record { left = _; is = list_call d dir m most all _ _ is h refl; has = tt }
calls_behind files all (Goes (Lists dir most over k)) (Listed d m (Err tree.NoMemory)) is of h = record { left = _; is = list_call d dir m most all _ _ is h refl; has = tt }
calls_behind files all (Goes (Lists dir most over k)) (WasRead p m answer) is of h = absurd is
calls_behind files all (Goes (Reads path most over k)) (Listed d m answer) is of h = absurd is
calls_behind files all (Goes (Reads path most over k)) (WasRead p m (Ok bytes)) is of h =
    let there : content files path ≡ Some bytes = subst (λ (q : List ℕ). content files q ≡ Some bytes) is.0 of.0 in
    let left = calls files (k bytes) in
    let next = content_within (content files path) most bytes (λ bs. calls files (k bs)) [] [] there (subst (λ (n : ℕ). length bytes ≤ n) is.1 of.1) in
    record { left = left; is = read_call p path m most all left _ is h next; has = refl }
calls_behind files all (Goes (Reads path most over k)) (WasRead p m (Err More)) is of h =
    let many : IsSomeAnd (content files path) (λ bytes. most < length bytes) = subst (λ (n : ℕ). IsSomeAnd (content files path) (λ bytes. n < length bytes)) is.1 (subst (λ (q : List ℕ). IsSomeAnd (content files q) (λ bytes. m < length bytes)) is.0 of) in
    let next = content_over (content files path) most (λ bs. calls files (k bs)) [] [] many in
    record { left = []; is = read_call p path m most all [] _ is h next; has = refl }
calls_behind files all (Goes (Reads path most over k)) (WasRead p m (Err Failed)) is of h = record { left = _; is = read_call p path m most all _ _ is h refl; has = tt }
calls_behind files all (Goes (Reads path most over k)) (WasRead p m (Err tree.NoMemory)) is of h = record { left = _; is = read_call p path m most all _ _ is h refl; has = tt }
calls_behind files all (Fails path) e is of h = absurd is
calls_behind files all NoRoom e is of h = absurd is

-- the calls that were made, and those of what is left
record Made {X : Type 0} (files : List MemFile) (all : List Call) (events : List Event) (to : Rest X) : Type 0 where
  left : List Call
  is : all ≡ map call_of events ++ left
  has : HasCalls files left to

calls_left : {X : Type 0} (files : List MemFile) (all : List Call) (from : Rest X) (events : List Event) (to : Rest X) → Leads from events to → AllByRecursion (IsOf files) events → HasCalls files all from → Made files all events to
calls_left {X = X} files all from [] to leads of h = record { left = all; is = refl; has = subst (λ (r : Rest X). HasCalls files all r) (sym leads) h }
calls_left files all from (e ∷ events) to leads of h =
    let b = calls_behind files all from e leads.0 of.0 h in
    let m = calls_left files b.left (behind from e) events to leads.1 of.1 b.has in
    record { left = m.left; is = b.is ∙ ap (λ cs. call_of e ∷ cs) m.is; has = m.has }

made : {X : Type 0} (files : List MemFile) (run : Run X) (old new : Seen) (result : Result X RunFault) (does : Does run old new result) → old.told ≡ Some files → Made files (calls files run) does.reached.events does.rest
made files run old new result does told = calls_left files (calls files run) (Goes run) does.reached.events does.rest does.reached.leads (does.reached.honest files told) refl

-- the calls that a function makes are a first part of those of its run
pub makes_part : {X : Type 0} (files : List MemFile) (run : Run X) (old new : Seen) (result : Result X RunFault) → Does run old new result → old.told ≡ Some files → MakesPart (calls files run) old new
makes_part files run old new result does told =
    let m = made files run old new result does told in
    record { events = does.reached.events; log = does.reached.log; left = m.left; is = m.is }

-- an answer that is no failure of the outside, and not want of memory
abbrev pub IsSettled : {X : Type 0} → Result X RunFault → Type 0
IsSettled (Ok x) = Unit {0}
IsSettled (Err (Refused refusal)) = Unit {0}
IsSettled (Err (ReadFault path)) = ⊥
IsSettled (Err WriteFault) = ⊥
IsSettled (Err NoMemory) = ⊥

-- nothing is left to do
abbrev IsOver : {X : Type 0} → Rest X → Type 0
IsOver (Goes (Gives x)) = Unit {0}
IsOver (Goes (Refuses refusal)) = Unit {0}
IsOver (Goes (Lists dir most over k)) = ⊥
IsOver (Goes (Reads path most over k)) = ⊥
IsOver (Fails path) = ⊥
IsOver NoRoom = ⊥

not_settled : (X : Type 0) (fault other : RunFault) → fault ≡ other → IsSettled {X = X} (Err fault) → IsSettled {X = X} (Err other)
not_settled X fault other is h = subst (λ (f : RunFault). IsSettled {X = X} (Err f)) is h

settled_is_over : {X : Type 0} (rest : Rest X) (result : Result X RunFault) → Ends rest result → IsSettled result → IsOver rest
settled_is_over (Goes (Gives x)) result ends h = tt
settled_is_over (Goes (Refuses refusal)) result ends h = tt
settled_is_over (Goes (Lists dir most over k)) (Ok y) ends h = ends
settled_is_over {X = X} (Goes (Lists dir most over k)) (Err fault) ends h = not_settled X fault NoMemory ends h
settled_is_over (Goes (Reads path most over k)) (Ok y) ends h = ends
settled_is_over {X = X} (Goes (Reads path most over k)) (Err fault) ends h = not_settled X fault NoMemory ends h
settled_is_over (Fails path) (Ok y) ends h = ends
settled_is_over {X = X} (Fails path) (Err fault) ends h = not_settled X fault (ReadFault path) ends h
settled_is_over NoRoom (Ok y) ends h = ends
settled_is_over {X = X} NoRoom (Err fault) ends h = not_settled X fault NoMemory ends h

none_left : {X : Type 0} (files : List MemFile) (left : List Call) (rest : Rest X) → IsOver rest → HasCalls files left rest → [] ≡ left
none_left files left (Goes (Gives x)) over h = h
none_left files left (Goes (Refuses refusal)) over h = h
none_left files left (Goes (Lists dir most more k)) over h = absurd over
none_left files left (Goes (Reads path most more k)) over h = absurd over
none_left files left (Fails path) over h = absurd over
none_left files left NoRoom over h = absurd over

-- and where it gives a value or refuses the input, all of them
pub makes_all : {X : Type 0} (files : List MemFile) (run : Run X) (old new : Seen) (result : Result X RunFault) → Does run old new result → IsSettled result → old.told ≡ Some files → MakesAll (calls files run) old new
makes_all files run old new result does settled told =
    let m = made files run old new result does told in
    let none = none_left files m.left does.rest (settled_is_over does.rest result does.ends settled) m.has in
    record { events = does.reached.events; log = does.reached.log; is = m.is ∙ ap (λ cs. map call_of does.reached.events ++ cs) (sym none) ∙ append-nil (map call_of does.reached.events) }

-- ---- failed calls, whatever the tree tells

-- where a call failed, it is the last, and of this path; else none failed
record LastFailed (path : List ℕ) (events : List Event) : Type 0 where
  before : List Event
  last : Event
  is : events ≡ before ++ last ∷ []
  failed : has_failed last ≡ true
  at : path_of last ≡ path
  first : list_any has_failed before ≡ false

abbrev Failing : {X : Type 0} → Rest X → List Event → Type 0
Failing (Goes run) events = list_any has_failed events ≡ false
Failing (Fails path) events = LastFailed path events
Failing NoRoom events = list_any has_failed events ≡ false

-- a call that didn't fail, and those behind it
passed : {X : Type 0} (to : Rest X) (e : Event) (events : List Event) → has_failed e ≡ false → Failing to events → Failing to (e ∷ events)
passed (Goes run) e events ok h = rw ok h
passed (Fails path) e events ok h = record { before = e ∷ h.before; last = h.last; is = ap (λ es. e ∷ es) h.is; failed = h.failed; at = h.at; first = rw ok h.first }
passed NoRoom e events ok h = rw ok h

-- nothing follows a call that failed, or found no memory
stuck : {X : Type 0} (path : List ℕ) (e : Event) (events : List Event) (to : Rest X) → has_failed e ≡ true → path_of e ≡ path → Leads (Fails path) events to → Failing to (e ∷ events)
stuck {X = X} path e [] to failed at leads = subst (λ (r : Rest X). Failing r (e ∷ [])) (sym leads) (record { before = []; last = e; is = refl; failed = failed; at = at; first = refl })
stuck path e (f ∷ events) to failed at leads = absurd leads.0

no_room : {X : Type 0} (e : Event) (events : List Event) (to : Rest X) → has_failed e ≡ false → Leads NoRoom events to → Failing to (e ∷ events)
no_room {X = X} e [] to ok leads = subst (λ (r : Rest X). Failing r (e ∷ [])) (sym leads) (rw ok refl)
no_room e (f ∷ events) to ok leads = absurd leads.0

failing : {X : Type 0} (run : Run X) (events : List Event) (to : Rest X) → Leads (Goes run) events to → Failing to events
failing {X = X} run [] to leads = subst (λ (r : Rest X). Failing r []) (sym leads) refl
failing (Gives x) (e ∷ events) to leads = absurd leads.0
failing (Refuses refusal) (e ∷ events) to leads = absurd leads.0
failing (Lists dir most over k) (Listed d m (Ok entries) ∷ events) to leads = passed to (Listed d m (Ok entries)) events refl (failing (k (in_order entries)) events to leads.1)
failing (Lists dir most over k) (Listed d m (Err More) ∷ events) to leads = passed to (Listed d m (Err More)) events refl (failing (Refuses over) events to leads.1)
failing (Lists dir most over k) (Listed d m (Err Failed) ∷ events) to leads = stuck dir (Listed d m (Err Failed)) events to refl leads.0.0 leads.1
failing (Lists dir most over k) (Listed d m (Err tree.NoMemory) ∷ events) to leads = no_room (Listed d m (Err tree.NoMemory)) events to refl leads.1
failing (Lists dir most over k) (WasRead p m answer ∷ events) to leads = absurd leads.0
failing (Reads path most over k) (Listed d m answer ∷ events) to leads = absurd leads.0
failing (Reads path most over k) (WasRead p m (Ok bytes) ∷ events) to leads = passed to (WasRead p m (Ok bytes)) events refl (failing (k bytes) events to leads.1)
failing (Reads path most over k) (WasRead p m (Err More) ∷ events) to leads = passed to (WasRead p m (Err More)) events refl (failing (Refuses over) events to leads.1)
failing (Reads path most over k) (WasRead p m (Err Failed) ∷ events) to leads = stuck path (WasRead p m (Err Failed)) events to refl leads.0.0 leads.1
failing (Reads path most over k) (WasRead p m (Err tree.NoMemory) ∷ events) to leads = no_room (WasRead p m (Err tree.NoMemory)) events to refl leads.1

-- a read fault comes only of a failed call of its path
comes_of_failure : {X : Type 0} (rest : Rest X) (path : List ℕ) → Ends rest (Err (ReadFault path)) → rest ≡ Fails path
comes_of_failure (Goes (Gives x)) path h = absurd cc
comes_of_failure (Goes (Refuses refusal)) path (inl h) = absurd cc
comes_of_failure (Goes (Refuses refusal)) path (inr h) = absurd cc
comes_of_failure (Goes (Lists dir most over k)) path h = absurd cc
comes_of_failure (Goes (Reads file most over k)) path h = absurd cc
comes_of_failure (Fails failed) path h = let same : failed ≡ path = cc in ap (λ p. Fails p) same
comes_of_failure NoRoom path h = absurd cc

-- where a function answers a read fault, the last call failed, and none before
pub ends_failed : {X : Type 0} (run : Run X) (old new : Seen) (path : List ℕ) → Does run old new (Err (ReadFault path)) → EndsFailed path old new
ends_failed {X = X} run old new path does =
    let f = subst (λ (r : Rest X). Failing r does.reached.events) (comes_of_failure does.rest path does.ends) (failing run does.reached.events does.rest does.reached.leads) in
    record { before = f.before; last = f.last; log = does.reached.log ∙ ap (λ es. old.log ++ es) f.is; failed = f.failed; at = f.at; first = f.first }

over_fails_not : {X : Type 0} (rest : Rest X) (events : List Event) → IsOver rest → Failing rest events → list_any has_failed events ≡ false
over_fails_not (Goes run) events over h = h
over_fails_not (Fails path) events over h = absurd over
over_fails_not NoRoom events over h = absurd over

-- where it gives a value or refuses the input, no call failed
pub none_fails : {X : Type 0} (run : Run X) (old new : Seen) (result : Result X RunFault) → Does run old new result → IsSettled result → NoneFails old new
none_fails run old new result does settled = record {
  events = does.reached.events;
  log = does.reached.log;
  none = over_fails_not does.rest does.reached.events (settled_is_over does.rest result does.ends settled) (failing run does.reached.events does.rest does.reached.leads);
}

-- where the last call failed, the count of failed calls rose
pub failed_is_counted : (path : List ℕ) (old new : Seen) → EndsFailed path old new → Rose (failures old.log) (failures new.log)
failed_is_counted path old new ends = subst (λ (l : List Event). Rose (failures old.log) (failures l)) (sym ends.log) (last_is_counted old.log ends.before ends.last ends.failed)

-- a run never ends with a write fault
never_left : {X : Type 0} (rest : Rest X) → Ends rest (Err WriteFault) → ⊥
never_left (Goes (Gives x)) h = cc
never_left (Goes (Refuses refusal)) (inl h) = cc
never_left (Goes (Refuses refusal)) (inr h) = cc
never_left (Goes (Lists dir most over k)) h = cc
never_left (Goes (Reads path most over k)) h = cc
never_left (Fails path) h = cc
never_left NoRoom h = cc

pub never_writes : {X : Type 0} (run : Run X) (old new : Seen) → Does run old new (Err WriteFault) → ⊥
never_writes run old new does = never_left does.rest does.ends
