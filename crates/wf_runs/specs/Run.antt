-- A run: what is asked of a tree of files, in which order, and what comes of the answers.
use Rattle.std.specs.Prelude.{◌≡◌, ◌⊎◌, ℕ, List, [], ◌∷◌, ◌++◌, Some, Result, Ok, Err}
use Rattle.std.specs.List.{AllByRecursion}
use Rattle.wf_io.specs.declared.tree.Entry.{Entry}
use Rattle.wf_io.specs.declared.tree.MemFile.{MemFile}
use Rattle.wf_io.specs.declared.tree.TreeFault.{TreeFault}
use Rattle.wf_io.specs.declared.tree.TreeFault.TheVariants.{Failed, More}
use Rattle.wf_io.specs.declared.tree.TreeFault.TheVariants as tree
use Rattle.wf_io.specs.Log.{Event, Listed, WasRead, IsOf, Seen}
use Rattle.wf_io.specs.Tree.{in_order}
use Rattle.wf_runs.specs.declared.fault.Refusal.{Refusal}
use Rattle.wf_runs.specs.declared.fault.RunFault.{RunFault}
use Rattle.wf_runs.specs.declared.fault.RunFault.TheVariants.{Refused, ReadFault, NoMemory}

-- A run gives a value, refuses the input, or makes a call of the tree and goes on with its answer. A call asks for a
-- number of entries or bytes at most, and where there are more, the run refuses what the call says.
pub data Run (X : Type 0) : Type 0 where
  Gives : X → Run X
  Refuses : Refusal → Run X
  Lists : (dir : List ℕ) (most : ℕ) (over : Refusal) → (List Entry → Run X) → Run X
  Reads : (path : List ℕ) (most : ℕ) (over : Refusal) → (List ℕ → Run X) → Run X

-- one run after another, which has the value of the first
infixl 10 ◌>>=◌
abbrev pub ◌>>=◌ : {X Y : Type 0} → Run X → (X → Run Y) → Run Y
(Gives x) >>= f = f x
(Refuses refusal) >>= f = Refuses refusal
(Lists dir most over k) >>= f = Lists dir most over (λ entries. k entries >>= f)
(Reads path most over k) >>= f = Reads path most over (λ bytes. k bytes >>= f)

-- each element in turn, up to the first that is refused
abbrev pub each : {X S : Type 0} → (X → S → Run S) → List X → S → Run S
each f [] s = Gives s
each f (x ∷ xs) s = f x s >>= each f xs

-- ---- what the answers of a tree lead to

-- What is left of a run: a run; nothing, since the call of this path failed; nothing, since a call found no memory.
pub data Rest (X : Type 0) : Type 0 where
  Goes : Run X → Rest X
  Fails : (path : List ℕ) → Rest X
  NoRoom : Rest X

-- what is left behind a call of this path, by its answer
abbrev pub heard : {X Y : Type 0} → List ℕ → Refusal → (Y → Run X) → Result Y TreeFault → Rest X
heard path over k (Ok y) = Goes (k y)
heard path over k (Err More) = Goes (Refuses over)
heard path over k (Err Failed) = Fails path
heard path over k (Err tree.NoMemory) = NoRoom

-- It is the call that the run makes next: of the same path, and for as much.
abbrev pub IsNext : {X : Type 0} → Rest X → Event → Type 0
IsNext (Goes (Gives x)) event = ⊥
IsNext (Goes (Refuses refusal)) event = ⊥
IsNext (Goes (Lists dir most over k)) (Listed d m answer) = (d ≡ dir) × (m ≡ most)
IsNext (Goes (Lists dir most over k)) (WasRead p m answer) = ⊥
IsNext (Goes (Reads path most over k)) (Listed d m answer) = ⊥
IsNext (Goes (Reads path most over k)) (WasRead p m answer) = (p ≡ path) × (m ≡ most)
IsNext (Fails path) event = ⊥
IsNext NoRoom event = ⊥

-- what is left behind it; entries are taken in order, whatever order they came in
abbrev pub behind : {X : Type 0} → Rest X → Event → Rest X
behind (Goes (Gives x)) event = Goes (Gives x)
behind (Goes (Refuses refusal)) event = Goes (Refuses refusal)
behind (Goes (Lists dir most over k)) (Listed d m answer) = heard dir over (λ entries. k (in_order entries)) answer
behind (Goes (Lists dir most over k)) (WasRead p m answer) = Goes (Lists dir most over k)
behind (Goes (Reads path most over k)) (Listed d m answer) = Goes (Reads path most over k)
behind (Goes (Reads path most over k)) (WasRead p m answer) = heard path over k answer
behind (Fails path) event = Fails path
behind NoRoom event = NoRoom

-- these calls with their answers lead from what is left to what is left behind them
abbrev pub Leads : {X : Type 0} → Rest X → List Event → Rest X → Type 0
Leads from [] to = to ≡ from
Leads from (event ∷ events) to = IsNext from event × Leads (behind from event) events to

-- The calls that a tree logged lead from what is left to what is left. Told files stay, and the answers are theirs.
pub record Reached {X : Type 0} (from : Rest X) (old new : Seen) (to : Rest X) : Type 0 where
  pub events : List Event
  pub log : new.log ≡ old.log ++ events
  pub leads : Leads from events to
  pub told : new.told ≡ old.told
  pub honest : (files : List MemFile) → old.told ≡ Some files → AllByRecursion (IsOf files) events

-- What a function answers where this is left. A value and a refusal are the run's own, a failed call is a read fault of
-- its path, and a call that found no memory is want of memory. Where a run is left, memory may run out at any place.
abbrev pub Ends : {X : Type 0} → Rest X → Result X RunFault → Type 0
Ends (Goes (Gives x)) (Ok y) = y ≡ x
Ends (Goes (Gives x)) (Err fault) = fault ≡ NoMemory
Ends (Goes (Refuses refusal)) (Ok y) = ⊥
Ends (Goes (Refuses refusal)) (Err fault) = (fault ≡ Refused refusal) ⊎ (fault ≡ NoMemory)
Ends (Goes (Lists dir most over k)) (Ok y) = ⊥
Ends (Goes (Lists dir most over k)) (Err fault) = fault ≡ NoMemory
Ends (Goes (Reads path most over k)) (Ok y) = ⊥
Ends (Goes (Reads path most over k)) (Err fault) = fault ≡ NoMemory
Ends (Fails path) (Ok y) = ⊥
Ends (Fails path) (Err fault) = fault ≡ ReadFault path
Ends NoRoom (Ok y) = ⊥
Ends NoRoom (Err fault) = fault ≡ NoMemory

-- A function does a run: on the answers that the tree gave, its calls are the run's, with what each asks for, and no
-- others, and so is what it answers. Want of memory may end it at any place.
pub record Does {X : Type 0} (run : Run X) (old new : Seen) (result : Result X RunFault) : Type 0 where
  pub rest : Rest X
  pub reached : Reached (Goes run) old new rest
  pub ends : Ends rest result

-- The same of a function that makes no call.
abbrev pub Answers : {X : Type 0} → Run X → Result X RunFault → Type 0
Answers run result = Ends (Goes run) result

-- the answer of a function that changes a state: the state that it leaves, or the fault
abbrev pub leaves : {S U : Type 0} → S → Result U RunFault → Result S RunFault
leaves new (Ok u) = Ok new
leaves new (Err fault) = Err fault
