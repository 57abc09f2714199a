-- What is due where a tree tells its files, and which calls a run makes of it.
use Rattle.std.specs.Prelude.{◌≡◌, ℕ, true, false, List, [], ◌∷◌, ◌++◌, Result, Ok, Err, length, map, nat_lt, if◌then◌else◌}
use Rattle.std.specs.List.{list_any}
use Rattle.std.specs.Option.{option_map_or}
use Rattle.wf_io.specs.declared.tree.MemFile.{MemFile}
use Rattle.wf_io.specs.Log.{Call, ListOf, ReadOf, Event, Listed, WasRead, Seen, call_of, has_failed}
use Rattle.wf_io.specs.Tree.{listing, content}
use Rattle.wf_runs.specs.declared.fault.Refusal.{Refusal}
use Rattle.wf_runs.specs.declared.fault.RunFault.{RunFault}
use Rattle.wf_runs.specs.declared.fault.RunFault.TheVariants.{Refused, ReadFault, WriteFault, NoMemory}
use Rattle.wf_runs.specs.Run.{Run, Gives, Refuses, Lists, Reads}

-- What is due: a value, a refusal of the input, or the read of a path that isn't there, which can only fail.
pub data Due (X : Type 0) : Type 0 where
  Given : X → Due X
  RefusedFor : Refusal → Due X
  Missing : (path : List ℕ) → Due X

-- what is due for these files
abbrev pub due : {X : Type 0} → List MemFile → Run X → Due X
due files (Gives x) = Given x
due files (Refuses refusal) = RefusedFor refusal
due files (Lists dir most over k) = if nat_lt most (length (listing files dir)) then RefusedFor over else due files (k (listing files dir))
due files (Reads path most over k) = option_map_or (λ bytes. if nat_lt most (length bytes) then RefusedFor over else due files (k bytes)) (content files path) (Missing path)

-- the calls that the run makes of these files, where none of them fails: in their order, up to the first refusal
abbrev pub calls : {X : Type 0} → List MemFile → Run X → List Call
calls files (Gives x) = []
calls files (Refuses refusal) = []
calls files (Lists dir most over k) = ListOf dir most ∷ (if nat_lt most (length (listing files dir)) then [] else calls files (k (listing files dir)))
calls files (Reads path most over k) = ReadOf path most ∷ option_map_or (λ bytes. if nat_lt most (length bytes) then [] else calls files (k bytes)) (content files path) []

-- The answer is the due one: the value, or the refusal. A failed call and want of memory may stand in its place.
abbrev pub IsDue : {X : Type 0} → Due X → Result X RunFault → Type 0
IsDue what (Ok x) = what ≡ Given x
IsDue what (Err (Refused refusal)) = what ≡ RefusedFor refusal
IsDue what (Err (ReadFault path)) = Unit {0}
IsDue what (Err WriteFault) = ⊥
IsDue what (Err NoMemory) = Unit {0}

-- the calls that the tree logged, with what each asked for, are a first part of these
pub record MakesPart (all : List Call) (old new : Seen) : Type 0 where
  pub events : List Event
  pub log : new.log ≡ old.log ++ events
  pub left : List Call
  pub is : all ≡ map call_of events ++ left

-- they are all of these
pub record MakesAll (all : List Call) (old new : Seen) : Type 0 where
  pub events : List Event
  pub log : new.log ≡ old.log ++ events
  pub is : all ≡ map call_of events

-- the path of a call that was made
abbrev pub path_of : Event → List ℕ
path_of (Listed dir most answer) = dir
path_of (WasRead path most answer) = path

-- the last call that was made failed, it is of this path, and none failed before
pub record EndsFailed (path : List ℕ) (old new : Seen) : Type 0 where
  pub before : List Event
  pub last : Event
  pub log : new.log ≡ old.log ++ (before ++ last ∷ [])
  pub failed : has_failed last ≡ true
  pub at : path_of last ≡ path
  pub first : list_any has_failed before ≡ false

-- no call that was made failed
pub record NoneFails (old new : Seen) : Type 0 where
  pub events : List Event
  pub log : new.log ≡ old.log ++ events
  pub none : list_any has_failed events ≡ false
