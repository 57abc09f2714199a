-- The calls that a tree was asked, each with its answer.
use Rattle.std.specs.Prelude.{◌≡◌, ℕ, ◌-◌, ◌^◌, ◌<◌, ◌≤◌, Bool, true, false, List, [], ◌∷◌, ◌++◌, Option, Some, Result, Ok, Err, length, map, min, count_by, IsPermutation, IsSomeAnd}
use Rattle.wf_io.specs.declared.calls.Answer.{Answer}
use Rattle.wf_io.specs.declared.calls.Answer.TheVariants.{Entries, Bytes}
use Rattle.wf_io.specs.declared.tree.Entry.{Entry}
use Rattle.wf_io.specs.declared.tree.MemFile.{MemFile}
use Rattle.wf_io.specs.declared.tree.TreeFault.{TreeFault}
use Rattle.wf_io.specs.declared.tree.TreeFault.TheVariants.{Failed, More, NoMemory}
use Rattle.wf_io.specs.Tree.{listing, content}

-- a call: of which path, and for how many entries or bytes at most it asks
pub data Call : Type 0 where
  ListOf : (dir : List ℕ) (most : ℕ) → Call
  ReadOf : (path : List ℕ) (most : ℕ) → Call

-- a call that was made, with its answer
pub data Event : Type 0 where
  Listed : (dir : List ℕ) (most : ℕ) → Result (List Entry) TreeFault → Event
  WasRead : (path : List ℕ) (most : ℕ) → Result (List ℕ) TreeFault → Event

-- the call that was made
abbrev pub call_of : Event → Call
call_of (Listed dir most answer) = ListOf dir most
call_of (WasRead path most answer) = ReadOf path most

-- the outside failed
abbrev pub is_failed : {X : Type 0} → Result X TreeFault → Bool
is_failed (Ok x) = false
is_failed (Err Failed) = true
is_failed (Err More) = false
is_failed (Err NoMemory) = false

-- the same of a call that was made
abbrev pub has_failed : Event → Bool
has_failed (Listed dir most answer) = is_failed answer
has_failed (WasRead path most answer) = is_failed answer

-- how many calls failed, up to the greatest number of 64 bits
abbrev pub failures : List Event → ℕ
failures log = min (count_by has_failed log) (2 ^ 64 - 1)

-- What a tree tells: its files, where it tells them, and the calls that were made of it, the latest last.
pub record Seen : Type 0 where
  pub told : Option (List MemFile)
  pub log : List Event

-- The answer is that of a tree of these files: the entries in any order, or the bytes, and more exactly where there are
-- more than were asked for. That a call failed, or found no memory, says nothing of them.
abbrev pub IsOf : List MemFile → Event → Type 0
IsOf files (Listed dir most (Ok entries)) = IsPermutation (listing files dir) entries × (length entries ≤ most)
IsOf files (Listed dir most (Err More)) = most < length (listing files dir)
IsOf files (Listed dir most (Err Failed)) = Unit {0}
IsOf files (Listed dir most (Err NoMemory)) = Unit {0}
IsOf files (WasRead path most (Ok bytes)) = (content files path ≡ Some bytes) × (length bytes ≤ most)
IsOf files (WasRead path most (Err More)) = IsSomeAnd (content files path) (λ bytes. most < length bytes)
IsOf files (WasRead path most (Err Failed)) = Unit {0}
IsOf files (WasRead path most (Err NoMemory)) = Unit {0}

-- One call was made, and no other. What is told stays, and where files are told, the answer is theirs.
pub record Logs (event : Event) (old new : Seen) : Type 0 where
  pub logged : new.log ≡ old.log ++ event ∷ []
  pub told : new.told ≡ old.told
  pub honest : (files : List MemFile) → old.told ≡ Some files → IsOf files event

-- a pair of the log as a call with its answer
abbrev pub event_of : List ℕ × Answer → Event
event_of pair = event_at pair.0 pair.1
  where
    event_at : List ℕ → Answer → Event
    event_at path (Entries most answer) = Listed path most answer
    event_at path (Bytes most answer) = WasRead path most answer

-- the pairs of a log as calls with their answers
abbrev pub events_of : List (List ℕ × Answer) → List Event
events_of pairs = map event_of pairs
