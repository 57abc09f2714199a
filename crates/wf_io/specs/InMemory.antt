-- The tree and the sink in memory.
use Rattle.std.specs.Prelude.{◌≡◌, ℕ, ◌+◌, ◌-◌, ◌^◌, List, Some, min, length, Contains}
use Rattle.wf_io.specs.declared.failing.Failing.{Failing}
use Rattle.wf_io.specs.declared.tree.MemFile.{MemFile}
use Rattle.wf_io.specs.declared.tree_mem.TreeMem.{TreeMem}
use Rattle.wf_io.specs.declared.sink_mem.SinkMem.{SinkMem}
use Rattle.wf_io.specs.Calls.{log_of}
use Rattle.wf_io.specs.Log.{Seen}

-- the calls with these numbers fail, and so many were made
abbrev pub numbers_from : List ℕ → ℕ → Failing
numbers_from numbers made = record { numbers = numbers; made = made }

-- The same calls fail, and one more was made. The count stops at the greatest number of 64 bits.
abbrev pub after_one : Failing → Failing
after_one f = numbers_from f.numbers (min (f.made + 1) (2 ^ 64 - 1))

-- the next call is one that fails
abbrev pub FailsNext : Failing → Type 0
FailsNext f = Contains f.numbers f.made

-- the files of a tree
abbrev pub files_of : TreeMem → List MemFile
files_of t = t.files

-- the files, and the calls that were made
abbrev pub seen_of : TreeMem → Seen
seen_of t = record { told = Some t.files; log = log_of t.calls }

-- which calls fail
abbrev pub failing_calls : TreeMem → Failing
failing_calls t = t.failing

-- the bytes that a sink has taken
abbrev pub bytes_of : SinkMem → List ℕ
bytes_of s = s.bytes.items

-- for how many bytes it has room
abbrev pub room_of : SinkMem → ℕ
room_of s = s.room

-- how many bytes it takes at a time
abbrev pub step_of : SinkMem → ℕ
step_of s = s.step

-- how many writes have failed
abbrev pub faults_of : SinkMem → ℕ
faults_of s = s.faults

-- which writes of pieces that aren't empty fail
abbrev pub failing_writes : SinkMem → Failing
failing_writes s = s.failing

-- how many bytes it takes of a piece of so many
abbrev pub taken_of : SinkMem → ℕ → ℕ
taken_of s n = min (min n (step_of s)) (room_of s - length (bytes_of s))

-- A write of a piece that isn't empty has been made. Room, step and the writes that fail are the same.
pub record CountsWrite (old new : SinkMem) : Type 0 where
  pub counted : failing_writes new ≡ after_one (failing_writes old)
  pub room : room_of new ≡ room_of old
  pub step : step_of new ≡ step_of old
