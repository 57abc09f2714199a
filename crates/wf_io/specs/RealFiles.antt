-- The tree and the sink of real files.
use Rattle.std.specs.Prelude.{ℕ, None}
use Rattle.wf_io.specs.declared.std_sink.StdSink.{StdSink}
use Rattle.wf_io.specs.declared.std_tree.StdTree.{StdTree}
use Rattle.std.specs.declared.io.ErrorKind.{ErrorKind}
use Rattle.std.specs.declared.io.ErrorKind.TheVariants.{OutOfMemory}
use Rattle.wf_io.specs.Calls.{log_of}
use Rattle.wf_io.specs.Log.{Seen}
use Rattle.wf_io.specs.declared.tree.TreeFault.{TreeFault}
use Rattle.wf_io.specs.declared.tree.TreeFault.TheVariants.{Failed, NoMemory}

-- no files, and the calls that were made
abbrev pub seen_of : {R : Type 0} → StdTree R → Seen
seen_of t = record { told = None; log = log_of t.calls }

-- how many writes have failed
abbrev pub faults_of : {W : Type 0} → StdSink W → ℕ
faults_of s = s.faults

-- the answer to an error of the system: want of memory is told apart from all others
abbrev pub fault_of : ErrorKind → TreeFault
fault_of OutOfMemory = NoMemory
fault_of _ = Failed
