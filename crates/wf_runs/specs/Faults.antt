-- The status and the line of each fault (this project's own).
use Rattle.std.specs.Prelude.{ℕ, List, [], ◌∷◌, ◌++◌, codes}
use Rattle.std.specs.Fmt.{decimal}
use Rattle.wf_bytes.specs.Words.{why_word}
use Rattle.wf_io.specs.declared.tree.TreeFault.{TreeFault}
use Rattle.wf_io.specs.declared.tree.TreeFault.TheVariants.{Failed, More}
use Rattle.wf_io.specs.declared.tree.TreeFault.TheVariants as tree
use Rattle.wf_names.specs.NameForm.{escaped}
use Rattle.wf_runs.specs.declared.fault.Refusal.{Refusal}
use Rattle.wf_runs.specs.declared.fault.Refusal.TheVariants.{Unbuilt, BadClass, WrongName, NoObject}
use Rattle.wf_runs.specs.declared.fault.RunFault.{RunFault}
use Rattle.wf_runs.specs.declared.fault.RunFault.TheVariants.{Refused, ReadFault, WriteFault, NoMemory}

-- the status of a refusal of the input
abbrev pub refusal_status : Refusal → ℕ
refusal_status (BadClass file offset why) = 3
refusal_status (WrongName file name) = 3
refusal_status NoObject = 3
refusal_status Unbuilt = 10

-- the status of each fault
abbrev pub status_of : RunFault → ℕ
status_of (Refused refusal) = refusal_status refusal
status_of (ReadFault path) = 6
status_of WriteFault = 7
status_of NoMemory = 9

-- the words of a refusal; paths and names stand in them in the form of names
abbrev pub refusal_words : Refusal → List ℕ
refusal_words (BadClass file offset why) = codes "bad class file " ++ escaped file ++ codes " at " ++ decimal offset ++ codes ": " ++ why_word why
refusal_words (WrongName file name) = codes "wrong name in " ++ escaped file ++ codes ": " ++ escaped name
refusal_words NoObject = codes "java/lang/Object is not loadable"
refusal_words Unbuilt = codes "not built yet"

-- the words of each fault
abbrev pub words_of : RunFault → List ℕ
words_of (Refused refusal) = refusal_words refusal
words_of (ReadFault path) = codes "read fault: " ++ escaped path
words_of WriteFault = codes "write fault"
words_of NoMemory = codes "no memory"

-- the line of each fault: its words and a line feed
abbrev pub line_of : RunFault → List ℕ
line_of fault = words_of fault ++ 10 ∷ []

-- a refusal whose line is not always the same, since it names a file
abbrev pub RefusalNamesFile : Refusal → Type 0
RefusalNamesFile (BadClass file offset why) = Unit {0}
RefusalNamesFile (WrongName file name) = Unit {0}
RefusalNamesFile NoObject = ⊥
RefusalNamesFile Unbuilt = ⊥

-- the same of each fault
abbrev pub NamesFile : RunFault → Type 0
NamesFile (Refused refusal) = RefusalNamesFile refusal
NamesFile (ReadFault path) = Unit {0}
NamesFile WriteFault = ⊥
NamesFile NoMemory = ⊥

-- what a call at this path ends the run with, where it gives nothing: more than it asked for is refused
abbrev pub fault_of : List ℕ → Refusal → TreeFault → RunFault
fault_of path over Failed = ReadFault path
fault_of path over More = Refused over
fault_of path over tree.NoMemory = NoMemory
