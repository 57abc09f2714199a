-- The outcome of the whole call, over the words and the files that the tree tells.
use Rattle.std.specs.Prelude.{◌≡◌, ℕ, List}
use Rattle.wf_first.specs.declared.program.Program.{Program}
use Rattle.wf_io.specs.declared.tree.MemFile.{MemFile}
use Rattle.wf_io.specs.Log.{Seen}
use Rattle.wf_runs.specs.declared.fault.Refusal.TheVariants.{Unbuilt}
use Rattle.wf_runs.specs.Due.{Due, due, calls, MakesPart, MakesAll}
use Rattle.wf_runs.specs.Run.{Run, Refuses}
use Rattle.world.specs.Command.{IsCommand}
use Rattle.world.specs.Load.{load_run}

-- The run that the words ask for. Words that are no command aren't built yet.
pub data RunFor (words : List (List ℕ)) : Run Program → Type 0 where
  no_command : ((roots dir : List ℕ) → IsCommand words roots dir → ⊥) → RunFor words (Refuses Unbuilt)
  command : (roots dir : List ℕ) → IsCommand words roots dir → RunFor words (load_run roots dir)

-- what is due for the words and the files
pub record Outcome (files : List MemFile) (words : List (List ℕ)) (what : Due Program) : Type 0 where
  pub run : Run Program
  pub for_words : RunFor words run
  pub is : due files run ≡ what

-- for words and files one thing is due
abbrev pub OutcomeIsOne : Type 0
OutcomeIsOne = (files : List MemFile) (words : List (List ℕ)) (one other : Due Program) → Outcome files words one → Outcome files words other → one ≡ other

-- the calls of the tree are a first part of those of the run for these words
pub record CallsPart (files : List MemFile) (words : List (List ℕ)) (old new : Seen) : Type 0 where
  pub run : Run Program
  pub for_words : RunFor words run
  pub part : MakesPart (calls files run) old new

-- they are all of them
pub record CallsAll (files : List MemFile) (words : List (List ℕ)) (old new : Seen) : Type 0 where
  pub run : Run Program
  pub for_words : RunFor words run
  pub all : MakesAll (calls files run) old new
