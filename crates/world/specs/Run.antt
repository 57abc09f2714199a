-- What a whole run gives.
use Rattle.std.specs.Prelude.{◌≡◌, ◌⊎◌, ℕ, List, ◌++◌, Option, Some, Result, Ok, Err}
use Rattle.wf_first.specs.declared.program.Program.{Program}
use Rattle.wf_io.specs.declared.tree.MemFile.{MemFile}
use Rattle.wf_io.specs.Log.{Seen}
use Rattle.wf_names.specs.declared.world.World.{World}
use Rattle.wf_runs.specs.declared.fault.Refusal.{Refusal}
use Rattle.wf_runs.specs.declared.fault.RunFault.{RunFault}
use Rattle.wf_runs.specs.declared.fault.RunFault.TheVariants.{Refused, NoMemory}
use Rattle.wf_runs.specs.Due.{Given, RefusedFor, EndsFailed}
use Rattle.wf_runs.specs.Faults.{status_of, line_of}
use Rattle.wf_runs.specs.Run.{Run, Does}
use Rattle.wf_sys.specs.WorldOf.{IsLeastWorld}
use Rattle.world.specs.Outcome.{RunFor, Outcome}
use Rattle.world.specs.Output.{IsCut, Got, IsStatusOf}
use Rattle.wf_report.specs.Report.{report_text}

-- the text is the report of the world of the least solution for the program
pub record IsReportOf (program : Program) (text : List ℕ) : Type 0 where
  pub world : World
  pub least : IsLeastWorld program.classes program.root world
  pub is : text ≡ report_text world

-- The text is the report for the program that is due.
pub record IsReport (files : List MemFile) (words : List (List ℕ)) (text : List ℕ) : Type 0 where
  pub program : Program
  pub outcome : Outcome files words (Given program)
  pub report : IsReportOf program text

-- a sink that had some bytes has the whole report behind them
pub record Prints (files : List MemFile) (words : List (List ℕ)) (had : List ℕ) (taken : Option (List ℕ)) : Type 0 where
  pub text : List ℕ
  pub report : IsReport files words text
  pub has : taken ≡ Some (had ++ text)

-- it has a beginning of the report, and not all
pub record PrintsPart (files : List MemFile) (words : List (List ℕ)) (had : List ℕ) (taken : Option (List ℕ)) : Type 0 where
  pub text : List ℕ
  pub report : IsReport files words text
  pub cut : IsCut had text taken

-- a refusal is due, and the status is its
pub record IsRefusal (files : List MemFile) (words : List (List ℕ)) (status : ℕ) : Type 0 where
  pub refusal : Refusal
  pub due : Outcome files words (RefusedFor refusal)
  pub is : status ≡ status_of (Refused refusal)

-- the same, and the error sink got its line
pub record TellsRefusal (files : List MemFile) (words : List (List ℕ)) (status : ℕ) (had : List ℕ) (taken : Option (List ℕ)) (old new : ℕ) : Type 0 where
  pub refusal : Refusal
  pub due : Outcome files words (RefusedFor refusal)
  pub is : status ≡ status_of (Refused refusal)
  pub got : Got had (line_of (Refused refusal)) taken old new

-- the last call of the tree failed
pub record LastFails (old new : Seen) : Type 0 where
  pub path : List ℕ
  pub fails : EndsFailed path old new

-- ---- whatever the tree tells

-- what comes of the program that was read, or of the fault in its place
abbrev pub Reports : Result Program RunFault → Result (List ℕ) RunFault → Type 0
Reports (Ok program) (Ok text) = IsReportOf program text
Reports (Ok program) (Err fault) = fault ≡ NoMemory
Reports (Err fault) (Ok text) = ⊥
Reports (Err fault) (Err told) = told ≡ fault

-- the run for the words is done on the answers of the tree, and this comes of it
pub record Analyses (words : List (List ℕ)) (old new : Seen) (result : Result (List ℕ) RunFault) : Type 0 where
  pub run : Run Program
  pub for_words : RunFor words run
  pub answer : Result Program RunFault
  pub does : Does run old new answer
  pub reports : Reports answer result

-- the status of what comes of a run: of a text that is written or not, or of a fault that is told
abbrev pub IsStatusFor : Result (List ℕ) RunFault → ℕ → Type 0
IsStatusFor (Ok text) status = (status ≡ 0) ⊎ (status ≡ 7)
IsStatusFor (Err fault) status = IsStatusOf fault status

-- On the answers that the tree gave, its calls and the status are those of the run for the words.
pub record Runs (words : List (List ℕ)) (old new : Seen) (status : ℕ) : Type 0 where
  pub result : Result (List ℕ) RunFault
  pub analyses : Analyses words old new result
  pub is : IsStatusFor result status

-- a sink that had some bytes has the report of the run behind them
pub record PrintsRun (words : List (List ℕ)) (old new : Seen) (had : List ℕ) (taken : Option (List ℕ)) : Type 0 where
  pub text : List ℕ
  pub analyses : Analyses words old new (Ok text)
  pub has : taken ≡ Some (had ++ text)

-- the statuses
abbrev pub IsStatus : ℕ → Type 0
IsStatus n = (n ≡ 0) ⊎ (n ≡ 3) ⊎ (n ≡ 6) ⊎ (n ≡ 7) ⊎ (n ≡ 9) ⊎ (n ≡ 10)
