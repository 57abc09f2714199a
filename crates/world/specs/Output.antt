-- What sinks get.
use Rattle.std.specs.Prelude.{◌≡◌, ℕ, ◌<◌, ◌⊎◌, List, ◌++◌, length, take, Option, Some}
use Rattle.wf_io.specs.Faults.{Rose}
use Rattle.wf_io.specs.Log.{Seen}
use Rattle.wf_runs.specs.declared.fault.RunFault.{RunFault}
use Rattle.wf_runs.specs.declared.fault.RunFault.TheVariants.{Refused, ReadFault, WriteFault, NoMemory}
use Rattle.wf_runs.specs.Due.{EndsFailed}
use Rattle.wf_runs.specs.Faults.{status_of, line_of, NamesFile}

-- a sink that had some bytes has a beginning of these behind them, and not all
pub record IsCut (had bytes : List ℕ) (taken : Option (List ℕ)) : Type 0 where
  pub size : ℕ
  pub within : size < length bytes
  pub has : taken ≡ Some (had ++ take size bytes)

-- it has all of them, or a beginning where its own count of faults rose
abbrev pub Got : List ℕ → List ℕ → Option (List ℕ) → ℕ → ℕ → Type 0
Got had bytes taken old new = (taken ≡ Some (had ++ bytes)) ⊎ (IsCut had bytes taken × Rose old new)

-- a read fault names the path of the tree's last call, which failed
abbrev pub IsKnown : Seen → Seen → RunFault → Type 0
IsKnown old new (Refused refusal) = Unit {0}
IsKnown old new (ReadFault path) = EndsFailed path old new
IsKnown old new WriteFault = Unit {0}
IsKnown old new NoMemory = Unit {0}

-- the status is that of a fault, and the error sink got its line
pub record TellsFault (before behind : Seen) (status : ℕ) (had : List ℕ) (taken : Option (List ℕ)) (old new : ℕ) : Type 0 where
  pub fault : RunFault
  pub is : status ≡ status_of fault
  pub known : IsKnown before behind fault
  pub got : Got had (line_of fault) taken old new

-- the same of this fault
pub record TellsOf (fault : RunFault) (status : ℕ) (had : List ℕ) (taken : Option (List ℕ)) (old new : ℕ) : Type 0 where
  pub is : status ≡ status_of fault
  pub got : Got had (line_of fault) taken old new

-- of this fault, or of want of memory for its line
abbrev pub TellsOrNoMemory : RunFault → ℕ → List ℕ → Option (List ℕ) → ℕ → ℕ → Type 0
TellsOrNoMemory fault status had taken old new = TellsOf fault status had taken old new ⊎ TellsOf NoMemory status had taken old new

-- The status of a fault, or that of want of memory for its line. Lines that are always the same need none.
abbrev pub IsStatusOf : RunFault → ℕ → Type 0
IsStatusOf fault status = (status ≡ status_of fault) ⊎ (NamesFile fault × (status ≡ 9))
