-- What the calls of this crate give.
use Rattle.std.specs.Prelude.{◌≡◌, ℕ, Result, Ok, Err}
use Rattle.wf_report.specs.declared.fault.WorldFault.{WorldFault}
use Rattle.wf_report.specs.declared.fault.WorldFault.TheVariants.{BadLine, NoMemory}
use Rattle.wf_report.specs.Reading.{Place}

-- a fault is of the line that is bad, unless memory ran out
abbrev pub Fails : {X : Type 0} → WorldFault → Result X ℕ → Type 0
Fails NoMemory due = Unit {0}
Fails (BadLine line) due = due ≡ Err line

-- what is due is given, unless memory ran out
abbrev pub Gives : {X : Type 0} → Result X WorldFault → Result X ℕ → Type 0
Gives (Ok x) due = due ≡ Ok x
Gives (Err e) due = Fails e due

-- the same of a reader, which leads to a new place
abbrev pub GivesAt : {X : Type 0} → Place → Result X WorldFault → Result (X × Place) ℕ → Type 0
GivesAt new (Ok x) due = due ≡ Ok (x, new)
GivesAt new (Err e) due = Fails e due

-- the place at which reading begins
abbrev pub Begins : Result Place WorldFault → Result (Unit {0} × Place) ℕ → Type 0
Begins (Ok p) due = due ≡ Ok (tt, p)
Begins (Err e) due = Fails e due
