-- What the calls of this crate give.
use Rattle.std.specs.Prelude.{◌≡◌, ℕ, Result, Ok, Err}
use Rattle.wf_asm.specs.declared.fault.AsmFault.{AsmFault}
use Rattle.wf_asm.specs.declared.fault.AsmFault.TheVariants.{BadLine, NoMemory}

-- a fault is of the line that is wrong, unless memory ran out
abbrev pub Fails : {Y : Type 0} → AsmFault → Result Y ℕ → Type 0
Fails NoMemory due = Unit {0}
Fails (BadLine line) due = due ≡ Err line

-- what is due is given, seen by view
abbrev pub GivesAs : {X Y : Type 0} → (X → Y) → Result X AsmFault → Result Y ℕ → Type 0
GivesAs view (Ok x) due = due ≡ Ok (view x)
GivesAs view (Err e) due = Fails e due

abbrev pub Gives : {X : Type 0} → Result X AsmFault → Result X ℕ → Type 0
Gives result due = GivesAs (λ x. x) result due
