-- What the readers of instructions give, against the functions that read lists (this project's own).
use Rattle.std.specs.Prelude.{◌≡◌, Result, Ok, Err}
use Rattle.wf_bytes.specs.Reading.{Fault}
use Rattle.wf_opcode.specs.declared.fault.Stop.{Stop}
use Rattle.wf_opcode.specs.declared.fault.Stop.TheVariants as stop

-- nothing was read, or memory ran out
abbrev pub Fails : {Y : Type 0} → Stop → Result Y Fault → Type 0
Fails stop.NoMemory read = Unit {0}
Fails stop.NoInstruction (Ok y) = ⊥
Fails stop.NoInstruction (Err e) = Unit {0}

-- A reader gave what is read there, seen by view, and stands behind it; or it failed as that does.
abbrev pub GivesAs : {X Y S : Type 0} → (X → Y) → S → Result X Stop → Result (Y × S) Fault → Type 0
GivesAs view new (Ok x) read = read ≡ Ok (view x, new)
GivesAs view new (Err e) read = Fails e read

abbrev pub Gives : {X S : Type 0} → S → Result X Stop → Result (X × S) Fault → Type 0
Gives new result read = GivesAs (λ x. x) new result read
