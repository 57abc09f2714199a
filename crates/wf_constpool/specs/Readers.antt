-- What the readers of class files give, against the functions that read lists.
use Rattle.std.specs.Prelude.{◌≡◌, Result, Ok, Err}
use Rattle.wf_bytes.specs.Reading.{Fault, bad}
use Rattle.wf_constpool.specs.declared.fault.ClassFault.{ClassFault}
use Rattle.wf_constpool.specs.declared.fault.ClassFault.TheVariants.{Bad, NoMemory}

-- this fault is met, or memory ran out
abbrev pub Fails : {Y : Type 0} → ClassFault → Result Y Fault → Type 0
Fails NoMemory read = Unit {0}
Fails (Bad offset why) read = read ≡ Err (bad offset why)

-- A reader gave what is read there, seen by view, and stands behind it; or it failed as that does.
abbrev pub GivesAs : {X Y S : Type 0} → (X → Y) → S → Result X ClassFault → Result (Y × S) Fault → Type 0
GivesAs view new (Ok x) read = read ≡ Ok (view x, new)
GivesAs view new (Err e) read = Fails e read

abbrev pub Gives : {X S : Type 0} → S → Result X ClassFault → Result (X × S) Fault → Type 0
Gives new result read = GivesAs (λ x. x) new result read

-- The same of a value with no place behind it.
abbrev pub GivesValue : {X : Type 0} → Result X ClassFault → Result X Fault → Type 0
GivesValue (Ok x) read = read ≡ Ok x
GivesValue (Err e) read = Fails e read
