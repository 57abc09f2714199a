-- What the calls of this crate give.
use Rattle.std.specs.Prelude.{◌≡◌, Option, Some, None, Result, Ok, Err}
use Rattle.wf_inputs.specs.declared.fault.InputFault.{InputFault}
use Rattle.wf_inputs.specs.declared.fault.InputFault.TheVariants as fault
use Rattle.wf_inputs.specs.declared.said.Stop.{Stop}
use Rattle.wf_inputs.specs.declared.said.Stop.TheVariants as stop
use Rattle.wf_inputs.specs.Reading.{Read}

-- a fault is the one that is due, unless memory ran out
abbrev pub Fails : {X : Type 0} → InputFault → Read X → Type 0
Fails fault.NoMemory due = Unit {0}
Fails (fault.Bad line why) due = due ≡ Err (fault.Bad line why)
Fails (fault.TooMany limit most) due = due ≡ Err (fault.TooMany limit most)

-- what is due is given, unless memory ran out
abbrev pub Gives : {X : Type 0} → Result X InputFault → Read X → Type 0
Gives (Ok x) due = due ≡ Ok x
Gives (Err e) due = Fails e due

-- nothing is due, unless memory ran out
abbrev pub Stops : {X : Type 0} → Stop → Option X → Type 0
Stops stop.NoMemory due = Unit {0}
Stops stop.NotOfForm due = due ≡ None

-- the same for words that may say nothing
abbrev pub Says : {X : Type 0} → Result X Stop → Option X → Type 0
Says (Ok x) due = due ≡ Some x
Says (Err e) due = Stops e due
