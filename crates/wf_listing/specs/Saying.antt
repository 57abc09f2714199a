-- What the calls give that read a line or look for its bytes, against the functions that say what is due (this project's own).
use Rattle.std.specs.Prelude.{◌≡◌, Option, Some, None, Result, Ok, Err}
use Rattle.wf_listing.specs.declared.stop.Stop.{Stop}
use Rattle.wf_listing.specs.declared.stop.Stop.TheVariants as stop

-- nothing is due, unless memory ran out
abbrev pub Stops : {Y : Type 0} → Stop → Option Y → Type 0
Stops stop.NoMemory due = Unit {0}
Stops stop.NotOfForm due = due ≡ None

-- what is due is given, seen by view
abbrev pub SaysAs : {X Y : Type 0} → (X → Y) → Result X Stop → Option Y → Type 0
SaysAs view (Ok x) due = due ≡ Some (view x)
SaysAs view (Err e) due = Stops e due

abbrev pub Says : {X : Type 0} → Result X Stop → Option X → Type 0
Says result due = SaysAs (λ x. x) result due
