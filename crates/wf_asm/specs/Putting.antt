-- What the calls give that put bytes behind others.
use Rattle.std.specs.Prelude.{◌≡◌, Option, Some, Result, Ok, Err}
use Rattle.wf_listing.specs.declared.stop.Stop.{Stop}
use Rattle.wf_listing.specs.Saying.{Stops}

-- what is due is there at the end
abbrev pub Puts : {X Y : Type 0} → Result X Stop → Y → Option Y → Type 0
Puts (Ok x) end due = due ≡ Some end
Puts (Err e) end due = Stops e due
