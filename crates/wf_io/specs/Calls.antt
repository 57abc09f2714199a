-- The calls that a tree keeps of itself.
use Rattle.std.specs.Prelude.{List}
use Rattle.wf_io.specs.declared.calls.Calls.{Calls}
use Rattle.wf_io.specs.Log.{Event, events_of}

-- the calls that were made, each with its answer, the latest last
abbrev pub log_of : Calls → List Event
log_of calls = events_of calls.log.items
