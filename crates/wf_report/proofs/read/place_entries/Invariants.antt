use Rattle.std.proofs.Common.{◌≡◌, ◌-◌, []}
use Rattle.wf_report.specs.Reading.{entries, place_said}
use Rattle.wf_report.proofs.read.place_entries.Given as goal

abbrev pub invariant-loop : goal.invariant-loop
invariant-loop l = entries place_said (l.count - l.counter) l.found.items l.lines ≡ entries place_said l.count [] l.fn.lines
