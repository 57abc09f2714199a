use Rattle.std.proofs.Common.{◌≡◌, ◌-◌, []}
use Rattle.wf_report.specs.Reading.{entries, type_said}
use Rattle.wf_report.proofs.read.type_entries.Given as goal

abbrev pub invariant-loop : goal.invariant-loop
invariant-loop l = entries type_said (l.count - l.counter) l.found.items l.lines ≡ entries type_said l.count [] l.fn.lines
