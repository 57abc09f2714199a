use Rattle.std.proofs.Common.{◌≡◌, ◌-◌, []}
use Rattle.wf_report.specs.Reading.{entries, field_said}
use Rattle.wf_report.proofs.read.field_entries.Given as goal

abbrev pub invariant-loop : goal.invariant-loop
invariant-loop l = entries field_said (l.count - l.counter) l.found.items l.lines ≡ entries field_said l.count [] l.fn.lines
