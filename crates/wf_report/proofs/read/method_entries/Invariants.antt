use Rattle.std.proofs.Common.{◌≡◌, ◌-◌, []}
use Rattle.wf_report.specs.Reading.{entries, method_said}
use Rattle.wf_report.proofs.read.method_entries.Given as goal

abbrev pub invariant-loop : goal.invariant-loop
invariant-loop l = entries method_said (l.count - l.counter) l.found.items l.lines ≡ entries method_said l.count [] l.fn.lines
