use Rattle.std.proofs.Common.{◌≡◌, ◌+◌, ◌≤◌, length, []}
use Rattle.wf_lines.specs.Lines.{lines_of}
use Rattle.wf_inputs.specs.Reading.{read_on, roots_on}
use Rattle.wf_inputs.proofs.read.roots_lines.Given as goal

abbrev pub invariant-loop-text : goal.invariant-loop-text
invariant-loop-text l = (read_on roots_on (l.read + 1) l.lines (lines_of l.rest) ≡ read_on roots_on 1 [] (lines_of l.bytes)) × (l.read + length l.rest ≤ length l.bytes)

abbrev pub decreases-loop-text : goal.decreases-loop-text
decreases-loop-text l = length l.rest
