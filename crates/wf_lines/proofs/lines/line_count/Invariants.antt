use Rattle.std.proofs.Common.{◌≡◌, ◌+◌, ◌≤◌, length}
use Rattle.wf_lines.specs.Lines.{lines_of}
use Rattle.wf_lines.proofs.lines.line_count.Given as goal

abbrev pub invariant-loop-behind : goal.invariant-loop-behind
invariant-loop-behind l = (l.count + length (lines_of l.rest) ≡ length (lines_of l.text)) × (l.count + length l.rest ≤ length l.text)

abbrev pub decreases-loop-behind : goal.decreases-loop-behind
decreases-loop-behind l = length l.rest
