use Rattle.std.proofs.Common.{◌≡◌, ◌+◌, ◌≤◌, length}
use Rattle.wf_lines.specs.Lines.{lines_of}
use Rattle.wf_listing.specs.Reading.{lines_on, listing_of, depth}
use Rattle.wf_listing.proofs.Reading.{weight}
use Rattle.wf_listing.proofs.read.read_listing.Given as goal

abbrev pub invariant-loop-line : goal.invariant-loop-line
invariant-loop-line l = record {
  goes_on : lines_on (l.read + 1) l.so_far (lines_of l.rest) ≡ listing_of l.text;
  fits : l.read + length l.rest ≤ length l.text;
  deep : l.read + depth l.so_far.place + weight (lines_of l.rest) ≤ length l.text + 1;
}

abbrev pub decreases-loop-line : goal.decreases-loop-line
decreases-loop-line l = length l.rest
