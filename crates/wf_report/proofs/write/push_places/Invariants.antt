use Rattle.std.proofs.Common.{◌≡◌, ◌++◌, take}
use Rattle.std.specs.List.{flat_map}
use Rattle.wf_lines.specs.Lines.{line}
use Rattle.wf_report.specs.Report.{unresolved_text}
use Rattle.wf_report.proofs.write.push_places.Given as goal

abbrev pub invariant-loop-place : goal.invariant-loop-place
invariant-loop-place l = l.out ≡ l.fn.out ++ flat_map (λ u. line (unresolved_text u)) (take l.place-index l.places)
