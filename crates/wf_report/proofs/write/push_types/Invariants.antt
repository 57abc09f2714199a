use Rattle.std.proofs.Common.{◌≡◌, ◌++◌, take}
use Rattle.std.specs.List.{flat_map}
use Rattle.wf_names.specs.NameForm.{escaped}
use Rattle.wf_lines.specs.Lines.{line}
use Rattle.wf_report.proofs.write.push_types.Given as goal

abbrev pub invariant-loop-name : goal.invariant-loop-name
invariant-loop-name l = l.out ≡ l.fn.out ++ flat_map (λ t. line (escaped t)) (take l.name-index l.types)
