use Rattle.std.proofs.Common.{◌≡◌, ◌++◌, take}
use Rattle.std.specs.List.{flat_map}
use Rattle.wf_names.specs.NameForm.{member_text}
use Rattle.wf_lines.specs.Lines.{line}
use Rattle.wf_report.proofs.write.push_members.Given as goal

abbrev pub invariant-loop-member : goal.invariant-loop-member
invariant-loop-member l = l.out ≡ l.fn.out ++ flat_map (λ m. line (member_text m)) (take l.member-index l.members)
