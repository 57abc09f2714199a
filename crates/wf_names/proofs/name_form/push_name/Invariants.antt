use Rattle.std.proofs.Common.{◌≡◌, ◌++◌, take}
use Rattle.wf_names.specs.NameForm.{escaped}
use Rattle.wf_names.proofs.name_form.push_name.Given as goal

abbrev pub invariant-loop-b : goal.invariant-loop-b
invariant-loop-b l = l.out.items ≡ l.fn.out.items ++ escaped (take l.b-index l.name)
