use Rattle.std.proofs.Common.{◌≡◌, drop}
use Rattle.wf_names.specs.declared.name_form.Escape.TheVariants.{Outside}
use Rattle.wf_names.specs.NameForm.{unescaped_from}
use Rattle.wf_names.proofs.Unescaping.{with_front}
use Rattle.wf_names.proofs.name_form.unescaped.Given as goal

abbrev pub invariant-loop-b : goal.invariant-loop-b
invariant-loop-b l = with_front l.name.items (unescaped_from l.escape (drop l.b-index l.word)) ≡ unescaped_from Outside l.word
