use Rattle.std.proofs.Common.{◌≡◌, drop}
use Rattle.wf_names.specs.NameForm.{escaped}
use Rattle.wf_first.specs.Stripping.{strip}
use Rattle.wf_first.proofs.member_text.strip_name.Given as goal

abbrev pub invariant-loop-b : goal.invariant-loop-b
invariant-loop-b l = strip (escaped (drop l.b-index l.name)) l.rest ≡ strip (escaped l.name) l.text
