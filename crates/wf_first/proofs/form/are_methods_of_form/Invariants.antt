use Rattle.std.proofs.Common.{◌≡◌, drop}
use Rattle.std.specs.List.{list_all}
use Rattle.wf_first.specs.FirstForm.{is_method_of_form}
use Rattle.wf_first.proofs.form.are_methods_of_form.Given as goal

abbrev pub invariant-loop-method : goal.invariant-loop-method
invariant-loop-method l = list_all (is_method_of_form l.pool) (drop l.method-index l.methods) ≡ list_all (is_method_of_form l.pool) l.methods
