use Rattle.wf_runs.proofs.RunLaws.{wants_memory_leaves}
use Rattle.world.proofs.load.add_class.Goals as goal

pub returns-in_err-right : goal.returns-in_err-right
returns-in_err-right c = wants_memory_leaves _ _ _ c.from_residual.ensures.1

pub returns-in_err-is_first_form : goal.returns-in_err-is_first_form
returns-in_err-is_first_form c = wants_memory_leaves _ _ _ c.from_residual-in_err-is_first_form.ensures.1
