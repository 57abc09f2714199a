use Rattle.wf_select.proofs.OneSelection.{one_selected, one_special}
use Rattle.wf_select.proofs.laws.calls_run_one.Goals as goal

pub returns-clause-selected : goal.returns-clause-selected
returns-clause-selected c = one_selected

pub returns-clause-special : goal.returns-clause-special
returns-clause-special c = one_special
