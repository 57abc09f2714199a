use Rattle.wf_resolve.proofs.OneAnswer.{field_means_one, method_means_one, interface_method_means_one}
use Rattle.wf_resolve.proofs.laws.names_mean_one.Goals as goal

pub returns-clause-field : goal.returns-clause-field
returns-clause-field c = field_means_one

pub returns-clause-method : goal.returns-clause-method
returns-clause-method c = method_means_one

pub returns-clause-interface_method : goal.returns-clause-interface_method
returns-clause-interface_method c = interface_method_means_one
