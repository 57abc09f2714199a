use Rattle.wf_descriptor.proofs.DescriptorValues.{one_field, one_method}
use Rattle.wf_descriptor.proofs.laws.one_descriptor.Goals as goal

pub returns-clause-field : goal.returns-clause-field
returns-clause-field c = one_field

pub returns-clause-method : goal.returns-clause-method
returns-clause-method c = one_method
