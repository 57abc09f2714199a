use Rattle.wf_descriptor.proofs.DescriptorLaws.{field_tests, method_tests}
use Rattle.wf_descriptor.proofs.laws.tests_are_the_grammar.Goals as goal

pub returns-clause-field : goal.returns-clause-field
returns-clause-field c = field_tests

pub returns-clause-method : goal.returns-clause-method
returns-clause-method c = method_tests
