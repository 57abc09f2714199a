use Rattle.wf_sys.proofs.ValueLaws.{below_tested, tested_below, not_empty, flows}
use Rattle.wf_sys.proofs.laws.tests_decide.Goals as goal

pub returns : goal.returns
returns c = record { below = λ a b. (below_tested a b, tested_below a b); empty = λ a. (not_empty a, flows a) }
