use Rattle.std.proofs.Common.{inr}
use Rattle.wf_lattice.proofs.OrderLaws.{receives_either}
use Rattle.wf_lattice.proofs.RowLaws.{either_left, either_right}
use Rattle.wf_lattice.proofs.laws.join_is_least.Goals as goal

pub returns : goal.returns
returns c = record { left = λ most n kind f g. inr (either_left f g); right = λ most n kind f g. inr (either_right f g); least = receives_either }
