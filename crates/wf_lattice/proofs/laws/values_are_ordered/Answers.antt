use Rattle.wf_lattice.proofs.OrderLaws.{receives_itself, receives_through, full_within, there_rises}
use Rattle.wf_lattice.proofs.laws.values_are_ordered.Goals as goal

pub returns : goal.returns
returns c = record { reflexive = receives_itself; transitive = receives_through; full = full_within; there = there_rises }
