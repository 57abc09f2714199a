use Rattle.wf_sys.proofs.ValueLaws.{below_itself, below_through, below_both_ways}
use Rattle.wf_sys.proofs.laws.values_are_ordered.Goals as goal

pub returns : goal.returns
returns c = record { reflexive = below_itself; transitive = below_through; antisymmetric = below_both_ways }
