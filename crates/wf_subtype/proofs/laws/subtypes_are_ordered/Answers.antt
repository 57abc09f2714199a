use Rattle.wf_subtype.proofs.UnderLaws.{under_itself, under_through, under_antisymmetric, under_there}
use Rattle.wf_subtype.proofs.laws.subtypes_are_ordered.Goals as goal

pub returns : goal.returns
returns c = record { reflexive = under_itself; transitive = under_through; antisymmetric = under_antisymmetric; inside = under_there }
