use Rattle.wf_subtype.proofs.UnderLaws.{targets_apart, by_reference}
use Rattle.wf_subtype.proofs.laws.targets_have_numbers_of_their_own.Goals as goal

pub returns : goal.returns
returns c = record { apart = targets_apart; subtypes = by_reference }
