use Rattle.wf_lattice.proofs.IntLaws.{refined_word_grows, not_among_word_grows, refined_settled, not_among_settled}
use Rattle.wf_lattice.proofs.laws.int_filters_grow.Goals as goal

pub returns : goal.returns
returns c = record { refined = refined_word_grows; not_among = not_among_word_grows; settled = refined_settled; among_settled = not_among_settled }
