use Rattle.wf_linking.specs.Symbolic.{symbolic_of}
use Rattle.wf_linking.proofs.OneLink.{links_to_one, one_if_any}
use Rattle.wf_linking.proofs.laws.references_resolve_to_one.Goals as goal

pub returns-clause-reference : goal.returns-clause-reference
returns-clause-reference c = links_to_one

pub returns-clause-instruction : goal.returns-clause-instruction
returns-clause-instruction c = λ classes pool i a b h k. one_if_any classes (symbolic_of pool i) a b h k
