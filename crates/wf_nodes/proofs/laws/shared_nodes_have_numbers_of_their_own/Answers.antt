use Rattle.wf_nodes.proofs.Bands.{shared_below, one_shared}
use Rattle.wf_nodes.proofs.There.{shared_there, shared_whole}
use Rattle.wf_nodes.proofs.laws.shared_nodes_have_numbers_of_their_own.Goals as goal

pub returns-clause-below : goal.returns-clause-below
returns-clause-below c = shared_below

pub returns-clause-apart : goal.returns-clause-apart
returns-clause-apart c = one_shared

pub returns-clause-there : goal.returns-clause-there
returns-clause-there c = shared_there

pub returns-clause-whole : goal.returns-clause-whole
returns-clause-whole c = shared_whole
