use Rattle.wf_grammar.proofs.PoolLaws.{exact_pool}
use Rattle.wf_grammar.proofs.grammar.pools_are_read_exactly.Goals as goal

pub returns-clause-found : goal.returns-clause-found
returns-clause-found c = exact_pool.found

pub returns-clause-again : goal.returns-clause-again
returns-clause-again c = exact_pool.again
