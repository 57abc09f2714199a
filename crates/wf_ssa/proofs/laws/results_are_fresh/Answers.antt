use Rattle.wf_ssa.proofs.FreshLemmas.{fresh_name, fresh_predicate}
use Rattle.wf_ssa.proofs.laws.results_are_fresh.Goals as goal

pub returns-clause-names : goal.returns-clause-names
returns-clause-names c = λ b failing place slot k apart known. fresh_name b failing place slot k apart known

pub returns-clause-predicate : goal.returns-clause-predicate
returns-clause-predicate c = λ b failing place k apart known. fresh_predicate b failing place k apart known
