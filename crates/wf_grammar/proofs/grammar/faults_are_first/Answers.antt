use Rattle.std.proofs.Common.{◌≡◌, Result, Ok, Err}
use Rattle.wf_grammar.proofs.ClassLaws.{spelled_is_read}
use Rattle.wf_grammar.proofs.SteadyLaws.{fault_within, fault_stays}
use Rattle.wf_grammar.proofs.grammar.faults_are_first.Goals as goal

apart : {A E : Type 0} (x : A) (e : E) (r : Result A E) → r ≡ Ok x → r ≡ Err e → ⊥
apart x e r one two = cc

pub returns-clause-none : goal.returns-clause-none
returns-clause-none c = λ bytes fault class first spelled. apart class fault _ (spelled_is_read bytes class spelled) first

pub returns-clause-within : goal.returns-clause-within
returns-clause-within c = fault_within

pub returns-clause-stays : goal.returns-clause-stays
returns-clause-stays c = λ bytes more fault first cut. fault_stays bytes more fault first cut
