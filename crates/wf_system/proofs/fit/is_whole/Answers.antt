use Rattle.std.proofs.Common.{◌≡◌, true}
use Rattle.wf_system.proofs.fit.is_whole.Goals as goal

pub returns-then-not-guard_is_there : goal.returns-then-not-guard_is_there
returns-then-not-guard_is_there c = λ most. (λ h. absurd cc, λ f. let there : c.guard_is_there.result ≡ true = (c.guard_is_there.ensures most).1 f.0 in absurd cc)

pub returns-then-not-value_is_there : goal.returns-then-not-value_is_there
returns-then-not-value_is_there c = λ most. (λ h. absurd cc, λ f. let there : c.value_is_there.result ≡ true = (c.value_is_there.ensures most).1 f.1.0 in absurd cc)

pub returns : goal.returns
returns c = λ most.
    (λ h. ((c.guard_is_there.ensures most).0 c.if-not-guard_is_there.false, ((c.value_is_there.ensures most).0 c.if-not-value_is_there.false, cc)), λ f. let there = f.1.1 in cc)
