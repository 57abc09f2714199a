use Rattle.std.proofs.Common.{Option, sym, ap, ◌∙◌}
use Rattle.std.specs.Prelude.{unwrap_or}
use Rattle.wf_ssa.specs.declared.name.FlowName.{FlowName}
use Rattle.wf_ssa.proofs.fill.predicate_after.Goals as goal

pub returns-in-Some : goal.returns-in-Some
returns-in-Some c =
    λ failing k fails sound kept there. sym (ap (λ (r : Option FlowName). unwrap_or r k.predicate) c.in-Some.is) ∙ c.linked_at.ensures failing k.predicate fails

pub returns-in-None : goal.returns-in-None
returns-in-None c =
    λ failing k fails sound kept there. c.predicate_in.ensures failing k fails sound kept there
    ∙ sym (ap (λ (r : Option FlowName). unwrap_or r k.predicate) c.in-None.is) ∙ c.linked_at.ensures failing k.predicate fails
