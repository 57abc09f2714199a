use Rattle.std.proofs.Common.{sym, ◌∙◌}
use Rattle.wf_actions.specs.Actions.{at_of}
use Rattle.wf_actions.specs.Actions.IsAction.{plain}
use Rattle.wf_actions.proofs.Choosing.{action_is}
use Rattle.wf_actions.proofs.action.action_of.Goals as goal

pub returns-in-Some : goal.returns-in-Some
returns-in-Some c = plain c.in-Some.action (sym c.plain_at.ensures ∙ c.in-Some.is)

pub returns-in-None : goal.returns-in-None
returns-in-None c = action_is (record { types = c.args.types.now; literals = c.args.literals.now }) (at_of c.args.at.now) c.named_action.result (sym c.plain_at.ensures ∙ c.in-None.is) c.named_action.ensures
