use Rattle.std.proofs.Common.{sym, ◌∙◌}
use Rattle.wf_actions.specs.Actions.{at_of}
use Rattle.wf_actions.specs.Actions.IsConstant.{int}
use Rattle.wf_actions.proofs.Choosing.{constant_is}
use Rattle.wf_actions.proofs.literals.constant.Goals as goal

pub returns-in-Some : goal.returns-in-Some
returns-in-Some c = int c.in-Some.action (sym c.int_action.ensures ∙ c.in-Some.is)

pub returns-in-None : goal.returns-in-None
returns-in-None c = constant_is (record { types = c.args.types.now; literals = c.args.literals.now }) (at_of c.args.at.now) c.literal_at.result (sym c.int_action.ensures ∙ c.in-None.is) c.literal_at.ensures
