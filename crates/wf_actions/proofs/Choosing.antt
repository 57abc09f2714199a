-- What an instruction does, by the case that it is of.
use Rattle.std.proofs.Common.{◌≡◌, Option, None, Result, Ok, Err}
use Rattle.std.specs.Prelude.{IfOk}
use Rattle.wf_rows.specs.declared.action.Action.{Action}
use Rattle.wf_rows.specs.Actions.{plain_action}
use Rattle.wf_actions.specs.Actions.{Program, At, int_action, IsLiteral, IsConstant, IsNamedAction, IsAction}
use Rattle.wf_actions.specs.Actions.IsConstant.{literal}
use Rattle.wf_actions.specs.Actions.IsAction.{named}

pub constant_is : (p : Program) (x : At) {E : Type 0} (r : Result (Option Action) E) → int_action x ≡ None → IfOk r (IsLiteral p x) → IfOk r (IsConstant p x)
constant_is p x (Ok a) e h = literal a e h
constant_is p x (Err e) n h = h

pub action_is : (p : Program) (x : At) {E : Type 0} (r : Result (Option Action) E) → plain_action x.operation.sort x.instr.a ≡ None → IfOk r (IsNamedAction p x x.operation.sort) → IfOk r (IsAction p x)
action_is p x (Ok a) e h = named a e h
action_is p x (Err e) n h = h
