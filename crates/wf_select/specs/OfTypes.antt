-- The method that runs for an object of a type (JVMS 6.5, invokevirtual, invokeinterface).
use Rattle.std.specs.Prelude.{ℕ}
use Rattle.wf_subtype.specs.Subtypes.{AllTypes, IsClassOfType}
use Rattle.wf_select.specs.Selection.{Selects}
use Rattle.wf_select.specs.declared.outcome.Invoke.{Invoke}
use Rattle.wf_select.specs.declared.outcome.Selected.{Selected}

-- what runs where method m is called for an object of type t: what runs for one of its class
pub record SelectsOfType (types : AllTypes) (t m : ℕ) (by : Invoke) (result : Selected) : Type 0 where
  pub class : ℕ
  pub is : IsClassOfType types t class
  pub selects : Selects types.classes class m by result
