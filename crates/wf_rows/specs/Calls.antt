-- Rows of calls and returns (after SkipFlow, CGO 2025; candidates by call site are this project's own). Where a method isn't
-- found there is none.
use Rattle.std.specs.Prelude.{ℕ, List, [], ◌∷◌, Option, Some, None, Result, Ok, Err}
use Rattle.wf_base.specs.declared.ids.MethodId.{MethodId}
use Rattle.wf_base.specs.declared.kind.Kind.{Kind}
use Rattle.wf_names.specs.declared.world.LinkError.{LinkError}
use Rattle.wf_system.specs.declared.inequality.Guard.{Guard}
use Rattle.wf_system.specs.declared.inequality.Guard.TheVariants.{NonEmpty, Linked}
use Rattle.wf_system.specs.declared.inequality.ValueOp.TheVariants.{Token, Copy, Picked, Picks}
use Rattle.wf_system.specs.declared.inequality.Inequality.{Inequality}
use Rattle.wf_rows.specs.declared.action.StaticCall.{StaticCall}
use Rattle.wf_rows.specs.declared.action.SelectedCall.{SelectedCall}
use Rattle.wf_rows.specs.declared.node.Node.{Node}
use Rattle.wf_rows.specs.declared.node.Node.TheVariants.{Initialized, Entered, Parameter, Returned}
use Rattle.wf_rows.specs.declared.node.Own.{Own}
use Rattle.wf_rows.specs.Before.{Before, given, links, operand, value, row, row_under}
use Rattle.wf_rows.specs.Each.{each_from}

-- an argument that stands so deep flows into its parameter
abbrev pub argument_rows : Before → Guard (Node Own) → MethodId → ℕ → ℕ → List (Inequality (Node Own))
argument_rows k guard method i depth = row_under guard (Parameter method i) (Copy (operand k depth)) ∷ []

-- invokestatic: the class that declares the method is initialized (JVMS 5.5), and the method entered
abbrev pub static_rows : Before → Result StaticCall LinkError → List (Inequality (Node Own))
static_rows k (Ok c) =
    row k (Initialized c.class) Token
    ∷ row k (Entered c.method) Token
    ∷ row k (given k) (Copy (Returned c.method))
    ∷ each_from (argument_rows k (NonEmpty k.predicate) c.method) 0 c.arguments
static_rows k (Err e) = []

-- candidate j of a call: it gets the receivers that pick it, and the arguments
abbrev pub candidate_rows : Before → SelectedCall → ℕ → MethodId → List (Inequality (Node Own))
candidate_rows k c j method =
    row_under (Linked (links k) j) (Entered method) Token
    ∷ row_under (Linked (links k) j) (Parameter method 0) (Picked (operand k c.receiver) c.site j)
    ∷ row_under (Linked (links k) j) (given k) (Copy (Returned method))
    ∷ each_from (argument_rows k (Linked (links k) j) method) 1 c.arguments

-- any other invoke: the receivers pick candidates
abbrev pub selected_rows : Before → Result SelectedCall LinkError → List (Inequality (Node Own))
selected_rows k (Ok c) = row k (links k) (Picks (operand k c.receiver) c.site) ∷ each_from (candidate_rows k c) 0 c.candidates
selected_rows k (Err e) = []

-- a return: its value, or a token that the method returns
abbrev pub return_rows : Before → Option Kind → List (Inequality (Node Own))
return_rows k (Some kind) = row k (Returned k.method) (Copy (value k kind)) ∷ []
return_rows k None = row k (Returned k.method) Token ∷ []
