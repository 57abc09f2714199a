-- A body by what has been read of its method (this project's own).
use Rattle.std.specs.Prelude.{◌≡◌, ℕ, List, Option, Some, None}
use Rattle.wf_base.specs.declared.ids.MethodId.{MethodId}
use Rattle.wf_blocks.specs.declared.body.Body.{Body as Shape}
use Rattle.wf_blocks.specs.Answers.{AreReached}
use Rattle.wf_rows.specs.declared.action.Action.{Action}
use Rattle.wf_rows.specs.declared.joins.HandlerEntry.{HandlerEntry}
use Rattle.wf_rows.specs.Table.{IsShort}
use Rattle.wf_body.specs.Methods.{act_at}
use Rattle.wf_graph.specs.Bodies.{Body, failing_in, AreKinds, AreBefore}

-- A body has this shape and this method, resolutions fail in it at these places, and what it says of reached places is so.
pub record IsFlow (code : Shape) (fails : List ℕ) (m : MethodId) (b : Body) : Type 0 where
  pub shape : b.shape ≡ code
  pub failing : failing_in b ≡ fails
  pub method : b.method ≡ m
  pub reached : AreReached b.shape b.marks
  pub kinds : AreKinds b.shape b.marks b.kinds
  pub before : AreBefore b.shape (failing_in b) b.marks b.before

-- the same, where its instructions do this and its handlers catch this
pub record IsBodyBy (code : Shape) (fails : List ℕ) (m : MethodId) (does : List (Option Action)) (entries : List (Option HandlerEntry)) (b : Body) : Type 0 where
  pub flow : IsFlow code fails m b
  pub acts : b.acts ≡ does
  pub handlers : b.handlers ≡ entries

-- a call, where there is one, has fewer than 2 ^ 32 candidates
abbrev pub IsShortIf : Option Action → Type 0
IsShortIf (Some act) = IsShort act
IsShortIf None = Unit {0}

abbrev pub AreShort : List (Option Action) → Type 0
AreShort acts = (place : ℕ) → IsShortIf (act_at acts place)
