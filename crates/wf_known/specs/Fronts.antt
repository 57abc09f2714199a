-- What is known in front of the places of a method, by nodes (this project's own).
use Rattle.std.specs.Prelude.{◌≡◌, ℕ, ◌↔◌, Bool, true, false, List, Option, Some, is_some, slice_get}
use Rattle.wf_base.specs.declared.ids.MethodId.{MethodId}
use Rattle.wf_blocks.specs.declared.body.Body.{Body}
use Rattle.wf_blocks.specs.Answers.{AreReached}
use Rattle.wf_blocks.specs.Bodies.{graph_of, targets_at}
use Rattle.wf_blocks.specs.Graphs.{Reached}
use Rattle.wf_ssa.specs.declared.before.Before.{Before}
use Rattle.wf_ssa.specs.Environments.{along_edge, meets, IsKnown}
use Rattle.wf_rows.specs.Before.{Before as Known}
use Rattle.wf_known.specs.declared.front.Front.{Front}
use Rattle.wf_known.specs.Flows.{known_at}

-- a front as what is known in front of a place in bytes
abbrev pub known_of : MethodId → ℕ → Front → Known
known_of m pc f = record { method = m; pc = pc; predicate = f.predicate; slots = f.slots }

-- a front says the same as an environment, by nodes
pub record Says (m : MethodId) (k : Before) (f : Front) : Type 0 where
  pub at : (pc : ℕ) → known_of m pc f ≡ known_at m pc k

-- a front is what is known in front of a place
pub record IsFront (b : Body) (failing : List ℕ) (m : MethodId) (place : ℕ) (f : Front) : Type 0 where
  pub each : (k : Before) → IsKnown b failing place k → Says m k f

-- A front is what is known along an edge of the instruction at a place that a path reaches, where `front` is what is known
-- in front of it.
pub record IsAlong (b : Body) (failing : List ℕ) (m : MethodId) (place edge : ℕ) (front f : Front) : Type 0 where
  pub each : (k : Before) → IsKnown b failing place k → Says m k front → Says m (along_edge b failing place edge k) f

-- what is known in front of a place where a path reaches it, and nothing where none does
pub record IsReached (b : Body) (failing : List ℕ) (m : MethodId) (place : ℕ) (o : Option Front) : Type 0 where
  pub there : Reached (graph_of b) place ↔ (is_some o ≡ true)
  pub is : (f : Front) → o ≡ Some f → IsFront b failing m place f

-- an edge of the instruction at a place leads to another place, and no other way does
pub record IsOnlyEdge (b : Body) (place to edge : ℕ) : Type 0 where
  pub leads : slice_get (targets_at b place) edge ≡ Some to
  pub alone : (marks : List Bool) → AreReached b marks → meets b marks to ≡ false
