-- What the instructions of a method do, where its resolutions fail, and what the handlers of its exception table catch (this
-- project's own, after SkipFlow, CGO 2025).
use Rattle.std.specs.Prelude.{◌≡◌, ℕ, ◌+◌, min, Bool, false, List, [], ◌∷◌, length, take, Option, Some, None, is_some, option_and_then, option_map, slice_get, slice_index_or, if◌then◌else◌}
use Rattle.std.specs.List.{count_by}
use Rattle.wf_data.specs.declared.class_info.Handler.{Handler}
use Rattle.wf_data.specs.declared.instr.Placed.{Placed}
use Rattle.wf_operation.specs.declared.operation.Operation.{Operation}
use Rattle.wf_blocks.specs.declared.body.Body.{Body as Shape}
use Rattle.wf_blocks.specs.declared.body.Catcher.{Catcher}
use Rattle.wf_blocks.specs.declared.body.Step.{Step}
use Rattle.wf_blocks.specs.Bodies.{graph_of, operation_at}
use Rattle.wf_blocks.specs.Graphs.{Reached}
use Rattle.wf_ssa.specs.Environments.{pc_at}
use Rattle.wf_subtype.specs.Subtypes.{IsTargetFound}
use Rattle.wf_actions.specs.Actions.{At, IsAction}
use Rattle.wf_actions.specs.Named.{number_of_target, caught_name}
use Rattle.wf_rows.specs.declared.action.Action.{Action}
use Rattle.wf_rows.specs.declared.joins.HandlerEntry.{HandlerEntry}
use Rattle.wf_rows.specs.Each.{each_from}
use Rattle.wf_rows.specs.Errors.{link_error}
use Rattle.wf_body.specs.Parts.{Parts, acting, candidates_of}
use Rattle.wf_body.specs.Sources.{MethodSource, is_site_at}

-- ---- instructions

-- the number of the call site at a place, where it is one: its sites stand one behind another
abbrev pub site_at : MethodSource → List Placed → ℕ → ℕ
site_at s placed place = s.first_site + count_by is_site_at (take place placed)

abbrev pub instruction : Parts → MethodSource → ℕ → Placed → Operation → At
instruction p s site at o = record { pool = s.pool; instr = at.instr; operation = o; site = site; candidates = candidates_of p.links site }

-- what an instruction does; nothing where an operand is wrong
abbrev pub IsActBy : Parts → MethodSource → ℕ → Placed → Option Operation → Option Action → Type 0
IsActBy p s site at None act = act ≡ None
IsActBy p s site at (Some o) act = IsAction (acting p) (instruction p s site at o) act

-- what the instruction at a place does
pub record IsActAt (p : Parts) (s : MethodSource) (placed : List Placed) (shape : Shape) (place : ℕ) (act : Option Action) : Type 0 where
  pub at : Placed
  pub there : slice_get placed place ≡ Some at
  pub acts : IsActBy p s (site_at s placed place) at (operation_at shape place) act

-- ---- where resolutions fail

abbrev pub act_at : List (Option Action) → ℕ → Option Action
act_at acts place = slice_index_or acts place None

abbrev pub fails : Option Action → Bool
fails (Some act) = is_some (link_error act)
fails None = false

abbrev pub failing_at : List (Option Action) → ℕ → Step → List ℕ
failing_at acts place step = if fails (act_at acts place) then step.pc ∷ [] else []

-- the places in bytes whose resolution fails
abbrev pub failing_of : Shape → List (Option Action) → List ℕ
failing_of shape acts = each_from (failing_at acts) 0 shape.steps

-- ---- handlers

-- how many entries of the exception table count: each has a number of two bytes (JVMS 4.7.3)
abbrev pub entries_of : Shape → ℕ
entries_of shape = min 65535 (length shape.catchers)

-- the place of the handler of an entry
abbrev pub handler_place : Shape → ℕ → Option ℕ
handler_place shape entry = option_and_then (λ (c : Catcher). c.target) (slice_get shape.catchers entry)

-- the name of what an entry catches
abbrev pub caught_at : MethodSource → ℕ → Option (List ℕ)
caught_at s entry = option_and_then (λ (h : Handler). caught_name s.pool h.catch_class) (slice_get s.code.table entry)

-- an entry whose handler a path reaches
pub record IsHandler (p : Parts) (s : MethodSource) (shape : Shape) (entry : ℕ) (h : HandlerEntry) : Type 0 where
  pub place : ℕ
  pub leads : handler_place shape entry ≡ Some place
  pub reached : Reached (graph_of shape) place
  pub number : h.entry ≡ entry
  pub target : h.target ≡ pc_at shape place
  pub locals : h.locals ≡ s.code.max_locals
  pub name : List ℕ
  pub named : caught_at s entry ≡ Some name
  pub catches : IsTargetFound p.types name (option_map number_of_target h.catches)

-- an entry, where a path reaches its handler
pub data IsHandlerAt (p : Parts) (s : MethodSource) (shape : Shape) (entry : ℕ) : Option HandlerEntry → Type 0 where
  reached : (h : HandlerEntry) → IsHandler p s shape entry h → IsHandlerAt p s shape entry (Some h)
  unreached : ((place : ℕ) → handler_place shape entry ≡ Some place → Reached (graph_of shape) place → ⊥) → IsHandlerAt p s shape entry None
  unnamed : caught_at s entry ≡ None → IsHandlerAt p s shape entry None
