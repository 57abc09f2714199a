-- A method that has been read (this project's own).
use Rattle.std.specs.Prelude.{◌≡◌, List, Option, Some, length}
use Rattle.wf_data.specs.declared.instr.Placed.{Placed}
use Rattle.wf_blocks.specs.declared.body.Body.{Body as Shape}
use Rattle.wf_blocks.specs.Methods.{body_of, HasShape}
use Rattle.wf_refusals.specs.Refusals.{IsReadable}
use Rattle.wf_rows.specs.declared.action.Action.{Action}
use Rattle.wf_rows.specs.declared.joins.HandlerEntry.{HandlerEntry}
use Rattle.wf_body.specs.Each.{AreEach}
use Rattle.wf_body.specs.Parts.{Parts}
use Rattle.wf_body.specs.Sources.{MethodSource}
use Rattle.wf_body.specs.Methods.{IsActAt, IsHandlerAt, entries_of}

-- A method's instructions are these, none of which is refused; they fit together to this shape; and this is what they do,
-- place by place, and what its handlers catch, entry by entry.
pub record IsRead (p : Parts) (s : MethodSource) (placed : List Placed) (shape : Shape) (does : List (Option Action)) (entries : List (Option HandlerEntry)) : Type 0 where
  pub readable : IsReadable s.pool s.code.code placed
  pub shaped : body_of s.desc s.is_static s.pool s.code placed ≡ Some shape
  pub fits : HasShape (Some shape) → ⊥
  pub acts : AreEach (IsActAt p s placed shape) (length placed) does
  pub handlers : AreEach (IsHandlerAt p s shape) (entries_of shape) entries
