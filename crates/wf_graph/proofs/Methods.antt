-- The body of a method that has been read is the method's.
use Rattle.std.proofs.Common.{◌≡◌, ℕ, List, Option, Result, Ok, Err, sym, subst, ◌∙◌}
use Rattle.std.specs.Prelude.{IfOk}
use Rattle.wf_base.specs.declared.ids.MethodId.{MethodId}
use Rattle.wf_data.specs.declared.instr.Placed.{Placed}
use Rattle.wf_blocks.specs.declared.body.Body.{Body as Shape}
use Rattle.wf_rows.specs.declared.action.Action.{Action}
use Rattle.wf_rows.specs.declared.joins.HandlerEntry.{HandlerEntry}
use Rattle.wf_body.specs.Parts.{Parts}
use Rattle.wf_body.specs.Reading.{IsRead}
use Rattle.wf_body.specs.Sources.{MethodSource}
use Rattle.wf_graph.specs.Bodies.{Body, HasBody}
use Rattle.wf_graph.specs.Flow.{IsBodyBy}

pub has_body : (p : Parts) (s : MethodSource) (placed : List Placed) (shape : Shape) (failing : List ℕ) (m : MethodId) (does : List (Option Action)) (entries : List (Option HandlerEntry)) (b : Body)
    → IsRead p s placed shape does entries → m ≡ s.id → IsBodyBy shape failing m does entries b → HasBody p s b
has_body p s placed shape failing m does entries b read id by = record {
  placed = placed;
  read = subst (λ (x : Shape). IsRead p s placed x b.acts b.handlers) (sym by.flow.shape)
      (subst (λ (x : List (Option Action)). IsRead p s placed shape x b.handlers) (sym by.acts) (subst (λ (x : List (Option HandlerEntry)). IsRead p s placed shape does x) (sym by.handlers) read));
  method = by.flow.method ∙ id;
  reached = by.flow.reached;
  kinds = by.flow.kinds;
  before = by.flow.before;
}

pub if_ok : {A E : Type 0} (r : Result A E) (P Q : A → Type 0) → ((x : A) → P x → Q x) → IfOk r P → IfOk r Q
if_ok (Ok x) P Q each h = each x h
if_ok (Err e) P Q each h = tt
