use Rattle.std.proofs.Common.{◌≡◌, ℕ, true, false, List, Option, Bool, sym, ap, subst, ◌∙◌}
use Rattle.std.specs.Prelude.{is_some}
use Rattle.wf_operation.specs.declared.slot.SlotKind.{SlotKind}
use Rattle.wf_blocks.specs.declared.body.Body.{Body}
use Rattle.wf_blocks.specs.declared.seen.Seen.{Seen}
use Rattle.wf_blocks.specs.Answers.{RowIn, count_at}
use Rattle.wf_blocks.specs.Bodies.{graph_of}
use Rattle.wf_blocks.specs.Graphs.{Reached, KindIs}
use Rattle.wf_blocks.proofs.AnswerLemmas.{kind_there, reached_counted}
use Rattle.wf_blocks.proofs.blocks.Blocks.kind_in.Goals as goal

pub returns-then-is_some : goal.returns-then-is_some
returns-then-is_some c =
    λ reached. let b = c.self.inside.body in
    let rows = c.self.inside.rows.items in
    let there = subst (λ (x : Body). Reached (graph_of x) c.args.place) (sym c.self.view_is) reached in
    subst (λ (x : Body). KindIs (graph_of x) c.args.place c.args.slot c.kind_seen.result) c.self.view_is
    (subst (λ (k : SlotKind). KindIs (graph_of b) c.args.place c.args.slot k) (sym c.kind_seen.ensures)
    (kind_there b rows c.args.place c.args.slot c.seen_in.result c.self.invariant.settled there
    (λ row at. c.seen_in.ensures row (subst (λ (rs : List (Option (List Seen))). RowIn b rs c.args.place row) (sym c.as_slice.ensures.value) at))))

pub returns-else-is_some : goal.returns-else-is_some
returns-else-is_some c =
    λ reached. let b = c.self.inside.body in
    let counts = c.self.inside.counts in
    let there = subst (λ (x : Body). Reached (graph_of x) c.args.place) (sym c.self.view_is) reached in
    let yes = reached_counted b c.self.inside.rows.items counts c.args.place c.self.invariant.settled c.self.invariant.counted there in
    let is : is_some c.count_at.result ≡ is_some (count_at counts c.args.place) =
    ap (λ (o : Option ℕ). is_some o) (c.count_at.ensures ∙ ap (λ (cs : List (Option ℕ)). count_at cs c.args.place) c.as_slice-counts.ensures) in
    absurd (clash (is_some c.count_at.result) (is ∙ yes) (sym c.is_some.ensures ∙ c.if-is_some.false))
  where
    clash : (x : Bool) → x ≡ true → x ≡ false → ⊥
    clash x e f = cc
