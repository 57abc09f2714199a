use Rattle.std.proofs.Common.{◌≡◌, ℕ, List, Option, sym, ap, subst, ◌∙◌}
use Rattle.std.specs.Prelude.{is_some}
use Rattle.wf_blocks.specs.declared.body.Body.{Body}
use Rattle.wf_blocks.specs.Answers.{HasSlots, count_at}
use Rattle.wf_blocks.specs.Bodies.{graph_of}
use Rattle.wf_blocks.specs.Graphs.{Reached}
use Rattle.wf_blocks.proofs.AnswerLemmas.{has_slots, reached_counted, counted_reached}
use Rattle.wf_blocks.proofs.blocks.Blocks.slots.Goals as goal

pub returns-clause-every : goal.returns-clause-every
returns-clause-every c =
    λ n e. let b = c.self.inside.body in
    let counts = c.self.inside.counts in
    subst (λ (x : Body). HasSlots x c.args.place n) c.self.view_is
    (has_slots b c.self.inside.rows.items counts c.args.place n c.self.invariant.settled c.self.invariant.counted
    (ap (λ (cs : List (Option ℕ)). count_at cs c.args.place) (sym c.as_slice.ensures) ∙ sym c.count_at.ensures ∙ e))

pub returns-clause-reached : goal.returns-clause-reached
returns-clause-reached c =
    let b = c.self.inside.body in
    let counts = c.self.inside.counts in
    let is : is_some c.count_at.result ≡ is_some (count_at counts c.args.place) =
    ap (λ (o : Option ℕ). is_some o) (c.count_at.ensures ∙ ap (λ (cs : List (Option ℕ)). count_at cs c.args.place) c.as_slice.ensures) in (
      λ reached. is ∙ reached_counted b c.self.inside.rows.items counts c.args.place c.self.invariant.settled c.self.invariant.counted (subst (λ (x : Body). Reached (graph_of x) c.args.place) (sym c.self.view_is) reached),
      λ e. subst (λ (x : Body). Reached (graph_of x) c.args.place) c.self.view_is (counted_reached b c.self.inside.rows.items counts c.args.place c.self.invariant.settled c.self.invariant.counted (sym is ∙ e)),
    )
