use Rattle.std.proofs.Common.{◌≡◌, ℕ, ◌+◌, true, ◌||◌, get_or, take, List, sym, ap, ◌∙◌}
use Rattle.wf_blocks.specs.Bodies.{targets_in, leads_apart, any_leads_apart}
use Rattle.wf_blocks.proofs.MarkLemmas.{apart_more, marked_more}
use Rattle.wf_blocks.proofs.marks.mark_steps.Goals as goal

pub loop-place-preserved : goal.loop-place-preserved
loop-place-preserved c =
    λ p. let steps = c.args.steps.now in
    let i = c.loop-place.place in
    let d = c.index-steps-place.result in
    let targets : targets_in (get_or steps i d) ≡ c.targets_in.result.now = ap targets_in (sym c.index-steps-place.is) ∙ sym c.targets_in.ensures in
    marked_more (get_or c.args.marks.now p true) (get_or c.loop-place.marks p true) (get_or c.mark_apart.new.marks p true) (any_leads_apart 0 (take i steps) p) (leads_apart i c.targets_in.result.now p) (any_leads_apart 0 (take (i + 1) steps) p)
    (c.mark_apart.ensures p) (c.loop-place.invariant p) (apart_more steps i d p c.loop-place-test.true ∙ ap (λ (ts : List ℕ). any_leads_apart 0 (take i steps) p || leads_apart i ts p) targets)
