use Rattle.std.proofs.Common.{true, ◌||◌, get_or, List, Bool, ap, ◌∙◌}
use Rattle.std.specs.List.{list_any}
use Rattle.wf_blocks.specs.declared.body.Catcher.{Catcher}
use Rattle.wf_blocks.specs.declared.body.Step.{Step}
use Rattle.wf_blocks.specs.Bodies.{is_handler, any_leads_apart}
use Rattle.wf_blocks.proofs.MarkLemmas.{starts_are}
use Rattle.wf_blocks.proofs.marks.mark_body.Goals as goal

pub returns : goal.returns
returns c =
    λ p lt. let b = c.args.body.now in
    starts_are b p (get_or c.args.marks.now p true) (get_or c.mark.new.marks p true) (get_or c.mark_handlers.new.marks p true) (get_or c.mark_steps.new.marks p true) lt
    (ap (λ (ms : List Bool). get_or ms p true) c.requires.none) (c.mark.ensures p)
    (c.mark_handlers.ensures p ∙ ap (λ (cs : List Catcher). get_or c.mark.new.marks p true || list_any (is_handler p) cs) c.as_slice.ensures)
    (c.mark_steps.ensures p ∙ ap (λ (ss : List Step). get_or c.mark_handlers.new.marks p true || any_leads_apart 0 ss p) c.as_slice-2.ensures)
