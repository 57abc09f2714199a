use Rattle.std.proofs.Common.{length, ap, ◌∙◌}
use Rattle.std.proofs.lemmas.List.{length-map}
use Rattle.wf_blocks.specs.declared.body.Body.{Body}
use Rattle.wf_blocks.specs.Answers.{step_pc}
use Rattle.wf_blocks.proofs.AnswerLemmas.{number_inside}
use Rattle.wf_blocks.proofs.blocks.Blocks.place_of.Goals as goal

pub returns-clause-low : goal.returns-clause-low
returns-clause-low c =
    number_inside c.self.inside.places c.args.pc (length c.args.self.now.steps) c.number_of.result c.number_of.ensures
    (ap length c.self.invariant.places ∙ length-map c.self.inside.body.steps step_pc ∙ ap (λ (x : Body). length x.steps) c.self.view_is)
