use Rattle.std.proofs.Common.{◌≡◌, ℕ, ◌<◌, Bool, false, List, length, get_or, ap, subst, ◌∙◌}
use Rattle.wf_blocks.specs.declared.body.Body.{Body}
use Rattle.wf_blocks.specs.Answers.{AreReached}
use Rattle.wf_ssa.specs.Environments.{meets}
use Rattle.wf_ssa.proofs.env.Env.meets.Goals as goal

pub returns : goal.returns
returns c =
    let place = c.args.place in
    let own : (marks : List Bool) → AreReached c.self.inside.blocks.now marks → place < length c.self.inside.blocks.now.steps → c.is_marked.result ≡ meets c.self.inside.blocks.now marks place =
    λ marks are lt. c.is_marked.ensures ∙ ap (λ (ms : List Bool). get_or ms place false) c.as_slice.ensures ∙ c.self.invariant.met_are.each marks place are lt in
    subst (λ (e : Body × List ℕ). (marks : List Bool) → AreReached e.0 marks → place < length e.0.steps → c.is_marked.result ≡ meets e.0 marks place) c.self.view_is own
