use Rattle.std.proofs.Common.{ℕ, length, get_or, List, Bool, sym, ap, subst, ◌∙◌}
use Rattle.std.specs.Prelude.{min, ◌<◌}
use Rattle.wf_blocks.specs.declared.body.Body.{Body}
use Rattle.wf_blocks.specs.Answers.{most, edges_in, AreReached}
use Rattle.wf_blocks.proofs.AnswerLemmas.{marks_are}
use Rattle.wf_blocks.proofs.blocks.Blocks.ways.Goals as goal

pub returns : goal.returns
returns c =
    λ marks are. let b = c.self.inside.body in
    let same = marks_are b c.self.inside.rows.items c.self.inside.counts marks c.self.invariant.settled c.self.invariant.counted (subst (λ (x : Body). AreReached x marks) (sym c.self.view_is) are) in
    let lt : c.args.place < length b.steps = subst (λ (x : Body). c.args.place < length x.steps) (sym c.self.view_is) c.requires in
    ap (λ (v : List ℕ). get_or v c.args.place 0) c.as_slice.ensures ∙ c.self.invariant.led.each c.args.place lt
    ∙ ap (λ (ms : List Bool). min most (edges_in b ms c.args.place)) (sym same) ∙ ap (λ (x : Body). min most (edges_in x marks c.args.place)) c.self.view_is
