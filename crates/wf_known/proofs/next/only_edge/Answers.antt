use Rattle.std.proofs.Common.{◌<◌, length, sym, ap, subst, ◌∙◌}
use Rattle.wf_blocks.specs.declared.body.Body.{Body}
use Rattle.wf_blocks.specs.Answers.{AreReached}
use Rattle.wf_blocks.specs.Bodies.{targets_at}
use Rattle.wf_ssa.specs.Environments.{meets}
use Rattle.wf_known.proofs.Edges.{edge_is}
use Rattle.wf_known.proofs.next.only_edge.Goals as goal

pub returns : goal.returns
returns c =
    let b = c.args.blocks.now in
    let to = c.args.to in
    edge_is b c.args.place to c.targets_at.result.now c.edge_to.result (c.targets_at.ensures ∙ ap (λ (x : Body). targets_at x c.args.place) c.body.ensures) c.edge_to.ensures
    (λ marks are. ap (λ (x : Body). meets x marks to) (sym c.requires.same)
    ∙ sym (c.meets.ensures marks (subst (λ (x : Body). AreReached x marks) (sym c.requires.same) are) (subst (λ (x : Body). to < length x.steps) (sym c.requires.same) c.requires.inside)) ∙ c.if-meets.false)
