use Rattle.std.proofs.Common.{None, ap, subst, refl, ◌∙◌}
use Rattle.wf_blocks.specs.declared.body.Body.{Body}
use Rattle.wf_blocks.specs.Bodies.{operation_at}
use Rattle.wf_ssa.specs.declared.before.Before.{Before}
use Rattle.wf_ssa.specs.Environments.{pc_at, before_along, fails_there}
use Rattle.wf_known.specs.Fronts.{Says}
use Rattle.wf_known.proofs.Edges.{along_same, along_is, along_count}
use Rattle.wf_known.proofs.Nodes.{says, said_predicate}
use Rattle.wf_known.proofs.along.front_along.Goals as goal

pub returns-in-Some : goal.returns-in-Some
returns-in-Some c =
    let b = c.args.blocks.now in
    let place = c.args.place in
    let operation = c.in-Some.ensures ∙ ap (λ (x : Body). operation_at x place) c.body-2.ensures in
    along_is b c.args.env.now.1 c.args.method place c.args.edge c.args.to c.unwrap_or-count.result c.args.front.now c.in-Some.operation.now c.pc_at-pc.result c.fails.result c.moved.result
    operation (c.pc_at-pc.ensures ∙ ap (λ (x : Body). pc_at x place) c.body.ensures) c.fails.ensures
    (λ k known. along_count b c.args.env.now.1 place c.args.edge c.args.to c.unwrap_or-count.result k c.in-Some.operation.now c.slots.result operation c.requires.leads c.slots.ensures.every c.slots.ensures.reached c.unwrap_or-count.ensures known)
    c.moved.ensures

pub returns-in-None : goal.returns-in-None
returns-in-None c = record {
  each = λ k known said.
      (let b = c.args.blocks.now in
      let m = c.args.method in
      let failing = c.args.env.now.1 in
      let place = c.args.place in
      let pc = c.pc_at-pc.result in
      let front = c.args.front.now in
      let f = c.without_slots.result in
      subst (λ (x : Before). Says m x f)
      (along_same b failing place c.args.edge k None pc (fails_there failing pc) (c.in-None.ensures ∙ ap (λ (x : Body). operation_at x place) c.body-2.ensures) (c.pc_at-pc.ensures ∙ ap (λ (x : Body). pc_at x place) c.body.ensures) refl)
      (says m (before_along None pc c.args.edge (fails_there failing pc) k) f (c.without_slots.ensures.predicate ∙ said_predicate m k front said) c.without_slots.ensures.slots));
}
