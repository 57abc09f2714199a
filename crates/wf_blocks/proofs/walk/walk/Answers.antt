use Rattle.std.proofs.Common.{List, sym, subst}
use Rattle.wf_blocks.specs.declared.seen.Seen.{Seen}
use Rattle.wf_blocks.specs.declared.walk.Stepped.{Stepped}
use Rattle.wf_blocks.specs.Advancing.{StepAdvances, StepsOn}
use Rattle.wf_blocks.specs.Bodies.{inner_of, graph_of}
use Rattle.wf_blocks.specs.Walking.{Walking, StepMeans}
use Rattle.wf_blocks.proofs.WalkLemmas.{advances_both}
use Rattle.wf_blocks.proofs.walk.walk.Goals as goal

pub returns-in-Bad-clause-bad : goal.returns-in-Bad-clause-bad
returns-in-Bad-clause-bad c =
    λ first first_row e w. let b = c.args.body.now in
    subst (λ (s : Stepped). StepMeans (graph_of b) (inner_of b) c.step.new.rows c.step.new.queue.items first first_row c.loop-held.at s) c.in-Bad.is
    (c.in_ok-step.ensures.means first first_row
    (subst (λ (r : List Seen). Walking (graph_of b) (inner_of b) c.loop-held.rows c.loop-held.queue.items first first_row c.loop-held.at r) (sym c.as_slice.ensures)
    (c.loop-held.invariant.walking first first_row w)))

pub returns-in-Done-clause-works : goal.returns-in-Done-clause-works
returns-in-Done-clause-works c =
    λ first first_row e w. let b = c.args.body.now in
    subst (λ (s : Stepped). StepMeans (graph_of b) (inner_of b) c.step.new.rows c.step.new.queue.items first first_row c.loop-held.at s) c.in-Done.is
    (c.in_ok-step.ensures.means first first_row
    (subst (λ (r : List Seen). Walking (graph_of b) (inner_of b) c.loop-held.rows c.loop-held.queue.items first first_row c.loop-held.at r) (sym c.as_slice.ensures)
    (c.loop-held.invariant.walking first first_row w)))

pub loop-held-preserved : goal.loop-held-preserved
loop-held-preserved c =
    let b = c.args.body.now in
    let on : StepsOn b c.loop-held.rows c.step.new.rows c.loop-held.queue.items c.step.new.queue.items c.loop-held.at c.in-On.after =
    subst (λ (s : Stepped). StepAdvances b c.loop-held.rows c.step.new.rows c.loop-held.queue.items c.step.new.queue.items c.loop-held.at s) c.in-On.is c.in_ok-step.ensures.advances in
    record {
      walking = λ first first_row w.
          subst (λ (s : Stepped). StepMeans (graph_of b) (inner_of b) c.step.new.rows c.step.new.queue.items first first_row c.loop-held.at s) c.in-On.is
          (c.in_ok-step.ensures.means first first_row
          (subst (λ (r : List Seen). Walking (graph_of b) (inner_of b) c.loop-held.rows c.loop-held.queue.items first first_row c.loop-held.at r) (sym c.as_slice.ensures)
          (c.loop-held.invariant.walking first first_row w)));
      advances = advances_both b c.args.rows.now c.loop-held.rows c.step.new.rows c.args.queue.now.items c.loop-held.queue.items c.step.new.queue.items c.loop-held.invariant.advances on.advances;
      low = on.low;
      inside = on.inside;
    }
