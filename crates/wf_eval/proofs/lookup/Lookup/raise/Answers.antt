use Rattle.std.proofs.Common.{arith, sym, ◌∙◌, length, ltb-true}
use Rattle.wf_eval.proofs.WordLaws.{inside_at}
use Rattle.wf_eval.proofs.RaiseLaws.{raised_none, raised_next, raised_all, raised_not}
use Rattle.wf_eval.proofs.lookup.Lookup.raise.Goals as goal

pub returns-then-not-guard_in : goal.returns-then-not-guard_in
returns-then-not-guard_in c = raised_not c.args.self.now.shape.now c.args.self.now.most c.args.self.now.side.now c.args.q c.args.words.now (sym c.guard_in.ensures ∙ c.if-not-guard_in.true)

pub loop-k-init : goal.loop-k-init
loop-k-init c = raised_none c.args.self.now.shape.now c.args.self.now.most c.args.self.now.side.now c.args.q c.plan_in-plan.result c.node-at.result c.args.words.now

pub loop-k-preserved : goal.loop-k-preserved
loop-k-preserved c = raised_next c.args.self.now.shape.now c.args.self.now.most c.args.self.now.side.now c.args.q c.plan_in-plan.result c.node-at.result c.loop-k.k c.word_in-bits.result c.args.words.now c.loop-k.words c.join_at-rose.new.words c.loop-k.changed c.join_at-rose.result
    (record {
      laid = c.args.self.now.laid;
      shaped = c.requires.shaped;
      fits = c.requires.fits;
      at_is = c.node-at.ensures;
      there = ltb-true c.args.q.target.0 (length c.args.self.now.shape.now) c.requires.fits.target_there;
      holds = sym c.guard_in.ensures ∙ c.if-not-guard_in.false;
      low = c.plan_in-plan.ensures.low;
      high = c.plan_in-plan.ensures.high;
    }) c.loop-k-test.true
    (omega (
      arith,
      c.requires.all,
      inside_at c.args.self.now.shape.now c.args.q.target.0 c.node-at.result c.args.self.now.laid c.node-at.ensures (ltb-true c.args.q.target.0 (length c.args.self.now.shape.now) c.requires.fits.target_there),
    ))
    c.loop-k.invariant c.word_in-bits.ensures c.join_at-rose.ensures

pub returns : goal.returns
returns c = raised_all c.args.self.now.shape.now c.args.self.now.most c.args.self.now.side.now c.args.q c.plan_in-plan.result c.node-at.result c.loop-k.k c.args.words.now c.loop-k.words c.loop-k.changed
    (record {
      laid = c.args.self.now.laid;
      shaped = c.requires.shaped;
      fits = c.requires.fits;
      at_is = c.node-at.ensures;
      there = ltb-true c.args.q.target.0 (length c.args.self.now.shape.now) c.requires.fits.target_there;
      holds = sym c.guard_in.ensures ∙ c.if-not-guard_in.false;
      low = c.plan_in-plan.ensures.low;
      high = c.plan_in-plan.ensures.high;
    }) (omega arith) (omega arith) c.loop-k.invariant

pub overflow_add-at : goal.overflow_add-at
overflow_add-at c = record {
  fits = omega (
    arith,
    c.args.self.now.laid.few,
    c.loop-k-test.true,
    inside_at c.args.self.now.shape.now c.args.q.target.0 c.node-at.result c.args.self.now.laid c.node-at.ensures (ltb-true c.args.q.target.0 (length c.args.self.now.shape.now) c.requires.fits.target_there),
  );
}

pub join_at-rose-requires : goal.join_at-rose-requires
join_at-rose-requires c = omega (
  arith,
  c.requires.all,
  c.loop-k.invariant.same,
  c.loop-k-test.true,
  inside_at c.args.self.now.shape.now c.args.q.target.0 c.node-at.result c.args.self.now.laid c.node-at.ensures (ltb-true c.args.q.target.0 (length c.args.self.now.shape.now) c.requires.fits.target_there),
)
