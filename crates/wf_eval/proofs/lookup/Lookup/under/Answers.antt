use Rattle.wf_eval.proofs.OpLaws.{under_said}
use Rattle.wf_eval.proofs.lookup.Lookup.under.Goals as goal

pub returns-clause-said : goal.returns-clause-said
returns-clause-said g c = under_said c.args.self.now.shape.now c.args.self.now.most c.args.self.now.side.now c.args.to c.args.a c.args.u c.meaning-m.result c.holds-null.result c.is_over-over.result
    (record { of = c.meaning-m.ensures.of; made = c.meaning-m.ensures.made; said = c.meaning-m.ensures.said }) c.holds-null.ensures c.is_over-over.ensures
