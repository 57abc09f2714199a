use Rattle.wf_eval.proofs.PairLaws.{equal_said}
use Rattle.wf_eval.proofs.lookup.Lookup.equal.Goals as goal

pub returns-clause-said : goal.returns-clause-said
returns-clause-said g c = equal_said c.args.self.now.shape.now c.args.self.now.most c.args.self.now.side.now c.args.to c.args.a c.args.b c.meaning-m.result c.meaning-other.result c.holds-first.result c.holds-second.result c.is_over-over.result (record { of = c.meaning-m.ensures.of; made = c.meaning-m.ensures.made; said = c.meaning-m.ensures.said }) (record { of = c.meaning-other.ensures.of; made = c.meaning-other.ensures.made; said = c.meaning-other.ensures.said }) c.holds-first.ensures c.holds-second.ensures c.is_over-over.ensures
