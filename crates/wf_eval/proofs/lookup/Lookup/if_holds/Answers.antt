use Rattle.wf_eval.proofs.PairLaws.{held_said}
use Rattle.wf_eval.proofs.lookup.Lookup.if_holds.Goals as goal

pub returns-clause-said : goal.returns-clause-said
returns-clause-said g c = held_said c.args.self.now.shape.now c.args.self.now.most c.args.self.now.side.now c.args.to c.args.a c.args.t c.args.b c.args.u c.meaning-m.result c.meaning-other.result c.has_meaning-there.result c.holds-null.result c.is_over-over.result (record { of = c.meaning-m.ensures.of; made = c.meaning-m.ensures.made; said = c.meaning-m.ensures.said }) c.has_meaning-there.ensures (record { of = c.meaning-other.ensures.of; made = c.meaning-other.ensures.made; said = c.meaning-other.ensures.said }) c.holds-null.ensures c.is_over-over.ensures
