use Rattle.wf_eval.proofs.OpLaws.{picks_said}
use Rattle.wf_eval.proofs.lookup.Lookup.picks.Goals as goal

pub returns-clause-said : goal.returns-clause-said
returns-clause-said g c = picks_said c.args.self.now.shape.now c.args.self.now.most c.args.self.now.side.now c.args.to c.args.a c.args.site c.meaning-m.result (record { of = c.meaning-m.ensures.of; made = c.meaning-m.ensures.made; said = c.meaning-m.ensures.said })
