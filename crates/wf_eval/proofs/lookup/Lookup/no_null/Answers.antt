use Rattle.wf_eval.proofs.OpLaws.{no_null_said}
use Rattle.wf_eval.proofs.lookup.Lookup.no_null.Goals as goal

pub returns-clause-said : goal.returns-clause-said
returns-clause-said g c = no_null_said c.args.self.now.shape.now c.args.self.now.most c.args.self.now.side.now c.args.to c.args.a c.meaning-m.result c.is_over-over.result (record { of = c.meaning-m.ensures.of; made = c.meaning-m.ensures.made; said = c.meaning-m.ensures.said }) c.is_over-over.ensures
