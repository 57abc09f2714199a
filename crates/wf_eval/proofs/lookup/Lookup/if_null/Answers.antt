use Rattle.wf_eval.proofs.OpLaws.{if_null_said}
use Rattle.wf_eval.proofs.lookup.Lookup.if_null.Goals as goal

pub returns : goal.returns
returns g c = if_null_said c.args.self.now.shape.now c.args.self.now.most c.args.self.now.side.now c.args.to c.args.a c.meaning-m.result c.holds-null.result c.int_if.result c.int_if.ensures (record { of = c.meaning-m.ensures.of; made = c.meaning-m.ensures.made; said = c.meaning-m.ensures.said }) c.holds-null.ensures
