use Rattle.wf_eval.proofs.OpLaws.{only_null_said}
use Rattle.wf_eval.proofs.lookup.Lookup.only_null.Goals as goal

pub returns : goal.returns
returns g c = only_null_said c.args.self.now.shape.now c.args.self.now.most c.args.self.now.side.now c.args.to c.args.a c.meaning-m.result c.holds-null.result c.flag_if.result c.flag_if.ensures (record { of = c.meaning-m.ensures.of; made = c.meaning-m.ensures.made; said = c.meaning-m.ensures.said }) c.holds-null.ensures
