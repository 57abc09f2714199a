use Rattle.wf_eval.proofs.PairLaws.{tested_said}
use Rattle.std.proofs.Common.{bit_or}
use Rattle.wf_eval.proofs.lookup.Lookup.tested.Goals as goal

pub returns : goal.returns
returns g c = tested_said c.args.self.now.shape.now c.args.self.now.most c.args.self.now.side.now c.args.to c.args.a c.args.u c.meaning-m.result c.has_types-one.result c.has_types-other.result c.holds-null.result (bit_or c.int_if.result c.int_if-2.result) (λ i. bit_or (c.int_if.ensures i) (c.int_if-2.ensures i)) (record { of = c.meaning-m.ensures.of; made = c.meaning-m.ensures.made; said = c.meaning-m.ensures.said }) c.has_types-one.ensures c.has_types-other.ensures c.holds-null.ensures
