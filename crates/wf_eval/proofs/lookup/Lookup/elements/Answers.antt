use Rattle.wf_eval.proofs.OpLaws.{elements_said}
use Rattle.wf_eval.proofs.PlanLaws.{elements_fit}
use Rattle.wf_eval.proofs.lookup.Lookup.elements.Goals as goal

pub returns-clause-said : goal.returns-clause-said
returns-clause-said g c = elements_said c.args.self.now.shape.now c.args.self.now.most c.args.self.now.side.now c.args.to c.args.a c.meaning-m.result (record { of = c.meaning-m.ensures.of; made = c.meaning-m.ensures.made; said = c.meaning-m.ensures.said })

pub returns-clause-fits : goal.returns-clause-fits
returns-clause-fits g c = (
  record { meaning = c.meaning-m.ensures.fits; bits = c.meaning-m.ensures.bits },
  elements_fit c.args.self.now.shape.now c.args.self.now.most c.args.self.now.side.now c.args.a c.requires.shaped c.requires.refs,
)
