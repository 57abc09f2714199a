use Rattle.std.proofs.Common.{◌↔◌, IsTrue, sym, subst}
use Rattle.wf_base.specs.declared.ids.NodeId.{NodeId}
use Rattle.wf_system.specs.declared.inequality.ValueOp.{ValueOp}
use Rattle.wf_system.specs.Fits.{ValueFits, ValueIsThere}
use Rattle.wf_system.specs.Bodies.{tables_of}
use Rattle.wf_system.proofs.fit.value_fits.Goals as goal

pub picks_fit-requires : goal.picks_fit-requires
picks_fit-requires c = (subst (λ (v : ValueOp NodeId). ValueIsThere (tables_of c.args.shape.now 0 c.args.side.now) v) c.in-Picks.is (c.requires 0)).1

pub returns-in-Picks : goal.returns-in-Picks
returns-in-Picks c = λ most. subst (λ (v : ValueOp NodeId). IsTrue c.picks_fit.result ↔ ValueFits (tables_of c.args.shape.now most c.args.side.now) v c.args.to) (sym c.in-Picks.is) (c.picks_fit.ensures most)
