use Rattle.std.proofs.Common.{◌≡◌, true, List, sym, subst}
use Rattle.wf_base.specs.declared.ids.NodeId.{NodeId}
use Rattle.wf_system.specs.declared.inequality.Inequality.{Inequality}
use Rattle.wf_system.specs.Bodies.{system_of, SystemFits}
use Rattle.wf_system.proofs.kept.KeptSystem.new_checked.Goals as goal

pub returns-then-not-system_fits : goal.returns-then-not-system_fits
returns-then-not-system_fits c = λ fits.
    let fit : c.system_fits.result ≡ true = (c.system_fits.ensures c.args.threshold).1 (subst (λ (l : List (Inequality NodeId)). SystemFits (system_of c.args.shape c.args.threshold c.args.side l)) (sym c.as_slice.ensures) fits) in absurd cc

pub new-requires : goal.new-requires
new-requires c = record { fits = subst (λ (l : List (Inequality NodeId)). SystemFits (system_of c.args.shape c.args.threshold c.args.side l)) c.as_slice.ensures ((c.system_fits.ensures c.args.threshold).0 c.if-not-system_fits.false) }
