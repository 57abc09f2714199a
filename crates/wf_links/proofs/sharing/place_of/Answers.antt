use Rattle.std.proofs.Common.{sym, subst, ap, ◌∙◌}
use Rattle.std.specs.Prelude.{slice_get}
use Rattle.wf_links.specs.Candidates.{Adds}
use Rattle.wf_links.proofs.SameCalls.{one_call, same_call}
use Rattle.wf_links.proofs.SharedCalls.{added}
use Rattle.wf_links.proofs.sharing.place_of.Goals as goal

pub returns : goal.returns
returns c =
    let old = c.args.met.now.keys in
    let callee = c.args.callee in
    let place = c.in_ok-place.place in
    let stored = c.in_ok-place.ensures.stored in
    subst (λ keys. Adds old keys callee place) (sym c.in_ok-place.ensures.keys)
    (added _ one_call same_call old callee stored.0 place (ap (λ keys. slice_get keys place) (sym c.in_ok-place.ensures.keys) ∙ stored.1) stored.2)
