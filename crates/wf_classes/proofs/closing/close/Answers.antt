use Rattle.std.proofs.Common.{◌≡◌, List, ap, sym, subst, length, vec_len, arith}
use Rattle.std.proofs.lemmas.List.{length-map}
use Rattle.wf_classes.specs.declared.waits.Wait.{Wait}
use Rattle.wf_classes.specs.Closing.{wanted, AreInside, AreCounted}
use Rattle.wf_classes.proofs.Bridge.{waits_inside, waits_within}
use Rattle.wf_classes.proofs.closing.close.Goals as goal

pub released_in_order-requires-clause-inside : goal.released_in_order-requires-clause-inside
released_in_order-requires-clause-inside c =
    let files = c.args.files.now in
    let size : length files ≡ vec_len c.in_ok-all.all.waiting = omega (arith, ap length c.in_ok-all.ensures.starts, length-map files wanted, c.in_ok-all.all.waiting.ok.0) in
    subst (λ (ws : List Wait). AreInside (vec_len c.in_ok-all.all.waiting) ws) (sym c.as_slice.ensures.value)
    (subst (λ n. AreInside n c.in_ok-all.all.waits.items) size (waits_inside files c.in_ok-all.all.waiting.items c.in_ok-all.all.waits.items c.in_ok-all.ensures))

pub released_in_order-requires-clause-counted : goal.released_in_order-requires-clause-counted
released_in_order-requires-clause-counted c =
    subst (λ (ws : List Wait). AreCounted c.in_ok-all.all.waiting.items ws) (sym c.as_slice.ensures.value) (waits_within c.args.files.now c.in_ok-all.all.waiting.items c.in_ok-all.all.waits.items c.in_ok-all.ensures)
