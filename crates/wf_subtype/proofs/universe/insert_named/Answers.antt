use Rattle.std.proofs.Common.{◌≡◌, List, ℕ, length, refl, subst}
use Rattle.std.proofs.lemmas.Option.{slice_get_read}
use Rattle.wf_subtype.specs.Universe.{InsertsArrays}
use Rattle.wf_subtype.proofs.Collecting.{below_none, below_more, at_one, At}
use Rattle.wf_subtype.proofs.Making.{named_among}
use Rattle.wf_subtype.proofs.universe.insert_named.Goals as goal

pub loop-name-init : goal.loop-name-init
loop-name-init c = below_none c.args.classes.now c.args.types.now.keys (At c.args.named.now (λ (n t : List ℕ). t ≡ n))

pub loop-name-preserved : goal.loop-name-preserved
loop-name-preserved c =
    let named = c.args.named.now in
    let i = c.loop-name.name-index in
    let x = c.name-item.result in
    below_more c.args.classes.now c.args.types.now.keys c.loop-name.types.keys c.insert_array.new.types.keys (At named (λ (n t : List ℕ). t ≡ n)) i c.loop-name.invariant
    (at_one c.args.classes.now c.loop-name.types.keys c.insert_array.new.types.keys named (λ (n t : List ℕ). t ≡ n) i x (slice_get_read named (length named) i x refl c.loop-name-test.true c.name-item.is)
    (subst (λ (n : List ℕ). InsertsArrays c.args.classes.now c.loop-name.types.keys c.insert_array.new.types.keys (λ t. t ≡ n)) c.as_slice.ensures c.in_ok-insert_array.ensures))

pub returns : goal.returns
returns c = named_among c.args.classes.now c.args.types.now.keys c.loop-name.types.keys c.args.named.now c.loop-name.name-index c.loop-name-test.false c.loop-name.invariant
