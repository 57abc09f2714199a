use Rattle.std.proofs.Common.{◌≡◌, true, false, length, get_or, sym, ap, ◌∙◌, below_more}
use Rattle.wf_operation.specs.declared.slot.SlotKind.TheVariants.{Unused}
use Rattle.wf_operation.specs.declared.slot.Wanted.{Wanted}
use Rattle.wf_operation.specs.Effects.{wanted}
use Rattle.wf_blocks.specs.declared.seen.Seen.{Seen}
use Rattle.wf_blocks.specs.SeenKinds.{only, all_allowed}
use Rattle.wf_blocks.specs.Rows.{seen_at}
use Rattle.wf_blocks.proofs.EdgeLemmas.{same_at}
use Rattle.wf_blocks.proofs.step.meets.Goals as goal

pub loop-i-preserved : goal.loop-i-preserved
loop-i-preserved c =
    let row = c.args.row.now in
    let d : Seen = record { int = false; reference = false; long = false; rest = false; unused = false } in
    let e = c.args.effect.now in
    let here : all_allowed (wanted e (length row) c.loop-i.i) (seen_at row c.loop-i.i) ≡ true =
    ap (all_allowed (wanted e (length row) c.loop-i.i)) (same_at row c.loop-i.i (only Unused) d c.loop-i-test.true)
    ∙ ap (λ (w : Wanted). all_allowed w (get_or row c.loop-i.i d)) (sym c.wanted.ensures) ∙ sym c.all_allowed.ensures ∙ c.if-not-all_allowed.false in
    below_more _ _ c.loop-i.invariant here
