use Rattle.std.proofs.Common.{[], ◌∷◌, length, sym, ap, ◌∙◌, arith}
use Rattle.std.proofs.lemmas.List.{length-append}
use Rattle.wf_ssa.proofs.FillLemmas.{lacks_parts, nones_set, row_sound, sound_set}
use Rattle.wf_ssa.proofs.fill.leave_edge.Goals as goal

pub returns-clause-sound : goal.returns-clause-sound
returns-clause-sound c =
    λ failing fails sound. let b = c.args.blocks.now in
    let ms = c.args.meets.now in
    let row = c.in_ok-row.row in
    let parts = lacks_parts b ms c.args.known.now c.args.to (sym c.lacks.ensures ∙ c.if-not-lacks.false) in
    sound_set b failing c.args.known.now c.args.to row parts.0 sound
    (row_sound b failing ms c.args.place c.args.edge c.args.to row c.requires.meets parts.1 (c.leads.ensures.reached c.if-not-leads.false) c.requires.leads
    (λ k here there. c.in_ok-row.ensures failing k fails sound (c.leads.ensures.answered c.if-not-leads.false) here there))

pub returns-clause-less : goal.returns-clause-less
returns-clause-less c =
    λ _. let parts = lacks_parts c.args.blocks.now c.args.meets.now c.args.known.now c.args.to (sym c.lacks.ensures ∙ c.if-not-lacks.false) in nones_set c.args.known.now c.args.to c.in_ok-row.row parts.0 parts.2

pub returns-clause-room : goal.returns-clause-room
returns-clause-room c =
    let known = c.args.known.now in
    let parts = lacks_parts c.args.blocks.now c.args.meets.now known c.args.to (sym c.lacks.ensures ∙ c.if-not-lacks.false) in
    omega (arith, nones_set known c.args.to c.in_ok-row.row parts.0 parts.2, ap length c.in_ok-push.ensures.items, length-append c.args.noted.now.items (c.args.to ∷ []))
