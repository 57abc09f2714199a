use Rattle.std.proofs.Common.{sym, ◌∙◌}
use Rattle.wf_own.proofs.Noting.{new_noted}
use Rattle.wf_own.proofs.nodes.note.Goals as goal

pub returns-clause-noted : goal.returns-clause-noted
returns-clause-noted c =
    λ nodes n h. new_noted c.args.places.now c.insert.new.self nodes c.args.own c.args.place (sym c.contains_key.ensures ∙ c.if-contains_key.false) c.in_ok-insert.ensures.updates n h
