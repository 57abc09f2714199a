use Rattle.wf_links.proofs.picking.is_receiver.Goals as goal

pub returns : goal.returns
returns c = (λ h. record { some = c.requires.some; there = c.requires.there; under = c.is_subtype.ensures.0 h }, λ r. c.is_subtype.ensures.1 r.under)
