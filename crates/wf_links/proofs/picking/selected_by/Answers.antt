use Rattle.std.proofs.Common.{refl}
use Rattle.wf_links.proofs.picking.selected_by.Goals as goal

pub returns-then-is_receiver : goal.returns-then-is_receiver
returns-then-is_receiver c = record { receiver = λ r. c.selected_of.ensures; other = λ u. absurd (u (c.is_receiver.ensures.0 c.if-is_receiver.true)) }

pub returns-else-is_receiver : goal.returns-else-is_receiver
returns-else-is_receiver c = record { receiver = λ r. let h = c.is_receiver.ensures.1 r in let f = c.if-is_receiver.false in absurd cc; other = λ u. refl }
