use Rattle.std.proofs.Common.{◌≡◌, map, take}
use Rattle.wf_links.specs.declared.picking.Chosen.{Chosen}
use Rattle.wf_links.proofs.candidates.methods_of.Given as goal

abbrev pub invariant-loop-choice : goal.invariant-loop-choice
invariant-loop-choice l = l.methods.items ≡ map (λ (c : Chosen). c.method) (take l.choice-index l.chosen)
