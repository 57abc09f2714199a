use Rattle.std.specs.Prelude.{map}
use Rattle.wf_blocks.specs.Graphs.{along, moved_from}
use Rattle.wf_blocks.proofs.laws.ways_lead_on.Goals as goal

pub returns : goal.returns
returns c = λ g place slots e p way. record { slots = map (moved_from slots) e.sources; path = along place slots e p way }
