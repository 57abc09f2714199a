use Rattle.std.proofs.Common.{refl, arith}
use Rattle.wf_rows.proofs.Listed.{merge, cover, merged}
use Rattle.wf_rows.proofs.laws.blocks_have_their_rows.Goals as goal

pub returns : goal.returns
returns c = record { edges = merge; handlers = cover; block = λ pc kinds. (0, omega arith, refl); slots = merged }
