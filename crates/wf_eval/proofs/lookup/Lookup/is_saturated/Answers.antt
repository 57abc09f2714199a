use Rattle.std.proofs.Common.{ℕ, refl, nat_lt}
use Rattle.std.proofs.lemmas.Bool.{or_left}
use Rattle.wf_lattice.specs.Words.{has_bit, counted, types_of}
use Rattle.wf_eval.specs.Reading.{span_row}
use Rattle.wf_eval.proofs.SaidLaws.{said_yes, said_either}
use Rattle.wf_eval.proofs.lookup.Lookup.is_saturated.Goals as goal

pub returns : goal.returns
returns g c = said_either c.bit_of.result c.if-bit_of.false c.bit_of.ensures c.is_over.ensures (λ x. refl)
