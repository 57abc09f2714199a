use Rattle.std.proofs.Common.{◌%◌}
use Rattle.wf_eval.proofs.SaidLaws.{said_bit}
use Rattle.wf_eval.proofs.lookup.Lookup.bit_of.Goals as goal

pub returns : goal.returns
returns g c = rw c.bit.ensures (said_bit (c.args.b % 64) c.word_of-word.ensures)
