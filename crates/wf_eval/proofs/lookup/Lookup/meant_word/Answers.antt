use Rattle.std.proofs.Common.{bit_and}
use Rattle.wf_eval.proofs.SaidLaws.{said_and}
use Rattle.wf_eval.proofs.SetLaws.{said_meant}
use Rattle.wf_eval.proofs.lookup.Lookup.meant_word.Goals as goal

pub returns : goal.returns
returns g c = said_meant c.args.m c.args.k (bit_and c.word_of-held.result c.word_of-made.result) c.if-m.false (said_and c.word_of-held.ensures c.word_of-made.ensures)
