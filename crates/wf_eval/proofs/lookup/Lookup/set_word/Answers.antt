use Rattle.wf_eval.proofs.SetLaws.{said_set}
use Rattle.wf_eval.proofs.lookup.Lookup.set_word.Goals as goal

pub returns-then-set : goal.returns-then-set
returns-then-set g c = said_set c.args.self.now.side.now c.args.set c.args.k c.types_word-types.result c.masked.result c.if-set.true c.types_word-types.ensures c.masked.ensures
