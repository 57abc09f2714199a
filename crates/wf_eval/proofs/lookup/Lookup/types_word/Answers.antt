use Rattle.wf_eval.specs.Plans.{source_row}
use Rattle.wf_eval.proofs.SaidLaws.{said_types}
use Rattle.wf_eval.proofs.lookup.Lookup.types_word.Goals as goal

pub returns : goal.returns
returns g c = said_types (source_row c.args.from) c.args.k c.without_flags.result c.without_flags.ensures c.source_word-word.ensures
