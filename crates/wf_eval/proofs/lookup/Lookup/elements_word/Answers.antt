use Rattle.std.proofs.Common.{add-one}
use Rattle.wf_eval.proofs.SaidLaws.{said_or}
use Rattle.wf_eval.proofs.lookup.Lookup.elements_word.Goals as goal

pub loop-c-preserved : goal.loop-c-preserved
loop-c-preserved g c = rw add-one (said_or c.loop-c.invariant c.element_word-more.ensures)
