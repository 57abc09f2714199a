use Rattle.wf_eval.proofs.RaiseLaws.{RaisedTo}
use Rattle.wf_eval.proofs.lookup.Lookup.raise.Given as goal

abbrev pub invariant-loop-k : goal.invariant-loop-k
invariant-loop-k l = RaisedTo l.self.shape.now l.self.most l.self.side.now l.fn.q l.plan l.at l.k l.fn.words l.words l.changed
