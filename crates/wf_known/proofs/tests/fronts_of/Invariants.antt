use Rattle.wf_known.specs.Fronts.{IsReached}
use Rattle.wf_known.proofs.tests.fronts_of.Given as goal

abbrev pub invariant-loop-place : goal.invariant-loop-place
invariant-loop-place l = IsReached l.blocks l.env.1 l.method l.place l.front
