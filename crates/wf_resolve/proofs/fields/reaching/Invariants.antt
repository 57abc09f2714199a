use Rattle.wf_resolve.specs.Reaching.{IsSought}
use Rattle.wf_resolve.proofs.FieldSearch.{IsReachedTo}
use Rattle.wf_resolve.proofs.fields.reaching.Given as goal

abbrev pub invariant-loop-h : goal.invariant-loop-h
invariant-loop-h l = IsReachedTo l.classes l.ranks.heights.now (IsSought l.classes l.sought) l.fn.c.0 l.h l.bits
