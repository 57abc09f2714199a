use Rattle.std.proofs.Common.{ℕ, ◌&&◌, false}
use Rattle.wf_system.specs.Sides.{pick_of, table_of}
use Rattle.wf_system.specs.System.{is_candidate, some_type}
use Rattle.wf_eval.specs.Said.{SaidBool}
use Rattle.wf_eval.specs.Plans.{has_meaning}
use Rattle.wf_eval.proofs.lookup.Lookup.some_picks.Given as goal

abbrev pub invariant-loop-c : goal.invariant-loop-c
invariant-loop-c g l = SaidBool (λ (x : ℕ → ℕ). some_type l.c (λ (d : ℕ). has_meaning l.m x d && is_candidate (pick_of (table_of l.self.side.now.tables l.self.side.now.sites l.site) d) l.j)) (g.W.Words.seen l.fn.words) (g.W.Words.seen l.words) false
