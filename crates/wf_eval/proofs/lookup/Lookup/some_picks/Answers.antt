use Rattle.std.proofs.Common.{◌≡◌, ℕ, ◌&&◌, false, subst, arith, length}
use Rattle.wf_system.specs.Sides.{pick_of, table_of}
use Rattle.wf_system.specs.System.{is_candidate, some_type}
use Rattle.wf_eval.specs.Said.{SaidBool}
use Rattle.wf_eval.specs.Plans.{has_meaning}
use Rattle.wf_eval.proofs.SaidLaws.{some_more, some_there}
use Rattle.wf_eval.proofs.lookup.Lookup.some_picks.Goals as goal

pub returns-then-picks_so : goal.returns-then-picks_so
returns-then-picks_so g c = some_there (λ (x : ℕ → ℕ) (d : ℕ). has_meaning c.args.m x d && is_candidate (pick_of (table_of c.args.self.now.side.now.tables c.args.self.now.side.now.sites c.args.site) d) c.args.j) (length c.args.self.now.side.now.elems) c.loop-c.c c.picks_so.result (omega arith) c.if-picks_so.true c.loop-c.invariant c.picks_so.ensures

pub loop-c-preserved : goal.loop-c-preserved
loop-c-preserved g c = some_more (λ (x : ℕ → ℕ) (d : ℕ). has_meaning c.args.m x d && is_candidate (pick_of (table_of c.args.self.now.side.now.tables c.args.self.now.side.now.sites c.args.site) d) c.args.j) c.loop-c.c c.picks_so.result c.if-picks_so.false c.loop-c.invariant c.picks_so.ensures

pub returns : goal.returns
returns g c = let e : c.loop-c.c ≡ length c.args.self.now.side.now.elems = omega arith in
    subst (λ (n : ℕ). SaidBool (λ (x : ℕ → ℕ). some_type n (λ (d : ℕ). has_meaning c.args.m x d && is_candidate (pick_of (table_of c.args.self.now.side.now.tables c.args.self.now.side.now.sites c.args.site) d) c.args.j)) (g.W.Words.seen c.args.words.now) (g.W.Words.seen c.loop-c.words) false) e c.loop-c.invariant
