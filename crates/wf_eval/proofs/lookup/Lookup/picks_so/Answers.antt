use Rattle.std.proofs.Common.{◌≡◌, ℕ, ◌&&◌, Bool, true, false, nat_lt, sym, ◌∙◌, arith, ltb-true, lt-ltb}
use Rattle.std.proofs.lemmas.Bool.{and_parts, and_from, true≢false}
use Rattle.wf_system.specs.Sides.{pick_of, table_of}
use Rattle.wf_system.specs.System.{is_candidate}
use Rattle.wf_eval.specs.Plans.{has_meaning}
use Rattle.wf_eval.proofs.SaidLaws.{said_at_once, said_so}
use Rattle.wf_eval.proofs.lookup.Lookup.picks_so.Goals as goal

pub returns-then-c-eq0 : goal.returns-then-c-eq0
returns-then-c-eq0 g c = said_at_once (g.W.Words.seen c.args.words.now)
    (λ x h. absurd (omega (arith, ltb-true 0 c.args.c (and_parts (nat_lt 0 c.args.c) (has_meaning c.args.m x c.args.c && is_candidate (pick_of (table_of c.args.self.now.side.now.tables c.args.self.now.side.now.sites c.args.site) c.args.c) c.args.j) h).0, c.if-c-eq0.true)))
    (λ x h. absurd (true≢false (sym h)))

pub returns-then-not-is_picked : goal.returns-then-not-is_picked
returns-then-not-is_picked g c = said_at_once (g.W.Words.seen c.args.words.now)
    (λ x h. absurd (true≢false (sym (and_parts (has_meaning c.args.m x c.args.c) (is_candidate (pick_of (table_of c.args.self.now.side.now.tables c.args.self.now.side.now.sites c.args.site) c.args.c) c.args.j)
    (and_parts (nat_lt 0 c.args.c) (has_meaning c.args.m x c.args.c && is_candidate (pick_of (table_of c.args.self.now.side.now.tables c.args.self.now.side.now.sites c.args.site) c.args.c) c.args.j) h).1).1
    ∙ (sym c.is_picked.ensures ∙ c.if-not-is_picked.true))))
    (λ x h. absurd (true≢false (sym h)))

pub returns : goal.returns
returns g c = said_so c.has_meaning.ensures
    (λ x h e. h (and_parts (has_meaning c.args.m x c.args.c) (is_candidate (pick_of (table_of c.args.self.now.side.now.tables c.args.self.now.side.now.sites c.args.site) c.args.c) c.args.j)
    (and_parts (nat_lt 0 c.args.c) (has_meaning c.args.m x c.args.c && is_candidate (pick_of (table_of c.args.self.now.side.now.tables c.args.self.now.side.now.sites c.args.site) c.args.c) c.args.j) e).1).0)
    (λ x h e. and_from (nat_lt 0 c.args.c) (has_meaning c.args.m x c.args.c && is_candidate (pick_of (table_of c.args.self.now.side.now.tables c.args.self.now.side.now.sites c.args.site) c.args.c) c.args.j) (lt-ltb 0 c.args.c (omega arith))
    (and_from (has_meaning c.args.m x c.args.c) (is_candidate (pick_of (table_of c.args.self.now.side.now.tables c.args.self.now.side.now.sites c.args.site) c.args.c) c.args.j) (h e) (sym c.is_picked.ensures ∙ c.if-not-is_picked.false)))
