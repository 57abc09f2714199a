use Rattle.std.proofs.Common.{◌≡◌, ℕ, ◌&&◌, ◌+◌, ◌*◌, length, subst, arith}
use Rattle.wf_system.specs.Rows.{word_where}
use Rattle.wf_system.specs.Sides.{pick_of, table_of}
use Rattle.wf_system.specs.System.{is_candidate, some_type}
use Rattle.wf_eval.specs.Said.{SaidWord}
use Rattle.wf_eval.specs.Plans.{has_meaning}
use Rattle.wf_eval.proofs.SaidLaws.{word_more}
use Rattle.wf_eval.proofs.lookup.Lookup.candidates_word.Goals as goal

pub loop-i-preserved : goal.loop-i-preserved
loop-i-preserved g c = word_more (λ (x : ℕ → ℕ) (i : ℕ). some_type (length c.args.self.now.side.now.elems) (λ (d : ℕ). has_meaning c.args.m x d && is_candidate (pick_of (table_of c.args.self.now.side.now.tables c.args.self.now.side.now.sites c.args.site) d) (c.args.k * 64 + i))) c.loop-i.i c.loop-i.word c.bit_if-word.result c.some_picks-picks.result c.bit_if-word.ensures c.loop-i.invariant c.some_picks-picks.ensures

pub returns : goal.returns
returns g c = let e : c.loop-i.i ≡ 64 = omega arith in
    subst (λ (n : ℕ). SaidWord (λ (x : ℕ → ℕ). word_where ((λ (x : ℕ → ℕ) (i : ℕ). some_type (length c.args.self.now.side.now.elems) (λ (d : ℕ). has_meaning c.args.m x d && is_candidate (pick_of (table_of c.args.self.now.side.now.tables c.args.self.now.side.now.sites c.args.site) d) (c.args.k * 64 + i))) x) n) (g.W.Words.seen c.args.words.now) (g.W.Words.seen c.loop-i.words) c.loop-i.word) e c.loop-i.invariant
