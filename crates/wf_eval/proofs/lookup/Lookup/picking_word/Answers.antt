use Rattle.std.proofs.Common.{◌≡◌, ℕ, Bool, ◌+◌, ◌-◌, ◌*◌, ◌∙◌, ap, arith}
use Rattle.wf_system.specs.Rows.{word_where}
use Rattle.wf_system.specs.Sides.{pick_of, table_of}
use Rattle.wf_system.specs.System.{is_candidate}
use Rattle.wf_eval.proofs.SaidLaws.{word_next}
use Rattle.wf_eval.proofs.lookup.Lookup.picking_word.Goals as goal

pub loop-i-preserved : goal.loop-i-preserved
loop-i-preserved c = word_next (λ (i : ℕ). is_candidate (pick_of (table_of c.args.self.now.side.now.tables c.args.self.now.side.now.sites c.args.site) (c.args.k * 64 + i - 1)) c.args.j)
    c.loop-i.i c.loop-i.word c.bit_if-word.result c.picks_at-picks.result c.loop-i.invariant c.picks_at-picks.ensures c.bit_if-word.ensures

pub returns : goal.returns
returns c = let e : c.loop-i.i ≡ 64 = omega arith in c.loop-i.invariant ∙ ap (word_where (λ (i : ℕ). is_candidate (pick_of (table_of c.args.self.now.side.now.tables c.args.self.now.side.now.sites c.args.site) (c.args.k * 64 + i - 1)) c.args.j)) e
