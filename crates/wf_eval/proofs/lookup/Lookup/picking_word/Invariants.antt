use Rattle.std.proofs.Common.{◌≡◌, ℕ, ◌+◌, ◌-◌, ◌*◌}
use Rattle.wf_system.specs.Rows.{word_where}
use Rattle.wf_system.specs.Sides.{pick_of, table_of}
use Rattle.wf_system.specs.System.{is_candidate}
use Rattle.wf_eval.proofs.lookup.Lookup.picking_word.Given as goal

abbrev pub invariant-loop-i : goal.invariant-loop-i
invariant-loop-i l = l.word ≡ word_where (λ (i : ℕ). is_candidate (pick_of (table_of l.self.side.now.tables l.self.side.now.sites l.site) (l.k * 64 + i - 1)) l.j) l.i
