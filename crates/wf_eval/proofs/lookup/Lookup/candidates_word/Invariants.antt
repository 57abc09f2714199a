use Rattle.std.proofs.Common.{ℕ, ◌&&◌, ◌+◌, ◌*◌, length}
use Rattle.wf_system.specs.Rows.{word_where}
use Rattle.wf_system.specs.Sides.{pick_of, table_of}
use Rattle.wf_system.specs.System.{is_candidate, some_type}
use Rattle.wf_eval.specs.Said.{SaidWord}
use Rattle.wf_eval.specs.Plans.{has_meaning}
use Rattle.wf_eval.proofs.lookup.Lookup.candidates_word.Given as goal

abbrev pub invariant-loop-i : goal.invariant-loop-i
invariant-loop-i g l = SaidWord (λ (x : ℕ → ℕ). word_where (λ (i : ℕ). some_type (length l.self.side.now.elems) (λ (d : ℕ). has_meaning l.m x d && is_candidate (pick_of (table_of l.self.side.now.tables l.self.side.now.sites l.site) d) (l.k * 64 + i))) l.i) (g.W.Words.seen l.fn.words) (g.W.Words.seen l.words) l.word
