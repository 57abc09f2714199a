use Rattle.std.proofs.Common.{◌≡◌, ℕ, bit_and, bit_or, sym, subst}
use Rattle.wf_lattice.specs.Words.{flags_of}
use Rattle.wf_system.specs.Rows.{type_row}
use Rattle.wf_eval.specs.declared.plan.Plan.{Plan}
use Rattle.wf_eval.specs.Said.{SaidWord}
use Rattle.wf_eval.specs.Plans.{planned}
use Rattle.wf_eval.proofs.SaidLaws.{said_known}
use Rattle.wf_eval.proofs.WordLaws.{said_with, said_joined}
use Rattle.wf_eval.proofs.lookup.Lookup.word.Goals as goal

pub returns-in-First : goal.returns-in-First
returns-in-First g c = subst (λ (p : Plan). SaidWord (λ x. planned c.args.self.now.shape.now c.args.self.now.side.now p x c.args.k) (g.W.Words.seen c.args.words.now) (g.W.Words.seen c.args.words.now) c.first_word.result) (sym c.in-First.is)
    (said_known (g.W.Words.seen c.args.words.now) (λ x. sym c.first_word.ensures))

pub returns-in-OneType : goal.returns-in-OneType
returns-in-OneType g c = subst (λ (p : Plan). SaidWord (λ x. planned c.args.self.now.shape.now c.args.self.now.side.now p x c.args.k) (g.W.Words.seen c.args.words.now) (g.W.Words.seen c.args.words.now) c.type_word.result) (sym c.in-OneType.is)
    (said_known (g.W.Words.seen c.args.words.now) (λ x. sym c.type_word.ensures))

pub returns-in-IfMade : goal.returns-in-IfMade
returns-in-IfMade g c = subst (λ (p : Plan). SaidWord (λ x. planned c.args.self.now.shape.now c.args.self.now.side.now p x c.args.k) (g.W.Words.seen c.args.words.now) (g.W.Words.seen c.word_of-in-IfMade.new.words) (bit_and c.type_word-in-IfMade.result c.word_of-in-IfMade.result)) (sym c.in-IfMade.is)
    (said_with c.type_word-in-IfMade.result (type_row c.in-IfMade.t.0 c.args.k) c.type_word-in-IfMade.ensures c.word_of-in-IfMade.ensures)

pub returns-in-Types : goal.returns-in-Types
returns-in-Types g c = subst (λ (p : Plan). SaidWord (λ x. planned c.args.self.now.shape.now c.args.self.now.side.now p x c.args.k) (g.W.Words.seen c.args.words.now) (g.W.Words.seen c.set_word.new.words) (bit_or c.set_word.result c.flags_word.result)) (sym c.in-Types.is)
    (said_joined c.flags_word.result (flags_of c.in-Types.over c.in-Types.null c.args.k) c.flags_word.ensures c.set_word.ensures)
