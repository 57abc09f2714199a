use Rattle.std.proofs.Common.{◌≡◌, ℕ, List, [], slice_index_or, bit_and, sym, ap, ◌∙◌, subst}
use Rattle.std.specs.Int.{bit_not, w64}
use Rattle.wf_lattice.specs.Words.{words_of, types_of}
use Rattle.wf_lattice.proofs.BitLaws.{in_itself, and_grows}
use Rattle.wf_eval.specs.declared.plan.Mask.{Mask}
use Rattle.wf_eval.specs.Said.{SaidWord}
use Rattle.wf_eval.specs.Plans.{meant_row, masked}
use Rattle.wf_eval.proofs.SaidLaws.{said_known, said_so}
use Rattle.wf_eval.proofs.lookup.Lookup.masked.Goals as goal

pub returns-in-All : goal.returns-in-All
returns-in-All g c = subst (λ (m : Mask). SaidWord (λ x. masked c.args.self.now.side.now m x c.args.k c.args.word) (g.W.Words.seen c.args.words.now) (g.W.Words.seen c.args.words.now) c.args.word)
    (sym c.in-All.is) (said_known (g.W.Words.seen c.args.words.now) (λ x. Rattle.std.proofs.Common.refl))

pub returns-in-Under : goal.returns-in-Under
returns-in-Under g c =
    let e : c.word_at.result ≡ words_of (slice_index_or c.args.self.now.side.now.masks c.in-Under.u.0 []) c.args.k = c.word_at.ensures ∙ ap (λ (row : List ℕ). words_of row c.args.k) c.mask.ensures in
    subst (λ (m : Mask). SaidWord (λ x. masked c.args.self.now.side.now m x c.args.k c.args.word) (g.W.Words.seen c.args.words.now) (g.W.Words.seen c.args.words.now) (bit_and c.args.word c.word_at.result))
    (sym c.in-Under.is) (said_known (g.W.Words.seen c.args.words.now) (λ x. ap (bit_and c.args.word) (sym e)))

pub returns-in-NotUnder : goal.returns-in-NotUnder
returns-in-NotUnder g c =
    let e : c.word_at-in-NotUnder.result ≡ words_of (slice_index_or c.args.self.now.side.now.masks c.in-NotUnder.u.0 []) c.args.k = c.word_at-in-NotUnder.ensures ∙ ap (λ (row : List ℕ). words_of row c.args.k) c.mask-in-NotUnder.ensures in
    subst (λ (m : Mask). SaidWord (λ x. masked c.args.self.now.side.now m x c.args.k c.args.word) (g.W.Words.seen c.args.words.now) (g.W.Words.seen c.args.words.now) (bit_and c.args.word (bit_not w64 c.word_at-in-NotUnder.result)))
    (sym c.in-NotUnder.is) (said_known (g.W.Words.seen c.args.words.now) (λ x. ap (λ (w : ℕ). bit_and c.args.word (bit_not w64 w)) (sym e)))

pub returns-in-Picking : goal.returns-in-Picking
returns-in-Picking g c =
    subst (λ (m : Mask). SaidWord (λ x. masked c.args.self.now.side.now m x c.args.k c.args.word) (g.W.Words.seen c.args.words.now) (g.W.Words.seen c.args.words.now) (bit_and c.args.word c.picking_word.result))
    (sym c.in-Picking.is) (said_known (g.W.Words.seen c.args.words.now) (λ x. ap (bit_and c.args.word) (sym c.picking_word.ensures)))

pub returns-in-AlsoIn : goal.returns-in-AlsoIn
returns-in-AlsoIn g c =
    subst (λ (m : Mask). SaidWord (λ x. masked c.args.self.now.side.now m x c.args.k c.args.word) (g.W.Words.seen c.args.words.now) (g.W.Words.seen c.types_word.new.words) (bit_and c.args.word c.types_word.result))
    (sym c.in-AlsoIn.is) (said_so c.types_word.ensures
    (λ x h. and_grows c.args.word (types_of (meant_row c.in-AlsoIn.m x) c.args.k) c.args.word c.types_word.result (in_itself c.args.word) h)
    (λ x h. and_grows c.args.word c.types_word.result c.args.word (types_of (meant_row c.in-AlsoIn.m x) c.args.k) (in_itself c.args.word) h))
