use Rattle.std.proofs.Common.{◌≡◌, true, ℕ, List, [], slice_index_or, subst, refl}
use Rattle.wf_lattice.specs.Words.{AreWords, words_of}
use Rattle.wf_system.proofs.FitLaws.{are_shaped, words_are}
use Rattle.wf_system.proofs.shaped.are_shaped.Goals as goal

pub returns-then-not-words_fit : goal.returns-then-not-words_fit
returns-then-not-words_fit c = λ most. (λ h. absurd cc, λ f. let fit : c.words_fit.result ≡ true = c.words_fit.ensures.1 (words_are c.args.shape.now most c.args.side.now f) in absurd cc)

pub returns-then-some_of_types : goal.returns-then-some_of_types
returns-then-some_of_types c = λ most. (
  λ h. are_shaped c.args.shape.now most c.args.side.now
      (subst (λ (l : List (List ℕ)). (u : ℕ) → AreWords (words_of (slice_index_or l u []))) c.as_slice.ensures c.rows_are_words.ensures)
      (c.words_fit.ensures.0 c.if-not-words_fit.false) (λ n of. (c.has_types.ensures most).0 h),
  λ f. (c.has_types.ensures most).1 (f.types (record { 0 = (c.some_of_types.ensures.some c.if-some_of_types.true).0 }) (c.some_of_types.ensures.some c.if-some_of_types.true).1),
)

pub returns : goal.returns
returns c = λ most. (
  λ h. are_shaped c.args.shape.now most c.args.side.now
      (subst (λ (l : List (List ℕ)). (u : ℕ) → AreWords (words_of (slice_index_or l u []))) c.as_slice.ensures c.rows_are_words.ensures)
      (c.words_fit.ensures.0 c.if-not-words_fit.false) (λ n of. absurd (c.some_of_types.ensures.none n.0 c.if-some_of_types.false of)),
  λ f. refl,
)
