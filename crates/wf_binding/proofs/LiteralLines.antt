-- The first bad literal.
use Rattle.std.proofs.Common.{◌≡◌, ℕ, ◌<◌, ◌+◌, List, length, get_or, Option, Some, refl, sym, ap, ◌∙◌}
use Rattle.std.specs.Prelude.{slice_get}
use Rattle.std.proofs.lemmas.Option.{slice_get_within, same_Some}
use Rattle.wf_data.specs.declared.class_info.ClassInfo.{ClassInfo}
use Rattle.wf_inputs.specs.declared.summary.Literal.{Literal}
use Rattle.wf_names.specs.declared.input.InputWhy.{InputWhy}
use Rattle.wf_binding.specs.Validity.{IsBadLiteral, Somewhere, literal_word}
use Rattle.wf_binding.specs.First.{IsFirst, Upto, at_line, earlier_of}
use Rattle.wf_binding.specs.declared.first.BadLine.{BadLine}
use Rattle.wf_binding.proofs.Finding.{first_at_line, first_more, first_somewhere}

-- the literal at a place, by its word
pub first_literal : (classes : List ClassInfo) (literals : List Literal) (n : ℕ) (e : Literal) → slice_get literals n ≡ Some e → IsFirst (IsBadLiteral classes literals n) (at_line e.line (literal_word classes e))
first_literal classes literals n e there =
    first_at_line (IsBadLiteral classes literals n) e.line (literal_word classes e) (λ w is. record { literal = e; there = there; at = refl; is = is }) (λ other w b.
    let same : e ≡ b.literal = same_Some e b.literal (sym there ∙ b.there) in
    (ap (λ (x : Literal). x.line) same ∙ b.at, ap (λ (x : Literal). literal_word classes x) same ∙ b.is))

pub more_literals : (classes : List ClassInfo) (literals : List Literal) (n : ℕ) (e : Literal) (found : Option BadLine) → slice_get literals n ≡ Some e → IsFirst (Upto (IsBadLiteral classes literals) n) found → IsFirst (Upto (IsBadLiteral classes literals) (n + 1)) (earlier_of found (at_line e.line (literal_word classes e)))
more_literals classes literals n e found there h =
    first_more (IsBadLiteral classes literals) n found (at_line e.line (literal_word classes e)) h (first_literal classes literals n e there)

pub all_literals : (classes : List ClassInfo) (literals : List Literal) (n : ℕ) (found : Option BadLine) → n ≡ length literals → IsFirst (Upto (IsBadLiteral classes literals) n) found → IsFirst (Somewhere (IsBadLiteral classes literals)) found
all_literals classes literals n found e h =
    first_somewhere (IsBadLiteral classes literals) n found (λ place line w b. rw e (slice_get_within literals place b.literal b.there)) h
