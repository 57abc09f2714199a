-- The first bad effect.
use Rattle.std.proofs.Common.{◌≡◌, ℕ, ◌<◌, ◌+◌, List, length, get_or, Option, Some, refl, sym, ap, ◌∙◌}
use Rattle.std.specs.Prelude.{slice_get}
use Rattle.std.proofs.lemmas.Option.{slice_get_within, same_Some}
use Rattle.wf_base.specs.declared.kind.Kind.{Kind}
use Rattle.wf_data.specs.declared.class_info.ClassInfo.{ClassInfo}
use Rattle.wf_descriptor.specs.declared.descriptor.FieldDesc.{FieldDesc}
use Rattle.wf_inputs.specs.declared.summary.EffectLine.{EffectLine}
use Rattle.wf_names.specs.declared.input.InputWhy.{InputWhy}
use Rattle.wf_binding.specs.Validity.{IsBadEffect, Somewhere, effect_word}
use Rattle.wf_binding.specs.First.{IsFirst, Upto, at_line, earlier_of}
use Rattle.wf_binding.specs.declared.first.BadLine.{BadLine}
use Rattle.wf_binding.proofs.Finding.{first_at_line, first_more, first_somewhere}

-- the effect at a place, by its word
pub first_effect : (classes : List ClassInfo) (args : List Kind) (ret : Option FieldDesc) (effects : List EffectLine) (n : ℕ) (e : EffectLine) → slice_get effects n ≡ Some e → IsFirst (IsBadEffect classes args ret effects n) (at_line e.line (effect_word classes args ret e.effect))
first_effect classes args ret effects n e there =
    first_at_line (IsBadEffect classes args ret effects n) e.line (effect_word classes args ret e.effect) (λ w is. record { effect = e; there = there; at = refl; is = is }) (λ other w b.
    let same : e ≡ b.effect = same_Some e b.effect (sym there ∙ b.there) in
    (ap (λ (x : EffectLine). x.line) same ∙ b.at, ap (λ (x : EffectLine). effect_word classes args ret x.effect) same ∙ b.is))

pub more_effects : (classes : List ClassInfo) (args : List Kind) (ret : Option FieldDesc) (effects : List EffectLine) (n : ℕ) (e : EffectLine) (found : Option BadLine) → slice_get effects n ≡ Some e → IsFirst (Upto (IsBadEffect classes args ret effects) n) found → IsFirst (Upto (IsBadEffect classes args ret effects) (n + 1)) (earlier_of found (at_line e.line (effect_word classes args ret e.effect)))
more_effects classes args ret effects n e found there h =
    first_more (IsBadEffect classes args ret effects) n found (at_line e.line (effect_word classes args ret e.effect)) h (first_effect classes args ret effects n e there)

pub all_effects : (classes : List ClassInfo) (args : List Kind) (ret : Option FieldDesc) (effects : List EffectLine) (n : ℕ) (found : Option BadLine) → n ≡ length effects → IsFirst (Upto (IsBadEffect classes args ret effects) n) found → IsFirst (Somewhere (IsBadEffect classes args ret effects)) found
all_effects classes args ret effects n found e h =
    first_somewhere (IsBadEffect classes args ret effects) n found (λ place line w b. rw e (slice_get_within effects place b.effect b.there)) h
