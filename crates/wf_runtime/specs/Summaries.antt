-- What the summary says of methods, as the machine takes it (this project's own).
use Rattle.std.specs.Prelude.{ℕ, suc, ◌==◌, Bool, List, [], ◌∷◌, Option, Some, None, is_some, if◌then◌else◌}
use Rattle.wf_base.specs.declared.ids.MethodId.{MethodId}
use Rattle.wf_subtype.specs.Subtypes.{AllTypes}
use Rattle.wf_binding.specs.declared.numbers.BlockNumbers.{BlockNumbers}
use Rattle.wf_binding.specs.declared.numbers.EffectNumbers.{EffectNumbers}
use Rattle.wf_binding.specs.declared.numbers.EffectNumbers.TheVariants as line
use Rattle.wf_binding.specs.declared.numbers.SummaryNumbers.{SummaryNumbers}
use Rattle.wf_binding.specs.declared.numbers.ValueNumbers.{ValueNumbers}
use Rattle.wf_binding.specs.declared.numbers.ValueNumbers.TheVariants as value
use Rattle.wf_rows.specs.declared.action.StatedValue.TheVariants as stated
use Rattle.wf_rows.specs.declared.summaries.SummaryEffect.{SummaryEffect}
use Rattle.wf_rows.specs.declared.summaries.SummaryEffect.TheVariants as effect
use Rattle.wf_rows.specs.declared.summaries.SummaryValue.{SummaryValue}
use Rattle.wf_rows.specs.declared.summaries.SummaryValue.TheVariants.{Stated, Argument}

-- what is run: classes with the types that their objects have, and what the summary says
pub record Run : Type 0 where
  pub types : AllTypes
  pub summary : SummaryNumbers

-- a value that is returned or written
abbrev pub value_of : ValueNumbers → SummaryValue
value_of value.Null = Stated stated.Null
value_of value.AnyInt = Stated stated.AnyInt
value_of value.AnyLong = Stated stated.AnyLong
value_of (value.Int n) = Stated (stated.Int n)
value_of (value.New t) = Stated (stated.New t)
value_of (value.Under u) = Stated (stated.Under u)
value_of (value.Arg i) = Argument i

-- an effect, and how many copying lines stand in front of it
abbrev pub effect_of : ℕ → EffectNumbers → SummaryEffect
effect_of n line.ReturnsVoid = effect.ReturnsVoid
effect_of n (line.Returns v) = effect.Returns (value_of v)
effect_of n (line.Makes t) = effect.Makes t
effect_of n (line.Writes f v) = effect.Writes f (value_of v)
effect_of n (line.Copies i j) = effect.Copies n i j

-- how many copying lines there are behind one
abbrev pub behind_line : ℕ → EffectNumbers → ℕ
behind_line n line.ReturnsVoid = n
behind_line n (line.Returns v) = n
behind_line n (line.Makes t) = n
behind_line n (line.Writes f v) = n
behind_line n (line.Copies i j) = suc n

abbrev pub behind_lines : ℕ → List EffectNumbers → ℕ
behind_lines n [] = n
behind_lines n (e ∷ es) = behind_lines (behind_line n e) es

abbrev pub effects_of : ℕ → List EffectNumbers → List SummaryEffect
effects_of n [] = []
effects_of n (e ∷ es) = effect_of n e ∷ effects_of (behind_line n e) es

-- the block of a method
abbrev pub block_of : ℕ → List BlockNumbers → MethodId → Option (List SummaryEffect)
block_of n [] m = None
block_of n (b ∷ bs) m = if b.method.0 == m.0 then Some (effects_of n b.effects) else block_of (behind_lines n b.effects) bs m

-- what the summary says that a method does
abbrev pub summary_of : Run → MethodId → Option (List SummaryEffect)
summary_of p m = block_of 0 p.summary.blocks m

abbrev pub is_summarised : Run → MethodId → Bool
is_summarised p m = is_some (summary_of p m)
