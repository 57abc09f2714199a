-- Lines that are known to be valid (this project's own).
use Rattle.std.specs.Prelude.{◌≡◌, ℕ, true, List, Option, Some, None, slice_get}
use Rattle.wf_base.specs.declared.kind.Kind.{Kind}
use Rattle.wf_descriptor.specs.Descriptors.{SpellsMethod}
use Rattle.wf_descriptor.specs.declared.descriptor.FieldDesc.{FieldDesc}
use Rattle.wf_descriptor.specs.declared.descriptor.MethodDesc.{MethodDesc}
use Rattle.wf_inputs.specs.declared.roots.RootLine.{RootLine}
use Rattle.wf_inputs.specs.declared.summary.Block.{Block}
use Rattle.wf_inputs.specs.declared.summary.Effect.{Effect}
use Rattle.wf_inputs.specs.declared.summary.EffectLine.{EffectLine}
use Rattle.wf_inputs.specs.declared.summary.Literal.{Literal}
use Rattle.wf_inputs.specs.declared.summary.Value.{Value}
use Rattle.wf_names.specs.declared.input.InputWhy.{InputWhy}
use Rattle.wf_names.specs.declared.root.Root.{Root}
use Rattle.wf_subtype.specs.Subtypes.{AllTypes}
use Rattle.wf_binding.specs.Named.{method_of, flags_of_method}
use Rattle.wf_binding.specs.Numbering.{value_stands, effect_stands, made_stands}
use Rattle.wf_binding.specs.Validity.{IsBadRoot, is_followed, value_there, effect_word, literal_word}

-- a value for a place of this kind
pub record IsValidValue (types : AllTypes) (k : Kind) (v : Value) : Type 0 where
  pub followed : is_followed k ≡ true
  pub there : value_there types.classes v ≡ true
  pub stands : value_stands types v ≡ true

-- an effect of a method with this result
pub record IsValidEffect (types : AllTypes) (ret : Option FieldDesc) (e : Effect) : Type 0 where
  pub args : List Kind
  pub word : effect_word types.classes args ret e ≡ None
  pub stands : effect_stands types e ≡ true

pub record AreValidEffects (types : AllTypes) (ret : Option FieldDesc) (effects : List EffectLine) : Type 0 where
  pub each : (j : ℕ) (e : EffectLine) → slice_get effects j ≡ Some e → IsValidEffect types ret e.effect

pub record IsValidBlock (types : AllTypes) (b : Block) : Type 0 where
  pub number : ℕ
  pub there : method_of types.classes b.method ≡ Some number
  pub effects : (flags : ℕ) (d : MethodDesc) → flags_of_method types.classes b.method ≡ Some flags → SpellsMethod 255 b.method.desc d → AreValidEffects types d.ret b.effects

pub record AreValidBlocks (types : AllTypes) (blocks : List Block) : Type 0 where
  pub each : (i : ℕ) (b : Block) → slice_get blocks i ≡ Some b → IsValidBlock types b

pub record IsValidLiteral (types : AllTypes) (l : Literal) : Type 0 where
  pub word : literal_word types.classes l ≡ None
  pub stands : value_stands types l.value ≡ true

pub record AreValidLiterals (types : AllTypes) (literals : List Literal) : Type 0 where
  pub each : (i : ℕ) (l : Literal) → slice_get literals i ≡ Some l → IsValidLiteral types l

pub record IsSoundRoot (types : AllTypes) (root : Root) : Type 0 where
  pub sound : (w : InputWhy) → IsBadRoot types.classes root w → ⊥
  pub stands : made_stands types root ≡ true

pub record AreSoundRoots (types : AllTypes) (lines : List RootLine) : Type 0 where
  pub each : (i : ℕ) (l : RootLine) → slice_get lines i ≡ Some l → IsSoundRoot types l.root
