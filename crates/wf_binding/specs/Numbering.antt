-- The numbers of what the lines of a summary and of a list of roots name (this project's own rule).
use Rattle.std.specs.Prelude.{◌≡◌, ◌≢◌, ℕ, Bool, true, List, length, Option, Some, None, codes, option_map, slice_get}
use Rattle.std.specs.List.{AllPairs, Contains}
use Rattle.wf_base.specs.declared.kind.Kind.{Kind}
use Rattle.wf_base.specs.declared.kind.Kind.TheVariants as kind
use Rattle.wf_base.specs.declared.ids.ClassId.{ClassId}
use Rattle.wf_base.specs.declared.ids.FieldId.{FieldId}
use Rattle.wf_base.specs.declared.ids.MethodId.{MethodId}
use Rattle.wf_base.specs.declared.ids.TargetId.{TargetId}
use Rattle.wf_base.specs.declared.ids.TypeId.{TypeId}
use Rattle.wf_classes.specs.Members.{method_number}
use Rattle.wf_classes.specs.World.{class_of}
use Rattle.wf_descriptor.specs.Descriptors.{SpellsMethod}
use Rattle.wf_descriptor.specs.declared.descriptor.FieldDesc.{FieldDesc}
use Rattle.wf_descriptor.specs.declared.descriptor.MethodDesc.{MethodDesc}
use Rattle.wf_inputs.specs.declared.roots.RootLine.{RootLine}
use Rattle.wf_inputs.specs.declared.roots.Roots.{Roots}
use Rattle.wf_inputs.specs.declared.summary.Block.{Block}
use Rattle.wf_inputs.specs.declared.summary.Effect.{Effect}
use Rattle.wf_inputs.specs.declared.summary.Effect.TheVariants.{ReturnsVoid, Returns, Makes, Writes, Copies}
use Rattle.wf_inputs.specs.declared.summary.EffectLine.{EffectLine}
use Rattle.wf_inputs.specs.declared.summary.Literal.{Literal}
use Rattle.wf_inputs.specs.declared.summary.Summary.{Summary}
use Rattle.wf_inputs.specs.declared.summary.Value.{Value}
use Rattle.wf_inputs.specs.declared.summary.Value.TheVariants as value
use Rattle.wf_names.specs.Names.{object_name}
use Rattle.wf_names.specs.declared.member.MemberName.{MemberName}
use Rattle.wf_names.specs.declared.root.Root.{Root}
use Rattle.wf_names.specs.declared.root.Root.TheVariants.{StaticCall, Inst, Make}
use Rattle.wf_subtype.specs.Subtypes.{AllTypes, IsTargetFound}
use Rattle.wf_subtype.specs.Universe.{type_of}
use Rattle.wf_binding.specs.Adding.{is_standing}
use Rattle.wf_binding.specs.Named.{method_of, field_of, field_kind}
use Rattle.wf_binding.specs.Validity.{effect_word, literal_word}
use Rattle.wf_binding.specs.declared.numbers.ValueNumbers.{ValueNumbers}
use Rattle.wf_binding.specs.declared.numbers.ValueNumbers.TheVariants as values
use Rattle.wf_binding.specs.declared.numbers.EffectNumbers.{EffectNumbers}
use Rattle.wf_binding.specs.declared.numbers.EffectNumbers.TheVariants as effects
use Rattle.wf_binding.specs.declared.numbers.BlockNumbers.{BlockNumbers}
use Rattle.wf_binding.specs.declared.numbers.LiteralNumbers.{LiteralNumbers}
use Rattle.wf_binding.specs.declared.numbers.SummaryNumbers.{SummaryNumbers}
use Rattle.wf_binding.specs.declared.numbers.RootNumbers.{RootNumbers}
use Rattle.wf_binding.specs.declared.numbers.RootNumbers.TheVariants as roots

-- ---- numbers

-- one is numbered for each
pub record AreNumbered {X Y : Type 0} (Numbers : X → Y → Type 0) (xs : List X) (ys : List Y) : Type 0 where
  pub count : length ys ≡ length xs
  pub each : (i : ℕ) (x : X) (y : Y) → slice_get xs i ≡ Some x → slice_get ys i ≡ Some y → Numbers x y

-- the type of a name
pub record NumbersNew (types : AllTypes) (name : List ℕ) (n : ValueNumbers) : Type 0 where
  pub type : TypeId
  pub is : type_of types.names name ≡ Some type.0
  pub same : n ≡ values.New type

-- what is under the class or the array of a name
pub record NumbersUnder (types : AllTypes) (name : List ℕ) (n : ValueNumbers) : Type 0 where
  pub target : TargetId
  pub is : IsTargetFound types name (Some target.0)
  pub same : n ≡ values.Under target

-- `any` is any int, any long, or what is under java/lang/Object
abbrev pub NumbersAny : AllTypes → Kind → ValueNumbers → Type 0
NumbersAny types kind.Int n = n ≡ values.AnyInt
NumbersAny types kind.Long n = n ≡ values.AnyLong
NumbersAny types kind.Ref n = NumbersUnder types object_name n
NumbersAny types kind.Float n = ⊥
NumbersAny types kind.Double n = ⊥

-- the numbers of a value for a place of this kind
abbrev pub NumbersValue : AllTypes → Kind → Value → ValueNumbers → Type 0
NumbersValue types k value.Null n = n ≡ values.Null
NumbersValue types k value.Any n = NumbersAny types k n
NumbersValue types k (value.Int i) n = n ≡ values.Int i
NumbersValue types k (value.New t) n = NumbersNew types t n
NumbersValue types k (value.OneOf t) n = NumbersUnder types t n
NumbersValue types k (value.Arg a) n = n ≡ values.Arg a

-- a value that is returned
pub record NumbersReturn (types : AllTypes) (ret : Option FieldDesc) (v : Value) (n : EffectNumbers) : Type 0 where
  pub desc : FieldDesc
  pub is : ret ≡ Some desc
  pub value : ValueNumbers
  pub numbered : NumbersValue types desc.kind v value
  pub same : n ≡ effects.Returns value

pub record NumbersMake (types : AllTypes) (name : List ℕ) (n : EffectNumbers) : Type 0 where
  pub type : TypeId
  pub is : type_of types.names name ≡ Some type.0
  pub same : n ≡ effects.Makes type

pub record NumbersWrite (types : AllTypes) (f : MemberName) (v : Value) (n : EffectNumbers) : Type 0 where
  pub field : FieldId
  pub is : field_of types.classes f ≡ Some field.0
  pub value : ValueNumbers
  pub numbered : NumbersValue types (field_kind f) v value
  pub same : n ≡ effects.Writes field value

-- the numbers of an effect of a method with this result
abbrev pub NumbersEffect : AllTypes → Option FieldDesc → Effect → EffectNumbers → Type 0
NumbersEffect types ret ReturnsVoid n = n ≡ effects.ReturnsVoid
NumbersEffect types ret (Returns v) n = NumbersReturn types ret v n
NumbersEffect types ret (Makes t) n = NumbersMake types t n
NumbersEffect types ret (Writes f v) n = NumbersWrite types f v n
NumbersEffect types ret (Copies j k) n = n ≡ effects.Copies j k

abbrev pub NumbersLine : AllTypes → Option FieldDesc → EffectLine → EffectNumbers → Type 0
NumbersLine types ret e n = NumbersEffect types ret e.effect n

-- the numbers of a block
pub record NumbersBlock (types : AllTypes) (b : Block) (n : BlockNumbers) : Type 0 where
  pub method : method_of types.classes b.method ≡ Some n.method.0
  pub replace : n.replace ≡ b.replace
  pub desc : MethodDesc
  pub spelled : SpellsMethod 255 b.method.desc desc
  pub effects : AreNumbered (NumbersLine types desc.ret) b.effects n.effects

-- the numbers of a literal
pub record NumbersLiteral (types : AllTypes) (l : Literal) (n : LiteralNumbers) : Type 0 where
  pub field : field_of types.classes l.field ≡ Some n.field.0
  pub value : NumbersValue types (field_kind l.field) l.value n.value

pub record NumbersSummary (types : AllTypes) (s : Summary) (n : SummaryNumbers) : Type 0 where
  pub blocks : AreNumbered (NumbersBlock types) s.blocks n.blocks
  pub literals : AreNumbered (NumbersLiteral types) s.literals n.literals

-- the number of a static method
pub record NumbersStart (types : AllTypes) (m : MemberName) (n : RootNumbers) : Type 0 where
  pub method : MethodId
  pub is : method_of types.classes m ≡ Some method.0
  pub same : n ≡ roots.StaticCall method

-- the number of a type
pub record NumbersInst (types : AllTypes) (name : List ℕ) (n : RootNumbers) : Type 0 where
  pub type : TypeId
  pub is : type_of types.names name ≡ Some type.0
  pub same : n ≡ roots.Inst type

-- those of a class, of its type, and of its constructor without parameters
pub record NumbersMade (types : AllTypes) (name : List ℕ) (n : RootNumbers) : Type 0 where
  pub class : ClassId
  pub of_class : class_of types.classes name ≡ Some class.0
  pub made : TypeId
  pub of_type : type_of types.names name ≡ Some made.0
  pub constructor : MethodId
  pub of_constructor : method_number types.classes class.0 (codes "<init>") (codes "()V") ≡ Some constructor.0
  pub same : n ≡ roots.Make class made constructor

-- the numbers of a root
abbrev pub NumbersRoot : AllTypes → Root → RootNumbers → Type 0
NumbersRoot types (StaticCall m) n = NumbersStart types m n
NumbersRoot types (Inst t) n = NumbersInst types t n
NumbersRoot types (Make c) n = NumbersMade types c n

abbrev pub NumbersRootLine : AllTypes → RootLine → RootNumbers → Type 0
NumbersRootLine types l n = NumbersRoot types l.root n

-- what was given, each once, in whatever order
pub record AreEachOnce {X : Type 0} (given once : List X) : Type 0 where
  pub all : (x : X) → Contains given x → Contains once x
  pub only : (x : X) → Contains once x → Contains given x
  pub apart : AllPairs (λ x y. x ≢ y) once

-- the numbers of the roots of a list, each once: a root that is given twice counts once
pub record NumbersRoots (types : AllTypes) (lines : List RootLine) (ns : List RootNumbers) : Type 0 where
  pub of_lines : List RootNumbers
  pub numbered : AreNumbered (NumbersRootLine types) lines of_lines
  pub once : AreEachOnce of_lines ns

-- ---- conditions

-- the type of which a root has objects stands in the universe
abbrev pub made_stands : AllTypes → Root → Bool
made_stands types (StaticCall m) = true
made_stands types (Inst t) = is_standing types t
made_stands types (Make c) = is_standing types c

pub record RootsStand (types : AllTypes) (lines : List RootLine) : Type 0 where
  pub each : (i : ℕ) (l : RootLine) → slice_get lines i ≡ Some l → made_stands types l.root ≡ true

-- the type that a value makes stands in the universe
abbrev pub value_stands : AllTypes → Value → Bool
value_stands types value.Null = true
value_stands types value.Any = true
value_stands types (value.Int i) = true
value_stands types (value.New t) = is_standing types t
value_stands types (value.OneOf t) = true
value_stands types (value.Arg a) = true

-- so does the type that an effect makes
abbrev pub effect_stands : AllTypes → Effect → Bool
effect_stands types ReturnsVoid = true
effect_stands types (Returns v) = value_stands types v
effect_stands types (Makes t) = is_standing types t
effect_stands types (Writes f v) = value_stands types v
effect_stands types (Copies j k) = true

-- and each type that a line of a summary makes
pub record SummaryStands (types : AllTypes) (s : Summary) : Type 0 where
  pub effects : (i j : ℕ) (b : Block) (e : EffectLine) → slice_get s.blocks i ≡ Some b → slice_get b.effects j ≡ Some e → effect_stands types e.effect ≡ true
  pub literals : (i : ℕ) (l : Literal) → slice_get s.literals i ≡ Some l → value_stands types l.value ≡ true
