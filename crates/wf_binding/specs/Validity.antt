-- Which lines of a summary and of a list of roots are valid in closed classes, and what is wrong with one that isn't (this
-- project's own rule).
use Rattle.std.specs.Prelude.{◌≡◌, ℕ, ◌<◌, ◌≤◌, ◌==◌, Bool, true, false, not, ◌&&◌, ◌||◌, List, [], take, slice_get, Option, Some, None, option_map, option_and_then, codes, nat_lt, if◌then◌else◌}
use Rattle.std.specs.List.{list_any, list_all}
use Rattle.std.specs.Option.{option_map_or, is_none}
use Rattle.std.specs.Str.{bytes_eq}
use Rattle.wf_base.specs.declared.kind.Kind.{Kind}
use Rattle.wf_base.specs.declared.kind.Kind.TheVariants as kind
use Rattle.wf_classes.specs.Own.{method_flags}
use Rattle.wf_classes.specs.World.{class_of}
use Rattle.wf_data.specs.Flags.{is_static, is_native, is_abstract}
use Rattle.wf_data.specs.declared.class_info.ClassInfo.{ClassInfo}
use Rattle.wf_descriptor.specs.Descriptors.{SpellsMethod}
use Rattle.wf_descriptor.specs.declared.descriptor.FieldDesc.{FieldDesc}
use Rattle.wf_descriptor.specs.declared.descriptor.MethodDesc.{MethodDesc}
use Rattle.wf_inputs.specs.declared.fault.InputFault.{InputFault}
use Rattle.wf_inputs.specs.declared.fault.InputFault.TheVariants as fault
use Rattle.wf_inputs.specs.declared.roots.RootLine.{RootLine}
use Rattle.wf_inputs.specs.declared.roots.Roots.{Roots}
use Rattle.wf_inputs.specs.declared.summary.Block.{Block}
use Rattle.wf_inputs.specs.declared.summary.Effect.{Effect}
use Rattle.wf_inputs.specs.declared.summary.Effect.TheVariants.{ReturnsVoid, Returns, Makes, Writes, Copies}
use Rattle.wf_inputs.specs.declared.summary.EffectLine.{EffectLine}
use Rattle.wf_inputs.specs.declared.summary.Literal.{Literal}
use Rattle.wf_inputs.specs.declared.summary.Summary.{Summary}
use Rattle.wf_inputs.specs.declared.summary.Value.{Value}
use Rattle.wf_inputs.specs.declared.summary.Value.TheVariants as value
use Rattle.wf_names.specs.declared.input.InputWhy.{InputWhy}
use Rattle.wf_names.specs.declared.input.InputWhy.TheVariants as why
use Rattle.wf_names.specs.declared.member.MemberName.{MemberName}
use Rattle.wf_names.specs.declared.root.Root.{Root}
use Rattle.wf_names.specs.declared.root.Root.TheVariants.{StaticCall, Inst, Make}
use Rattle.wf_binding.specs.Named.{method_of, field_of, flags_of_method, flags_of_field, field_kind, argument_kinds, is_type, can_be_made}

-- ---- the first bad line

-- one of many is bad
pub record Somewhere (Bad : ℕ → ℕ → InputWhy → Type 0) (line : ℕ) (w : InputWhy) : Type 0 where
  pub place : ℕ
  pub bad : Bad place line w

-- the first bad line, and what is wrong with it
pub record IsFirstBad (Bad : ℕ → InputWhy → Type 0) (line : ℕ) (w : InputWhy) : Type 0 where
  pub bad : Bad line w
  pub first : (other : ℕ) (v : InputWhy) → Bad other v → line ≤ other

-- no line is bad
pub record HasNoBad (Bad : ℕ → InputWhy → Type 0) : Type 0 where
  pub none : (line : ℕ) (w : InputWhy) → Bad line w → ⊥

-- a fault tells the first bad line, unless memory ran out
abbrev pub Tells : (ℕ → InputWhy → Type 0) → InputFault → Type 0
Tells Bad (fault.Bad line w) = IsFirstBad Bad line w
Tells Bad (fault.TooMany limit most) = ⊥
Tells Bad fault.NoMemory = Unit {0}

-- what is named isn't there, or is of the wrong kind: the first counts
abbrev pub word_of : Bool → Bool → Option InputWhy
word_of there right = if there then (if right then None else Some why.Kind) else Some why.Absent

-- ---- values

abbrev pub is_int : Kind → Bool
is_int kind.Int = true
is_int kind.Long = false
is_int kind.Ref = false
is_int kind.Float = false
is_int kind.Double = false

abbrev pub is_long : Kind → Bool
is_long kind.Int = false
is_long kind.Long = true
is_long kind.Ref = false
is_long kind.Float = false
is_long kind.Double = false

abbrev pub is_ref : Kind → Bool
is_ref kind.Int = false
is_ref kind.Long = false
is_ref kind.Ref = true
is_ref kind.Float = false
is_ref kind.Double = false

-- what is of this kind is followed: floats and doubles are not
abbrev pub is_followed : Kind → Bool
is_followed kind.Int = true
is_followed kind.Long = true
is_followed kind.Ref = true
is_followed kind.Float = false
is_followed kind.Double = false

-- both are of one kind, which is followed
abbrev pub is_same : Kind → Kind → Bool
is_same kind.Int k = is_int k
is_same kind.Long k = is_long k
is_same kind.Ref k = is_ref k
is_same kind.Float k = false
is_same kind.Double k = false

-- there is such an argument, and it is of this kind
abbrev pub is_argument : List Kind → ℕ → Kind → Bool
is_argument args n k = option_map_or (is_same k) (slice_get args n) false

-- a place of this kind may get the value
abbrev pub value_fits : List ClassInfo → List Kind → Kind → Value → Bool
value_fits classes args k value.Null = is_ref k
value_fits classes args k value.Any = is_followed k
value_fits classes args k (value.Int i) = is_int k
value_fits classes args k (value.New t) = is_ref k && can_be_made classes t
value_fits classes args k (value.OneOf t) = is_ref k
value_fits classes args k (value.Arg n) = is_argument args n k

-- the type that a value names is there
abbrev pub value_there : List ClassInfo → Value → Bool
value_there classes value.Null = true
value_there classes value.Any = true
value_there classes (value.Int i) = true
value_there classes (value.New t) = is_type classes t
value_there classes (value.OneOf t) = is_type classes t
value_there classes (value.Arg n) = true

-- ---- effects

-- a method gives no value, or one that fits what its descriptor returns
abbrev pub return_fits : List ClassInfo → List Kind → Option FieldDesc → Value → Bool
return_fits classes args ret v = option_map_or (λ (d : FieldDesc). value_fits classes args d.kind v) ret false

-- what is wrong with an effect of a method with these arguments and this result
abbrev pub effect_word : List ClassInfo → List Kind → Option FieldDesc → Effect → Option InputWhy
effect_word classes args ret ReturnsVoid = word_of true (is_none ret)
effect_word classes args ret (Returns v) = word_of (value_there classes v) (return_fits classes args ret v)
effect_word classes args ret (Makes t) = word_of (is_type classes t) (can_be_made classes t)
effect_word classes args ret (Writes f v) = word_of (not (is_none (field_of classes f)) && value_there classes v) (value_fits classes args (field_kind f) v)
effect_word classes args ret (Copies j k) = word_of true (is_argument args j kind.Ref && is_argument args k kind.Ref)

-- the effect at a place is bad
pub record IsBadEffect (classes : List ClassInfo) (args : List Kind) (ret : Option FieldDesc) (effects : List EffectLine) (place line : ℕ) (w : InputWhy) : Type 0 where
  pub effect : EffectLine
  pub there : slice_get effects place ≡ Some effect
  pub at : effect.line ≡ line
  pub is : effect_word classes args ret effect.effect ≡ Some w

-- ---- blocks

-- a block stands for the body of a method, or its method is native
abbrev pub is_of_block : Bool → ℕ → Bool
is_of_block replace flags = if replace then not (is_native flags) && not (is_abstract flags) else is_native flags

-- an earlier block is of the same method
abbrev pub is_second : List ClassInfo → List Block → ℕ → Bool
is_second classes earlier m = list_any (λ (b : Block). option_map_or (λ n. n == m) (method_of classes b.method) false) earlier

-- what is wrong with the line that begins a block of a method with these flags, of which there may have been a block
abbrev pub method_word : Bool → ℕ → Bool → Option InputWhy
method_word replace flags second = if is_of_block replace flags then (if second then Some why.Twice else None) else Some why.Kind

abbrev pub opening_word : List ClassInfo → List Block → Block → Option InputWhy
opening_word classes earlier b =
    option_map_or (λ m. option_and_then (λ flags. method_word b.replace flags (is_second classes earlier m)) (flags_of_method classes b.method)) (method_of classes b.method) (Some why.Absent)

-- the line that begins a block is bad
pub record IsBadOpening (classes : List ClassInfo) (earlier : List Block) (b : Block) (line : ℕ) (w : InputWhy) : Type 0 where
  pub at : b.line ≡ line
  pub is : opening_word classes earlier b ≡ Some w

-- an effect in a block of a method that is there is bad
pub record IsBadInside (classes : List ClassInfo) (b : Block) (line : ℕ) (w : InputWhy) : Type 0 where
  pub flags : ℕ
  pub desc : MethodDesc
  pub there : flags_of_method classes b.method ≡ Some flags
  pub spelled : SpellsMethod 255 b.method.desc desc
  pub bad : Somewhere (IsBadEffect classes (argument_kinds flags desc.params) desc.ret b.effects) line w

-- a line of a block is bad
pub data IsBadInBlock (classes : List ClassInfo) (earlier : List Block) (b : Block) (line : ℕ) (w : InputWhy) : Type 0 where
  opening : IsBadOpening classes earlier b line w → IsBadInBlock classes earlier b line w
  inside : IsBadInside classes b line w → IsBadInBlock classes earlier b line w

-- the same of the block at a place
pub record IsBadBlock (classes : List ClassInfo) (blocks : List Block) (place line : ℕ) (w : InputWhy) : Type 0 where
  pub block : Block
  pub there : slice_get blocks place ≡ Some block
  pub bad : IsBadInBlock classes (take place blocks) block line w

-- ---- literals

-- the classes of literals
abbrev pub has_literals : List ℕ → Bool
has_literals name = bytes_eq name (codes "java/lang/String") || bytes_eq name (codes "java/lang/Class")

-- the field is there, and is no static field
abbrev pub is_of_instances : List ClassInfo → Literal → Bool
is_of_instances classes l = option_map_or (λ flags. not (is_static flags)) (flags_of_field classes l.field) false

-- an instance field of such a class, and a value that fits and isn't an argument
abbrev pub literal_fits : List ClassInfo → Literal → Bool
literal_fits classes l = has_literals l.field.class && is_of_instances classes l && value_fits classes [] (field_kind l.field) l.value

abbrev pub literal_word : List ClassInfo → Literal → Option InputWhy
literal_word classes l = word_of (not (is_none (field_of classes l.field)) && value_there classes l.value) (literal_fits classes l)

pub record IsBadLiteral (classes : List ClassInfo) (literals : List Literal) (place line : ℕ) (w : InputWhy) : Type 0 where
  pub literal : Literal
  pub there : slice_get literals place ≡ Some literal
  pub at : literal.line ≡ line
  pub is : literal_word classes literal ≡ Some w

-- ---- summaries

-- a line of a summary is bad
pub data IsBadLine (classes : List ClassInfo) (summary : Summary) (line : ℕ) (w : InputWhy) : Type 0 where
  of_block : Somewhere (IsBadBlock classes summary.blocks) line w → IsBadLine classes summary line w
  of_literal : Somewhere (IsBadLiteral classes summary.literals) line w → IsBadLine classes summary line w

-- ---- roots

-- a method with these flags and this descriptor can be a root: it is static, and its parameters are followed
pub record CanStart (flags : ℕ) (desc : List ℕ) : Type 0 where
  pub static : is_static flags ≡ true
  pub parsed : MethodDesc
  pub spelled : SpellsMethod 255 desc parsed
  pub followed : list_all (λ (p : FieldDesc). is_followed p.kind) parsed.params ≡ true

-- the flags of the constructor without parameters (JVMS 2.9)
abbrev pub constructor_flags : List ClassInfo → List ℕ → Option ℕ
constructor_flags classes name = option_and_then (method_flags classes (codes "<init>", codes "()V")) (class_of classes name)

-- it is there, and is neither static nor abstract
abbrev pub has_constructor : List ClassInfo → List ℕ → Bool
has_constructor classes name = option_map_or (λ flags. not (is_static flags) && not (is_abstract flags)) (constructor_flags classes name) false

-- an object of the class can be made by that constructor
abbrev pub can_be_constructed : List ClassInfo → List ℕ → Bool
can_be_constructed classes name = has_constructor classes name && can_be_made classes name

-- a static method is no root: it isn't there, or it can't be one
pub data IsBadStart (classes : List ClassInfo) (m : MemberName) (w : InputWhy) : Type 0 where
  absent : w ≡ why.Absent → method_of classes m ≡ None → IsBadStart classes m w
  of_kind : (flags : ℕ) → w ≡ why.Kind → flags_of_method classes m ≡ Some flags → (CanStart flags m.desc → ⊥) → IsBadStart classes m w

-- what is wrong with a root
abbrev pub IsBadRoot : List ClassInfo → Root → InputWhy → Type 0
IsBadRoot classes (StaticCall m) w = IsBadStart classes m w
IsBadRoot classes (Inst t) w = word_of (is_type classes t) (can_be_made classes t) ≡ Some w
IsBadRoot classes (Make c) w = word_of (is_type classes c) (can_be_constructed classes c) ≡ Some w

-- the root at a place is bad
pub record IsBadRootLine (classes : List ClassInfo) (lines : List RootLine) (place line : ℕ) (w : InputWhy) : Type 0 where
  pub root : RootLine
  pub there : slice_get lines place ≡ Some root
  pub at : root.line ≡ line
  pub is : IsBadRoot classes root.root w
