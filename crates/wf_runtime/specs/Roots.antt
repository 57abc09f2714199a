-- Roots as the machine starts them, and the executions of a run (this project's own).
use Rattle.std.specs.Prelude.{◌≡◌, ℕ, true, List, [], ◌∷◌, ◌++◌, Option, Some, None}
use Rattle.std.specs.List.{AllZip}
use Rattle.wf_base.specs.declared.ids.ClassId.{ClassId}
use Rattle.wf_base.specs.declared.ids.MethodId.{MethodId}
use Rattle.wf_base.specs.declared.ids.TypeId.{TypeId}
use Rattle.wf_base.specs.declared.kind.Kind.TheVariants as kind
use Rattle.wf_data.specs.declared.class_info.MethodInfo.{MethodInfo}
use Rattle.wf_descriptor.specs.declared.descriptor.FieldDesc.{FieldDesc}
use Rattle.wf_descriptor.specs.declared.descriptor.MethodDesc.{MethodDesc}
use Rattle.wf_descriptor.specs.Descriptors.{SpellsMethod}
use Rattle.wf_classes.specs.Own.{IsMethod}
use Rattle.wf_classes.specs.World.{number}
use Rattle.wf_subtype.specs.declared.reference.Inner.TheVariants.{Class}
use Rattle.wf_subtype.specs.declared.reference.Reference.{Reference}
use Rattle.wf_subtype.specs.Subtypes.{AllTypes, IsSubtype, IsTargetFound}
use Rattle.wf_binding.specs.declared.numbers.RootNumbers.{RootNumbers}
use Rattle.wf_binding.specs.declared.numbers.RootNumbers.TheVariants.{StaticCall, Inst, Make}
use Rattle.wf_rows.specs.declared.roots.RootParameter.{RootParameter}
use Rattle.wf_rows.specs.declared.roots.RootParameter.TheVariants as parameter
use Rattle.wf_rows.specs.declared.roots.RootUse.{RootUse}
use Rattle.wf_rows.specs.declared.roots.RootUse.TheVariants.{Calls, Has, Makes}
use Rattle.wf_machine.specs.World.{World}
use Rattle.wf_machine.specs.Frames.{State}
use Rattle.wf_machine.specs.Executions.{Exec}
use Rattle.wf_runtime.specs.Runtime.{IsWorldOf}
use Rattle.wf_runtime.specs.Summaries.{Run}
use Rattle.wf_runtime.specs.Types.{reference_of, has_dimensions}

-- the types of which roots have objects
abbrev pub types_of_roots : List RootNumbers → List TypeId
types_of_roots [] = []
types_of_roots (StaticCall m ∷ roots) = types_of_roots roots
types_of_roots (Inst t ∷ roots) = t ∷ types_of_roots roots
types_of_roots (Make c t m ∷ roots) = types_of_roots roots

-- the class or array that a descriptor names (JVMS 4.3.2)
pub data NamesType : List ℕ → List ℕ → Type 0 where
  class : (name : List ℕ) → NamesType (76 ∷ (name ++ 59 ∷ [])) name
  array : (text : List ℕ) → NamesType (91 ∷ text) (91 ∷ text)

-- a type is under what has this number, if anything has
abbrev pub IsUnderIfAny : AllTypes → Option ℕ → TypeId → Type 0
IsUnderIfAny types (Some u) t = IsSubtype types t.0 u
IsUnderIfAny types None t = ⊥

-- those of some types that are under it, in their order
pub data AreUnder (types : AllTypes) (u : Option ℕ) : List TypeId → List TypeId → Type 0 where
  none : AreUnder types u [] []
  under : (t : TypeId) (ts us : List TypeId) → IsUnderIfAny types u t → AreUnder types u ts us → AreUnder types u (t ∷ ts) (t ∷ us)
  elsewhere : (t : TypeId) (ts us : List TypeId) → (IsUnderIfAny types u t → ⊥) → AreUnder types u ts us → AreUnder types u (t ∷ ts) us

-- What a root gives a parameter: any int or long; null, or an object of a type that roots have under the declared type.
pub data IsParameter (types : AllTypes) (given : List TypeId) (d : FieldDesc) : RootParameter → Type 0 where
  int : d.kind ≡ kind.Int → IsParameter types given d parameter.Int
  long : d.kind ≡ kind.Long → IsParameter types given d parameter.Long
  reference : (name : List ℕ) (u : Option ℕ) (ts : List TypeId) → d.kind ≡ kind.Ref → NamesType d.text name → IsTargetFound types name u → AreUnder types u given ts → IsParameter types given d (parameter.Ref ts)

-- the class of a type, where it isn't an array
pub data IsClassOf (types : AllTypes) (t : TypeId) : Option ClassId → Type 0 where
  class : (r : Reference) (c : ClassId) → reference_of types t ≡ Some r → r.inner ≡ Class c → r.dims ≡ 0 → IsClassOf types t (Some c)
  array : (r : Reference) → reference_of types t ≡ Some r → has_dimensions r ≡ true → IsClassOf types t None

-- what a root does, where roots have objects of these types
pub data IsUse (types : AllTypes) (given : List TypeId) : RootNumbers → RootUse → Type 0 where
  calls : (m : MethodId) (c : ClassId) (info : MethodInfo) (desc : MethodDesc) (ps : List RootParameter) → IsMethod types.classes m.0 (number c) info → SpellsMethod 255 info.desc desc → AllZip (IsParameter types given) desc.params ps → IsUse types given (StaticCall m) (Calls c m ps)
  has : (t : TypeId) (c : Option ClassId) → IsClassOf types t c → IsUse types given (Inst t) (Has t c)
  makes : (c : ClassId) (t : TypeId) (m : MethodId) → IsUse types given (Make c t m) (Makes c t m)

abbrev pub AreUses : AllTypes → List RootNumbers → List RootUse → Type 0
AreUses types roots uses = AllZip (IsUse types (types_of_roots roots)) roots uses

-- The states of an execution of a run with these roots, the last first.
pub record IsExecution (p : Run) (roots : List RootNumbers) (states : List State) : Type 0 where
  pub world : World
  pub is_world : IsWorldOf p world
  pub uses : List RootUse
  pub are_uses : AreUses p.types roots uses
  pub exec : Exec world uses states
