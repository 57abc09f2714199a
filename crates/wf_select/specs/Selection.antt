-- The method that runs (JVMS 6.5: invokevirtual, invokeinterface, invokespecial).
use Rattle.std.specs.Prelude.{◌≡◌, ℕ, true, false, List, Option, Some, None}
use Rattle.std.specs.Str.{bytes_eq}
use Rattle.wf_base.specs.declared.ids.MethodId.{MethodId}
use Rattle.wf_data.specs.Flags.{is_abstract}
use Rattle.wf_data.specs.declared.class_info.ClassInfo.{ClassInfo}
use Rattle.wf_data.specs.declared.class_info.MethodInfo.{MethodInfo}
use Rattle.wf_grammar.specs.ClassFile.{Key}
use Rattle.wf_names.specs.Names.{constructor_name}
use Rattle.wf_classes.specs.Members.{method_key, method_number}
use Rattle.wf_classes.specs.Own.{IsMethod, method_flags}
use Rattle.wf_classes.specs.World.{kind_at, superclass_of}
use Rattle.wf_resolve.specs.Inherited.{IsDefault, IsOnly, AreTwo}
use Rattle.wf_resolve.specs.Methods.{IsOfObject}
use Rattle.wf_resolve.specs.Upward.{FirstUp, Offers}
use Rattle.wf_resolve.specs.declared.upward.Wanted.TheVariants.{OfInstance}
use Rattle.wf_select.specs.Overriding.{IsSuperclass, Overrides}
use Rattle.wf_select.specs.declared.outcome.Invoke.{Invoke}
use Rattle.wf_select.specs.declared.outcome.Invoke.TheVariants.{Virtual, Interface}
use Rattle.wf_select.specs.declared.outcome.Selected.{Selected}
use Rattle.wf_select.specs.declared.outcome.Selected.TheVariants.{Method, AbstractMethod, Incompatible}

-- What is taken for class c where a search among classes ended so: the method that was found, unless it is abstract;
-- else the only maximally specific method that isn't abstract.
pub data Taken (classes : List ClassInfo) (key : Key) (c : ℕ) : Option ℕ → Selected → Type 0 where
  concrete : (d flags : ℕ) (m : MethodId) → method_flags classes key d ≡ Some flags → is_abstract flags ≡ false → method_number classes d key.0 key.1 ≡ Some m.0 → Taken classes key c (Some d) (Method m)
  abstract : (d flags : ℕ) → method_flags classes key d ≡ Some flags → is_abstract flags ≡ true → Taken classes key c (Some d) AbstractMethod
  by_default : (i : ℕ) (m : MethodId) → IsOnly (IsDefault classes key c) i → method_number classes i key.0 key.1 ≡ Some m.0 → Taken classes key c None (Method m)
  no_default : ((i : ℕ) → IsDefault classes key c i → ⊥) → Taken classes key c None AbstractMethod
  many_defaults : AreTwo (IsDefault classes key c) → Taken classes key c None Incompatible

-- the first class going up whose method runs where the method of class a is called so
abbrev pub FirstBy : List ClassInfo → Key → ℕ → Invoke → ℕ → Option ℕ → Type 0
FirstBy classes key a Virtual = FirstUp classes (λ d. Overrides classes key d a)
FirstBy classes key a Interface = FirstUp classes (Offers classes key OfInstance)

-- What runs where method m is called for an object of class t.
pub record Selects (classes : List ClassInfo) (t m : ℕ) (by : Invoke) (result : Selected) : Type 0 where
  pub class : ℕ
  pub info : MethodInfo
  pub is : IsMethod classes m class info
  pub first : Option ℕ
  pub search : FirstBy classes (method_key info) class by t first
  pub taken : Taken classes (method_key info) t first result

-- Where invokespecial of a method that class `named` has starts in a method of class `current`.
pub data StartsAt (classes : List ClassInfo) (name : List ℕ) (current named : ℕ) : ℕ → Type 0 where
  above_current : (s : ℕ) → bytes_eq name constructor_name ≡ false → kind_at classes named ≡ Some false → IsSuperclass classes current named → superclass_of classes current ≡ Some s → StartsAt classes name current named s
  of_constructor : bytes_eq name constructor_name ≡ true → StartsAt classes name current named named
  of_interface : kind_at classes named ≡ Some true → StartsAt classes name current named named
  of_no_superclass : (IsSuperclass classes current named → ⊥) → StartsAt classes name current named named

-- the first method that invokespecial finds from class c on: in an interface its own, or a public one of
-- java/lang/Object
pub data FirstSpecial (classes : List ClassInfo) (key : Key) (c : ℕ) : Option ℕ → Type 0 where
  of_class : (r : Option ℕ) → kind_at classes c ≡ Some false → FirstUp classes (Offers classes key OfInstance) c r → FirstSpecial classes key c r
  own : kind_at classes c ≡ Some true → Offers classes key OfInstance c → FirstSpecial classes key c (Some c)
  by_object : (o : ℕ) → kind_at classes c ≡ Some true → (Offers classes key OfInstance c → ⊥) → IsOfObject classes key o → FirstSpecial classes key c (Some o)
  nothing : kind_at classes c ≡ Some true → (Offers classes key OfInstance c → ⊥) → ((o : ℕ) → IsOfObject classes key o → ⊥) → FirstSpecial classes key c None

-- What runs where method m is called by invokespecial in class `current`, by the name of class `named`.
pub record Special (classes : List ClassInfo) (current named m : ℕ) (result : Selected) : Type 0 where
  pub class : ℕ
  pub info : MethodInfo
  pub is : IsMethod classes m class info
  pub start : ℕ
  pub starts : StartsAt classes info.name current named start
  pub first : Option ℕ
  pub search : FirstSpecial classes (method_key info) start first
  pub taken : Taken classes (method_key info) start first result
