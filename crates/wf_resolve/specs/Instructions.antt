-- What an instruction means by what it names (JVMS 6.5): beside the rules for names those of the instruction itself.
use Rattle.std.specs.Prelude.{◌≡◌, ◌≢◌, ℕ, Bool, true, false, not, ◌&&◌, List, Some, None, Result, Ok, Err, slice_get, codes}
use Rattle.std.specs.Option.{option_map_or}
use Rattle.std.specs.Str.{bytes_eq}
use Rattle.wf_base.specs.declared.ids.ClassId.{ClassId}
use Rattle.wf_base.specs.declared.ids.FieldId.{FieldId}
use Rattle.wf_base.specs.declared.ids.MethodId.{MethodId}
use Rattle.wf_data.specs.Flags.{is_abstract, is_interface, is_static}
use Rattle.wf_data.specs.declared.class_info.ClassInfo.{ClassInfo}
use Rattle.wf_data.specs.declared.class_info.FieldInfo.{FieldInfo}
use Rattle.wf_data.specs.declared.class_info.MethodInfo.{MethodInfo}
use Rattle.wf_grammar.specs.ClassFile.{Key}
use Rattle.wf_names.specs.Names.{constructor_name}
use Rattle.wf_names.specs.declared.world.LinkError.{LinkError}
use Rattle.wf_names.specs.declared.world.LinkError.TheVariants.{NoClassDefFound, NoSuchMethod, IncompatibleClassChange, Instantiation}
use Rattle.wf_classes.specs.Own.{IsField, IsMethod}
use Rattle.wf_classes.specs.World.{class_of, number}
use Rattle.wf_resolve.specs.Resolution.{class_with, is_array_name, Field, Method, InterfaceMethod}
use Rattle.wf_resolve.specs.declared.instructions.Calling.{Calling}
use Rattle.wf_resolve.specs.declared.instructions.Calling.TheVariants.{Special, Static, Object}

-- whether a class can have objects: it is neither an interface nor abstract
abbrev pub is_plain : ClassInfo → Bool
is_plain k = not (is_interface k.flags) && not (is_abstract k.flags)

abbrev pub is_plain_at : List ClassInfo → ℕ → Bool
is_plain_at classes c = option_map_or is_plain (slice_get classes c) false

-- the class of a name, where it is loadable and can have objects
abbrev pub is_plain_class : List ClassInfo → List ℕ → Bool
is_plain_class classes name = option_map_or (is_plain_at classes) (class_of classes name) false

-- new: an object of a class (JVMS 6.5, new)
pub data New (classes : List ClassInfo) (name : List ℕ) : Result ClassId LinkError → Type 0 where
  no_class : class_with classes name ≡ None → New classes name (Err NoClassDefFound)
  of_array : (c : ℕ) → class_with classes name ≡ Some c → is_array_name name ≡ true → New classes name (Err IncompatibleClassChange)
  of_no_objects : (c : ℕ) → class_with classes name ≡ Some c → is_array_name name ≡ false → is_plain_at classes c ≡ false → New classes name (Err Instantiation)
  made : (c : ClassId) → class_with classes name ≡ Some (number c) → is_array_name name ≡ false → is_plain_at classes (number c) ≡ true → New classes name (Ok c)

-- getfield and putfield, and getstatic and putstatic, of a field that is one of objects or of a class
pub data FieldFor (classes : List ClassInfo) (static : Bool) (class : List ℕ) (key : Key) : Result FieldId LinkError → Type 0 where
  unresolved : (e : LinkError) → Field classes class key (Err e) → FieldFor classes static class key (Err e)
  other_kind : (f : FieldId) (d : ℕ) (info : FieldInfo) → Field classes class key (Ok f) → IsField classes f.0 d info → is_static info.flags ≢ static → FieldFor classes static class key (Err IncompatibleClassChange)
  resolved : (f : FieldId) (d : ℕ) (info : FieldInfo) → Field classes class key (Ok f) → IsField classes f.0 d info → is_static info.flags ≡ static → FieldFor classes static class key (Ok f)

-- a method of a class or of an interface, as the entry of the pool says
abbrev pub MethodBy : List ClassInfo → Bool → List ℕ → Key → Result MethodId LinkError → Type 0
MethodBy classes false class key r = Method classes class key r
MethodBy classes true class key r = InterfaceMethod classes class key r

-- whether a call wants a static method
abbrev pub wants_static : Calling → Bool
wants_static Static = true
wants_static Special = false
wants_static Object = false

-- whether a method of this name and class may be called so: a constructor only by invokespecial, by the name of the
-- class that declares it
abbrev pub MayCall : List ClassInfo → Calling → List ℕ → List ℕ → ℕ → Type 0
MayCall classes Special class name d = bytes_eq name constructor_name ≡ true → class_of classes class ≡ Some d
MayCall classes Static class name d = bytes_eq name constructor_name ≡ false
MayCall classes Object class name d = bytes_eq name constructor_name ≡ false

-- a call of a method
pub data MethodFor (classes : List ClassInfo) (call : Calling) (of_interface : Bool) (class : List ℕ) (key : Key) : Result MethodId LinkError → Type 0 where
  unresolved : (e : LinkError) → MethodBy classes of_interface class key (Err e) → MethodFor classes call of_interface class key (Err e)
  no_constructor : (m : MethodId) (d : ℕ) (info : MethodInfo) → MethodBy classes of_interface class key (Ok m) → IsMethod classes m.0 d info → (MayCall classes call class key.0 d → ⊥) → MethodFor classes call of_interface class key (Err NoSuchMethod)
  other_kind : (m : MethodId) (d : ℕ) (info : MethodInfo) → MethodBy classes of_interface class key (Ok m) → IsMethod classes m.0 d info → MayCall classes call class key.0 d → is_static info.flags ≢ wants_static call → MethodFor classes call of_interface class key (Err IncompatibleClassChange)
  resolved : (m : MethodId) (d : ℕ) (info : MethodInfo) → MethodBy classes of_interface class key (Ok m) → IsMethod classes m.0 d info → MayCall classes call class key.0 d → is_static info.flags ≡ wants_static call → MethodFor classes call of_interface class key (Ok m)

-- whether an ldc of a string has its class; whether one of a class has it, and what it names is loadable
abbrev pub text_links : List ClassInfo → Bool
text_links classes = is_plain_class classes (codes "java/lang/String")
