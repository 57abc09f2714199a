-- What an instruction resolves to, or the one error with which its place fails to link (JVMS 5.4.3, 6.5).
use Rattle.std.specs.Prelude.{◌≡◌, ℕ, ◌<◌, Bool, true, false, List, length, Option, Some, None, Result, Ok, Err, codes}
use Rattle.wf_base.specs.declared.ids.ClassId.{ClassId}
use Rattle.wf_base.specs.declared.ids.FieldId.{FieldId}
use Rattle.wf_base.specs.declared.ids.MethodId.{MethodId}
use Rattle.wf_data.specs.declared.class_info.ClassInfo.{ClassInfo}
use Rattle.wf_data.specs.declared.class_info.FieldInfo.{FieldInfo}
use Rattle.wf_data.specs.declared.class_info.MethodInfo.{MethodInfo}
use Rattle.wf_data.specs.declared.class_info.PoolEntry.{PoolEntry}
use Rattle.wf_data.specs.declared.instr.Instr.{Instr}
use Rattle.wf_names.specs.declared.member.MemberName.{MemberName}
use Rattle.wf_names.specs.declared.world.LinkError.{LinkError}
use Rattle.wf_names.specs.declared.world.LinkError.TheVariants.{NoClassDefFound}
use Rattle.wf_classes.specs.Members.{field_keys, method_keys, member_count}
use Rattle.wf_classes.specs.Own.{IsField, IsMethod}
use Rattle.wf_classes.specs.World.{class_of, number}
use Rattle.wf_resolve.specs.Instructions.{is_plain_at, is_plain_class, text_links, New, FieldFor, MethodFor}
use Rattle.wf_resolve.specs.Resolution.{class_with}
use Rattle.wf_resolve.specs.declared.instructions.Calling.{Calling}
use Rattle.wf_linking.specs.Symbolic.{Symbolic, StringConstant, ClassConstant, NewObject, TypeName, FieldName, MethodName, symbolic_of}
use Rattle.wf_linking.specs.declared.linked.Linked.{Linked}
use Rattle.wf_linking.specs.declared.linked.Linked.TheVariants as linked

-- the classes of the objects that ldc gives
abbrev pub string_class : List ℕ
string_class = codes "java/lang/String"

abbrev pub class_class : List ℕ
class_class = codes "java/lang/Class"

-- the class of a name, where it can have objects
pub record IsPlainClassOf (classes : List ClassInfo) (name : List ℕ) (c : ClassId) : Type 0 where
  pub there : class_of classes name ≡ Some (number c)
  pub plain : is_plain_at classes (number c) ≡ true

abbrev pub FoundPlain : List ClassInfo → List ℕ → Option ClassId → Type 0
FoundPlain classes name (Some c) = IsPlainClassOf classes name c
FoundPlain classes name None = is_plain_class classes name ≡ false

-- the classes and members that it names are among those that are there
abbrev pub IsAmongClasses : List ClassInfo → Linked → Type 0
IsAmongClasses classes (linked.Object c) = c.0 < length classes
IsAmongClasses classes (linked.Type c) = c.0 < length classes
IsAmongClasses classes (linked.Field f) = (f.class.0 < length classes) × (f.field.0 < member_count (field_keys classes))
IsAmongClasses classes (linked.Method m) = (m.named.0 < length classes) × (m.class.0 < length classes) × (m.method.0 < member_count (method_keys classes))

-- What a symbolic reference resolves to:
-- a string: java/lang/String, where it can have objects (this project's own rule);
-- a class or an array as an object: java/lang/Class, where it can have objects (this project's own rule) and the class or
-- the array is loadable;
-- a new object: its class, by the rules of new;
-- a class or an array: the class whose members it has, where it is loadable;
-- a field: with the class that declares it, by the rules of instructions on fields;
-- a method: with the class that declares it, and the class whose members what is named has, by the rules of calls.
pub data Links (classes : List ClassInfo) : Symbolic → Result Linked LinkError → Type 0 where
  string : (c : ClassId) → IsPlainClassOf classes string_class c → Links classes StringConstant (Ok (linked.Object c))
  no_string : text_links classes ≡ false → Links classes StringConstant (Err NoClassDefFound)
  class : (name : List ℕ) (c : ClassId) (d : ℕ) → IsPlainClassOf classes class_class c → class_with classes name ≡ Some d → Links classes (ClassConstant name) (Ok (linked.Object c))
  no_class_class : (name : List ℕ) → is_plain_class classes class_class ≡ false → Links classes (ClassConstant name) (Err NoClassDefFound)
  no_class : (name : List ℕ) → class_with classes name ≡ None → Links classes (ClassConstant name) (Err NoClassDefFound)
  object : (name : List ℕ) (c : ClassId) → New classes name (Ok c) → Links classes (NewObject name) (Ok (linked.Object c))
  no_object : (name : List ℕ) (e : LinkError) → New classes name (Err e) → Links classes (NewObject name) (Err e)
  type : (name : List ℕ) (c : ClassId) → class_with classes name ≡ Some (number c) → Links classes (TypeName name) (Ok (linked.Type c))
  no_type : (name : List ℕ) → class_with classes name ≡ None → Links classes (TypeName name) (Err NoClassDefFound)
  field : (of_class : Bool) (m : MemberName) (f : FieldId) (d : ClassId) (info : FieldInfo) → FieldFor classes of_class m.class (m.name, m.desc) (Ok f) → IsField classes f.0 (number d) info → Links classes (FieldName of_class m) (Ok (linked.Field (record { class = d; field = f })))
  no_field : (of_class : Bool) (m : MemberName) (e : LinkError) → FieldFor classes of_class m.class (m.name, m.desc) (Err e) → Links classes (FieldName of_class m) (Err e)
  method : (how : Calling) (of_interface : Bool) (m : MemberName) (n : MethodId) (c d : ClassId) (info : MethodInfo) → MethodFor classes how of_interface m.class (m.name, m.desc) (Ok n) → class_with classes m.class ≡ Some (number c) → IsMethod classes n.0 (number d) info → Links classes (MethodName how of_interface m) (Ok (linked.Method (record { named = c; class = d; method = n })))
  no_method : (how : Calling) (of_interface : Bool) (m : MemberName) (e : LinkError) → MethodFor classes how of_interface m.class (m.name, m.desc) (Err e) → Links classes (MethodName how of_interface m) (Err e)

abbrev pub LinksIfAny : List ClassInfo → Option Symbolic → Option (Result Linked LinkError) → Type 0
LinksIfAny classes None r = r ≡ None
LinksIfAny classes (Some s) None = ⊥
LinksIfAny classes (Some s) (Some r) = Links classes s r

-- What an instruction resolves to, where its class has this constant pool: None where it names nothing that is resolved.
abbrev pub Resolves : List ClassInfo → List PoolEntry → Instr → Option (Result Linked LinkError) → Type 0
Resolves classes pool i r = LinksIfAny classes (symbolic_of pool i) r
