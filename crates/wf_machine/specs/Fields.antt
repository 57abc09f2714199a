-- Instructions on fields (JVMS 6.5, getfield, putfield, getstatic, putstatic). A static field's class is initialized first
-- (JVMS 5.5).
use Rattle.std.specs.Prelude.{◌≡◌, true, Some, None, Ok, Err}
use Rattle.wf_base.specs.declared.ids.ClassId.{ClassId}
use Rattle.wf_base.specs.declared.ids.FieldId.{FieldId}
use Rattle.wf_base.specs.declared.kind.Kind.{Kind}
use Rattle.wf_names.specs.declared.world.LinkError.{LinkError}
use Rattle.wf_operation.specs.Effects.{width_of}
use Rattle.wf_rows.specs.Errors.{throwable_of}
use Rattle.wf_rows.specs.declared.action.FieldUse.{FieldUse}
use Rattle.wf_rows.specs.declared.action.FieldUse.TheVariants.{GetStatic, PutStatic, Get, Put}
use Rattle.wf_rows.specs.declared.action.StaticField.{StaticField}
use Rattle.wf_rows.specs.declared.throwable.Throwable.TheVariants as throwable
use Rattle.wf_machine.specs.Values.{Object, Value, Null, Ref}
use Rattle.wf_machine.specs.Memory.{Fresh, Erroneous, is_ready, with_field, with_static}
use Rattle.wf_machine.specs.At.{At, Outcome, Requests, Throws, Ends, operand, value, gives, goes_on}

-- A class that an instruction needs isn't ready: its initialization is requested, or it failed before (JVMS 5.5, step 5).
pub data Waits (k : At) (c : ClassId) : Outcome → Type 0 where
  requests : k.memory.classes c ≡ Fresh → Waits k c (Requests c)
  failed : k.memory.classes c ≡ Erroneous → Waits k c (Throws throwable.NoClassDefFound)

abbrev pub IsReady : At → ClassId → Type 0
IsReady k c = is_ready (k.memory.classes c) ≡ true

pub data UsesField (k : At) : FieldUse → Outcome → Type 0 where
  -- getstatic
  get_static_unlinked : (e : LinkError) → UsesField k (GetStatic (Err e)) (Throws (throwable_of e))
  get_static_waits : (f : StaticField) (out : Outcome) → Waits k f.class out → UsesField k (GetStatic (Ok f)) out
  get_static : (f : StaticField) (v : Value) → IsReady k f.class → k.memory.statics f.field ≡ Some v → UsesField k (GetStatic (Ok f)) (gives k v)
  -- putstatic
  put_static_unlinked : (e : LinkError) (kind : Kind) → UsesField k (PutStatic (Err e) kind) (Throws (throwable_of e))
  put_static_waits : (f : StaticField) (kind : Kind) (out : Outcome) → Waits k f.class out → UsesField k (PutStatic (Ok f) kind) out
  put_static : (f : StaticField) (kind : Kind) → IsReady k f.class → UsesField k (PutStatic (Ok f) kind) (goes_on k (with_static k.memory f.field (value k kind)))
  -- getfield; an object that hasn't the field ends the execution
  get_unlinked : (e : LinkError) → UsesField k (Get (Err e)) (Throws (throwable_of e))
  get_of_null : (f : FieldId) → operand k 0 ≡ Null → UsesField k (Get (Ok f)) (Throws throwable.NullPointer)
  get : (f : FieldId) (o : Object) (v : Value) → operand k 0 ≡ Ref o → k.memory.fields o f ≡ Some v → UsesField k (Get (Ok f)) (gives k v)
  get_elsewhere : (f : FieldId) (o : Object) → operand k 0 ≡ Ref o → k.memory.fields o f ≡ None → UsesField k (Get (Ok f)) Ends
  -- putfield: the object stands below the value
  put_unlinked : (e : LinkError) (kind : Kind) → UsesField k (Put (Err e) kind) (Throws (throwable_of e))
  put_of_null : (f : FieldId) (kind : Kind) → operand k (width_of kind) ≡ Null → UsesField k (Put (Ok f) kind) (Throws throwable.NullPointer)
  put : (f : FieldId) (kind : Kind) (o : Object) (old : Value) → operand k (width_of kind) ≡ Ref o → k.memory.fields o f ≡ Some old → UsesField k (Put (Ok f) kind) (goes_on k (with_field k.memory o f (value k kind)))
  put_elsewhere : (f : FieldId) (kind : Kind) (o : Object) → operand k (width_of kind) ≡ Ref o → k.memory.fields o f ≡ None → UsesField k (Put (Ok f) kind) Ends
