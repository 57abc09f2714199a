-- What an instruction names in the constant pool of its class, where that has to be resolved (JVMS 5.1, 6.5).
use Rattle.std.specs.Prelude.{ℕ, Bool, true, false, List, Option, Some, None, option_and_then, option_map, slice_get}
use Rattle.wf_data.specs.Pool.{class_at, text_at, method_with}
use Rattle.wf_data.specs.declared.class_info.PoolEntry.{PoolEntry}
use Rattle.wf_data.specs.declared.class_info.PoolEntry.TheVariants as entry
use Rattle.wf_data.specs.declared.instr.Instr.{Instr}
use Rattle.wf_names.specs.Members.{named_by}
use Rattle.wf_names.specs.declared.member.MemberName.{MemberName}
use Rattle.wf_opcode.specs.Instructions.{place_of}
use Rattle.wf_operation.specs.Sorts.{sort_of}
use Rattle.wf_operation.specs.declared.sort.Call.{Call}
use Rattle.wf_operation.specs.declared.sort.Call.TheVariants as call
use Rattle.wf_operation.specs.declared.sort.Sort.{Sort}
use Rattle.wf_operation.specs.declared.sort.Sort.TheVariants as sort
use Rattle.wf_resolve.specs.declared.instructions.Calling.{Calling}
use Rattle.wf_resolve.specs.declared.instructions.Calling.TheVariants as calling
use Rattle.wf_linking.specs.declared.symbolic.SymbolicRef.{SymbolicRef}
use Rattle.wf_linking.specs.declared.symbolic.SymbolicRef.TheVariants as borrowed

-- a symbolic reference, by the instruction that has it as its operand
pub data Symbolic : Type 0 where
  -- a string, of ldc
  StringConstant : Symbolic
  -- a class or an array as an object, of ldc
  ClassConstant : (name : List ℕ) → Symbolic
  -- the class of a new object, of new
  NewObject : (name : List ℕ) → Symbolic
  -- a class or an array: of checkcast, instanceof, anewarray and multianewarray
  TypeName : (name : List ℕ) → Symbolic
  -- a field of a class, of getstatic and putstatic, or of objects, of getfield and putfield
  FieldName : (of_class : Bool) (member : MemberName) → Symbolic
  -- a method of a class or of an interface, as the tag of the entry says, and how it is called
  MethodName : (how : Calling) (of_interface : Bool) (member : MemberName) → Symbolic

-- what the borrowed names make
abbrev pub symbolic_by : SymbolicRef → Symbolic
symbolic_by borrowed.StringConstant = StringConstant
symbolic_by (borrowed.ClassConstant name) = ClassConstant name.now
symbolic_by (borrowed.NewObject name) = NewObject name.now
symbolic_by (borrowed.TypeName name) = TypeName name.now
symbolic_by (borrowed.FieldName of_class member) = FieldName of_class (named_by member)
symbolic_by (borrowed.MethodName how of_interface member) = MethodName how of_interface (named_by member)

-- ldc: a string, or a class by the place of its name; numbers name nothing
abbrev pub constant_named : List PoolEntry → PoolEntry → Option Symbolic
constant_named pool (entry.Str text) = Some StringConstant
constant_named pool (entry.Class name) = option_map ClassConstant (text_at pool name)
constant_named pool e = None

-- the four instructions on fields
abbrev pub field_named : List PoolEntry → Bool → PoolEntry → Option Symbolic
field_named pool of_class (entry.Field class name_type) = option_map (FieldName of_class) (method_with pool (class, name_type))
field_named pool of_class e = None

-- Calls. The tag of the entry says whether a class or an interface has to be named, and invokespecial and invokestatic take
-- either (JVMS 6.5, invokespecial).
abbrev pub method_named : List PoolEntry → Call → PoolEntry → Option Symbolic
method_named pool call.Virtual (entry.Method class name_type) = option_map (MethodName calling.Object false) (method_with pool (class, name_type))
method_named pool call.Special (entry.Method class name_type) = option_map (MethodName calling.Special false) (method_with pool (class, name_type))
method_named pool call.Static (entry.Method class name_type) = option_map (MethodName calling.Static false) (method_with pool (class, name_type))
method_named pool call.Special (entry.InterfaceMethod class name_type) = option_map (MethodName calling.Special true) (method_with pool (class, name_type))
method_named pool call.Static (entry.InterfaceMethod class name_type) = option_map (MethodName calling.Static true) (method_with pool (class, name_type))
method_named pool call.Interface (entry.InterfaceMethod class name_type) = option_map (MethodName calling.Object true) (method_with pool (class, name_type))
method_named pool c e = None

-- what an instruction of a sort names by a place of the pool
abbrev pub symbolic_at : List PoolEntry → ℕ → Sort → Option Symbolic
symbolic_at pool place sort.PoolConstant = option_and_then (constant_named pool) (slice_get pool place)
symbolic_at pool place sort.New = option_map NewObject (class_at pool place)
symbolic_at pool place sort.Cast = option_map TypeName (class_at pool place)
symbolic_at pool place sort.InstanceOf = option_map TypeName (class_at pool place)
symbolic_at pool place sort.NewRefArray = option_map TypeName (class_at pool place)
symbolic_at pool place sort.NewManyArray = option_map TypeName (class_at pool place)
symbolic_at pool place sort.GetStatic = option_and_then (field_named pool true) (slice_get pool place)
symbolic_at pool place sort.PutStatic = option_and_then (field_named pool true) (slice_get pool place)
symbolic_at pool place sort.GetField = option_and_then (field_named pool false) (slice_get pool place)
symbolic_at pool place sort.PutField = option_and_then (field_named pool false) (slice_get pool place)
symbolic_at pool place (sort.Invoke c) = option_and_then (method_named pool c) (slice_get pool place)
symbolic_at pool place other = None

-- what an instruction names
abbrev pub symbolic_of : List PoolEntry → Instr → Option Symbolic
symbolic_of pool i = option_and_then (λ s. option_and_then (λ place. symbolic_at pool place s) (place_of i.a)) (sort_of i.op)
