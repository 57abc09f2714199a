-- The first form of classes: those that the analysis is built for so far (this project's own). It asks
-- nothing of constants that no instruction names, and nothing of attributes that are passed over.
use Rattle.std.specs.Prelude.{ℕ, ◌+◌, Bool, true, false, not, ◌&&◌, ◌||◌, List, [], ◌∷◌, Option, Some, None, ◌==◌, nat_le, nat_lt, nat_eq, length, is_some, codes, if◌then◌else◌}
use Rattle.std.specs.List.{list_all, starts_with}
use Rattle.std.specs.Str.{bytes_eq}
use Rattle.wf_data.specs.declared.class_info.ClassInfo.{ClassInfo}
use Rattle.wf_data.specs.declared.class_info.CodeInfo.{CodeInfo}
use Rattle.wf_data.specs.declared.class_info.MethodInfo.{MethodInfo}
use Rattle.wf_data.specs.declared.class_info.PoolEntry.{PoolEntry}
use Rattle.wf_names.specs.declared.member.MemberName.{MemberName}
use Rattle.wf_data.specs.Flags.{is_static, is_interface}
use Rattle.wf_data.specs.Pool.{method_at}
use Rattle.wf_names.specs.Names.{object_name, constructor_name, initializer_name}
use Rattle.wf_first.specs.declared.code.Operation.{Operation}
use Rattle.wf_first.specs.declared.code.Operation.TheVariants.{IntConstant, InvokeStatic, IntReturn, Return}
use Rattle.wf_first.specs.declared.code.Placed.{Placed}
use Rattle.wf_first.specs.Code.{operations}

-- a class of which no method is refused by its name
abbrev pub is_ordinary : List ℕ → Bool
is_ordinary name =
    not (bytes_eq name (codes "java/lang/Class")) && not (bytes_eq name (codes "java/lang/Thread"))
    && not (starts_with nat_eq name (codes "java/lang/reflect/")) && not (starts_with nat_eq name (codes "java/lang/invoke/"))

-- A static method is neither a constructor nor an initializer. Every other method is the constructor
-- without arguments, with a local for the object.
abbrev pub is_kind_of_form : MethodInfo → CodeInfo → Bool
is_kind_of_form m code =
    if is_static m.flags then not (bytes_eq m.name constructor_name) && not (bytes_eq m.name initializer_name)
    else bytes_eq m.name constructor_name && bytes_eq m.desc (codes "()V") && nat_le 1 code.max_locals

-- ---- paths through a code: it has no jumps, so there is one, up to the first return

-- A call takes no argument, and leaves nothing or one int, for which there has to be room.
abbrev pub is_call_of_form : ℕ → ℕ → Option MemberName → Bool
is_call_of_form room depth None = false
is_call_of_form room depth (Some callee) = bytes_eq callee.desc (codes "()V") || bytes_eq callee.desc (codes "()I") && nat_lt depth room

-- An instruction that is reached with so many ints on the stack, in a method with this descriptor: there is
-- room for what it pushes, there is what it needs, and a return is of the method's kind.
abbrev pub is_step_of_form : List PoolEntry → List ℕ → ℕ → ℕ → Operation → Bool
is_step_of_form pool desc room depth (IntConstant c) = nat_lt depth room
is_step_of_form pool desc room depth (InvokeStatic place) = is_call_of_form room depth (method_at pool place)
is_step_of_form pool desc room depth IntReturn = bytes_eq desc (codes "()I") && nat_lt 0 depth
is_step_of_form pool desc room depth Return = bytes_eq desc (codes "()V")

-- how many ints a call leaves
abbrev pub pushed_by : Option MemberName → ℕ
pushed_by None = 0
pushed_by (Some callee) = if bytes_eq callee.desc (codes "()V") then 0 else 1

-- how many ints are on the stack behind an instruction, where the path goes on
abbrev pub depth_after : List PoolEntry → ℕ → Operation → Option ℕ
depth_after pool depth (IntConstant c) = Some (depth + 1)
depth_after pool depth (InvokeStatic place) = Some (depth + pushed_by (method_at pool place))
depth_after pool depth IntReturn = None
depth_after pool depth Return = None

-- an instruction that no path reaches
abbrev pub is_rest_of_form : List PoolEntry → Operation → Bool
is_rest_of_form pool (IntConstant c) = true
is_rest_of_form pool (InvokeStatic place) = is_some (method_at pool place)
is_rest_of_form pool IntReturn = true
is_rest_of_form pool Return = true

-- The instructions from a place on, which is reached with so many ints on the stack, or not at all. The path
-- never comes to the end of the code.
abbrev pub are_of_form : List PoolEntry → List ℕ → ℕ → Option ℕ → List Placed → Bool
are_of_form pool desc room None [] = true
are_of_form pool desc room None (o ∷ os) = is_rest_of_form pool o.operation && are_of_form pool desc room None os
are_of_form pool desc room (Some depth) [] = false
are_of_form pool desc room (Some depth) (o ∷ os) = is_step_of_form pool desc room depth o.operation && are_of_form pool desc room (depth_after pool depth o.operation) os

-- what bytes that are instructions are
abbrev pub are_found_of_form : List PoolEntry → List ℕ → ℕ → Option (List Placed) → Bool
are_found_of_form pool desc room None = false
are_found_of_form pool desc room (Some os) = are_of_form pool desc room (Some 0) os

-- code with no handlers, whose instructions are of the form
abbrev pub is_code_of_form : List PoolEntry → List ℕ → CodeInfo → Bool
is_code_of_form pool desc code = length code.table == 0 && are_found_of_form pool desc code.max_stack (operations code.code)

abbrev pub has_code_of_form : List PoolEntry → MethodInfo → Option CodeInfo → Bool
has_code_of_form pool m None = false
has_code_of_form pool m (Some code) = is_kind_of_form m code && is_code_of_form pool m.desc code

abbrev pub is_method_of_form : List PoolEntry → MethodInfo → Bool
is_method_of_form pool m = has_code_of_form pool m m.code

-- no superclass, or java/lang/Object
abbrev pub is_super_of_form : Option (List ℕ) → Bool
is_super_of_form None = true
is_super_of_form (Some name) = bytes_eq name object_name

-- A class, no interface, with no interfaces and no fields, below java/lang/Object or that class itself.
abbrev pub is_class_of_form : ClassInfo → Bool
is_class_of_form class =
    not (is_interface class.flags) && length class.interfaces == 0 && length class.fields == 0 && is_super_of_form class.superclass && is_ordinary class.name

abbrev pub is_first_form : ClassInfo → Bool
is_first_form class = is_class_of_form class && list_all (is_method_of_form class.pool) class.methods
