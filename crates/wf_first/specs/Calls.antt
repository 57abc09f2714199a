-- Whether each call names a static method that the named class itself declares.
use Rattle.std.specs.Prelude.{Bool, true, false, List, [], ◌∷◌, ◌++◌, Option, Some, None, if◌then◌else◌}
use Rattle.std.specs.List.{list_any, list_all}
use Rattle.wf_data.specs.declared.class_info.ClassInfo.{ClassInfo}
use Rattle.wf_data.specs.declared.class_info.CodeInfo.{CodeInfo}
use Rattle.wf_data.specs.declared.class_info.MethodInfo.{MethodInfo}
use Rattle.wf_data.specs.declared.class_info.PoolEntry.{PoolEntry}
use Rattle.wf_names.specs.declared.member.MemberName.{MemberName}
use Rattle.wf_data.specs.Flags.{is_static}
use Rattle.wf_data.specs.Pool.{method_at}
use Rattle.wf_names.specs.Members.{same_member}
use Rattle.wf_first.specs.declared.code.Operation.TheVariants.{IntConstant, InvokeStatic, IntReturn, Return}
use Rattle.wf_first.specs.declared.code.Placed.{Placed}
use Rattle.wf_first.specs.Code.{operations}
use Rattle.wf_sys.specs.Names.{method_name}

-- the static methods of a class, and of the classes
abbrev pub statics_in : ClassInfo → List MethodInfo → List MemberName
statics_in class [] = []
statics_in class (m ∷ methods) = if is_static m.flags then method_name class m ∷ statics_in class methods else statics_in class methods

abbrev pub statics_of : List ClassInfo → List MemberName
statics_of [] = []
statics_of (class ∷ classes) = statics_in class class.methods ++ statics_of classes

abbrev pub has_member : List MemberName → MemberName → Bool
has_member names name = list_any (same_member name) names

-- The call of an instruction, if it has one, names one of the methods, whether a path reaches it or not.
abbrev pub is_known : List MemberName → Option MemberName → Bool
is_known statics None = false
is_known statics (Some callee) = has_member statics callee

abbrev pub calls_known : List MemberName → List PoolEntry → Placed → Bool
calls_known statics pool o = elim o.operation [
  | IntConstant c ↦ true
  | InvokeStatic place ↦ is_known statics (method_at pool place)
  | IntReturn ↦ true
  | Return ↦ true
]

abbrev pub found_call_known : List MemberName → List PoolEntry → Option (List Placed) → Bool
found_call_known statics pool None = true
found_call_known statics pool (Some os) = list_all (calls_known statics pool) os

abbrev pub code_calls_known : List MemberName → List PoolEntry → Option CodeInfo → Bool
code_calls_known statics pool None = true
code_calls_known statics pool (Some code) = found_call_known statics pool (operations code.code)

abbrev pub class_calls_known : List MemberName → ClassInfo → Bool
class_calls_known statics class = list_all (λ (m : MethodInfo). code_calls_known statics class.pool m.code) class.methods

abbrev pub calls_are_known : List ClassInfo → Bool
calls_are_known classes = list_all (class_calls_known (statics_of classes)) classes
