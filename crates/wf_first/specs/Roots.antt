-- What a program has beside the form of its classes: java/lang/Object, a root, and no more than the limits.
use Rattle.std.specs.Prelude.{ℕ, ◌+◌, Bool, not, ◌&&◌, List, [], ◌∷◌, ◌++◌, Option, Some, None, nat_lt, nat_eq, length, take, ◌-◌, codes, count_by, if◌then◌else◌}
use Rattle.std.specs.List.{ends_with, list_any}
use Rattle.std.specs.Str.{bytes_eq}
use Rattle.wf_data.specs.declared.class_info.ClassInfo.{ClassInfo}
use Rattle.wf_data.specs.declared.class_info.MethodInfo.{MethodInfo}
use Rattle.wf_names.specs.declared.member.MemberName.{MemberName}
use Rattle.wf_data.specs.Flags.{has_flag, is_static}
use Rattle.wf_names.specs.NameForm.{member_text}
use Rattle.wf_names.specs.Names.{object_name}
use Rattle.wf_sys.specs.Names.{method_name}
use Rattle.wf_first.specs.declared.limits.TheConstants.{MAX_TYPES, MAX_METHODS, MAX_NODES}
use Rattle.wf_first.specs.Nodes.{nodes_of}

-- whether java/lang/Object is among the classes
abbrev pub has_object : List ClassInfo → Bool
has_object classes = list_any (λ (class : ClassInfo). bytes_eq class.name object_name) classes

-- ---- the root

-- the file's one line, without its end
abbrev pub only_line : List ℕ → List ℕ
only_line bytes =
    if ends_with nat_eq bytes (13 ∷ 10 ∷ []) then take (length bytes - 2) bytes else (if ends_with nat_eq bytes (10 ∷ []) then take (length bytes - 1) bytes else bytes)

-- the line that makes a static method a root
abbrev pub root_line : MemberName → List ℕ
root_line method = codes "static " ++ member_text method

-- the static method of a class that the line names
abbrev pub root_among : ClassInfo → List MethodInfo → List ℕ → Option MemberName
root_among class [] line = None
root_among class (m ∷ methods) line =
    if is_static m.flags && bytes_eq line (root_line (method_name class m)) then Some (method_name class m) else root_among class methods line

-- the same among classes
abbrev pub first_of : Option MemberName → Option MemberName → Option MemberName
first_of None other = other
first_of (Some root) other = Some root

abbrev pub root_in : List ClassInfo → List ℕ → Option MemberName
root_in [] line = None
root_in (class ∷ classes) line = first_of (root_among class class.methods line) (root_in classes line)

-- ---- limits of the program

-- a class of which objects can be made
abbrev pub is_concrete : ClassInfo → Bool
is_concrete class = not (has_flag class.flags 0x0400)

-- how many methods the classes have together
abbrev pub methods_in : List ClassInfo → ℕ
methods_in [] = 0
methods_in (class ∷ classes) = length class.methods + methods_in classes

-- No limit of a program is passed. In this form the fields are none, and the value words are no more than
-- the nodes, which have the lower limit.
abbrev pub is_within_limits : List ClassInfo → Bool
is_within_limits classes =
    not (nat_lt MAX_TYPES (count_by is_concrete classes)) && not (nat_lt MAX_METHODS (methods_in classes)) && not (nat_lt MAX_NODES (length (nodes_of classes)))
