-- What places of a constant pool hold (JVMS 4.4).
use Rattle.std.specs.Prelude.{ℕ, Bool, List, Option, Some, None, is_some, option_and_then, option_map, slice_get}
use Rattle.wf_data.specs.declared.class_info.PoolEntry.{PoolEntry}
use Rattle.wf_data.specs.declared.class_info.PoolEntry.TheVariants.{Utf8, Class, Method, NameType}
use Rattle.wf_names.specs.declared.member.MemberName.{MemberName}
use Rattle.wf_names.specs.NameForm.{member_of}

abbrev pub text_in : PoolEntry → Option (List ℕ)
text_in (Utf8 text) = Some text
text_in e = None

abbrev pub class_in : PoolEntry → Option ℕ
class_in (Class name) = Some name
class_in e = None

-- the text at a place
abbrev pub text_at : List PoolEntry → ℕ → Option (List ℕ)
text_at pool i = option_and_then text_in (slice_get pool i)

-- the name of the class that a place names
abbrev pub class_at : List PoolEntry → ℕ → Option (List ℕ)
class_at pool i = option_and_then (text_at pool) (option_and_then class_in (slice_get pool i))

-- the places of a method's class and of its name with its descriptor
abbrev pub method_in : PoolEntry → Option (ℕ × ℕ)
method_in (Method class member) = Some (class, member)
method_in e = None

-- the places of a name and a descriptor
abbrev pub name_type_in : PoolEntry → Option (ℕ × ℕ)
name_type_in (NameType name desc) = Some (name, desc)
name_type_in e = None

-- a name and a descriptor with a class
abbrev pub member_with : List PoolEntry → List ℕ → ℕ × ℕ → Option MemberName
member_with pool class places = option_and_then (λ name. option_map (λ desc. member_of class name desc) (text_at pool places.1)) (text_at pool places.0)

-- the method that a class and a name with its descriptor make
abbrev pub method_with : List PoolEntry → ℕ × ℕ → Option MemberName
method_with pool places = option_and_then (λ class. option_and_then (member_with pool class) (option_and_then name_type_in (slice_get pool places.1))) (class_at pool places.0)

-- the method that a place names
abbrev pub method_at : List PoolEntry → ℕ → Option MemberName
method_at pool i = option_and_then (method_with pool) (option_and_then method_in (slice_get pool i))

-- whether a text stands at a place; whether a class does; whether a name with a descriptor does
abbrev pub has_text : List PoolEntry → ℕ → Bool
has_text pool i = is_some (text_at pool i)

abbrev pub has_class : List PoolEntry → ℕ → Bool
has_class pool i = is_some (option_and_then class_in (slice_get pool i))

abbrev pub has_name_type : List PoolEntry → ℕ → Bool
has_name_type pool i = is_some (option_and_then name_type_in (slice_get pool i))
