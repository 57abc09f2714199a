-- Writing a class file from left to right: for each piece of the grammar the function that puts its bytes
-- behind others, or None where no bytes spell it. Each class has one such spelling: its own pool, the
-- attributes that are kept and no others, the least place that serves for each name, and the minor version 0.
use Rattle.std.specs.Prelude.{ℕ, ◌+◌, ◌*◌, ◌^◌, ℤ, Bool, true, false, not, ◌&&◌, ◌||◌, List, [], ◌∷◌, ◌++◌, Option, Some, None, ◌==◌, nat_lt, nat_le, length, position, codes, option_and_then, if◌then◌else◌}
use Rattle.std.specs.Int.{Width, w8, w16, w32, w64, byte_len, to_be_bytes, cast_signed, cast_unsigned}
use Rattle.std.specs.List.{list_all, list_any}
use Rattle.std.specs.Option.{option_map_or}
use Rattle.std.specs.Ordering.{int_eq}
use Rattle.std.specs.Str.{bytes_eq}
use Rattle.wf_data.specs.declared.class_info.ClassInfo.{ClassInfo}
use Rattle.wf_data.specs.declared.class_info.CodeInfo.{CodeInfo}
use Rattle.wf_data.specs.declared.class_info.FieldInfo.{FieldInfo}
use Rattle.wf_data.specs.declared.class_info.Handler.{Handler}
use Rattle.wf_data.specs.declared.class_info.MethodInfo.{MethodInfo}
use Rattle.wf_data.specs.declared.class_info.PoolEntry.{PoolEntry}
use Rattle.wf_data.specs.declared.class_info.PoolEntry.TheVariants.{Unusable, Utf8, Integer, Float, Long, Double, Class, Str, Field, Method, InterfaceMethod, NameType, Handle, MethodKind, Dynamic}
use Rattle.wf_descriptor.specs.Descriptors.{is_field_descriptor, is_method_descriptor}
use Rattle.wf_names.specs.Names.{object_name, is_class_name, is_field_name, is_method_name}
use Rattle.wf_grammar.specs.ClassFile.{Spells, is_text_byte, is_sound, has_constant_of, parameter_slots, Key, is_key}
use Rattle.wf_data.specs.Pool.{text_in, class_in, text_at}
use Rattle.wf_data.specs.Flags.{is_static, is_native_or_abstract, is_interface}

-- some bytes spell the class
pub record HasSpelling (class : ClassInfo) : Type 0 where
  pub bytes : List ℕ
  pub spelled : Spells bytes class

-- what is written behind the bytes that are there
abbrev pub Writer : Type 0
Writer = List ℕ → Option (List ℕ)

infixl 10 ◌>>=◌
abbrev pub ◌>>=◌ : {A B : Type 0} → Option A → (A → Option B) → Option B
(Some x) >>= f = f x
None >>= f = None

-- a test that has to hold
abbrev pub asked : Bool → Option (Unit {0})
asked true = Some tt
asked false = None

-- bytes, as they stand
abbrev pub put : List ℕ → Writer
put bytes out = Some (out ++ bytes)

-- a number of a width, where it has room
unfoldable pub put_number : Width → ℕ → Writer
put_number w n out = if nat_lt n (256 ^ byte_len w) then Some (out ++ to_be_bytes w n) else None

-- a signed number of a width, where it has room
unfoldable pub put_signed : Width → ℤ → Writer
put_signed w n out = do
  fits ← asked (int_eq (cast_signed w (cast_unsigned w n)) n)
  put_number w (cast_unsigned w n) out

-- a place of the pool, where there is one
unfoldable pub put_place : Option ℕ → Writer
put_place place out = do
  i ← place
  put_number w16 i out

-- whether a constant is this text; whether it is a class of this name
abbrev pub is_text : List ℕ → PoolEntry → Bool
is_text text e = option_map_or (bytes_eq text) (text_in e) false

abbrev pub is_class : List PoolEntry → List ℕ → PoolEntry → Bool
is_class pool name e = option_map_or (bytes_eq name) (option_and_then (text_at pool) (class_in e)) false

-- the least place at which a text stands, and a class
abbrev pub text_place : List PoolEntry → List ℕ → Option ℕ
text_place pool text = position (is_text text) pool

abbrev pub class_place : List PoolEntry → List ℕ → Option ℕ
class_place pool name = position (is_class pool name) pool

-- ---- the constant pool (JVMS 4.4)

unfoldable pub put_text : List ℕ → Writer
put_text text out = do
  fine ← asked (list_all is_text_byte text)
  sized ← put_number w16 (length text) out
  put text sized

unfoldable pub put_two_places : ℕ → ℕ → Writer
put_two_places first second out = do
  one ← put_number w16 first out
  put_number w16 second one

unfoldable pub put_handle : ℕ → ℕ → Writer
put_handle kind member out = do
  one ← put_number w8 kind out
  put_number w16 member one

-- the tag of a constant (JVMS table 4.4-A)
abbrev pub tag_of : PoolEntry → ℕ
tag_of Unusable = 0
tag_of (Utf8 text) = 1
tag_of (Integer n) = 3
tag_of (Float bits) = 4
tag_of (Long n) = 5
tag_of (Double bits) = 6
tag_of (Class name) = 7
tag_of (Str text) = 8
tag_of (Field class member) = 9
tag_of (Method class member) = 10
tag_of (InterfaceMethod class member) = 11
tag_of (NameType name desc) = 12
tag_of (Handle kind member) = 15
tag_of (MethodKind desc) = 16
tag_of (Dynamic bootstrap member) = 18

-- what follows the tag; an unusable place is written by the constant before it alone
unfoldable pub put_behind_tag : PoolEntry → Writer
put_behind_tag Unusable out = None
put_behind_tag (Utf8 text) out = put_text text out
put_behind_tag (Integer n) out = put_signed w32 n out
put_behind_tag (Float bits) out = put_number w32 bits out
put_behind_tag (Long n) out = put_signed w64 n out
put_behind_tag (Double bits) out = put_number w64 bits out
put_behind_tag (Class name) out = put_number w16 name out
put_behind_tag (Str text) out = put_number w16 text out
put_behind_tag (Field class member) out = put_two_places class member out
put_behind_tag (Method class member) out = put_two_places class member out
put_behind_tag (InterfaceMethod class member) out = put_two_places class member out
put_behind_tag (NameType name desc) out = put_two_places name desc out
put_behind_tag (Handle kind member) out = put_handle kind member out
put_behind_tag (MethodKind desc) out = put_number w16 desc out
put_behind_tag (Dynamic bootstrap member) out = put_two_places bootstrap member out

unfoldable pub put_entry : PoolEntry → Writer
put_entry e out = do
  tagged ← put_number w8 (tag_of e) out
  put_behind_tag e tagged

abbrev pub is_wide : PoolEntry → Bool
is_wide (Long n) = true
is_wide (Double bits) = true
is_wide e = false

abbrev pub is_unusable : PoolEntry → Bool
is_unusable Unusable = true
is_unusable e = false

-- one place, by whether the constant before it takes this place too
unfoldable pub put_pool_place : Bool → PoolEntry → Writer
put_pool_place second e out = if second then (asked (is_unusable e) >>= λ fine. Some out) else put_entry e out

-- the places from some place on, of which the first may belong to the constant before them
unfoldable pub put_places : Bool → List PoolEntry → Writer
put_places second [] out = asked (not second) >>= λ fine. Some out
put_places second (e ∷ es) out = put_pool_place second e out >>= λ one. put_places (not second && is_wide e) es one

unfoldable pub put_entries : List PoolEntry → List PoolEntry → Writer
put_entries pool entries out = do
  sound ← asked (list_all (is_sound pool) entries)
  counted ← put_number w16 (length pool) out
  put_places false entries counted

-- the pool, whose place 0 is unusable
unfoldable pub put_pool : List PoolEntry → Writer
put_pool [] out = None
put_pool (e ∷ entries) out = asked (is_unusable e) >>= λ fine. put_entries (e ∷ entries) entries out

-- ---- fields (JVMS 4.5)

-- the attributes of a field: a ConstantValue, or none (JVMS 4.7.2)
unfoldable pub put_constant : List PoolEntry → FieldInfo → ℕ → Writer
put_constant pool f i out = do
  fits ← asked (is_static f.flags && has_constant_of pool f.desc i)
  counted ← put_number w16 1 out
  named ← put_place (text_place pool (codes "ConstantValue")) counted
  sized ← put_number w32 2 named
  put_number w16 i sized

unfoldable pub put_field_attributes : List PoolEntry → FieldInfo → Option ℕ → Writer
put_field_attributes pool f None out = put_number w16 0 out
put_field_attributes pool f (Some i) out = put_constant pool f i out

-- the flags, the name and the descriptor of a member, whose key none before it has
unfoldable pub put_member : List PoolEntry → List Key → ℕ → List ℕ → List ℕ → Writer
put_member pool met flags name desc out = do
  once ← asked (not (list_any (is_key name desc) met))
  flagged ← put_number w16 flags out
  named ← put_place (text_place pool name) flagged
  put_place (text_place pool desc) named

unfoldable pub put_field : List PoolEntry → List Key → FieldInfo → Writer
put_field pool met f out = do
  fine ← asked (is_field_name f.name && is_field_descriptor f.desc)
  headed ← put_member pool met f.flags f.name f.desc out
  put_field_attributes pool f f.constant headed

unfoldable pub put_fields : List PoolEntry → List Key → List FieldInfo → Writer
put_fields pool met [] out = Some out
put_fields pool met (f ∷ fs) out = put_field pool met f out >>= λ one. put_fields pool (met ++ (f.name, f.desc) ∷ []) fs one

-- ---- methods (JVMS 4.6)

unfoldable pub put_handler : Handler → Writer
put_handler h out = do
  start ← put_number w16 h.start out
  end ← put_number w16 h.end start
  target ← put_number w16 h.target end
  put_number w16 h.catch_class target

unfoldable pub put_handlers : List Handler → Writer
put_handlers [] out = Some out
put_handlers (h ∷ hs) out = put_handler h out >>= λ one. put_handlers hs one

-- the inside of a Code attribute (JVMS 4.7.3)
unfoldable pub put_code : CodeInfo → Writer
put_code c out = do
  fits ← asked (not (length c.code == 0) && nat_lt (length c.code) 65536)
  stack ← put_number w16 c.max_stack out
  locals ← put_number w16 c.max_locals stack
  sized ← put_number w32 (length c.code) locals
  code ← put c.code sized
  counted ← put_number w16 (length c.table) code
  table ← put_handlers c.table counted
  put_number w16 0 table

-- how many bytes the inside of a Code attribute has
abbrev pub code_size : CodeInfo → ℕ
code_size c = 12 + length c.code + 8 * length c.table

-- a Code attribute with its count
unfoldable pub put_code_attribute : List PoolEntry → CodeInfo → Writer
put_code_attribute pool c out = do
  counted ← put_number w16 1 out
  named ← put_place (text_place pool (codes "Code")) counted
  sized ← put_number w32 (code_size c) named
  put_code c sized

-- the attributes of a method: a Code, or none in a native or abstract one
unfoldable pub put_method_attributes : List PoolEntry → Bool → Option CodeInfo → Writer
put_method_attributes pool without None out = asked without >>= λ fine. put_number w16 0 out
put_method_attributes pool without (Some c) out = asked (not without) >>= λ fine. put_code_attribute pool c out

unfoldable pub put_method : List PoolEntry → List Key → MethodInfo → Writer
put_method pool met m out = do
  fine ← asked (is_method_name m.name && is_method_descriptor (parameter_slots m.flags) m.desc)
  headed ← put_member pool met m.flags m.name m.desc out
  put_method_attributes pool (is_native_or_abstract m.flags) m.code headed

unfoldable pub put_methods : List PoolEntry → List Key → List MethodInfo → Writer
put_methods pool met [] out = Some out
put_methods pool met (m ∷ ms) out = put_method pool met m out >>= λ one. put_methods pool (met ++ (m.name, m.desc) ∷ []) ms one

-- ---- the class (JVMS 4.1)

-- the superclass: none in java/lang/Object alone, and java/lang/Object in every interface
unfoldable pub put_superclass : ClassInfo → Option (List ℕ) → Writer
put_superclass c None out = asked (bytes_eq c.name object_name && not (is_interface c.flags)) >>= λ fine. put_number w16 0 out
put_superclass c (Some super) out = asked (not (bytes_eq c.name object_name) && (not (is_interface c.flags) || bytes_eq super object_name)) >>= λ fine. put_place (class_place c.pool super) out

unfoldable pub put_interfaces : List PoolEntry → List (List ℕ) → Writer
put_interfaces pool [] out = Some out
put_interfaces pool (name ∷ names) out = put_place (class_place pool name) out >>= λ one. put_interfaces pool names one

-- the class and what it stands below
unfoldable pub put_classes : ClassInfo → Writer
put_classes c out = do
  fine ← asked (is_class_name c.name)
  flagged ← put_number w16 c.flags out
  named ← put_place (class_place c.pool c.name) flagged
  super ← put_superclass c c.superclass named
  counted ← put_number w16 (length c.interfaces) super
  put_interfaces c.pool c.interfaces counted

-- the fields and the methods
unfoldable pub put_members : ClassInfo → Writer
put_members c out = do
  counted ← put_number w16 (length c.fields) out
  fields ← put_fields c.pool [] c.fields counted
  more ← put_number w16 (length c.methods) fields
  methods ← put_methods c.pool [] c.methods more
  put_number w16 0 methods

unfoldable pub put_class : ClassInfo → Writer
put_class c out = do
  fine ← asked (nat_le 45 c.major && nat_le c.major 52)
  magic ← put_number w32 0xCAFEBABE out
  minor ← put_number w16 0 magic
  major ← put_number w16 c.major minor
  pool ← put_pool c.pool major
  classes ← put_classes c pool
  put_members c classes

-- the canonical spelling of a class
abbrev pub spelling : ClassInfo → Option (List ℕ)
spelling c = put_class c []
