-- Which bytes spell a class (JVMS 4.1 to 4.7), item by item.
use Rattle.std.specs.Prelude.{◌≡◌, ℕ, suc, ◌-◌, Bool, true, false, not, ◌&&◌, ◌||◌, List, [], ◌∷◌, ◌++◌, Option, Some, None, ◌==◌, nat_lt, nat_le, is_some, option_and_then, option_map, slice_get, codes, bit_and, if◌then◌else◌}
use Rattle.std.specs.Int.{w32, w64, cast_signed}
use Rattle.std.specs.List.{list_all, list_any, filter_map}
use Rattle.std.specs.Str.{bytes_eq}
use Rattle.wf_data.specs.declared.class_info.ClassInfo.{ClassInfo}
use Rattle.wf_data.specs.declared.class_info.CodeInfo.{CodeInfo}
use Rattle.wf_data.specs.declared.class_info.FieldInfo.{FieldInfo}
use Rattle.wf_data.specs.declared.class_info.Handler.{Handler}
use Rattle.wf_data.specs.declared.class_info.MethodInfo.{MethodInfo}
use Rattle.wf_data.specs.declared.class_info.PoolEntry.{PoolEntry}
use Rattle.wf_data.specs.declared.class_info.PoolEntry.TheVariants.{Unusable, Utf8, Integer, Float, Long, Double, Class, Str, Field, Method, InterfaceMethod, NameType, Handle, MethodKind, Dynamic}
use Rattle.wf_data.specs.Flags.{is_static, is_native_or_abstract, is_interface}
use Rattle.wf_data.specs.Pool.{text_at, class_at, has_text, has_class, has_name_type}
use Rattle.wf_descriptor.specs.Descriptors.{IsFieldDescriptor, IsMethodDescriptor}
use Rattle.wf_bytes.specs.Grammar.{U1, U2, U4, U8, Run, Is, Then, Where, That, Given, Choice, Inside, Counted, ManyOn, CountedOn, Never}
use Rattle.wf_names.specs.declared.member.MemberName.{MemberName}
use Rattle.wf_names.specs.NameForm.{member_of}
use Rattle.wf_names.specs.Names.{object_name, is_class_name, is_field_name, is_method_name}

-- ---- the constant pool (JVMS 4.4)

-- a byte that may stand in a constant text: none is 0 or above 0xEF
abbrev pub is_text_byte : ℕ → Bool
is_text_byte b = not (b == 0) && nat_lt b 0xF0

-- a text of n bytes (JVMS 4.4.7)
abbrev pub TextOf : ℕ → List ℕ → List ℕ → Type 0
TextOf n = Then (Run n) (λ text. Where (list_all is_text_byte text) (Is text))

-- two places of the pool
abbrev pub TwoPlaces : (ℕ → ℕ → PoolEntry) → List ℕ → PoolEntry → Type 0
TwoPlaces entry = Then U2 (λ first. Then U2 (λ second. Is (entry first second)))

-- what follows the tag of a constant that takes one place (JVMS table 4.4-A)
abbrev pub NarrowAs : ℕ → List ℕ → PoolEntry → Type 0
NarrowAs tag =
    Choice (tag == 1) (Then U2 (λ n. Then (TextOf n) (λ text. Is (Utf8 text)))) (
    Choice (tag == 3) (Then U4 (λ n. Is (Integer (cast_signed w32 n)))) (
    Choice (tag == 4) (Then U4 (λ bits. Is (Float bits))) (
    Choice (tag == 7) (Then U2 (λ name. Is (Class name))) (
    Choice (tag == 8) (Then U2 (λ text. Is (Str text))) (
    Choice (tag == 9) (TwoPlaces Field) (
    Choice (tag == 10) (TwoPlaces Method) (
    Choice (tag == 11) (TwoPlaces InterfaceMethod) (
    Choice (tag == 12) (TwoPlaces NameType) (
    Choice (tag == 15) (Then U1 (λ kind. Then U2 (λ member. Is (Handle kind member)))) (
    Choice (tag == 16) (Then U2 (λ desc. Is (MethodKind desc))) (
    Choice (tag == 18) (TwoPlaces Dynamic) Never)))))))))))

-- the same of one that takes two places (JVMS 4.4.5)
abbrev pub WideAs : ℕ → List ℕ → PoolEntry → Type 0
WideAs tag =
    Choice (tag == 5) (Then U8 (λ n. Is (Long (cast_signed w64 n)))) (
    Choice (tag == 6) (Then U8 (λ bits. Is (Double bits))) Never)

-- constants that take n places; the second place of a wide one is unusable
pub data Entries : ℕ → List ℕ → List PoolEntry → Type 0 where
  no_more : Entries 0 [] []
  narrow : (n : ℕ) (first rest : List ℕ) (e : PoolEntry) (es : List PoolEntry) → Then U1 NarrowAs first e → Entries n rest es → Entries (suc n) (first ++ rest) (e ∷ es)
  wide : (n : ℕ) (first rest : List ℕ) (e : PoolEntry) (es : List PoolEntry) → Then U1 WideAs first e → Entries n rest es → Entries (suc (suc n)) (first ++ rest) (e ∷ Unusable ∷ es)

-- whether a constant's own places are of the sorts that it needs (JVMS 4.4.1 to 4.4.6)
abbrev pub is_sound : List PoolEntry → PoolEntry → Bool
is_sound pool Unusable = true
is_sound pool (Utf8 text) = true
is_sound pool (Integer n) = true
is_sound pool (Float bits) = true
is_sound pool (Long n) = true
is_sound pool (Double bits) = true
is_sound pool (Class name) = has_text pool name
is_sound pool (Str text) = has_text pool text
is_sound pool (Field class member) = has_class pool class && has_name_type pool member
is_sound pool (Method class member) = has_class pool class && has_name_type pool member
is_sound pool (InterfaceMethod class member) = has_class pool class && has_name_type pool member
is_sound pool (NameType name desc) = has_text pool name && has_text pool desc
is_sound pool (Handle kind member) = true
is_sound pool (MethodKind desc) = true
is_sound pool (Dynamic bootstrap member) = true

-- The pool (JVMS 4.4): a count, which is not 0, and the constants of the places from 1 on, each of them sound.
abbrev pub PoolIs : List ℕ → List PoolEntry → Type 0
PoolIs =
    Then U2 (λ count. Where (not (count == 0)) (
    Then (Entries (count - 1)) (λ entries. Where (list_all (is_sound (Unusable ∷ entries)) entries) (Is (Unusable ∷ entries)))))

-- ---- attributes (JVMS 4.7)

-- An attribute that is passed over: of its name only that it is a text counts.
abbrev pub Skipped : List PoolEntry → Unit {0} → List ℕ → Unit {0} → Type 0
Skipped pool u = Then U2 (λ n. Given (text_at pool n) (λ name. Then U4 (λ size. Then (Run size) (λ inside. Is tt))))

-- ---- fields (JVMS 4.5)

-- a member's name and descriptor, of which a class has each once
abbrev pub Key : Type 0
Key = List ℕ × List ℕ

abbrev pub is_key : List ℕ → List ℕ → Key → Bool
is_key name desc key = bytes_eq name key.0 && bytes_eq desc key.1

-- the types whose values are ints
abbrev pub is_int_type : List ℕ → Bool
is_int_type desc = bytes_eq desc (codes "B") || bytes_eq desc (codes "C") || bytes_eq desc (codes "I") || bytes_eq desc (codes "S") || bytes_eq desc (codes "Z")

-- whether a field of this type may have this constant (JVMS table 4.7.2-A)
abbrev pub is_constant_of : List ℕ → PoolEntry → Bool
is_constant_of desc (Integer n) = is_int_type desc
is_constant_of desc (Long n) = bytes_eq desc (codes "J")
is_constant_of desc (Float bits) = bytes_eq desc (codes "F")
is_constant_of desc (Double bits) = bytes_eq desc (codes "D")
is_constant_of desc (Str text) = bytes_eq desc (codes "Ljava/lang/String;")
is_constant_of desc e = false

abbrev pub has_constant_of : List PoolEntry → List ℕ → ℕ → Bool
has_constant_of pool desc i = is_some (option_and_then (λ e. if is_constant_of desc e then Some e else None) (slice_get pool i))

-- the constant of a field that has none yet (JVMS 4.7.2)
abbrev pub ConstantIs : List PoolEntry → List ℕ → Option ℕ → List ℕ → Option ℕ → Type 0
ConstantIs pool desc constant = Where (not (is_some constant)) (Then U4 (λ size. Where (size == 2) (Then U2 (λ i. Where (has_constant_of pool desc i) (Is (Some i))))))

-- An attribute of a field behind those that left this constant: a ConstantValue of a static field is looked
-- at, and every other attribute is passed over.
abbrev pub FieldAttribute : List PoolEntry → Bool → List ℕ → Option ℕ → List ℕ → Option ℕ → Type 0
FieldAttribute pool static desc constant =
    Then U2 (λ n. Given (text_at pool n) (λ name. Choice (static && bytes_eq name (codes "ConstantValue")) (ConstantIs pool desc constant)
    (Then U4 (λ size. Then (Run size) (λ inside. Is constant)))))

-- a field behind those with the keys that were met
abbrev pub FieldIs : List PoolEntry → List Key → List ℕ → FieldInfo × List Key → Type 0
FieldIs pool met =
    Then U2 (λ flags.
    Then U2 (λ n. Given (text_at pool n) (λ name. Where (is_field_name name) (
    Then U2 (λ d. Given (text_at pool d) (λ desc. That (IsFieldDescriptor desc) (Where (not (list_any (is_key name desc) met)) (
    Then (CountedOn (FieldAttribute pool (is_static flags) desc) None) (λ constant.
    Is (record { name = name; desc = desc; flags = flags; constant = constant }, met ++ (name, desc) ∷ []))))))))))

-- ---- methods (JVMS 4.6)

-- an entry of the exception table (JVMS 4.7.3)
abbrev pub HandlerIs : List ℕ → Handler → Type 0
HandlerIs = Then U2 (λ start. Then U2 (λ end. Then U2 (λ target. Then U2 (λ class. Is (record { start = start; end = end; target = target; catch_class = class })))))

-- the inside of a Code attribute (JVMS 4.7.3)
abbrev pub CodeIs : List PoolEntry → List ℕ → CodeInfo → Type 0
CodeIs pool =
    Then U2 (λ stack. Then U2 (λ locals. Then U4 (λ size. Where (not (size == 0) && nat_lt size 65536) (
    Then (Run size) (λ code. Then (Counted HandlerIs) (λ table. Then (CountedOn (Skipped pool) tt) (λ u.
    Is (record { max_stack = stack; max_locals = locals; code = code; table = table }))))))))

-- the inside of an attribute of a method: of a Code its code, and every other is passed over
abbrev pub MethodAttributeAs : List PoolEntry → Bool → List ℕ → Option CodeInfo → Type 0
MethodAttributeAs pool true inside (Some code) = CodeIs pool inside code
MethodAttributeAs pool true inside None = ⊥
MethodAttributeAs pool false inside code = code ≡ None

-- an attribute of a method: its name, how many bytes it has, and these
abbrev pub MethodAttribute : List PoolEntry → List ℕ → Option CodeInfo → Type 0
MethodAttribute pool = Then U2 (λ n. Given (text_at pool n) (λ name. Then U4 (λ size. Then (Run size) (λ inside. Inside (MethodAttributeAs pool (bytes_eq name (codes "Code"))) inside))))

-- The code that the attributes of a method leave: none in a native or abstract method, exactly one in
-- every other.
abbrev pub only_code : Bool → List CodeInfo → Option (Option CodeInfo)
only_code true [] = Some None
only_code true (c ∷ codes) = None
only_code false [] = None
only_code false (c ∷ []) = Some (Some c)
only_code false (c ∷ d ∷ codes) = None

-- How many slots the parameters may take: 255, and the object of an instance method takes one (JVMS 4.3.3).
abbrev pub parameter_slots : ℕ → ℕ
parameter_slots flags = if is_static flags then 255 else 254

-- a method behind those with the keys that were met
abbrev pub MethodIs : List PoolEntry → List Key → List ℕ → MethodInfo × List Key → Type 0
MethodIs pool met =
    Then U2 (λ flags.
    Then U2 (λ n. Given (text_at pool n) (λ name. Where (is_method_name name) (
    Then U2 (λ d. Given (text_at pool d) (λ desc. That (IsMethodDescriptor (parameter_slots flags) desc) (Where (not (list_any (is_key name desc) met)) (
    Then (Counted (MethodAttribute pool)) (λ attributes.
    Given (only_code (is_native_or_abstract flags) (filter_map (λ a. a) attributes)) (λ code.
    Is (record { name = name; desc = desc; flags = flags; code = code }, met ++ (name, desc) ∷ [])))))))))))

-- ---- the class (JVMS 4.1)

-- The superclass: none in java/lang/Object alone, and java/lang/Object in every interface.
abbrev pub SuperIs : List PoolEntry → ℕ → List ℕ → List ℕ → Option (List ℕ) → Type 0
SuperIs pool flags name =
    Then U2 (λ i. Choice (i == 0) (Where (bytes_eq name object_name && not (is_interface flags)) (Is None))
    (Given (class_at pool i) (λ super. Where (not (bytes_eq name object_name) && (not (is_interface flags) || bytes_eq super object_name)) (Is (Some super)))))

-- a class that is named by its place
abbrev pub ClassNamed : List PoolEntry → List ℕ → List ℕ → Type 0
ClassNamed pool = Then U2 (λ i. Given (class_at pool i) Is)

-- what follows the pool
abbrev pub ClassBehind : ℕ → List PoolEntry → List ℕ → ClassInfo → Type 0
ClassBehind major pool =
    Then U2 (λ flags.
    Then (ClassNamed pool) (λ name. Where (is_class_name name) (
    Then (SuperIs pool flags name) (λ superclass.
    Then (Counted (ClassNamed pool)) (λ interfaces.
    Then U2 (λ n. Then (ManyOn (FieldIs pool) n []) (λ fields.
    Then U2 (λ m. Then (ManyOn (MethodIs pool) m []) (λ methods.
    Then (CountedOn (Skipped pool) tt) (λ u.
    Is (record { name = name; superclass = superclass; interfaces = interfaces; flags = flags; major = major; pool = pool; fields = fields.0; methods = methods.0 })))))))))))

abbrev pub Spells : List ℕ → ClassInfo → Type 0
Spells =
    Then U4 (λ magic. Where (magic == 0xCAFEBABE) (
    Then U2 (λ minor. Then U2 (λ major. Where (nat_le 45 major && nat_le major 52) (
    Then PoolIs (ClassBehind major))))))
