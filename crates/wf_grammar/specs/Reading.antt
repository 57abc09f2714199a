-- Reading a class file from left to right, with the first fault that is met: for each piece of the grammar
-- the function that reads it from the front of the bytes that are left.
use Rattle.std.specs.Prelude.{◌≡◌, ℕ, zero, suc, ◌+◌, ◌-◌, Bool, true, false, not, ◌&&◌, ◌||◌, List, [], ◌∷◌, ◌++◌, Option, Some, None, Result, Ok, Err, ◌==◌, nat_lt, nat_le, is_some, length, take, codes, if◌then◌else◌}
use Rattle.std.specs.Int.{Width, w8, w16, w32, w64, byte_len, cast_signed}
use Rattle.std.specs.List.{list_all, list_any, filter_map}
use Rattle.std.specs.Str.{bytes_eq}
use Rattle.wf_data.specs.declared.class_info.ClassInfo.{ClassInfo}
use Rattle.wf_data.specs.declared.class_info.CodeInfo.{CodeInfo}
use Rattle.wf_data.specs.declared.class_info.FieldInfo.{FieldInfo}
use Rattle.wf_data.specs.declared.class_info.Handler.{Handler}
use Rattle.wf_data.specs.declared.class_info.MethodInfo.{MethodInfo}
use Rattle.wf_data.specs.declared.class_info.PoolEntry.{PoolEntry}
use Rattle.wf_data.specs.declared.class_info.PoolEntry.TheVariants as entry
use Rattle.wf_bytes.specs.declared.fault.Why.{Why}
use Rattle.wf_bytes.specs.declared.fault.Why.TheVariants as why
use Rattle.wf_bytes.specs.Reading.{Fault, bad, ◌>>=◌, Reader, wanted, found, number, run, many, many_on, times, counted, counted_on, whole}
use Rattle.wf_descriptor.specs.Descriptors.{is_field_descriptor, is_method_descriptor}
use Rattle.wf_bytes.specs.Place.{Place, spot, after, number_at}
use Rattle.wf_names.specs.Names.{object_name, is_class_name, is_field_name, is_method_name}
use Rattle.wf_grammar.specs.ClassFile.{is_text_byte, is_sound, has_constant_of, only_code, parameter_slots, Key, is_key}
use Rattle.wf_data.specs.Pool.{text_at, class_at, has_text, has_class}
use Rattle.wf_data.specs.Flags.{is_static, is_native_or_abstract, is_interface}

-- ---- the constant pool

-- the place of the first byte that may not stand in a text
abbrev pub bad_byte_from : ℕ → List ℕ → ℕ
bad_byte_from at [] = at
bad_byte_from at (b ∷ bytes) = if is_text_byte b then bad_byte_from (suc at) bytes else at

unfoldable pub text_of : ℕ → Reader (List ℕ)
text_of n p = do
  text ← run n p
  fine ← wanted (list_all is_text_byte text.0) (bad_byte_from p.at text.0) why.Utf8
  Ok text

unfoldable pub text_entry : Reader PoolEntry
text_entry p = do
  n ← number w16 p
  text ← text_of n.0 n.1
  Ok (entry.Utf8 text.0, text.1)

unfoldable pub integer_entry : Reader PoolEntry
integer_entry p = do
  n ← number w32 p
  Ok (entry.Integer (cast_signed w32 n.0), n.1)

unfoldable pub float_entry : Reader PoolEntry
float_entry p = do
  bits ← number w32 p
  Ok (entry.Float bits.0, bits.1)

unfoldable pub long_entry : Reader PoolEntry
long_entry p = do
  n ← number w64 p
  Ok (entry.Long (cast_signed w64 n.0), n.1)

unfoldable pub double_entry : Reader PoolEntry
double_entry p = do
  bits ← number w64 p
  Ok (entry.Double bits.0, bits.1)

unfoldable pub one_place : (ℕ → PoolEntry) → Reader PoolEntry
one_place made p = do
  first ← number w16 p
  Ok (made first.0, first.1)

unfoldable pub two_places : (ℕ → ℕ → PoolEntry) → Reader PoolEntry
two_places made p = do
  first ← number w16 p
  second ← number w16 first.1
  Ok (made first.0 second.0, second.1)

unfoldable pub handle_entry : Reader PoolEntry
handle_entry p = do
  kind ← number w8 p
  member ← number w16 kind.1
  Ok (entry.Handle kind.0 member.0, member.1)

unfoldable pub narrow_as : ℕ → ℕ → Reader PoolEntry
narrow_as tag at p =
    if tag == 1 then text_entry p else (
    if tag == 3 then integer_entry p else (
    if tag == 4 then float_entry p else (
    if tag == 7 then one_place entry.Class p else (
    if tag == 8 then one_place entry.Str p else (
    if tag == 9 then two_places entry.Field p else (
    if tag == 10 then two_places entry.Method p else (
    if tag == 11 then two_places entry.InterfaceMethod p else (
    if tag == 12 then two_places entry.NameType p else (
    if tag == 15 then handle_entry p else (
    if tag == 16 then one_place entry.MethodKind p else (
    if tag == 18 then two_places entry.Dynamic p else Err (bad at why.Tag))))))))))))

-- whether a constant with this tag takes two places
abbrev pub is_wide_tag : ℕ → Bool
is_wide_tag tag = tag == 5 || tag == 6

unfoldable pub wide_as : ℕ → Reader PoolEntry
wide_as tag p = if tag == 5 then long_entry p else double_entry p

-- how many places of the pool are left, and whether the next of them is the second of a wide constant
abbrev pub PoolState : Type 0
PoolState = ℕ × Bool

unfoldable pub entry_as : ℕ → ℕ → ℕ → Reader (PoolEntry × PoolState)
entry_as tag left at p =
    if is_wide_tag tag then (wanted (nat_lt 1 left) at why.Tag >>= λ fits. wide_as tag p >>= λ e. Ok ((e.0, (left - 1, true)), e.1))
    else (narrow_as tag at p >>= λ e. Ok ((e.0, (left - 1, false)), e.1))

unfoldable pub pool_entry : ℕ → Reader (PoolEntry × PoolState)
pool_entry left p = do
  tag ← number w8 p
  entry_as tag.0 left p.at tag.1

-- what stands at the next place
unfoldable pub pool_place : PoolState → Reader (PoolEntry × PoolState)
pool_place state p = if state.1 then Ok ((entry.Unusable, (state.0 - 1, false)), p) else pool_entry state.0 p

-- what stands at n places
unfoldable pub pool_entries : ℕ → Reader (List PoolEntry)
pool_entries n p = do
  entries ← many_on pool_place n (n, false) p
  Ok (entries.0.0, entries.1)

-- how many bytes a constant takes in a file
abbrev pub size_of : PoolEntry → ℕ
size_of entry.Unusable = 0
size_of (entry.Utf8 text) = 3 + length text
size_of (entry.Integer n) = 5
size_of (entry.Float bits) = 5
size_of (entry.Long n) = 9
size_of (entry.Double bits) = 9
size_of (entry.Class name) = 3
size_of (entry.Str text) = 3
size_of (entry.Field class member) = 5
size_of (entry.Method class member) = 5
size_of (entry.InterfaceMethod class member) = 5
size_of (entry.NameType name desc) = 5
size_of (entry.Handle kind member) = 4
size_of (entry.MethodKind desc) = 3
size_of (entry.Dynamic bootstrap member) = 5

-- where in a constant that isn't sound the first wrong place stands, from the constant's own start
abbrev pub wrong_in : List PoolEntry → PoolEntry → ℕ
wrong_in pool (entry.Field class member) = if has_class pool class then 3 else 1
wrong_in pool (entry.Method class member) = if has_class pool class then 3 else 1
wrong_in pool (entry.InterfaceMethod class member) = if has_class pool class then 3 else 1
wrong_in pool (entry.NameType name desc) = if has_text pool name then 3 else 1
wrong_in pool e = 1

-- the same in the file, of the first constant that isn't sound
abbrev pub wrong_from : List PoolEntry → ℕ → List PoolEntry → ℕ
wrong_from pool at [] = at
wrong_from pool at (e ∷ es) = if is_sound pool e then wrong_from pool (at + size_of e) es else at + wrong_in pool e

-- the pool: first all its items, and then its places
unfoldable pub pool_at : Reader (List PoolEntry)
pool_at p = do
  count ← number w16 p
  some ← wanted (not (count.0 == 0)) p.at why.Index
  entries ← pool_entries (count.0 - 1) count.1
  sound ← wanted (list_all (is_sound (entry.Unusable ∷ entries.0)) entries.0) (wrong_from (entry.Unusable ∷ entries.0) count.1.at entries.0) why.Index
  Ok (entry.Unusable ∷ entries.0, entries.1)

-- ---- attributes

unfoldable pub skipped : List PoolEntry → Unit {0} → Reader (Unit {0})
skipped pool u p = do
  n ← number w16 p
  name ← found (text_at pool n.0) p.at why.Index
  size ← number w32 n.1
  inside ← run size.0 size.1
  Ok (tt, inside.1)

-- ---- fields

-- a ConstantValue behind its name; `at` is where its name stands
unfoldable pub constant_value : List PoolEntry → List ℕ → Option ℕ → ℕ → Reader (Option ℕ)
constant_value pool desc constant at p = do
  once ← wanted (not (is_some constant)) at why.Twice
  size ← number w32 p
  fits ← wanted (size.0 == 2) p.at why.Length
  i ← number w16 size.1
  right ← wanted (has_constant_of pool desc i.0) size.1.at why.Constant
  Ok (Some i.0, i.1)

-- another attribute behind its name
unfoldable pub other_attribute : Option ℕ → Reader (Option ℕ)
other_attribute constant p = do
  size ← number w32 p
  inside ← run size.0 size.1
  Ok (constant, inside.1)

unfoldable pub field_attribute : List PoolEntry → Bool → List ℕ → Option ℕ → Reader (Option ℕ)
field_attribute pool static desc constant p = do
  n ← number w16 p
  name ← found (text_at pool n.0) p.at why.Index
  if static && bytes_eq name (codes "ConstantValue") then constant_value pool desc constant p.at n.1 else other_attribute constant n.1

unfoldable pub field : List PoolEntry → List Key → Reader (FieldInfo × List Key)
field pool met p = do
  flags ← number w16 p
  n ← number w16 flags.1
  name ← found (text_at pool n.0) flags.1.at why.Index
  named ← wanted (is_field_name name) flags.1.at why.Name
  d ← number w16 n.1
  desc ← found (text_at pool d.0) n.1.at why.Index
  described ← wanted (is_field_descriptor desc) n.1.at why.Descriptor
  once ← wanted (not (list_any (is_key name desc) met)) n.1.at why.Twice
  constant ← counted_on (field_attribute pool (is_static flags.0) desc) None d.1
  Ok ((record { name = name; desc = desc; flags = flags.0; constant = constant.0 }, met ++ (name, desc) ∷ []), constant.1)

-- ---- methods

unfoldable pub handler : Reader Handler
handler p = do
  start ← number w16 p
  end ← number w16 start.1
  target ← number w16 end.1
  class ← number w16 target.1
  Ok (record { start = start.0; end = end.0; target = target.0; catch_class = class.0 }, class.1)

unfoldable pub code : List PoolEntry → Reader CodeInfo
code pool p = do
  stack ← number w16 p
  locals ← number w16 stack.1
  size ← number w32 locals.1
  fits ← wanted (not (size.0 == 0) && nat_lt size.0 65536) locals.1.at why.Code
  bytes ← run size.0 size.1
  table ← counted handler bytes.1
  attributes ← counted_on (skipped pool) tt table.1
  Ok (record { max_stack = stack.0; max_locals = locals.0; code = bytes.0; table = table.0 }, attributes.1)

-- the inside of an attribute by whether it is a Code; `at` is where its length stands, and p where its bytes do
unfoldable pub method_attribute_as : List PoolEntry → Bool → ℕ → Place → Result (Option CodeInfo) Fault
method_attribute_as pool is_code at p = if is_code then (whole at (code pool p) >>= λ c. Ok (Some c)) else Ok None

unfoldable pub method_attribute : List PoolEntry → Reader (Option CodeInfo)
method_attribute pool p = do
  n ← number w16 p
  name ← found (text_at pool n.0) p.at why.Index
  size ← number w32 n.1
  inside ← run size.0 size.1
  c ← method_attribute_as pool (bytes_eq name (codes "Code")) n.1.at (spot size.1.at inside.0)
  Ok (c, inside.1)

unfoldable pub method : List PoolEntry → List Key → Reader (MethodInfo × List Key)
method pool met p = do
  flags ← number w16 p
  n ← number w16 flags.1
  name ← found (text_at pool n.0) flags.1.at why.Index
  named ← wanted (is_method_name name) flags.1.at why.Name
  d ← number w16 n.1
  desc ← found (text_at pool d.0) n.1.at why.Index
  described ← wanted (is_method_descriptor (parameter_slots flags.0) desc) n.1.at why.Descriptor
  once ← wanted (not (list_any (is_key name desc) met)) n.1.at why.Twice
  attributes ← counted (method_attribute pool) d.1
  code ← found (only_code (is_native_or_abstract flags.0) (filter_map (λ a. a) attributes.0)) p.at why.Code
  Ok ((record { name = name; desc = desc; flags = flags.0; code = code }, met ++ (name, desc) ∷ []), attributes.1)

-- ---- the class

unfoldable pub super_class : List PoolEntry → ℕ → List ℕ → Reader (Option (List ℕ))
super_class pool flags name p = do
  i ← number w16 p
  (if i.0 == 0 then (wanted (bytes_eq name object_name && not (is_interface flags)) p.at why.Super >>= λ fine. Ok (None, i.1))
      else (found (class_at pool i.0) p.at why.Index >>= λ super. wanted (not (bytes_eq name object_name) && (not (is_interface flags) || bytes_eq super object_name)) p.at why.Super >>= λ fine. Ok (Some super, i.1)))

unfoldable pub class_named : List PoolEntry → Reader (List ℕ)
class_named pool p = do
  i ← number w16 p
  name ← found (class_at pool i.0) p.at why.Index
  Ok (name, i.1)

unfoldable pub class_behind : ℕ → List PoolEntry → Reader ClassInfo
class_behind major pool p = do
  flags ← number w16 p
  name ← class_named pool flags.1
  named ← wanted (is_class_name name.0) flags.1.at why.Name
  super ← super_class pool flags.0 name.0 name.1
  interfaces ← counted (class_named pool) super.1
  n ← number w16 interfaces.1
  fields ← many_on (field pool) n.0 [] n.1
  m ← number w16 fields.1
  methods ← many_on (method pool) m.0 [] m.1
  attributes ← counted_on (skipped pool) tt methods.1
  Ok (record { name = name.0; superclass = super.0; interfaces = interfaces.0; flags = flags.0; major = major; pool = pool; fields = fields.0.0; methods = methods.0.0 }, attributes.1)

unfoldable pub class_file : Reader ClassInfo
class_file p = do
  magic ← number w32 p
  right ← wanted (magic.0 == 0xCAFEBABE) p.at why.Magic
  minor ← number w16 magic.1
  major ← number w16 minor.1
  known ← wanted (nat_le 45 major.0 && nat_le major.0 52) minor.1.at why.Version
  pool ← pool_at major.1
  class_behind major.0 pool.0 pool.1

-- the class that the bytes spell, all of them, or the first fault
unfoldable pub class_of : List ℕ → Result ClassInfo Fault
class_of bytes = do
  class ← class_file (spot 0 bytes)
  ended ← wanted (length class.1.left == 0) class.1.at why.Trailing
  Ok class.0

-- the first fault of bytes that spell no class
abbrev pub FirstFault : List ℕ → Fault → Type 0
FirstFault bytes fault = class_of bytes ≡ Err fault
