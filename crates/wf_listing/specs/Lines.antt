-- What a line of a listing says (this project's own).
use Rattle.std.specs.Prelude.{ℕ, zero, suc, ◌+◌, ◌-◌, ◌^◌, ℤ, pos, ◌-ℤ◌, Bool, true, false, not, ◌&&◌, ◌||◌, List, [], ◌∷◌, ◌++◌, Option, Some, None, ◌==◌, nat_le, nat_lt, length, take, drop, position, slice_index, option_map, codes, bit_or, count_by, if◌then◌else◌}
use Rattle.std.specs.Int.{w8, w16, to_be_bytes, cast_unsigned}
use Rattle.std.specs.List.{list_all, list_any, starts_with}
use Rattle.std.specs.Str.{bytes_eq}
use Rattle.std.specs.Prelude.{nat_eq, slice_index_or}
use Rattle.std.specs.List.{ends_with}
use Rattle.wf_names.specs.declared.member.MemberName.{MemberName}
use Rattle.wf_data.specs.Flags.{is_native_or_abstract}
use Rattle.wf_descriptor.specs.Descriptors.{is_method_descriptor}
use Rattle.wf_names.specs.NameForm.{name_of}
use Rattle.wf_names.specs.Names.{object_name}
use Rattle.wf_opcode.specs.declared.form.Form.{Form}
use Rattle.wf_opcode.specs.declared.form.Form.TheVariants as form
use Rattle.wf_opcode.specs.Instructions.{is_widened}
use Rattle.wf_opcode.specs.Table.{row_of}
use Rattle.wf_listing.specs.declared.listing.Constant.{Constant}
use Rattle.wf_listing.specs.declared.listing.Constant.TheVariants as constant
use Rattle.wf_listing.specs.declared.listing.Item.{Item}
use Rattle.wf_listing.specs.declared.listing.Item.TheVariants as item
use Rattle.wf_listing.specs.declared.listing.Listed.{Listed}
use Rattle.wf_listing.specs.declared.listing.ListedCase.{ListedCase}
use Rattle.wf_listing.specs.declared.listing.Said.{Said}
use Rattle.wf_listing.specs.declared.listing.Said.TheVariants as said
use Rattle.wf_listing.specs.declared.listing.Step.{Step}
use Rattle.wf_listing.specs.declared.listing.Step.TheVariants as step
use Rattle.wf_listing.specs.declared.listing.Use.{Use}
use Rattle.wf_listing.specs.declared.lines.heads.Head.{Head}
use Rattle.wf_lines.specs.Decimals.{integer_in}
use Rattle.wf_lines.specs.Lines.{words_of}
use Rattle.wf_lines.specs.Members.{◌>>=◌, member_said}
use Rattle.wf_listing.specs.Names.{instruction_names}

abbrev pub Words : Type 0
Words = List (List ℕ)

-- a value where a test holds
abbrev pub given : {A : Type 0} → Bool → A → Option A
given true x = Some x
given false x = None

-- ---- names

-- what each of these words gives, where it gives something
unfoldable pub each_of : (List ℕ → Option (List ℕ)) → Words → Option Words
each_of read [] = Some []
each_of read (w ∷ ws) = read w >>= λ x. each_of read ws >>= λ xs. Some (x ∷ xs)

-- each of these words as a name, where it is one
abbrev pub names_of : Words → Option Words
names_of ws = each_of name_of ws

-- ---- the lines outside bodies

-- the superclass, where it is said, and the interfaces
abbrev pub interfaces_said : Words → Option Words
interfaces_said [] = Some []
interfaces_said (w ∷ ws) = given (bytes_eq w (codes "implements") && not (length ws == 0)) ws >>= names_of

abbrev pub extended : Option (List ℕ) → Option Words → Option (Option (List ℕ) × Words)
extended super interfaces = interfaces >>= λ names. Some (super, names)

abbrev pub tail_said : Words → Option (Option (List ℕ) × Words)
tail_said [] = Some (None, [])
tail_said (w ∷ []) = None
tail_said (w ∷ v ∷ ws) = if bytes_eq w (codes "extends") then (name_of v >>= λ super. extended (Some super) (interfaces_said ws)) else extended None (interfaces_said (w ∷ v ∷ ws))

-- java/lang/Object where no superclass is said, and none for that class itself
abbrev pub super_of : List ℕ → Option (List ℕ) → Option (List ℕ)
super_of name None = if bytes_eq name object_name then None else Some object_name
super_of name (Some super) = Some super

abbrev pub listed : ℕ → ℕ → List ℕ → Option (List ℕ) × Words → Listed
listed line flags name tail = record { line = line; flags = flags; name = name; superclass = super_of name tail.0; interfaces = tail.1; fields = []; methods = [] }

-- a class, behind its first word
abbrev pub class_said : ℕ → ℕ → Words → Option Said
class_said line flags [] = None
class_said line flags (n ∷ ws) = name_of n >>= λ name. tail_said ws >>= λ tail. Some (said.Class (listed line flags name tail))

-- the flag that a word is (JVMS tables 4.5-A and 4.6-A); `package` is the access that has no flag
abbrev pub flag_of : List ℕ → Option ℕ
flag_of word =
    if bytes_eq word (codes "static") then Some 0x0008
    else (if bytes_eq word (codes "private") then Some 0x0002
    else (if bytes_eq word (codes "protected") then Some 0x0004
    else (if bytes_eq word (codes "package") then Some 0
    else (if bytes_eq word (codes "abstract") then Some 0x0400
    else (if bytes_eq word (codes "native") then Some 0x0100 else None)))))

abbrev pub is_access : List ℕ → Bool
is_access word = bytes_eq word (codes "private") || bytes_eq word (codes "protected") || bytes_eq word (codes "package")

-- the bits of flags, each word once
abbrev pub sum_of_flags : Words → Option ℕ
sum_of_flags [] = Some 0
sum_of_flags (w ∷ ws) = given (not (list_any (bytes_eq w) ws)) w >>= flag_of >>= λ flag. sum_of_flags ws >>= λ flags. Some (bit_or flag flags)

-- At most one of the words of access is there. A member without one is public.
abbrev pub flags_said : Words → Option ℕ
flags_said ws = given (nat_le (count_by is_access ws) 1) ws >>= sum_of_flags >>= λ flags. Some (if count_by is_access ws == 0 then bit_or flags 1 else flags)

-- flags, a name and a descriptor: the last two of the words
abbrev pub word_at : Words → ℕ → List ℕ
word_at ws i = slice_index_or ws i []

abbrev pub head_said : Words → Option Head
head_said ws =
    given (nat_le 2 (length ws)) (length ws - 2) >>= λ n. flags_said (take n ws) >>= λ flags.
    name_of (word_at ws n) >>= λ name. name_of (word_at ws (n + 1)) >>= λ desc. Some (record { flags = flags; name = name; desc = desc })

abbrev pub field_with : Option ℤ → Head → Said
field_with constant h = said.Field (record { flags = h.flags; name = h.name; desc = h.desc; constant = constant })

-- the least and the greatest number of 8, 16, 32 and 64 bits
abbrev pub int_in : ℕ → List ℕ → Option ℤ
int_in bits word = integer_in (pos 0 -ℤ pos (2 ^ (bits - 1))) (pos (2 ^ (bits - 1)) -ℤ pos 1) word

-- a field, behind its first word: it has a constant where its last word but one is `=`
abbrev pub has_value : Words → Bool
has_value ws = nat_le 2 (length ws) && bytes_eq (word_at ws (length ws - 2)) (codes "=")

abbrev pub field_said : Words → Option Said
field_said ws =
    if has_value ws then (int_in 32 (word_at ws (length ws - 1)) >>= λ n. head_said (take (length ws - 2) ws) >>= λ h. Some (field_with (Some n) h))
    else (head_said ws >>= λ h. Some (field_with None h))

-- a method, behind its first word: a native or abstract one has no body
abbrev pub method_with : Head → Said
method_with h = said.Method (record { flags = h.flags; name = h.name; desc = h.desc; body = if is_native_or_abstract h.flags then None else Some [] })

abbrev pub method_said : Words → Option Said
method_said ws = head_said ws >>= λ h. Some (method_with h)

-- ---- the lines of bodies

-- a label that is named
abbrev pub label_said : List ℕ → Option (List ℕ)
label_said word = given (not (length word == 0)) word

-- a label line is one word that ends with `:` and isn't that alone
abbrev pub is_label : List ℕ → Bool
is_label word = nat_le 2 (length word) && ends_with nat_eq word (58 ∷ [])

abbrev pub class_caught : List ℕ → Option (Option (List ℕ))
class_caught word = if bytes_eq word (codes "any") then Some None else (name_of word >>= λ name. Some (Some name))

-- a catch line, behind its first word
unfoldable pub catch_said : Words → Option Item
catch_said (from ∷ to ∷ handler ∷ class ∷ []) =
    label_said from >>= λ f. label_said to >>= λ t. label_said handler >>= λ h. class_caught class >>= λ c.
    Some (item.Catch (record { from = f; to = t; handler = h; class = c }))
catch_said ws = None

-- the place of a word among the words of a line
abbrev pub place_of : List ℕ → List ℕ → Option ℕ
place_of word line = position (bytes_eq word) (words_of line)

-- the opcode of a name
unfoldable pub opcode_of : List ℕ → Option ℕ
opcode_of name = place_of name instruction_names >>= λ i. given (nat_lt i 202) i

abbrev pub fixed : List ℕ → Step
fixed bytes = step.Fixed bytes

abbrev pub with_operand : ℕ → List ℕ → Step
with_operand op bytes = fixed (op ∷ bytes)

-- bytes of a signed number
abbrev pub byte_of : ℤ → List ℕ
byte_of n = to_be_bytes w8 (cast_unsigned w8 n)

abbrev pub two_bytes_of : ℤ → List ℕ
two_bytes_of n = to_be_bytes w16 (cast_unsigned w16 n)

-- the bytes of a signed constant of one byte, and of two
abbrev pub s1_said : List ℕ → Option (List ℕ)
s1_said word = option_map byte_of (int_in 8 word)

abbrev pub s2_said : List ℕ → Option (List ℕ)
s2_said word = option_map two_bytes_of (int_in 16 word)

-- the bytes of a local or an index of one byte, and of two
abbrev pub u1_said : List ℕ → Option (List ℕ)
u1_said word = option_map byte_of (integer_in (pos 0) (pos 255) word)

abbrev pub u2_said : List ℕ → Option (List ℕ)
u2_said word = option_map two_bytes_of (integer_in (pos 0) (pos 65535) word)

-- a lone word
abbrev pub one_word : Words → Option (List ℕ)
one_word (w ∷ []) = Some w
one_word ws = None

-- one operand, behind the opcode, by what its word gives
abbrev pub one_operand : (List ℕ → Option (List ℕ)) → (List ℕ → Step) → Words → Option Step
one_operand read make ws = one_word ws >>= read >>= λ x. Some (make x)

-- a member of two words
abbrev pub two_words : Words → Option MemberName
two_words (word ∷ desc ∷ []) = member_said word desc
two_words ws = None

abbrev pub one_member : (MemberName → Option Step) → Words → Option Step
one_member make ws = two_words ws >>= make

abbrev pub using_constant : ℕ → Constant → List ℕ → Step
using_constant op c rest = step.Use (record { op = op; constant = c; rest = rest })

-- The slots that the parameters of a descriptor take: the least number with which it is one. None where it is no
-- descriptor with fewer than 255.
unfoldable pub slots_from : ℕ → ℕ → List ℕ → Option ℕ
slots_from zero n desc = None
slots_from (suc left) n desc = if is_method_descriptor n desc then Some n else slots_from left (n + 1) desc

-- what an invokeinterface of a member has: how many slots the object and the arguments take, and a zero
abbrev pub interface_call : MemberName → Option Step
interface_call m = slots_from 255 0 m.desc >>= λ n. Some (using_constant 0xB9 (constant.InterfaceMethod m) ((n + 1) ∷ 0 ∷ []))

-- a method by its words, with `interface` before it where an interface declares it
abbrev pub call : ℕ → (MemberName → Constant) → MemberName → Option Step
call op make m = Some (using_constant op (make m) [])

abbrev pub any_method : ℕ → Words → Option Step
any_method op [] = None
any_method op (w ∷ ws) = if bytes_eq w (codes "interface") then one_member (call op constant.InterfaceMethod) ws else one_member (call op constant.Method) (w ∷ ws)

-- the codes of primitive types in newarray (JVMS table 6.5.newarray-A)
unfoldable pub primitive_of : List ℕ → Option (List ℕ)
primitive_of word = place_of word (codes "boolean char float double byte short int long") >>= λ i. given (nat_lt i 8) ((4 + i) ∷ [])

-- ---- constants

-- a text between quotes: ASCII without NUL, quote and backslash
abbrev pub is_quoted_byte : ℕ → Bool
is_quoted_byte b = nat_lt 0 b && nat_lt b 128 && not (b == 34) && not (b == 92)

-- the text of what stands behind the opening quote
abbrev pub quoted : List ℕ → Option (List ℕ)
quoted bytes = given (ends_with nat_eq bytes (34 ∷ []) && list_all is_quoted_byte (take (length bytes - 1) bytes)) (take (length bytes - 1) bytes)

-- a constant of one place by its two words
abbrev pub narrow_said : Words → Option Constant
narrow_said (sort ∷ w ∷ []) =
    if bytes_eq sort (codes "int") then (int_in 32 w >>= λ n. Some (constant.Int n))
    else (if bytes_eq sort (codes "class") then (name_of w >>= λ name. Some (constant.Class name)) else None)
narrow_said ws = None

abbrev pub long_said : Words → Option Step
long_said (sort ∷ w ∷ []) = given (bytes_eq sort (codes "long")) w >>= int_in 64 >>= λ n. Some (using_constant 0x14 (constant.Long n) [])
long_said ws = None

-- `ldc` takes each constant, in the shortest form; `ldc_w` and `ldc2_w` the wide ones alone
abbrev pub wide_load : Constant → Step
wide_load c = using_constant 0x13 c []

abbrev pub first_said : {A : Type 0} → Option A → Option A → Option A
first_said (Some x) other = Some x
first_said None other = other

abbrev pub load_said : Words → Option Step
load_said ws = first_said (narrow_said ws >>= λ c. Some (step.Load c)) (long_said ws)

abbrev pub wide_load_said : Words → Option Step
wide_load_said ws = narrow_said ws >>= λ c. Some (wide_load c)

-- ---- switches

-- labels up to `default` and its label; the words before `default` come in order
abbrev pub is_default : Words → Bool
is_default ws = length ws == 2 && bytes_eq (word_at ws 0) (codes "default") && not (length (word_at ws 1) == 0)

-- all words but the last two, where these are `default` and a label
abbrev pub before_default : Words → Option Words
before_default ws = given (nat_le 2 (length ws) && is_default (drop (length ws - 2) ws)) (take (length ws - 2) ws)

abbrev pub labels_said : Words → Option Words
labels_said ws = each_of label_said ws

-- tableswitch, behind its name: it has at least one key
abbrev pub table_with : List ℕ → ℤ → Words → Option Step
table_with default low targets = given (not (length targets == 0)) targets >>= labels_said >>= λ ls. Some (step.Table (record { low = low; targets = ls; default = default }))

abbrev pub table_from : List ℕ → Words → Option Step
table_from default [] = None
table_from default (w ∷ ws) = int_in 32 w >>= λ low. table_with default low ws

abbrev pub table_said : Words → Option Step
table_said ws = before_default ws >>= table_from (word_at ws (length ws - 1))

abbrev pub case_said : List ℕ → List ℕ → Option ListedCase
case_said k w = int_in 32 k >>= λ key. label_said w >>= λ l. Some (record { key = key; target = l })

-- pairs of a key and a label
unfoldable pub cases_said : Words → Option (List ListedCase)
cases_said [] = Some []
cases_said (k ∷ []) = None
cases_said (k ∷ w ∷ ws) = case_said k w >>= λ c. cases_said ws >>= λ cases. Some (c ∷ cases)

abbrev pub lookup_said : Words → Option Step
lookup_said ws = before_default ws >>= cases_said >>= λ cases. Some (step.Lookup (record { cases = cases; default = word_at ws (length ws - 1) }))

-- ---- instructions

abbrev pub iinc_said : Words → Option Step
iinc_said (l ∷ c ∷ []) = u1_said l >>= λ local. s1_said c >>= λ n. Some (fixed (0x84 ∷ local ++ n))
iinc_said ws = None

abbrev pub wide_iinc_said : Words → Option Step
wide_iinc_said (l ∷ c ∷ []) = u2_said l >>= λ local. s2_said c >>= λ n. Some (fixed (0xC4 ∷ 0x84 ∷ local ++ n))
wide_iinc_said ws = None

abbrev pub widened : ℕ → List ℕ → Step
widened op bytes = fixed (0xC4 ∷ op ∷ bytes)

abbrev pub wide_with : ℕ → Words → Option Step
wide_with op ws = if op == 0x84 then wide_iinc_said ws else (given (is_widened op) ws >>= one_operand u2_said (widened op))

abbrev pub wide_said : Words → Option Step
wide_said [] = None
wide_said (w ∷ ws) = opcode_of w >>= λ op. wide_with op ws

abbrev pub arrays_said : Words → Option Step
arrays_said (t ∷ d ∷ []) = name_of t >>= λ name. u1_said d >>= λ dims. Some (using_constant 0xC5 (constant.Class name) dims)
arrays_said ws = None

abbrev pub using_class : ℕ → List ℕ → Step
using_class op name = using_constant op (constant.Class name) []

-- an instruction with a place of the pool in two bytes, by its opcode
unfoldable pub place_said : ℕ → Words → Option Step
place_said op ws =
    if op == 0x13 then wide_load_said ws
    else (if op == 0x14 then long_said ws
    else (if nat_le 0xB2 op && nat_le op 0xB5 then one_member (call op constant.Field) ws
    else (if op == 0xB6 then one_member (call op constant.Method) ws
    else (if op == 0xB7 || op == 0xB8 then any_method op ws
    else one_operand name_of (using_class op) ws))))

-- an instruction by its opcode and the words behind its name
unfoldable pub operands_said : ℕ → Form → Words → Option Step
operands_said op form.Alone ws = given (length ws == 0) (fixed (op ∷ []))
operands_said op form.S1 ws = one_operand s1_said (with_operand op) ws
operands_said op form.S2 ws = one_operand s2_said (with_operand op) ws
operands_said op form.U1 ws = if op == 0x12 then load_said ws else one_operand u1_said (with_operand op) ws
operands_said op form.U2 ws = place_said op ws
operands_said op form.Jump2 ws = one_operand label_said (step.Jump op) ws
operands_said op form.Jump4 ws = one_operand label_said (step.FarJump op) ws
operands_said op form.Iinc ws = iinc_said ws
operands_said op form.Invoke ws = if op == 0xB9 then one_member interface_call ws else None
operands_said op form.NewArray ws = one_operand primitive_of (with_operand op) ws
operands_said op form.MultiArray ws = arrays_said ws
operands_said op form.TableSwitch ws = table_said ws
operands_said op form.LookupSwitch ws = lookup_said ws
operands_said op form.Wide ws = wide_said ws

abbrev pub step_said : List ℕ → Words → Option Step
step_said name ws = opcode_of name >>= λ op. row_of op >>= λ row. operands_said op row.form ws

abbrev pub step_line : List ℕ → Words → Option Said
step_line name ws = step_said name ws >>= λ s. Some (said.Body (item.Step s))

-- ---- lines

-- an `ldc` of a text, behind the opening quote
abbrev pub text_load : (Constant → Step) → List ℕ → Option Said
text_load make bytes = quoted bytes >>= λ text. Some (said.Body (item.Step (make (constant.Str text))))

abbrev pub label_line : List ℕ → Said
label_line word = said.Body (item.Label (take (length word - 1) word))

-- a line of words, by the first of them
unfoldable pub words_said : ℕ → List ℕ → Words → Option Said
words_said line w ws =
    if length ws == 0 && is_label w then Some (label_line w)
    else (if bytes_eq w (codes "class") then class_said line 0x0021 ws
    else (if bytes_eq w (codes "abstract") then class_said line 0x0421 ws
    else (if bytes_eq w (codes "interface") then class_said line 0x0601 ws
    else (if bytes_eq w (codes "field") then field_said ws
    else (if bytes_eq w (codes "method") then method_said ws
    else (if bytes_eq w (codes "catch") then (catch_said ws >>= λ i. Some (said.Body i))
    else (if bytes_eq w (codes "end") then given (length ws == 0) said.End
    else step_line w ws)))))))

abbrev pub all_said : ℕ → Words → Option Said
all_said line [] = None
all_said line (w ∷ ws) = words_said line w ws

-- What a line says that means something. A text may have spaces, so its line isn't divided into words.
unfoldable pub line_said : ℕ → List ℕ → Option Said
line_said line bytes =
    if starts_with nat_eq bytes (codes "ldc " ++ 34 ∷ []) then text_load step.Load (drop 5 bytes)
    else (if starts_with nat_eq bytes (codes "ldc_w " ++ 34 ∷ []) then text_load wide_load (drop 7 bytes)
    else all_said line (words_of bytes))
