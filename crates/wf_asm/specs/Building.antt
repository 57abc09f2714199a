-- The class that a listing says: the code of a body, where its instructions begin and their bytes (JVMS 4.7.3,
-- 6.5), and what stands around it.
use Rattle.std.specs.Prelude.{ℕ, ◌+◌, ◌-◌, ◌*◌, ◌^◌, min, ℤ, pos, ◌+ℤ◌, ◌-ℤ◌, Bool, false, List, [], ◌∷◌, ◌++◌, Option, Some, None, Result, Ok, Err, ◌==◌, nat_le, nat_lt, length, is_some, option_and_then, option_map, map, ok_or, if◌then◌else◌}
use Rattle.std.specs.Int.{Width, w16, w32, to_be_bytes, cast_signed, cast_unsigned}
use Rattle.std.specs.Option.{option_map_or}
use Rattle.std.specs.Ordering.{int_eq}
use Rattle.std.specs.Str.{bytes_eq}
use Rattle.wf_data.specs.declared.class_info.ClassInfo.{ClassInfo}
use Rattle.wf_data.specs.declared.class_info.CodeInfo.{CodeInfo}
use Rattle.wf_data.specs.declared.class_info.FieldInfo.{FieldInfo}
use Rattle.wf_data.specs.declared.class_info.Handler.{Handler}
use Rattle.wf_data.specs.declared.class_info.MethodInfo.{MethodInfo}
use Rattle.wf_asm.specs.declared.code.CodeSoFar.{CodeSoFar}
use Rattle.wf_asm.specs.declared.labels.Spot.{Spot}
use Rattle.wf_listing.specs.declared.listing.Constant.{Constant}
use Rattle.wf_listing.specs.declared.listing.Constant.TheVariants as constant
use Rattle.wf_listing.specs.declared.listing.Item.{Item}
use Rattle.wf_listing.specs.declared.listing.Item.TheVariants as item
use Rattle.wf_listing.specs.declared.listing.ListedCase.{ListedCase}
use Rattle.wf_listing.specs.declared.listing.ListedCatch.{ListedCatch}
use Rattle.wf_listing.specs.declared.listing.Listed.{Listed}
use Rattle.wf_listing.specs.declared.listing.ListedField.{ListedField}
use Rattle.wf_listing.specs.declared.listing.ListedMethod.{ListedMethod}
use Rattle.wf_listing.specs.declared.listing.ListedTable.{ListedTable}
use Rattle.wf_listing.specs.declared.listing.Statement.{Statement}
use Rattle.wf_listing.specs.declared.listing.Step.{Step}
use Rattle.wf_listing.specs.declared.listing.Step.TheVariants as step
use Rattle.wf_listing.specs.declared.listing.Use.{Use}
use Rattle.wf_asm.specs.Constants.{place_of, constants_of, pool_of}
use Rattle.wf_opcode.specs.Instructions.{padding}

infixl 10 ◌>>=◌
abbrev pub ◌>>=◌ : {A B : Type 0} → Result A ℕ → (A → Result B ℕ) → Result B ℕ
(Ok x) >>= f = f x
(Err line) >>= f = Err line

-- ---- sizes and labels

-- how many bytes an instruction takes that begins at a place
abbrev pub size_of_step : List Constant → ℕ → Step → ℕ
size_of_step cs at (step.Fixed bytes) = length bytes
size_of_step cs at (step.Jump op label) = 3
size_of_step cs at (step.FarJump op label) = 5
size_of_step cs at (step.Table t) = 13 + padding at + 4 * length t.targets
size_of_step cs at (step.Lookup t) = 9 + padding at + 8 * length t.cases
size_of_step cs at (step.Use u) = 3 + length u.rest
size_of_step cs at (step.Load c) = if nat_le (place_of cs c) 255 then 2 else 3

abbrev pub size_of_item : List Constant → ℕ → Item → ℕ
size_of_item cs at (item.Step s) = size_of_step cs at s
size_of_item cs at i = 0

-- The place behind an item. Places are counted up to 2^32, since no jump reaches further.
abbrev pub behind : List Constant → ℕ → Item → ℕ
behind cs at i = min (at + size_of_item cs at i) (2 ^ 32)

-- a label with its place and its line
abbrev pub Label : Type 0
Label = List ℕ × Spot

-- where a label is given
abbrev pub spot_of : List Label → List ℕ → Option Spot
spot_of [] name = None
spot_of (l ∷ labels) name = if bytes_eq name l.0 then Some l.1 else spot_of labels name

-- the place of a label
abbrev pub address_of : List Label → List ℕ → Option ℕ
address_of labels name = option_map (λ (s : Spot). s.at) (spot_of labels name)

-- the same where it takes two bytes, as in the exception table (JVMS 4.7.3)
abbrev pub in_two_bytes : ℕ → Option ℕ
in_two_bytes at = if nat_le at 65535 then Some at else None

abbrev pub short_address_of : List Label → List ℕ → Option ℕ
short_address_of labels name = option_and_then in_two_bytes (address_of labels name)

-- whether this line is the first of the body that gives the label
abbrev pub is_first : List Label → List ℕ → ℕ → Bool
is_first labels name line = option_map_or (λ (s : Spot). s.line == line) (spot_of labels name) false

-- labels with one more, where it isn't there yet
abbrev pub with_label : List Label → List ℕ → Spot → List Label
with_label labels name spot = if is_some (spot_of labels name) then labels else labels ++ (name, spot) ∷ []

abbrev pub with_label_of : List Label → ℕ → ℕ → Item → List Label
with_label_of labels at line (item.Label name) = with_label labels name (record { at = at; line = line })
with_label_of labels at line i = labels

-- The labels of a body with their places, from a place on, behind those that are known.
unfoldable pub labels_on : List Constant → ℕ → List Label → List Statement → List Label
labels_on cs at labels [] = labels
labels_on cs at labels (s ∷ ss) = labels_on cs (behind cs at s.says) (with_label_of labels at s.line s.says) ss

-- ---- bytes

-- a signed number of a width, where it has room
unfoldable pub signed_bytes : Width → ℤ → Option (List ℕ)
signed_bytes w n = if int_eq (cast_signed w (cast_unsigned w n)) n then Some (to_be_bytes w (cast_unsigned w n)) else None

-- a number in four bytes, where it has room
abbrev pub four_bytes : ℕ → Option (List ℕ)
four_bytes n = if nat_lt n (2 ^ 32) then Some (to_be_bytes w32 n) else None

-- how far a label is from a place
abbrev pub distance : List Label → ℕ → List ℕ → Option ℤ
distance labels at name = option_map (λ to. pos to -ℤ pos at) (address_of labels name)

-- the same in bytes
abbrev pub distance_bytes : Width → List Label → ℕ → List ℕ → Option (List ℕ)
distance_bytes w labels at name = option_and_then (signed_bytes w) (distance labels at name)

-- bytes behind others, where they can be
unfoldable pub onto : List ℕ → Option (List ℕ) → Option (List ℕ)
onto front None = None
onto front (Some back) = Some (front ++ back)

-- bytes behind others that have to be there
unfoldable pub joined : Option (List ℕ) → Option (List ℕ) → Option (List ℕ)
joined None b = None
joined (Some front) b = onto front b

-- a place of the pool in two bytes
abbrev pub place_bytes : List Constant → Constant → List ℕ
place_bytes cs c = to_be_bytes w16 (place_of cs c)

-- zeros up to the next multiple of four
unfoldable pub zeros : ℕ → List ℕ
zeros n = if n == 0 then [] else (if n == 1 then 0 ∷ [] else (if n == 2 then 0 ∷ 0 ∷ [] else 0 ∷ 0 ∷ 0 ∷ []))

-- the distances of a table, and the pairs of a look-up
unfoldable pub table_bytes : List Label → ℕ → List (List ℕ) → Option (List ℕ)
table_bytes labels at [] = Some []
table_bytes labels at (t ∷ targets) = joined (distance_bytes w32 labels at t) (table_bytes labels at targets)

abbrev pub case_bytes : List Label → ℕ → ListedCase → Option (List ℕ)
case_bytes labels at c = joined (Some (to_be_bytes w32 (cast_unsigned w32 c.key))) (distance_bytes w32 labels at c.target)

unfoldable pub lookup_bytes : List Label → ℕ → List ListedCase → Option (List ℕ)
lookup_bytes labels at [] = Some []
lookup_bytes labels at (c ∷ cases) = joined (case_bytes labels at c) (lookup_bytes labels at cases)

-- A switch is its opcode, zeros, the default, and what follows it. There are at least as many keys as labels.
abbrev pub switch_bytes : ℕ → List Label → ℕ → List ℕ → Option (List ℕ) → Option (List ℕ)
switch_bytes op labels at default rest = joined (Some (op ∷ zeros (padding at))) (joined (distance_bytes w32 labels at default) rest)

-- the least and the greatest key of a table
unfoldable pub high_of : ListedTable → ℤ
high_of t = t.low +ℤ pos (length t.targets) -ℤ pos 1

abbrev pub keys_bytes : ListedTable → Option (List ℕ)
keys_bytes t = joined (signed_bytes w32 t.low) (signed_bytes w32 (high_of t))

-- the bytes of an instruction at a place, where they can be
unfoldable pub step_bytes : List Constant → List Label → ℕ → Step → Option (List ℕ)
step_bytes cs labels at (step.Fixed bytes) = Some bytes
step_bytes cs labels at (step.Jump op label) = joined (Some (op ∷ [])) (distance_bytes w16 labels at label)
step_bytes cs labels at (step.FarJump op label) = joined (Some (op ∷ [])) (distance_bytes w32 labels at label)
step_bytes cs labels at (step.Table t) = switch_bytes 0xAA labels at t.default (joined (keys_bytes t) (table_bytes labels at t.targets))
step_bytes cs labels at (step.Lookup t) = switch_bytes 0xAB labels at t.default (joined (four_bytes (length t.cases)) (lookup_bytes labels at t.cases))
step_bytes cs labels at (step.Use u) = Some (u.op ∷ [] ++ place_bytes cs u.constant ++ u.rest)
step_bytes cs labels at (step.Load c) = Some (if nat_le (place_of cs c) 255 then 0x12 ∷ place_of cs c ∷ [] else 0x13 ∷ [] ++ place_bytes cs c)

-- The entry of the exception table that a catch line makes, where its labels are there. Everything is caught
-- where no class is named.
abbrev pub handler_with : List Constant → ListedCatch → ℕ → ℕ → ℕ → Handler
handler_with cs c from to handler = record { start = from; end = to; target = handler; catch_class = option_map_or (λ name. place_of cs (constant.Class name)) c.class 0 }

unfoldable pub handler_of : List Constant → List Label → ListedCatch → Option Handler
handler_of cs labels c = option_and_then (λ from. option_and_then (λ to. option_map (handler_with cs c from to) (short_address_of labels c.handler)) (short_address_of labels c.to)) (short_address_of labels c.from)

-- ---- a body

abbrev pub with_bytes : CodeSoFar → List ℕ → CodeSoFar
with_bytes so_far bytes = record { code = so_far.code ++ bytes; table = so_far.table }

abbrev pub with_handler : CodeSoFar → Handler → CodeSoFar
with_handler so_far h = record { code = so_far.code; table = so_far.table ++ h ∷ [] }

-- What an item of a line adds. A label that a line before gives can't be given again.
abbrev pub item_on : List Constant → List Label → ℕ → CodeSoFar → Item → Option CodeSoFar
item_on cs labels line so_far (item.Label name) = if is_first labels name line then Some so_far else None
item_on cs labels line so_far (item.Step s) = option_map (with_bytes so_far) (step_bytes cs labels (length so_far.code) s)
item_on cs labels line so_far (item.Catch c) = option_map (with_handler so_far) (handler_of cs labels c)

-- a code has at most 65535 bytes (JVMS 4.7.3)
abbrev pub short_enough : CodeSoFar → Option CodeSoFar
short_enough so_far = if nat_le (length so_far.code) 65535 then Some so_far else None

-- what a statement adds, which goes wrong at its line
abbrev pub statement_on : List Constant → List Label → CodeSoFar → Statement → Result CodeSoFar ℕ
statement_on cs labels so_far s = ok_or (option_and_then short_enough (item_on cs labels s.line so_far s.says)) s.line

unfoldable pub body_on : List Constant → List Label → CodeSoFar → List Statement → Result CodeSoFar ℕ
body_on cs labels so_far [] = Ok so_far
body_on cs labels so_far (s ∷ ss) = statement_on cs labels so_far s >>= λ next. body_on cs labels next ss

abbrev pub nothing_yet : CodeSoFar
nothing_yet = record { code = []; table = [] }

-- The code of a body, first its labels and then its statements. Stack and locals have 32 places.
abbrev pub code_with : CodeSoFar → CodeInfo
code_with so_far = record { max_stack = 32; max_locals = 32; code = so_far.code; table = so_far.table }

unfoldable pub code_of : List Constant → List Statement → Result CodeInfo ℕ
code_of cs body = body_on cs (labels_on cs 0 [] body) nothing_yet body >>= λ so_far. Ok (code_with so_far)

-- ---- the class

abbrev pub field_of : List Constant → ListedField → FieldInfo
field_of cs f = record { name = f.name; desc = f.desc; flags = f.flags; constant = option_map (λ n. place_of cs (constant.Int n)) f.constant }

abbrev pub method_with : ListedMethod → Option CodeInfo → MethodInfo
method_with m code = record { name = m.name; desc = m.desc; flags = m.flags; code = code }

abbrev pub code_in : List Constant → Option (List Statement) → Result (Option CodeInfo) ℕ
code_in cs None = Ok None
code_in cs (Some body) = code_of cs body >>= λ code. Ok (Some code)

abbrev pub method_of : List Constant → ListedMethod → Result MethodInfo ℕ
method_of cs m = code_in cs m.body >>= λ code. Ok (method_with m code)

unfoldable pub methods_of : List Constant → List ListedMethod → Result (List MethodInfo) ℕ
methods_of cs [] = Ok []
methods_of cs (m ∷ ms) = method_of cs m >>= λ method. methods_of cs ms >>= λ methods. Ok (method ∷ methods)

unfoldable pub class_with : Listed → List Constant → List MethodInfo → ClassInfo
class_with c cs methods = record { name = c.name; superclass = c.superclass; interfaces = c.interfaces; flags = c.flags; major = 52; pool = pool_of cs; fields = map (field_of cs) c.fields; methods = methods }

-- The class; or the line that is wrong, which is the class's own where its constants are more than a pool has
-- places.
unfoldable pub class_of : Listed → Result ClassInfo ℕ
class_of c = if nat_le (length (constants_of c)) 65534 then (methods_of (constants_of c) c.methods >>= λ methods. Ok (class_with c (constants_of c) methods)) else Err c.line

unfoldable pub classes_of : List Listed → Result (List ClassInfo) ℕ
classes_of [] = Ok []
classes_of (c ∷ cs) = class_of c >>= λ class. classes_of cs >>= λ classes. Ok (class ∷ classes)
