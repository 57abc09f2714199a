-- The form in which names are printed and read in lines (this project's own).
use Rattle.std.specs.Prelude.{Option, Some, None, option_and_then, option_map, length, ℕ, ◌+◌, ◌-◌, ◌*◌, ◌/◌, ◌%◌, Bool, not, ◌&&◌, List, [], ◌∷◌, ◌++◌, nat_lt, nat_le, ◌==◌, if◌then◌else◌}
use Rattle.std.specs.List.{flat_map}
use Rattle.wf_names.specs.declared.member.MemberName.{MemberName}
use Rattle.wf_names.specs.declared.name_form.Escape.{Escape}
use Rattle.wf_names.specs.declared.name_form.Escape.TheVariants.{Outside, Begun, High}

-- A printable byte of ASCII other than the space and the backslash stands for itself.
abbrev pub is_plain : ℕ → Bool
is_plain b = nat_le 33 b && nat_le b 126 && not (b == 92)

-- a hexadecimal digit, in lower case
abbrev pub hex_digit : ℕ → ℕ
hex_digit d = if nat_lt d 10 then 48 + d else 87 + d

-- Every other byte is a backslash and its two hexadecimal digits.
abbrev pub escaped_byte : ℕ → List ℕ
escaped_byte b = if is_plain b then b ∷ [] else 92 ∷ hex_digit (b / 16) ∷ hex_digit (b % 16) ∷ []

-- a name in this form
abbrev pub escaped : List ℕ → List ℕ
escaped bytes = flat_map escaped_byte bytes

-- a member by its three parts
abbrev pub member_of : List ℕ → List ℕ → List ℕ → MemberName
member_of class name desc = record { class = class; name = name; desc = desc }

-- a field or method: its class, `.`, its name, a space, its descriptor
abbrev pub member_text : MemberName → List ℕ
member_text m = escaped m.class ++ 46 ∷ [] ++ escaped m.name ++ 32 ∷ [] ++ escaped m.desc

-- ---- reading a name

-- the value of a hexadecimal digit, in lower case
abbrev pub hex_value : ℕ → Option ℕ
hex_value d = if nat_le 48 d && nat_le d 57 then Some (d - 48) else (if nat_le 97 d && nat_le d 102 then Some (d - 87) else None)

-- the byte that an escape stands for, which is none that stands for itself
abbrev pub escape_of : ℕ → ℕ → Option ℕ
escape_of high low = option_and_then (λ h. option_and_then (λ l. if is_plain (h * 16 + l) then None else Some (h * 16 + l)) (hex_value low)) (hex_value high)

abbrev pub with_byte : Option ℕ → Option (List ℕ) → Option (List ℕ)
with_byte b rest = option_and_then (λ byte. option_map (λ bytes. byte ∷ bytes) rest) b

-- where a word goes on behind a byte, and the byte of the name that ends there
abbrev pub escape_on : Escape → ℕ → Option (Escape × Option ℕ)
escape_on Outside b = if b == 92 then Some (Begun, None) else (if is_plain b then Some (Outside, Some b) else None)
escape_on Begun b = Some (High b, None)
escape_on (High h) b = option_map (λ byte. (Outside, Some byte)) (escape_of h b)

-- the bytes that a word in this form stands for, in an escape or outside one
unfoldable pub unescaped_from : Escape → List ℕ → Option (List ℕ)
unescaped_from Outside [] = Some []
unescaped_from Begun [] = None
unescaped_from (High h) [] = None
unescaped_from Outside (b ∷ bytes) = if b == 92 then unescaped_from Begun bytes else with_byte (if is_plain b then Some b else None) (unescaped_from Outside bytes)
unescaped_from Begun (b ∷ bytes) = unescaped_from (High b) bytes
unescaped_from (High h) (b ∷ bytes) = with_byte (escape_of h b) (unescaped_from Outside bytes)

-- The name that a word is, where it isn't empty and is in this form.
abbrev pub name_of : List ℕ → Option (List ℕ)
name_of word = if length word == 0 then None else unescaped_from Outside word
