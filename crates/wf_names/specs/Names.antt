-- Names in class files (JVMS 4.2). Names are tested byte by byte.
use Rattle.std.specs.Prelude.{ℕ, Bool, true, false, not, ◌&&◌, ◌||◌, List, [], ◌∷◌, ◌==◌, length, codes, if◌then◌else◌}
use Rattle.std.specs.List.{list_any}
use Rattle.std.specs.Str.{bytes_eq}

-- the class that has no superclass
abbrev pub object_name : List ℕ
object_name = codes "java/lang/Object"

-- the names of constructors and of initializers of classes
abbrev pub constructor_name : List ℕ
constructor_name = codes "<init>"

abbrev pub initializer_name : List ℕ
initializer_name = codes "<clinit>"

-- `.`, `;` and `[`, which no name has
abbrev pub is_forbidden : ℕ → Bool
is_forbidden b = b == 46 || b == 59 || b == 91

-- Parts joined by `/`, each of them not empty and with no forbidden byte. `begun` says whether the part in
-- which these bytes go on has a byte already.
abbrev pub are_parts : Bool → List ℕ → Bool
are_parts begun [] = begun
are_parts begun (b ∷ bytes) = if b == 47 then begun && are_parts false bytes else not (is_forbidden b) && are_parts true bytes

-- the name of a class, with `/` between its parts (JVMS 4.2.1)
abbrev pub is_class_name : List ℕ → Bool
is_class_name name = are_parts false name

-- what no name of a field has: a forbidden byte or `/`
abbrev pub is_not_in_fields : ℕ → Bool
is_not_in_fields b = is_forbidden b || b == 47

-- the name of a field (JVMS 4.2.2)
abbrev pub is_field_name : List ℕ → Bool
is_field_name name = not (length name == 0) && not (list_any is_not_in_fields name)

-- what no name of a method has, but the two special ones: a forbidden byte, `/`, `<` or `>`
abbrev pub is_not_in_methods : ℕ → Bool
is_not_in_methods b = is_forbidden b || b == 47 || b == 60 || b == 62

abbrev pub is_plain_method_name : List ℕ → Bool
is_plain_method_name name = not (length name == 0) && not (list_any is_not_in_methods name)

-- the name of a method (JVMS 4.2.2)
abbrev pub is_method_name : List ℕ → Bool
is_method_name name = bytes_eq name constructor_name || bytes_eq name initializer_name || is_plain_method_name name
