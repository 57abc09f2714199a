-- What a line of a summary or of a list of roots says (this project's own).
use Rattle.std.specs.Prelude.{ℕ, ◌^◌, ℤ, pos, ◌-ℤ◌, Bool, true, false, List, [], ◌∷◌, Option, Some, None, option_map, codes, if◌then◌else◌}
use Rattle.std.specs.Str.{bytes_eq}
use Rattle.wf_names.specs.declared.member.MemberName.{MemberName}
use Rattle.wf_names.specs.declared.root.Root.{Root}
use Rattle.wf_names.specs.declared.root.Root.TheVariants.{StaticCall, Inst, Make}
use Rattle.wf_names.specs.NameForm.{name_of}
use Rattle.wf_lines.specs.Decimals.{natural_in, integer_in}
use Rattle.wf_lines.specs.Members.{◌>>=◌, member_said}
use Rattle.wf_inputs.specs.declared.said.Said.{Said}
use Rattle.wf_inputs.specs.declared.said.Said.TheVariants.{Opens, Does, Sets}
use Rattle.wf_inputs.specs.declared.summary.Effect.{Effect}
use Rattle.wf_inputs.specs.declared.summary.Effect.TheVariants.{ReturnsVoid, Returns, Makes, Writes, Copies}
use Rattle.wf_inputs.specs.declared.summary.Value.{Value}
use Rattle.wf_inputs.specs.declared.summary.Value.TheVariants.{Null, Any, Int, New, OneOf, Arg}

abbrev pub Words : Type 0
Words = List (List ℕ)

-- what is said where the word is this one, else the other
abbrev pub keyed : {X : Type 0} → List ℕ → List ℕ → Option X → Option X → Option X
keyed word key said other = if bytes_eq word key then said else other

-- a name, which is one word
abbrev pub name_said : Words → Option (List ℕ)
name_said [] = None
name_said (name ∷ []) = name_of name
name_said (name ∷ w ∷ ws) = None

-- a field or method, which is two words
abbrev pub method_said : Words → Option MemberName
method_said [] = None
method_said (word ∷ []) = None
method_said (word ∷ desc ∷ []) = member_said word desc
method_said (word ∷ desc ∷ w ∷ ws) = None

-- the place of an argument is 0 to 254
abbrev pub argument_of : List ℕ → Option ℕ
argument_of word = natural_in 254 word

-- N is a decimal of 32 bits
abbrev pub int_of : List ℕ → Option ℤ
int_of word = integer_in (pos 0 -ℤ pos (2 ^ 31)) (pos (2 ^ 31) -ℤ pos 1) word

-- V is `null`, `any`, `int N`, `new T`, `some T` or `arg K`
abbrev pub lone_value : List ℕ → Option Value
lone_value word = keyed word (codes "null") (Some Null) (keyed word (codes "any") (Some Any) None)

abbrev pub value_with : List ℕ → List ℕ → Option Value
value_with word operand =
    keyed word (codes "int") (option_map Int (int_of operand)) (keyed word (codes "new") (option_map New (name_of operand))
    (keyed word (codes "some") (option_map OneOf (name_of operand)) (keyed word (codes "arg") (option_map Arg (argument_of operand)) None)))

abbrev pub value_said : Words → Option Value
value_said [] = None
value_said (word ∷ []) = lone_value word
value_said (word ∷ operand ∷ []) = value_with word operand
value_said (word ∷ operand ∷ w ∷ ws) = None

-- F V: a field and a value
abbrev pub setting_said : Words → Option (MemberName × Value)
setting_said [] = None
setting_said (word ∷ []) = None
setting_said (word ∷ desc ∷ ws) = member_said word desc >>= λ field. value_said ws >>= λ value. Some (field, value)

abbrev pub is_void : Words → Bool
is_void [] = false
is_void (word ∷ []) = bytes_eq word (codes "void")
is_void (word ∷ w ∷ ws) = false

abbrev pub return_said : Words → Option Effect
return_said ws = if is_void ws then Some ReturnsVoid else option_map Returns (value_said ws)

abbrev pub copy_said : Words → Option Effect
copy_said [] = None
copy_said (from ∷ []) = None
copy_said (from ∷ to ∷ []) = argument_of from >>= λ j. argument_of to >>= λ k. Some (Copies j k)
copy_said (from ∷ to ∷ w ∷ ws) = None

-- an effect is `returns void`, `returns V`, `makes T`, `writes F V` or `copies J K`
abbrev pub effect_said : List ℕ → Words → Option Effect
effect_said word ws =
    keyed word (codes "returns") (return_said ws) (keyed word (codes "makes") (option_map Makes (name_said ws))
    (keyed word (codes "writes") (option_map (λ s. Writes s.0 s.1) (setting_said ws)) (keyed word (codes "copies") (copy_said ws) None)))

-- a line of a summary is `method M`, `replace M`, `literal F V` or an effect
abbrev pub line_said : Words → Option Said
line_said [] = None
line_said (word ∷ ws) =
    keyed word (codes "method") (option_map (Opens false) (method_said ws)) (keyed word (codes "replace") (option_map (Opens true) (method_said ws))
    (keyed word (codes "literal") (option_map (λ s. Sets s.0 s.1) (setting_said ws)) (option_map Does (effect_said word ws))))

-- a line of a list of roots is `static M`, `inst T` or `make C`
abbrev pub root_said : Words → Option Root
root_said [] = None
root_said (word ∷ ws) =
    keyed word (codes "static") (option_map StaticCall (method_said ws)) (keyed word (codes "inst") (option_map Inst (name_said ws))
    (keyed word (codes "make") (option_map Make (name_said ws)) None))
