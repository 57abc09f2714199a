-- The codes among the attributes of a method (this project's own).
use Rattle.std.specs.Prelude.{◌≡◌, Bool, true, false, List, [], ◌∷◌, Option, Some, None, Result, Ok, Err}
use Rattle.std.specs.List.{filter_map}
use Rattle.wf_data.specs.declared.class_info.CodeInfo.{CodeInfo}
use Rattle.wf_bytes.specs.Reading.{Fault, ◌>>=◌}
use Rattle.wf_grammar.specs.ClassFile.{only_code}
use Rattle.wf_constpool.specs.declared.fault.ClassFault.{ClassFault}
use Rattle.wf_constpool.specs.Readers.{Fails}
use Rattle.wf_classfile.specs.declared.codes.Codes.{Codes}
use Rattle.wf_classfile.specs.declared.codes.Codes.TheVariants.{Missing, Single, Several}

-- with what one more attribute gives
abbrev pub and_attribute : Codes → Option CodeInfo → Codes
and_attribute codes None = codes
and_attribute Missing (Some code) = Single code
and_attribute (Single before) (Some code) = Several
and_attribute Several (Some code) = Several

-- with what each of some attributes gives
abbrev pub and_attributes : Codes → List (Option CodeInfo) → Codes
and_attributes codes [] = codes
and_attributes codes (a ∷ rest) = and_attributes (and_attribute codes a) rest

-- the code that is left: none in a native or abstract method, exactly one in every other
abbrev pub only_of : Bool → Codes → Option (Option CodeInfo)
only_of true Missing = Some None
only_of true (Single code) = None
only_of true Several = None
only_of false Missing = None
only_of false (Single code) = Some (Some code)
only_of false Several = None

-- attributes that are read behind these codes, with those that they give
abbrev pub with_codes : {S : Type 0} → Codes → Result (List (Option CodeInfo) × S) Fault → Result (Codes × S) Fault
with_codes codes read = read >>= λ x. Ok (and_attributes codes x.0, x.1)

-- the code that the attributes of a method leave, of which no list is kept
pub record IsOnly {S : Type 0} (without : Bool) (new : S) (code : Option (Option CodeInfo)) (read : Result (List (Option CodeInfo) × S) Fault) : Type 0 where
  pub attributes : List (Option CodeInfo)
  pub read_as : read ≡ Ok (attributes, new)
  pub only : code ≡ only_code without (filter_map (λ a. a) attributes)

abbrev pub GivesOnly : {S : Type 0} → Bool → S → Result (Option (Option CodeInfo)) ClassFault → Result (List (Option CodeInfo) × S) Fault → Type 0
GivesOnly without new (Ok code) read = IsOnly without new code read
GivesOnly without new (Err e) read = Fails e read
