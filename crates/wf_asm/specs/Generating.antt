-- The programs of the generator (this project's own).
use Rattle.std.specs.Prelude.{◌≡◌, ◌≢◌, ℕ, zero, suc, ◌+◌, ◌-◌, ◌*◌, ◌/◌, ◌%◌, Bool, true, false, List, [], ◌∷◌, ◌++◌, Option, Some, None, Ok, ◌==◌, nat_lt, codes, if◌then◌else◌}
use Rattle.std.specs.Fmt.{decimal}
use Rattle.wf_data.specs.declared.class_info.ClassInfo.{ClassInfo}
use Rattle.wf_names.specs.NameForm.{member_of}
use Rattle.wf_names.specs.Names.{object_name, constructor_name}
use Rattle.wf_listing.specs.declared.listing.Constant.TheVariants as constant
use Rattle.wf_listing.specs.declared.listing.Item.TheVariants as item
use Rattle.wf_listing.specs.declared.listing.Listed.{Listed}
use Rattle.wf_listing.specs.declared.listing.ListedMethod.{ListedMethod}
use Rattle.wf_listing.specs.declared.listing.Statement.{Statement}
use Rattle.wf_listing.specs.declared.listing.Step.{Step}
use Rattle.wf_listing.specs.declared.listing.Step.TheVariants as step
use Rattle.wf_asm.specs.Building.{classes_of}
use Rattle.wf_listing.specs.Lines.{using_constant}

-- ---- numbers

-- the state after a number is drawn, and the number that it gives
abbrev pub next_state : ℕ → ℕ
next_state s = (s * 1103515245 + 12345) % 2147483648

abbrev pub number_of : ℕ → ℕ
number_of s = s / 65536

-- ---- classes

-- a statement that no listing has: its line doesn't count
abbrev pub statement : Step → Statement
statement s = record { line = 0; says = item.Step s }

abbrev pub void_desc : List ℕ
void_desc = codes "()V"

abbrev pub flags_of : Bool → ℕ
flags_of static = if static then 9 else 1

-- a public method `()V` with these statements
abbrev pub method : Bool → List ℕ → List Statement → ListedMethod
method static name body = record { flags = flags_of static; name = name; desc = void_desc; body = Some body }

abbrev pub returns : Statement
returns = statement (step.Fixed (0xB1 ∷ []))

-- the name of class i
abbrev pub class_name : ℕ → List ℕ
class_name i = codes "G" ++ decimal i

-- new of a class, and the call of G0.m on it
abbrev pub makes : ℕ → List Statement
makes i =
    statement (using_constant 0xBB (constant.Class (class_name i)) [])
    ∷ statement (using_constant 0xB6 (constant.Method (member_of (class_name 0) (codes "m") void_desc)) []) ∷ []

-- the call of a class's static method, which the constant 0 passes over
abbrev pub label_name : List ℕ
label_name = codes "L"

abbrev pub branches : ℕ → ℕ → List Statement
branches c b =
    statement (step.Fixed (0x10 ∷ c ∷ []))
    ∷ statement (step.Jump 0x99 label_name)
    ∷ statement (using_constant 0xB8 (constant.Method (member_of (class_name b) (codes "s") void_desc)) [])
    ∷ record { line = 0; says = item.Label label_name }
    ∷ returns ∷ []

-- the body of class i's method m, for the numbers y and z
abbrev pub body_of : ℕ → ℕ → ℕ → ℕ → List Statement
body_of size i y z = (if nat_lt i (size - 1) then makes (i + 1 + y % (size - i - 1)) else []) ++ branches (z % 2) (z % size)

abbrev pub super_of : ℕ → ℕ → List ℕ
super_of i x = if i == 0 then object_name else class_name (x % i)

-- where the program begins, in class 0 alone
abbrev pub main_of : ℕ → List ListedMethod
main_of i = if i == 0 then method true (codes "main") (makes 0 ++ returns ∷ []) ∷ [] else []

abbrev pub class_listed : List ℕ → Option (List ℕ) → List ListedMethod → Listed
class_listed name super methods = record { line = 0; flags = 0x0021; name = name; superclass = super; interfaces = []; fields = []; methods = methods }

unfoldable pub generated_class : ℕ → ℕ → ℕ → ℕ → ℕ → Listed
generated_class size i x y z =
    class_listed (class_name i) (Some (super_of i x)) (method true (codes "s") (returns ∷ []) ∷ method false (codes "m") (body_of size i y z) ∷ main_of i)

unfoldable pub object_class : Listed
object_class = class_listed object_name None (method false constructor_name (returns ∷ []) ∷ [])

-- class i, where the state before it is s, and the state behind it
unfoldable pub class_at : ℕ → ℕ → ℕ → Listed
class_at size i s =
    let x = next_state s in
    let y = next_state x in
    let z = next_state y in
    generated_class size i (number_of x) (number_of y) (number_of z)

unfoldable pub state_behind : ℕ → ℕ
state_behind s = next_state (next_state (next_state s))

-- the classes from i on, so many, where the state is s
unfoldable pub generated_from : ℕ → ℕ → ℕ → ℕ → List Listed
generated_from size i zero s = []
generated_from size i (suc left) s = class_at size i s ∷ generated_from size (i + 1) left (state_behind s)

unfoldable pub generated : ℕ → ℕ → List Listed
generated seed size = object_class ∷ generated_from size 0 size seed

-- these are the classes of a program
abbrev pub IsProgramOf : ℕ → ℕ → List ClassInfo → Type 0
IsProgramOf seed size classes = classes_of (generated seed size) ≡ Ok classes

-- none of these classes has the name
abbrev pub NoneIsNamed : List ℕ → List ClassInfo → Type 0
NoneIsNamed name [] = Unit {0}
NoneIsNamed name (c ∷ classes) = (name ≢ c.name) × NoneIsNamed name classes

-- no two of these classes have one name
abbrev pub HaveOwnNames : List ClassInfo → Type 0
HaveOwnNames [] = Unit {0}
HaveOwnNames (c ∷ classes) = NoneIsNamed c.name classes × HaveOwnNames classes
