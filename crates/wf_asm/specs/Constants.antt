-- The constant pool of a class of a listing: what stands at its places, in the order of first use, each once
-- (this project's own rule; JVMS 4.4 for the entries).
use Rattle.std.specs.Prelude.{ℕ, suc, ◌+◌, ℤ, Bool, false, ◌&&◌, List, [], ◌∷◌, ◌++◌, map, codes, if◌then◌else◌}
use Rattle.std.specs.List.{flat_map, list_any}
use Rattle.std.specs.Option.{option_map_or}
use Rattle.std.specs.Ordering.{int_eq}
use Rattle.std.specs.Str.{bytes_eq}
use Rattle.wf_data.specs.declared.class_info.PoolEntry.{PoolEntry}
use Rattle.wf_data.specs.declared.class_info.PoolEntry.TheVariants as entry
use Rattle.wf_names.specs.declared.member.MemberName.{MemberName}
use Rattle.wf_names.specs.Members.{same_member}
use Rattle.wf_listing.specs.declared.listing.Constant.{Constant}
use Rattle.wf_listing.specs.declared.listing.Constant.TheVariants as constant
use Rattle.wf_listing.specs.declared.listing.Item.{Item}
use Rattle.wf_listing.specs.declared.listing.Item.TheVariants as item
use Rattle.wf_listing.specs.declared.listing.Listed.{Listed}
use Rattle.wf_listing.specs.declared.listing.ListedField.{ListedField}
use Rattle.wf_listing.specs.declared.listing.ListedMethod.{ListedMethod}
use Rattle.wf_listing.specs.declared.listing.Statement.{Statement}
use Rattle.wf_listing.specs.declared.listing.Step.{Step}
use Rattle.wf_listing.specs.declared.listing.Step.TheVariants as step

-- whether two constants are one
abbrev pub same : Constant → Constant → Bool
same (constant.Text a) (constant.Text b) = bytes_eq a b
same (constant.Class a) (constant.Class b) = bytes_eq a b
same (constant.Str a) (constant.Str b) = bytes_eq a b
same (constant.Int a) (constant.Int b) = int_eq a b
same (constant.Long a) (constant.Long b) = int_eq a b
same (constant.Behind a) (constant.Behind b) = int_eq a b
same (constant.NameType a c) (constant.NameType b d) = bytes_eq a b && bytes_eq c d
same (constant.Field m) (constant.Field n) = same_member m n
same (constant.Method m) (constant.Method n) = same_member m n
same (constant.InterfaceMethod m) (constant.InterfaceMethod n) = same_member m n
same a b = false

-- A constant with those that it names, in the order in which they get their places: each before those that it
-- names. The second place of a Long goes with it.
abbrev pub class_parts : List ℕ → List Constant
class_parts name = constant.Class name ∷ constant.Text name ∷ []

abbrev pub name_type_parts : List ℕ → List ℕ → List Constant
name_type_parts name desc = constant.NameType name desc ∷ constant.Text name ∷ constant.Text desc ∷ []

abbrev pub member_parts : MemberName → List Constant
member_parts m = class_parts m.class ++ name_type_parts m.name m.desc

abbrev pub parts_of : Constant → List Constant
parts_of (constant.Text text) = constant.Text text ∷ []
parts_of (constant.Class name) = class_parts name
parts_of (constant.Str text) = constant.Str text ∷ constant.Text text ∷ []
parts_of (constant.Int n) = constant.Int n ∷ []
parts_of (constant.Long n) = constant.Long n ∷ constant.Behind n ∷ []
parts_of (constant.Behind n) = constant.Behind n ∷ []
parts_of (constant.NameType name desc) = name_type_parts name desc
parts_of (constant.Field m) = constant.Field m ∷ member_parts m
parts_of (constant.Method m) = constant.Method m ∷ member_parts m
parts_of (constant.InterfaceMethod m) = constant.InterfaceMethod m ∷ member_parts m

-- constants with one more, or with more, where they aren't there yet
abbrev pub with_constant : List Constant → Constant → List Constant
with_constant cs c = if list_any (same c) cs then cs else cs ++ c ∷ []

abbrev pub with_constants : List Constant → List Constant → List Constant
with_constants cs [] = cs
with_constants cs (d ∷ ds) = with_constants (with_constant cs d) ds

-- what is used, in the order of the lines
abbrev pub uses_of_step : Step → List Constant
uses_of_step (step.Use u) = parts_of u.constant
uses_of_step (step.Load c) = parts_of c
uses_of_step s = []

abbrev pub uses_of_item : Item → List Constant
uses_of_item (item.Label name) = []
uses_of_item (item.Step s) = uses_of_step s
uses_of_item (item.Catch c) = option_map_or class_parts c.class []

abbrev pub uses_of_statement : Statement → List Constant
uses_of_statement s = uses_of_item s.says

abbrev pub uses_of_body : List Statement → List Constant
uses_of_body body = constant.Text (codes "Code") ∷ flat_map uses_of_statement body

abbrev pub uses_of_method : ListedMethod → List Constant
uses_of_method m = constant.Text m.name ∷ constant.Text m.desc ∷ option_map_or uses_of_body m.body []

abbrev pub uses_of_value : ℤ → List Constant
uses_of_value n = constant.Text (codes "ConstantValue") ∷ constant.Int n ∷ []

abbrev pub uses_of_field : ListedField → List Constant
uses_of_field f = constant.Text f.name ∷ constant.Text f.desc ∷ option_map_or uses_of_value f.constant []

-- the class, its superclass and its interfaces
abbrev pub uses_of_head : Listed → List Constant
uses_of_head c = class_parts c.name ++ option_map_or class_parts c.superclass [] ++ flat_map class_parts c.interfaces

abbrev pub uses_of : Listed → List Constant
uses_of c = uses_of_head c ++ flat_map uses_of_field c.fields ++ flat_map uses_of_method c.methods

-- the constants of a class, in the order of their places from 1 on
unfoldable pub constants_of : Listed → List Constant
constants_of c = with_constants [] (uses_of c)

-- the place of a constant that is there
abbrev pub place_of : List Constant → Constant → ℕ
place_of [] c = 1
place_of (d ∷ ds) c = if same c d then 1 else suc (place_of ds c)

-- what stands at a constant's place
abbrev pub entry_of : List Constant → Constant → PoolEntry
entry_of cs (constant.Text text) = entry.Utf8 text
entry_of cs (constant.Class name) = entry.Class (place_of cs (constant.Text name))
entry_of cs (constant.Str text) = entry.Str (place_of cs (constant.Text text))
entry_of cs (constant.Int n) = entry.Integer n
entry_of cs (constant.Long n) = entry.Long n
entry_of cs (constant.Behind n) = entry.Unusable
entry_of cs (constant.NameType name desc) = entry.NameType (place_of cs (constant.Text name)) (place_of cs (constant.Text desc))
entry_of cs (constant.Field m) = entry.Field (place_of cs (constant.Class m.class)) (place_of cs (constant.NameType m.name m.desc))
entry_of cs (constant.Method m) = entry.Method (place_of cs (constant.Class m.class)) (place_of cs (constant.NameType m.name m.desc))
entry_of cs (constant.InterfaceMethod m) = entry.InterfaceMethod (place_of cs (constant.Class m.class)) (place_of cs (constant.NameType m.name m.desc))

-- the pool of these constants; place 0 is unusable
abbrev pub pool_of : List Constant → List PoolEntry
pool_of cs = entry.Unusable ∷ map (entry_of cs) cs
