-- Classes and arrays, by their names (JVMS 4.4.1) and by numbers.
use Rattle.std.specs.Prelude.{◌≡◌, replicate, ℕ, zero, suc, ◌+◌, ◌*◌, ◌<◌, ◌≤◌, ◌==◌, List, [], ◌∷◌, ◌++◌, length, Option, Some, None, option_map, slice_get, nat_le, if◌then◌else◌, ◌-◌, ◌&&◌, Bool, true, false}
use Rattle.std.specs.List.{take_while}
use Rattle.wf_data.specs.declared.class_info.ClassInfo.{ClassInfo}
use Rattle.wf_names.specs.Names.{object_name}
use Rattle.wf_classes.specs.World.{name_at, class_of}
use Rattle.wf_subtype.specs.declared.reference.Inner.{Inner}
use Rattle.wf_subtype.specs.declared.reference.Inner.TheVariants.{Class, Primitive}
use Rattle.wf_subtype.specs.declared.reference.Reference.{Reference}

-- the letters of the primitive types: B, C, D, F, I, J, S and Z (JVMS table 4.3-A)
abbrev pub letters : List ℕ
letters = 66 ∷ 67 ∷ 68 ∷ 70 ∷ 73 ∷ 74 ∷ 83 ∷ 90 ∷ []

-- how many `[` a name begins with
abbrev pub brackets : List ℕ → ℕ
brackets name = length (take_while (λ b. b == 91) name)

-- what stands behind the `[` of an array's name: `L`, the class's name and `;`, or a letter (JVMS 4.3.2)
abbrev pub inner_text : List ClassInfo → Inner → Option (List ℕ)
inner_text classes (Class c) = option_map (λ name. 76 ∷ (name ++ 59 ∷ [])) (name_at classes c.0)
inner_text classes (Primitive p) = option_map (λ letter. letter ∷ []) (slice_get letters p)

-- the name of a class, or of an array of so many dimensions
abbrev pub name_of : List ClassInfo → ℕ → Inner → Option (List ℕ)
name_of classes zero (Class c) = name_at classes c.0
name_of classes zero (Primitive p) = None
name_of classes (suc n) inner = option_map (λ text. replicate (suc n) 91 ++ text) (inner_text classes inner)

-- A name is that of a class that is there, or of an array of 1 to 255 dimensions of such a class or of a primitive
-- type (JVMS 4.4.1).
pub record Refers (classes : List ClassInfo) (name : List ℕ) (r : Reference) : Type 0 where
  pub dims : r.dims ≤ 255
  pub text : name_of classes r.dims r.inner ≡ Some name

-- what a name is the name of, if it is that of a class or an array
abbrev pub IsReferenceOf : List ClassInfo → List ℕ → Option Reference → Type 0
IsReferenceOf classes name None = (r : Reference) → Refers classes name r → ⊥
IsReferenceOf classes name (Some r) = Refers classes name r

-- what stands between an `L` and a `;`
abbrev pub IsClassText : List ℕ → Option (List ℕ) → Type 0
IsClassText text None = (name : List ℕ) → text ≡ 76 ∷ (name ++ 59 ∷ []) → ⊥
IsClassText text (Some name) = text ≡ 76 ∷ (name ++ 59 ∷ [])

-- the primitive type of a letter that stands alone
abbrev pub IsPrimitiveOf : List ℕ → Option ℕ → Type 0
IsPrimitiveOf text None = (p letter : ℕ) → slice_get letters p ≡ Some letter → text ≡ letter ∷ [] → ⊥
IsPrimitiveOf text (Some p) = (letter : ℕ) × (slice_get letters p ≡ Some letter) × (text ≡ letter ∷ [])

-- the same of what stands behind the `[`
abbrev pub IsInnerOf : List ClassInfo → List ℕ → Option Inner → Type 0
IsInnerOf classes text None = (x : Inner) → inner_text classes x ≡ Some text → ⊥
IsInnerOf classes text (Some x) = inner_text classes x ≡ Some text

-- a name is that of an array that is loadable, since its class is
pub record IsArray (classes : List ClassInfo) (name : List ℕ) : Type 0 where
  pub reference : Reference
  pub refers : Refers classes name reference
  pub dims : 0 < reference.dims

-- The class whose members the objects of a class or an array have: of an array those of java/lang/Object (JVMS 5.4.3.2,
-- 5.4.3.3; 6.5, invokevirtual).
abbrev pub class_of_objects : List ClassInfo → ℕ → Inner → Option ℕ
class_of_objects classes zero (Class c) = Some c.0
class_of_objects classes zero (Primitive p) = None
class_of_objects classes (suc n) x = class_of classes object_name

-- ---- numbers (this project's own)

-- classes by their numbers, primitive types behind them
abbrev pub inner_number : ℕ → Inner → ℕ
inner_number classes (Class c) = c.0
inner_number classes (Primitive p) = classes + p

-- The number of a class or an array, where there are so many classes: by dimensions, then by what is below them.
-- Arrays of more than `deepest` dimensions share a number.
abbrev pub target_number : ℕ → ℕ → Reference → ℕ
target_number classes deepest r = if nat_le r.dims deepest then r.dims * (classes + 8) + inner_number classes r.inner else (deepest + 1) * (classes + 8)

-- how many numbers there are
abbrev pub target_count : ℕ → ℕ → ℕ
target_count classes deepest = (deepest + 1) * (classes + 8) + 1

abbrev pub is_primitive : Inner → Bool
is_primitive (Class c) = false
is_primitive (Primitive p) = true

-- the component of an array, where that is a class or an array: what an element of it may be (JVMS 2.4)
abbrev pub component_of : Reference → Option Reference
component_of r = if r.dims == 0 then None else if (r.dims == 1) && is_primitive r.inner then None else Some (record { dims = r.dims - 1; inner = r.inner })
