-- The rows of bits that say which types are under each target (this project's own): bit 0 is never set, and bit t + 1
-- is type t, so that null is bit 1. Targets that null alone is under share the first row.
use Rattle.std.specs.Prelude.{◌≡◌, ℕ, ◌+◌, ◌-◌, ◌*◌, ◌/◌, ◌<◌, ◌^◌, ◌↔◌, ◌⊎◌, false, true, List, [], length, slice_get, slice_index, slice_index_or, Some}
use Rattle.wf_lattice.specs.Words.{has_bit, has_type, words_of}
use Rattle.wf_data.specs.declared.class_info.ClassInfo.{ClassInfo}
use Rattle.wf_names.specs.Names.{object_name}
use Rattle.wf_classes.specs.World.{number_in, class_of, IsClosedWorld, IsAscending}
use Rattle.wf_classes.specs.Above.{Has}
use Rattle.wf_subtype.specs.References.{inner_number, target_count}
use Rattle.wf_subtype.specs.Subtypes.{AllTypes, IsAboveArrays, IsInnerUnder, IsUnder, IsSubtype, AreReferences, IsDeepest, cloneable_name, serializable_name}
use Rattle.wf_subtype.specs.declared.rows.Rows.{Rows}
use Rattle.wf_subtype.specs.declared.rows.ArrayClasses.{ArrayClasses}
use Rattle.wf_subtype.specs.declared.reference.Inner.{Inner}
use Rattle.wf_subtype.specs.declared.reference.Inner.TheVariants.{Class, Primitive}
use Rattle.wf_subtype.specs.declared.reference.Reference.{Reference}

-- how many words a row has, where there are so many types beside null
abbrev pub row_words : ℕ → ℕ
row_words types = (types + 1) / 64 + 1

-- the words of the row at a place
abbrev pub words_at : List (List ℕ) → ℕ → List ℕ
words_at rows i = slice_index_or rows i []

-- the words of a target's row
abbrev pub row_at : Rows → ℕ → List ℕ
row_at rows u = words_at rows.rows.items (slice_index rows.places.items u)

-- ---- filling rows

-- null alone is in a row
pub record IsNullRow (width : ℕ) (words : List ℕ) : Type 0 where
  pub size : length words ≡ width
  pub null : (b : ℕ) → Has words b ↔ (b ≡ 1)

-- a bit of one row is set, and nothing else changes
pub record Marks (old new : List (List ℕ)) (i b : ℕ) : Type 0 where
  pub count : length new ≡ length old
  pub size : (j : ℕ) → length (words_at new j) ≡ length (words_at old j)
  pub here : (k : ℕ) → Has (words_at new i) k ↔ (Has (words_at old i) k ⊎ (k ≡ b))
  pub other : (j : ℕ) → (j ≡ i → ⊥) → words_at new j ≡ words_at old j

-- each target has a row, and only the first row is that of several
pub record AreRows (rows : Rows) : Type 0 where
  pub targets : length rows.places.items < 2 ^ 32
  pub some : 0 < rows.width
  pub few : length rows.rows.items < 2 ^ 32
  pub inside : (u : ℕ) → u < length rows.places.items → slice_index rows.places.items u < length rows.rows.items
  pub own : (u v : ℕ) → u < length rows.places.items → v < length rows.places.items → slice_index rows.places.items u ≡ slice_index rows.places.items v → (slice_index rows.places.items u ≡ 0) ⊎ (u ≡ v)
  pub wide : (i : ℕ) → i < length rows.rows.items → length (words_at rows.rows.items i) ≡ rows.width
  pub first : IsNullRow rows.width (words_at rows.rows.items 0)

-- what is set in the rows of targets: what was set, and what is added
pub record Puts (old new : Rows) (added : ℕ → ℕ → Type 0) : Type 0 where
  pub kept : AreRows new
  pub width : new.width ≡ old.width
  pub count : length new.places.items ≡ length old.places.items
  pub each : (u b : ℕ) → u < length old.places.items → Has (row_at new u) b ↔ (Has (row_at old u) b ⊎ added u b)

-- the same rows, in which a target has one of its own, at a place
pub record Owns (old new : Rows) (u i : ℕ) : Type 0 where
  pub kept : AreRows new
  pub width : new.width ≡ old.width
  pub count : length new.places.items ≡ length old.places.items
  pub place : slice_index new.places.items u ≡ i
  pub own : (i ≡ 0) → ⊥
  pub same : (v b : ℕ) → v < length old.places.items → Has (row_at new v) b ↔ Has (row_at old v) b

-- rows that null alone is in
pub record AreFresh (words targets : ℕ) (rows : Rows) : Type 0 where
  pub kept : AreRows rows
  pub width : rows.width ≡ words
  pub count : length rows.places.items ≡ targets
  pub null : (u b : ℕ) → u < targets → Has (row_at rows u) b ↔ (b ≡ 1)

-- ---- what is put

-- what stands below dimensions: one of so many classes, or a primitive type (JVMS table 4.3-A)
abbrev pub IsThere : ℕ → Inner → Type 0
IsThere classes (Class c) = c.0 < classes
IsThere classes (Primitive p) = p < 8

-- the classes above arrays, where they are loadable
pub record AreArrayClasses (classes : List ClassInfo) (above : ArrayClasses) : Type 0 where
  pub object : number_in above.object ≡ class_of classes object_name
  pub cloneable : number_in above.cloneable ≡ class_of classes cloneable_name
  pub serializable : number_in above.serializable ≡ class_of classes serializable_name

-- one bit of the row of one target
pub record IsBit (v k u b : ℕ) : Type 0 where
  pub target : u ≡ v
  pub bit : b ≡ k

-- a bit of the rows of the classes of a set, whose numbers follow a first one
pub record IsClassBit (first k : ℕ) (set : ℕ → Type 0) (u b : ℕ) : Type 0 where
  pub class : ℕ
  pub is : set class
  pub target : u ≡ first + class
  pub bit : b ≡ k

-- a bit of the rows of the classes above arrays, by the dimensions in front of them, which are below a number
pub record IsArraysBit (classes : List ClassInfo) (dims k u b : ℕ) : Type 0 where
  pub n : ℕ
  pub within : n < dims
  pub is : IsClassBit (n * (length classes + 8)) k (IsAboveArrays classes) u b

-- a bit of the rows of what is above an inner type, whose numbers follow a first one
pub record IsInnerBit (classes : List ClassInfo) (inner : Inner) (first k u b : ℕ) : Type 0 where
  pub above : Inner
  pub is : IsInnerUnder classes inner above
  pub target : u ≡ first + inner_number (length classes) above
  pub bit : b ≡ k

-- a bit of the rows of all that a type is under
pub record IsTypeBit (classes : List ClassInfo) (r : Reference) (k u b : ℕ) : Type 0 where
  pub dims : ℕ
  pub inner : Inner
  pub under : IsUnder classes r.dims r.inner dims inner
  pub target : u ≡ dims * (length classes + 8) + inner_number (length classes) inner
  pub bit : b ≡ k

-- the same of the first n types
pub record IsBitBelow (classes : List ClassInfo) (references : List Reference) (n u b : ℕ) : Type 0 where
  pub place : ℕ
  pub within : place < n
  pub reference : Reference
  pub there : slice_get references place ≡ Some reference
  pub is : IsTypeBit classes reference (place + 2) u b

-- ---- the rows of types

-- Words are the row of a target: the types that are under it, and no others.
pub record IsMask (types : AllTypes) (u : ℕ) (words : List ℕ) : Type 0 where
  pub size : length words ≡ row_words (length types.names)
  pub each : (t : ℕ) → (has_type (words_of words) t ≡ true) ↔ IsSubtype types t u
  pub first : has_bit (words_of words) 0 ≡ false

-- each target has the row of the types under it
pub record HaveMasks (types : AllTypes) (rows : Rows) : Type 0 where
  pub kept : AreRows rows
  pub width : rows.width ≡ row_words (length types.names)
  pub count : length rows.places.items ≡ target_count (length types.classes) types.deepest
  pub masks : (u : ℕ) → u < target_count (length types.classes) types.deepest → IsMask types u (row_at rows u)

-- what is kept with the types
pub record AreTypesKept (types : AllTypes) (rows : Rows) : Type 0 where
  pub world : IsClosedWorld types.classes
  pub ascending : IsAscending types.names
  pub few : length types.names < 2 ^ 32 - 1
  pub named : AreReferences types.classes types.names types.references
  pub depth : IsDeepest types.references types.deepest
  pub masks : HaveMasks types rows
