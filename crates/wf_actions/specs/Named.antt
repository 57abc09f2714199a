-- The types and targets that names mean.
use Rattle.std.specs.Prelude.{◌≡◌, ℕ, zero, suc, List, [], ◌∷◌, ◌++◌, drop, Option, Some, None, option_and_then, option_map, codes}
use Rattle.wf_base.specs.declared.ids.ClassId.{ClassId}
use Rattle.wf_base.specs.declared.ids.TargetId.{TargetId}
use Rattle.wf_base.specs.declared.ids.TypeId.{TypeId}
use Rattle.wf_data.specs.declared.class_info.PoolEntry.{PoolEntry}
use Rattle.wf_data.specs.Pool.{class_at}
use Rattle.wf_classes.specs.World.{name_at, number}
use Rattle.wf_subtype.specs.Subtypes.{AllTypes, IsTargetFound}
use Rattle.wf_subtype.specs.Universe.{type_of}

abbrev pub type_with : ℕ → TypeId
type_with n = record { 0 = n }

-- the type of a name
abbrev pub type_named : AllTypes → List ℕ → Option TypeId
type_named types name = option_map type_with (type_of types.names name)

-- a class as a type
abbrev pub type_of_class : AllTypes → ClassId → Option TypeId
type_of_class types c = option_and_then (type_named types) (name_at types.classes (number c))

-- some types and, behind them, the types of the next components of an array of this name, so many (JVMS 6.5,
-- multianewarray)
abbrev pub with_components : AllTypes → List TypeId → ℕ → List ℕ → Option (List TypeId)
with_components types found zero name = Some found
with_components types found (suc n) name = option_and_then (λ t. with_components types (found ++ t ∷ []) n (drop 1 name)) (type_named types (drop 1 name))

abbrev pub number_of_target : TargetId → ℕ
number_of_target u = u.0

-- the target of a name, if one is given
abbrev pub IsTargetIfNamed : AllTypes → Option (List ℕ) → Option TargetId → Type 0
IsTargetIfNamed types None u = u ≡ None
IsTargetIfNamed types (Some name) u = IsTargetFound types name (option_map number_of_target u)

-- the name of the class of objects that an entry of an exception table catches: java/lang/Throwable where it names no class
-- (JVMS 4.7.3)
abbrev pub caught_name : List PoolEntry → ℕ → Option (List ℕ)
caught_name pool zero = Some (codes "java/lang/Throwable")
caught_name pool (suc c) = class_at pool (suc c)
