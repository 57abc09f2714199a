-- What becomes of a root that is asked for (this project's own rule).
use Rattle.std.specs.Prelude.{◌≡◌, ℕ, Bool, true, not, List, [], ◌∷◌, ◌++◌, Some, slice_get}
use Rattle.std.specs.Option.{is_none}
use Rattle.wf_inputs.specs.declared.roots.RootLine.{RootLine}
use Rattle.wf_inputs.specs.declared.roots.Roots.{Roots}
use Rattle.wf_names.specs.declared.input.InputWhy.{InputWhy}
use Rattle.wf_names.specs.declared.member.MemberName.{MemberName}
use Rattle.wf_names.specs.declared.root.Root.{Root}
use Rattle.wf_names.specs.declared.root.Root.TheVariants.{StaticCall, Inst, Make}
use Rattle.wf_subtype.specs.Subtypes.{AllTypes}
use Rattle.wf_subtype.specs.Universe.{type_of}
use Rattle.wf_binding.specs.Validity.{IsBadRoot}
use Rattle.wf_binding.specs.declared.roots.Added.{Added}
use Rattle.wf_binding.specs.declared.roots.Added.TheVariants as added

-- a type of this name stands in the universe
abbrev pub is_standing : AllTypes → List ℕ → Bool
is_standing types name = not (is_none (type_of types.names name))

-- the type that an `inst` root names stands in the universe
abbrev pub root_stands : AllTypes → Root → Bool
root_stands types (StaticCall m) = true
root_stands types (Inst t) = is_standing types t
root_stands types (Make c) = true

-- a root that is asked for is valid
pub record IsValidRoot (types : AllTypes) (root : Root) : Type 0 where
  pub sound : (w : InputWhy) → IsBadRoot types.classes root w → ⊥
  pub stands : root_stands types root ≡ true

-- an equal root is in the list
pub record IsListed (lines : List RootLine) (root : Root) : Type 0 where
  pub place : ℕ
  pub line : RootLine
  pub there : slice_get lines place ≡ Some line
  pub same : line.root ≡ root

pub record Refuses (types : AllTypes) (root : Root) (old new : Roots) : Type 0 where
  pub invalid : IsValidRoot types root → ⊥
  pub same : new ≡ old

pub record Finds (types : AllTypes) (root : Root) (old new : Roots) : Type 0 where
  pub valid : IsValidRoot types root
  pub listed : IsListed old.lines root
  pub same : new ≡ old

pub record Appends (types : AllTypes) (root : Root) (old new : Roots) : Type 0 where
  pub valid : IsValidRoot types root
  pub fresh : IsListed old.lines root → ⊥
  pub appended : new.lines ≡ old.lines ++ record { line = 0; root = root } ∷ []

-- the root is refused, found or appended
abbrev pub Adds : AllTypes → Root → Roots → Roots → Added → Type 0
Adds types root old new added.Invalid = Refuses types root old new
Adds types root old new added.There = Finds types root old new
Adds types root old new added.New = Appends types root old new
