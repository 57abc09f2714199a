-- Methods that a class has from its superinterfaces (JVMS 5.4.3.3).
use Rattle.std.specs.Prelude.{◌≡◌, ◌≢◌, ℕ, ◌<◌, Bool, true, false, not, ◌&&◌, List, Option, Some, None, nat_lt, if◌then◌else◌}
use Rattle.wf_base.specs.declared.ids.ClassId.{ClassId}
use Rattle.wf_data.specs.Flags.{is_private, is_static, is_abstract}
use Rattle.wf_data.specs.declared.class_info.ClassInfo.{ClassInfo}
use Rattle.wf_grammar.specs.ClassFile.{Key}
use Rattle.wf_classes.specs.Above.{IsAbove}
use Rattle.wf_classes.specs.World.{kind_at, number}
use Rattle.wf_classes.specs.Own.{method_flags}
use Rattle.wf_resolve.specs.declared.superinterfaces.Defaults.{Defaults}
use Rattle.wf_resolve.specs.declared.superinterfaces.Defaults.TheVariants.{Nothing, One, Many}
use Rattle.wf_resolve.specs.declared.superinterfaces.Inherited.{Inherited}

-- interface i is a superinterface of class c, direct or indirect, and declares a method of this name and descriptor
-- that is neither private nor static
pub record IsOffer (classes : List ClassInfo) (key : Key) (c i : ℕ) : Type 0 where
  pub flags : ℕ
  pub there : method_flags classes key i ≡ Some flags
  pub seen : is_private flags ≡ false
  pub of_instance : is_static flags ≡ false
  pub is_interface : kind_at classes i ≡ Some true
  pub above : IsAbove classes c i
  pub other : c ≢ i

-- it is maximally specific: no subinterface of it among those declares one too
pub record IsTop (classes : List ClassInfo) (key : Key) (c i : ℕ) : Type 0 where
  pub offer : IsOffer classes key c i
  pub top : (j : ℕ) → IsOffer classes key c j → IsAbove classes j i → j ≡ i

-- it is maximally specific and not abstract
pub record IsDefault (classes : List ClassInfo) (key : Key) (c i : ℕ) : Type 0 where
  pub top : IsTop classes key c i
  pub concrete : (flags : ℕ) → method_flags classes key i ≡ Some flags → is_abstract flags ≡ false

-- ---- as they are found

-- the only number that P holds of
pub record IsOnly (P : ℕ → Type 0) (i : ℕ) : Type 0 where
  pub is : P i
  pub only : (j : ℕ) → P j → j ≡ i

-- two numbers that P holds of
pub record AreTwo (P : ℕ → Type 0) : Type 0 where
  pub first : ℕ
  pub second : ℕ
  pub apart : first ≢ second
  pub one : P first
  pub other : P second

-- none, one, or more than one
abbrev pub AreDefaults : (ℕ → Type 0) → Defaults → Type 0
AreDefaults P Nothing = (i : ℕ) → P i → ⊥
AreDefaults P (One i) = IsOnly P (number i)
AreDefaults P Many = AreTwo P

-- the least number that P holds of
pub record IsLeastOf (P : ℕ → Type 0) (i : ℕ) : Type 0 where
  pub is : P i
  pub least : (j : ℕ) → j < i → P j → ⊥

abbrev pub IsLeast : (ℕ → Type 0) → Option ClassId → Type 0
IsLeast P (Some i) = IsLeastOf P (number i)
IsLeast P None = (i : ℕ) → P i → ⊥

-- with one more
abbrev pub with_default : Defaults → ClassId → Bool → Defaults
with_default found i false = found
with_default Nothing i true = One i
with_default (One j) i true = Many
with_default Many i true = Many

abbrev pub lesser : Option ClassId → ClassId → ClassId
lesser None i = i
lesser (Some j) i = if nat_lt (number j) (number i) then j else i

abbrev pub with_offer : Inherited → ClassId → Bool → Inherited
with_offer found i is_default = record { defaults = with_default found.defaults i is_default; least = Some (lesser found.least i) }

abbrev pub with_offered : Inherited → ClassId → Option ℕ → Bool → Inherited
with_offered found i None hidden = found
with_offered found i (Some flags) hidden = with_offer found i (not hidden && not (is_abstract flags))

-- the interface whose method is taken
abbrev pub least_unless_one : Defaults → Option ClassId → Option ClassId
least_unless_one Nothing least = least
least_unless_one (One i) least = Some i
least_unless_one Many least = least

-- ---- what a name means

-- The superinterface whose method the name means where no class declares one: of the only maximally specific method
-- that isn't abstract, else, where any has one, the one of the least number.
pub data FromInterfaces (classes : List ClassInfo) (key : Key) (c : ℕ) : Option ℕ → Type 0 where
  by_default : (i : ℕ) → IsOnly (IsDefault classes key c) i → FromInterfaces classes key c (Some i)
  by_number : (i : ℕ) → ((j : ℕ) → IsOnly (IsDefault classes key c) j → ⊥) → IsLeastOf (IsOffer classes key c) i → FromInterfaces classes key c (Some i)
  by_none : ((i : ℕ) → IsOffer classes key c i → ⊥) → FromInterfaces classes key c None
