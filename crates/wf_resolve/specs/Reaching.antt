-- Which classes have a class that is sought among those above them (this project's own).
use Rattle.std.specs.Prelude.{◌≡◌, ℕ, ◌<◌, ◌↔◌, List, length, Option, Some, None, slice_get, slice_index}
use Rattle.wf_base.specs.declared.ids.ClassId.{ClassId}
use Rattle.wf_data.specs.declared.class_info.ClassInfo.{ClassInfo}
use Rattle.wf_classes.specs.Above.{IsAbove, Has}
use Rattle.wf_classes.specs.Members.{field_number}
use Rattle.wf_classes.specs.World.{number}
use Rattle.wf_resolve.specs.declared.fields.Sought.{Sought}
use Rattle.wf_resolve.specs.declared.fields.Sought.TheVariants as sought

-- class c declares a field of this name and descriptor
pub record DeclaresField (classes : List ClassInfo) (name desc : List ℕ) (c : ℕ) : Type 0 where
  pub field : ℕ
  pub there : field_number classes c name desc ≡ Some field

abbrev pub IsSought : List ClassInfo → Sought → ℕ → Type 0
IsSought classes (sought.Class class) c = number class ≡ c
IsSought classes (sought.FieldOf name desc) c = DeclaresField classes name.now desc.now c

-- one that P holds of is above class d
pub record Reaches (classes : List ClassInfo) (P : ℕ → Type 0) (d : ℕ) : Type 0 where
  pub end : ℕ
  pub above : IsAbove classes d end
  pub is : P end

-- class d is above class c, and has it above it
pub record IsReaching (classes : List ClassInfo) (P : ℕ → Type 0) (c d : ℕ) : Type 0 where
  pub above : IsAbove classes c d
  pub reaches : Reaches classes P d

-- of the classes above class c those that have it above them are marked, and no others
pub record AreReaching (classes : List ClassInfo) (heights : List ℕ) (P : ℕ → Type 0) (c : ℕ) (bits : List ℕ) : Type 0 where
  pub size : length bits ≡ 1024
  pub each : (d : ℕ) → IsAbove classes c d → Has bits (slice_index heights d) ↔ Reaches classes P d

-- the first of a list of classes that is marked
pub record IsFirstMarked (bits heights : List ℕ) (numbers : List ℕ) (s : ℕ) : Type 0 where
  pub place : ℕ
  pub there : slice_get numbers place ≡ Some s
  pub marked : Has bits (slice_index heights s)
  pub first : (j t : ℕ) → j < place → slice_get numbers j ≡ Some t → Has bits (slice_index heights t) → ⊥

abbrev pub FirstMarkedOf : List ℕ → List ℕ → List ℕ → Option ClassId → Type 0
FirstMarkedOf bits heights numbers (Some s) = IsFirstMarked bits heights numbers (number s)
FirstMarkedOf bits heights numbers None = (j t : ℕ) → slice_get numbers j ≡ Some t → Has bits (slice_index heights t) → ⊥
