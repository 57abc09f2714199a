-- Going up once past the candidates of a method that has package access (this project's own).
use Rattle.std.specs.Prelude.{◌≡◌, ◌≢◌, ℕ, true, false, List, Option, Some, None, unwrap_or, slice_index}
use Rattle.wf_base.specs.declared.ids.ClassId.{ClassId}
use Rattle.wf_data.specs.declared.class_info.ClassInfo.{ClassInfo}
use Rattle.wf_grammar.specs.ClassFile.{Key}
use Rattle.wf_classes.specs.Above.{Has}
use Rattle.wf_classes.specs.World.{number, superclass_of}
use Rattle.wf_classes.specs.declared.own.OwnMethod.{OwnMethod}
use Rattle.wf_resolve.specs.Upward.{IsOwn, Offers}
use Rattle.wf_resolve.specs.declared.upward.Wanted.TheVariants.{Overriding}
use Rattle.wf_select.specs.Overriding.{is_open}
use Rattle.wf_select.specs.Packages.{same_package}
use Rattle.wf_select.specs.declared.overriding.Passed.{Passed}
use Rattle.wf_select.specs.declared.overriding.Standing.{Standing}
use Rattle.wf_select.specs.declared.overriding.Standing.TheVariants.{Itself, Opener, Near, Far, Nothing}

-- class d, another than class a, declares this method, which isn't private and is of an instance
pub record IsCandidate (classes : List ClassInfo) (key : Key) (a d : ℕ) (m : OwnMethod) : Type 0 where
  pub other : d ≢ a
  pub class : number m.class ≡ d
  pub own : IsOwn classes key m
  pub offers : Offers classes key Overriding d

-- what stands in class d, for the method of class a
abbrev pub StandsAs : List ClassInfo → Key → ℕ → ℕ → Standing → Type 0
StandsAs classes key a d Itself = d ≡ a
StandsAs classes key a d (Opener m) = IsCandidate classes key a d m × (same_package classes d a ≡ true) × (is_open m.flags ≡ true)
StandsAs classes key a d (Near m) = IsCandidate classes key a d m × (same_package classes d a ≡ true) × (is_open m.flags ≡ false)
StandsAs classes key a d (Far m) = IsCandidate classes key a d m × (same_package classes d a ≡ false)
StandsAs classes key a d Nothing = (d ≢ a) × (Offers classes key Overriding d → ⊥)

abbrev pub known : Standing → Passed → OwnMethod → Option OwnMethod
known Itself passed a = Some (unwrap_or passed.near a)
known (Opener m) passed a = Some (unwrap_or passed.any m)
known (Near m) passed a = None
known (Far m) passed a = None
known Nothing passed a = None

abbrev pub with_passed : Standing → Passed → Passed
with_passed Itself passed = passed
with_passed (Opener m) passed = passed
with_passed (Near m) passed = record { any = Some (unwrap_or passed.any m); near = Some (unwrap_or passed.near m) }
with_passed (Far m) passed = record { any = Some (unwrap_or passed.any m); near = passed.near }
with_passed Nothing passed = passed

-- the superclass of class d is marked
pub record IsMarkedNext (classes : List ClassInfo) (heights bits : List ℕ) (d s : ℕ) : Type 0 where
  pub above : superclass_of classes d ≡ Some s
  pub marked : Has bits (slice_index heights s)

abbrev pub NextMarked : List ClassInfo → List ℕ → List ℕ → ℕ → Option ClassId → Type 0
NextMarked classes heights bits d (Some s) = IsMarkedNext classes heights bits d (number s)
NextMarked classes heights bits d None = (s : ℕ) → IsMarkedNext classes heights bits d s → ⊥
