-- How loadable classes are found: each class waits for what its list names, and goes on when the last of that is
-- there (this project's own).
use Rattle.std.specs.Prelude.{◌≡◌, ◌≢◌, ℕ, zero, suc, ◌+◌, ◌<◌, ◌≤◌, ◌==◌, Bool, true, false, not, ◌&&◌, List, [], ◌∷◌, ◌++◌, length, map, take, count_by, IsPermutation, slice_index, slice_get, Option, Some, None, option_and_then, option_to_list, if◌then◌else◌}
use Rattle.std.specs.List.{list_any, flat_map, filter}
use Rattle.std.specs.List.Sorted.{IsNonDecreasingBy}
use Rattle.std.specs.Option.{option_map_or, is_none}
use Rattle.std.specs.Str.{bytes_eq}
use Rattle.wf_data.specs.Flags.{is_interface}
use Rattle.wf_data.specs.declared.class_info.ClassInfo.{ClassInfo}
use Rattle.wf_names.specs.Names.{object_name}
use Rattle.wf_classes.specs.World.{class_of}
use Rattle.wf_classes.specs.declared.waits.Wait.{Wait}

-- ---- what a class waits for

-- whether a class is an interface as is asked
abbrev pub is_of_kind : Bool → ClassInfo → Bool
is_of_kind true k = is_interface k.flags
is_of_kind false k = not (is_interface k.flags)

abbrev pub is_of_kind_at : List ClassInfo → Bool → ℕ → Bool
is_of_kind_at files interface c = option_map_or (is_of_kind interface) (slice_get files c) false

-- the number of the class of this name, where it is of the kind that is asked
abbrev pub class_of_kind : List ClassInfo → Bool → List ℕ → Option ℕ
class_of_kind files interface name = option_and_then (λ c. if is_of_kind_at files interface c then Some c else None) (class_of files name)

-- the wait of class i for the class of a name, where that is there
abbrev pub wait_for : List ClassInfo → ℕ → Bool → List ℕ → List Wait
wait_for files i interface name = option_map_or (λ c. record { above = c; below = i } ∷ []) (class_of_kind files interface name) []

-- what class i waits for
abbrev pub waits_at : List ClassInfo → ℕ → ClassInfo → List Wait
waits_at files i k = option_map_or (wait_for files i false) k.superclass [] ++ flat_map (wait_for files i true) k.interfaces

-- what the first n classes wait for
abbrev pub waits_upto : List ClassInfo → ℕ → List Wait
waits_upto files zero = []
waits_upto files (suc i) = waits_upto files i ++ option_map_or (waits_at files i) (slice_get files i) []

-- java/lang/Object, which waits for nothing
abbrev pub is_root : ClassInfo → Bool
is_root k = is_none k.superclass && (bytes_eq k.name object_name && (not (is_interface k.flags) && (length k.interfaces == 0)))

-- How many names a class waits for. One that has no superclass, and isn't the root, waits for one that never comes.
abbrev pub wanted : ClassInfo → ℕ
wanted k = if is_root k then 0 else length k.interfaces + 1

-- What classes wait for: how many names each, and for which classes, sorted by these.
pub record AreWaits (files : List ClassInfo) (start : List ℕ) (waits : List Wait) : Type 0 where
  pub starts : start ≡ map wanted files
  pub all : IsPermutation (waits_upto files (length files)) waits
  pub sorted : IsNonDecreasingBy (λ (w : Wait). w.above) waits

-- ---- the worklist

abbrev pub is_in : List ℕ → ℕ → Bool
is_in xs x = list_any (λ y. y == x) xs

-- how many of the waits are of class i
abbrev pub count_of : List Wait → ℕ → ℕ
count_of waits i = count_by (λ (w : Wait). w.below == i) waits

-- how many of those are for classes that aren't done
abbrev pub left_of : List Wait → List ℕ → ℕ → ℕ
left_of waits done i = count_by (λ (w : Wait). (w.below == i) && not (is_in done w.above)) waits

-- the waits for class c
abbrev pub waits_for : List Wait → ℕ → List Wait
waits_for waits c = filter (λ (w : Wait). w.above == c) waits

-- both classes of each wait are there
pub record AreInside (n : ℕ) (waits : List Wait) : Type 0 where
  pub above : (x : ℕ) (w : Wait) → slice_get waits x ≡ Some w → w.above < n
  pub below : (x : ℕ) (w : Wait) → slice_get waits x ≡ Some w → w.below < n

-- each class waits for no less than its waits say
pub record AreCounted (start : List ℕ) (waits : List Wait) : Type 0 where
  pub each : (i : ℕ) → i < length start → count_of waits i ≤ slice_index start i

-- the classes below n that wait for nothing, each once
pub record ListsZeros (waiting : List ℕ) (n : ℕ) (order : List ℕ) : Type 0 where
  pub inside : (p : ℕ) → p < length order → slice_index order p < n
  pub zero : (p : ℕ) → p < length order → slice_index waiting (slice_index order p) ≡ 0
  pub listed : (i : ℕ) → i < n → slice_index waiting i ≡ 0 → is_in order i ≡ true
  pub apart : (p q : ℕ) → p < q → q < length order → slice_index order p ≢ slice_index order q
  pub count : length order ≡ count_by (λ w. w == 0) (take n waiting)

-- The state of the worklist: the first of the order are done, and of what waits for the last of these the rest is
-- still to be told.
pub record IsReleasing (waits : List Wait) (start done : List ℕ) (rest : List Wait) (waiting order : List ℕ) : Type 0 where
  pub zeros : ListsZeros waiting (length waiting) order
  pub size : length waiting ≡ length start
  pub counted : AreCounted start waits
  pub counts : (i : ℕ) → i < length start → slice_index waiting i + count_of waits i ≡ slice_index start i + left_of waits done i + count_of rest i
  pub fits : length done ≤ length order
  pub front : take (length done) order ≡ done
  pub behind : (p x : ℕ) (w : Wait) → p < length order → slice_get waits x ≡ Some w → w.below ≡ slice_index order p → is_in (take p order) w.above ≡ true
  pub sound : (p : ℕ) → p < length order → slice_index start (slice_index order p) ≡ count_of waits (slice_index order p)

-- What the worklist leaves: in order the classes that wait for nothing but their waits, all of which are for
-- classes before them; each class of which the order has all that it waits for is in it.
pub record IsReleased (waits : List Wait) (start waiting order : List ℕ) : Type 0 where
  pub zeros : ListsZeros waiting (length waiting) order
  pub size : length waiting ≡ length start
  pub behind : (p x : ℕ) (w : Wait) → p < length order → slice_get waits x ≡ Some w → w.below ≡ slice_index order p → is_in (take p order) w.above ≡ true
  pub sound : (p : ℕ) → p < length order → slice_index start (slice_index order p) ≡ count_of waits (slice_index order p)
  pub complete : (i : ℕ) → i < length start → slice_index start i ≡ count_of waits i → ((x : ℕ) (w : Wait) → slice_get waits x ≡ Some w → w.below ≡ i → is_in order w.above ≡ true) → is_in order i ≡ true

-- the worklist has come to its end on what these classes wait for
pub record Closes (files : List ClassInfo) (waiting order : List ℕ) : Type 0 where
  pub start : List ℕ
  pub waits : List Wait
  pub are : AreWaits files start waits
  pub released : IsReleased waits start waiting order

-- ---- what is left

-- of the first n classes those that wait for nothing
abbrev pub kept_upto : List ℕ → List ClassInfo → ℕ → List ClassInfo
kept_upto waiting files zero = []
kept_upto waiting files (suc i) = kept_upto waiting files i ++ (if slice_index waiting i == 0 then option_to_list (slice_get files i) else [])

abbrev pub kept_of : List ℕ → List ClassInfo → List ClassInfo
kept_of waiting files = kept_upto waiting files (length files)
