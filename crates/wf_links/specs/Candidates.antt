-- Which method runs for a receiver of a type, and the tables of candidates (this project's own).
use Rattle.std.specs.Prelude.{◌≡◌, ℕ, ◌<◌, ◌≤◌, ◌==◌, ◌⊎◌, List, [], ◌∷◌, ◌++◌, length, Contains, Option, Some, None, option_and_then, slice_get, if◌then◌else◌, All}
use Rattle.std.specs.List.{AllZip}
use Rattle.std.specs.List.Sorted.{IsStrictlySortedBy}
use Rattle.std.specs.Ordering.{nat_cmp}
use Rattle.std.specs.declared.cmp.Ordering.{Ordering}
use Rattle.wf_base.specs.declared.ids.MethodId.{MethodId}
use Rattle.wf_base.specs.declared.ids.TypeId.{TypeId}
use Rattle.wf_data.specs.declared.instr.Placed.{Placed}
use Rattle.wf_classes.specs.Members.{method_keys, member_count}
use Rattle.wf_subtype.specs.References.{target_count}
use Rattle.wf_subtype.specs.Subtypes.{AllTypes, IsSubtype}
use Rattle.wf_select.specs.declared.outcome.Invoke.{Invoke}
use Rattle.wf_select.specs.declared.outcome.Invoke.TheVariants as invoke
use Rattle.wf_select.specs.declared.outcome.Selected.{Selected}
use Rattle.wf_select.specs.OfTypes.{SelectsOfType}
use Rattle.wf_system.specs.declared.pick.Pick.{Pick}
use Rattle.wf_system.specs.Sides.{pick_of, Ascends}
use Rattle.wf_links.specs.declared.callee.Callee.{Callee}
use Rattle.wf_links.specs.declared.callee.Selection.{Selection}
use Rattle.wf_links.specs.declared.callee.Selection.TheVariants as by
use Rattle.wf_links.specs.declared.linked.Links.{Links}
use Rattle.wf_links.specs.declared.picking.Chosen.{Chosen}
use Rattle.wf_links.specs.Callees.{selected_method, IsCallee}
use Rattle.wf_links.specs.Sites.{Site, AreSites, IsCodeOf, sites_in, site_at}

-- a type is one of the receivers: it isn't null, and is under what the site names
pub record Receives (types : AllTypes) (callee : Callee) (t : ℕ) : Type 0 where
  pub some : 0 < t
  pub there : t ≤ length types.names
  pub under : IsSubtype types t callee.receivers

-- method m selects this one for a receiver of type t, if it selects one
pub record SelectsBy (types : AllTypes) (t m : ℕ) (how : Invoke) (method : Option MethodId) : Type 0 where
  pub selected : Selected
  pub selects : SelectsOfType types t m how selected
  pub is : method ≡ selected_method selected

-- what a receiver of type t selects
abbrev pub SelectsFor : AllTypes → ℕ → ℕ → Selection → Option MethodId → Type 0
SelectsFor types t m by.Virtual method = SelectsBy types t m invoke.Virtual method
SelectsFor types t m by.Interface method = SelectsBy types t m invoke.Interface method
SelectsFor types t m by.Known method = method ≡ Some (record { 0 = m })

abbrev pub SelectsOf : AllTypes → Callee → ℕ → Option MethodId → Type 0
SelectsOf types callee t method = SelectsFor types t callee.method callee.by method

-- which method type t selects: none where it isn't a receiver
pub record IsSelectedBy (types : AllTypes) (callee : Callee) (t : ℕ) (method : Option MethodId) : Type 0 where
  pub receiver : Receives types callee t → SelectsOf types callee t method
  pub other : (Receives types callee t → ⊥) → method ≡ None

-- ---- the types that select, as they are found

-- the method of the first entry of the type
abbrev pub chosen_of : List Chosen → ℕ → Option MethodId
chosen_of [] t = None
chosen_of (c ∷ rest) t = (if c.t.0 == t then Some c.method else chosen_of rest t)

-- with one type more, where it selects a method
abbrev pub with_choice : List Chosen → TypeId → Option MethodId → List Chosen
with_choice list t None = list
with_choice list t (Some m) = list ++ record { t = t; method = m } ∷ []

-- the types up to a number with what they select, in order
pub record AreChosen (types : AllTypes) (callee : Callee) (n : ℕ) (list : List Chosen) : Type 0 where
  pub ascending : (i j : ℕ) (a b : Chosen) → i < j → slice_get list i ≡ Some a → slice_get list j ≡ Some b → a.t.0 < b.t.0
  pub few : (i : ℕ) (a : Chosen) → slice_get list i ≡ Some a → a.t.0 ≤ n
  pub each : (t : ℕ) → t ≤ n → IsSelectedBy types callee t (chosen_of list t)
  pub rest : (t : ℕ) → n < t → chosen_of list t ≡ None

-- no type behind a number, up to another, selects a method
pub record NoneSelect (types : AllTypes) (callee : Callee) (m n : ℕ) : Type 0 where
  pub each : (t : ℕ) → m < t → t ≤ n → IsSelectedBy types callee t None

-- ---- tables

abbrev pub method_cmp : MethodId → MethodId → Ordering
method_cmp a b = nat_cmp a.0 b.0

-- methods in the order of their numbers, each once
abbrev pub AreAscending : List MethodId → Type 0
AreAscending = IsStrictlySortedBy method_cmp

-- a type picks the candidate at this place
pub record IsPicked (table : List Pick) (place : ℕ) : Type 0 where
  pub type : ℕ
  pub picks : pick_of table type ≡ Some place

-- the candidate that type t picks
abbrev pub candidate_of : List MethodId → List Pick → ℕ → Option MethodId
candidate_of list table t = option_and_then (slice_get list) (pick_of table t)

-- The candidates are the methods that some type selects, ascending, and each type picks the one that it selects.
pub record IsTable (types : AllTypes) (callee : Callee) (list : List MethodId) (table : List Pick) : Type 0 where
  pub ascending : AreAscending list
  pub some : (place : ℕ) → place < length list → IsPicked table place
  pub ordered : Ascends table
  pub inside : (t place : ℕ) → pick_of table t ≡ Some place → place < length list
  pub each : (t : ℕ) → IsSelectedBy types callee t (candidate_of list table t)

-- no candidates where nothing is called
abbrev pub IsTableIfAny : AllTypes → Option Callee → List MethodId → List Pick → Type 0
IsTableIfAny types (Some callee) list table = IsTable types callee list table
IsTableIfAny types None list table = (list ≡ []) × (table ≡ [])

-- ---- how tables are made

-- the methods that types select, each once and in order
pub record AreMethodsOf (chosen : List Chosen) (methods : List MethodId) : Type 0 where
  pub ascending : AreAscending methods
  pub all : (i : ℕ) (c : Chosen) → slice_get chosen i ≡ Some c → Contains methods c.method
  pub only : (m : MethodId) → Contains methods m → (i : ℕ) × (c : Chosen) × (slice_get chosen i ≡ Some c) × (c.method ≡ m)

-- a type with the place of what it selects
pub record IsPickOf (candidates : List MethodId) (c : Chosen) (p : Pick) : Type 0 where
  pub type : p.t ≡ c.t
  pub there : slice_get candidates p.candidate ≡ Some c.method

-- the same of each type
abbrev pub AreTableOf : List MethodId → List Chosen → List Pick → Type 0
AreTableOf candidates chosen table = AllZip (IsPickOf candidates) chosen table

-- the method that selection starts from is there
abbrev pub IsMethodBy : AllTypes → ℕ → Selection → Type 0
IsMethodBy types m by.Virtual = m < member_count (method_keys types.classes)
IsMethodBy types m by.Interface = m < member_count (method_keys types.classes)
IsMethodBy types m by.Known = Unit {0}

-- so is the class or array that the receivers are under
pub record IsThere (types : AllTypes) (callee : Callee) : Type 0 where
  pub receivers : callee.receivers < target_count (length types.classes) types.deepest
  pub method : IsMethodBy types callee.method callee.by

abbrev pub IsThereIfAny : AllTypes → Option Callee → Type 0
IsThereIfAny types (Some callee) = IsThere types callee
IsThereIfAny types None = Unit {0}

-- ---- the links of a program

-- each element once
pub record AreApart {X : Type 0} (xs : List X) : Type 0 where
  pub each : (i j : ℕ) (x : X) → slice_get xs i ≡ Some x → slice_get xs j ≡ Some x → i ≡ j

-- what is called stands at a place
abbrev pub IsPlaceOf : List (Option Callee) → Option Callee → ℕ → Type 0
IsPlaceOf callees callee place = slice_get callees place ≡ Some callee

-- what sites call, each once, and for each site the place of what it calls
pub record AreShared (called callees : List (Option Callee)) (places : List ℕ) : Type 0 where
  pub each : AllZip (IsPlaceOf callees) called places
  pub apart : AreApart callees
  pub only : (callee : Option Callee) → Contains callees callee → Contains called callee

-- what each site calls
pub record AreCalled (types : AllTypes) (sites : List Site) (called : List (Option Callee)) : Type 0 where
  pub each : AllZip (IsCallee types) sites called
  pub inside : All (IsThereIfAny types) called

-- what the sites of the first methods call
pub record AreCalledBelow (types : AllTypes) (n : ℕ) (firsts : List ℕ) (list : List (Option Callee)) : Type 0 where
  pub sites : List Site
  pub numbered : AreSites types.classes n firsts sites
  pub called : AreCalled types sites list

-- what the sites of one method call
pub record AreCalledIn (types : AllTypes) (m : MethodId) (list : List (Option Callee)) : Type 0 where
  pub code : List Placed
  pub is : IsCodeOf types.classes m.0 code
  pub called : AreCalled types (sites_in m code) list

-- One call more: it stands at a place, and what stood at another one still does.
pub record Adds (old new : List (Option Callee)) (callee : Option Callee) (place : ℕ) : Type 0 where
  pub kept : (i : ℕ) (other : Option Callee) → slice_get old i ≡ Some other → slice_get new i ≡ Some other
  pub there : slice_get new place ≡ Some callee
  pub apart : AreApart old → AreApart new
  pub only : (other : Option Callee) → Contains new other → Contains old other ⊎ (other ≡ callee)

-- one instruction more: what it calls is added, where it is a site
pub record Goes (types : AllTypes) (m : MethodId) (at : Placed) (old new : List (Option Callee)) : Type 0 where
  pub on : (sites : List Site) → AreCalled types sites old → AreCalled types (sites ++ site_at m at) new

-- a site has the table of what it calls
pub record IsLinked (types : AllTypes) (callees : List (Option Callee)) (s : Site) (table : ℕ) : Type 0 where
  pub callee : Option Callee
  pub is : IsCallee types s callee
  pub there : slice_get callees table ≡ Some callee

-- each has its table
abbrev pub AreTables : AllTypes → List (Option Callee) → List (List MethodId) → List (List Pick) → Type 0
AreTables types [] [] [] = Unit {0}
AreTables types (callee ∷ callees) (list ∷ lists) (table ∷ tables) = IsTableIfAny types callee list table × AreTables types callees lists tables
AreTables types callees lists tables = ⊥

-- The links of the types: the sites by their numbers, each with the table of what it calls. Sites that call the same share
-- a table.
pub record AreLinks (types : AllTypes) (links : Links) : Type 0 where
  pub sites : List Site
  pub callees : List (Option Callee)
  pub numbered : AreSites types.classes (member_count (method_keys types.classes)) links.firsts sites
  pub linked : AllZip (IsLinked types callees) sites links.sites
  pub apart : AreApart callees
  pub tables : AreTables types callees links.candidates links.tables
