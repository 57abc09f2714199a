-- The world of a solution.
use Rattle.std.specs.Prelude.{List}
use Rattle.wf_data.specs.declared.class_info.ClassInfo.{ClassInfo}
use Rattle.wf_names.specs.declared.member.MemberName.{MemberName}
use Rattle.wf_names.specs.declared.world.Unresolved.{Unresolved}
use Rattle.wf_names.specs.declared.world.World.{World}
use Rattle.wf_sys.specs.declared.flow.Flow.{Flow}
use Rattle.wf_sys.specs.Values.{IsNonEmpty, HoldsType}
use Rattle.wf_sys.specs.System.{Least}
use Rattle.wf_sys.specs.Names.{DeclaresMethod, DeclaresField, Lists, name_cmp, member_cmp, place_cmp}
use Rattle.wf_sys.specs.Nodes.{Node, Inst, Entered, Touched}
use Rattle.wf_sys.specs.Program.{Predicate, Row, Seed}

-- a place whose resolution fails, with its error: no instruction of this form resolves anything
abbrev pub FailsToLink : List ClassInfo → Unresolved → Type 0
FailsToLink program place = ⊥

-- such a place that is carried out
pub record IsUnresolved (program : List ClassInfo) (x : Node → Flow) (place : Unresolved) : Type 0 where
  pub predicate : Node
  pub fails : FailsToLink program place
  pub at_predicate : Predicate program place.method place.pc predicate
  pub reached : IsNonEmpty (x predicate)

-- a declared method that is entered
pub record IsEntered (program : List ClassInfo) (x : Node → Flow) (method : MemberName) : Type 0 where
  pub declared : DeclaresMethod program method
  pub entered : IsNonEmpty (x (Entered method))

-- a declared field that is touched
pub record IsTouched (program : List ClassInfo) (x : Node → Flow) (field : MemberName) : Type 0 where
  pub declared : DeclaresField program field
  pub touched : IsNonEmpty (x (Touched field))

-- The world has the types that are instantiated in the solution, the methods that are entered, the fields
-- that are touched, and the places that fail to link and are carried out.
pub record IsWorldOf (program : List ClassInfo) (x : Node → Flow) (world : World) : Type 0 where
  pub types : Lists name_cmp (HoldsType (x Inst)) world.types
  pub methods : Lists member_cmp (IsEntered program x) world.methods
  pub fields : Lists member_cmp (IsTouched program x) world.fields
  pub unresolved : Lists place_cmp (IsUnresolved program x) world.unresolved

-- the world of the least solution for a program and its root
pub record IsLeastWorld (program : List ClassInfo) (root : MemberName) (world : World) : Type 0 where
  pub solution : Node → Flow
  pub least : Least (Row program) (Seed root) solution
  pub world_of : IsWorldOf program solution world
