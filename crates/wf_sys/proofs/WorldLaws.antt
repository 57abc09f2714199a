-- Assignments that agree at each node have one world.
use Rattle.std.proofs.Common.{◌≡◌, ℕ, List, sym, subst}
use Rattle.std.specs.declared.cmp.Ordering.{Ordering}
use Rattle.wf_data.specs.declared.class_info.ClassInfo.{ClassInfo}
use Rattle.wf_names.specs.declared.member.MemberName.{MemberName}
use Rattle.wf_names.specs.declared.world.Unresolved.{Unresolved}
use Rattle.wf_names.specs.declared.world.World.{World}
use Rattle.wf_sys.specs.declared.flow.Flow.{Flow}
use Rattle.wf_sys.specs.Values.{IsNonEmpty, HoldsType}
use Rattle.wf_sys.specs.Names.{Lists, name_cmp, member_cmp, place_cmp}
use Rattle.wf_sys.specs.Nodes.{Node, Inst, Entered, Touched}
use Rattle.wf_sys.specs.WorldOf.{IsUnresolved, IsEntered, IsTouched, IsWorldOf}

-- at each node both have the same value
abbrev Agree : (Node → Flow) → (Node → Flow) → Type 0
Agree x y = (n : Node) → x n ≡ y n

turned : (x y : Node → Flow) → Agree x y → Agree y x
turned x y same n = sym (same n)

type_kept : (x y : Node → Flow) → Agree x y → (name : List ℕ) → HoldsType (x Inst) name → HoldsType (y Inst) name
type_kept x y same name h = subst (λ (v : Flow). HoldsType v name) (same Inst) h

entered_kept : (program : List ClassInfo) (x y : Node → Flow) → Agree x y → (m : MemberName) → IsEntered program x m → IsEntered program y m
entered_kept program x y same m e = record { declared = e.declared; entered = subst IsNonEmpty (same (Entered m)) e.entered }

touched_kept : (program : List ClassInfo) (x y : Node → Flow) → Agree x y → (f : MemberName) → IsTouched program x f → IsTouched program y f
touched_kept program x y same f t = record { declared = t.declared; touched = subst IsNonEmpty (same (Touched f)) t.touched }

unresolved_kept : (program : List ClassInfo) (x y : Node → Flow) → Agree x y → (place : Unresolved) → IsUnresolved program x place → IsUnresolved program y place
unresolved_kept program x y same place u = record {
  predicate = u.predicate;
  fails = u.fails;
  at_predicate = u.at_predicate;
  reached = subst IsNonEmpty (same u.predicate) u.reached;
}

lists_kept : {X : Type 0} (cmp : X → X → Ordering) (P Q : X → Type 0) (xs : List X) → ((x : X) → P x → Q x) → ((x : X) → Q x → P x) → Lists cmp P xs → Lists cmp Q xs
lists_kept cmp P Q xs f g l = record { in_order = l.in_order; only = λ x c. f x (l.only x c); all = λ x q. l.all x (g x q) }

pub world_kept : (program : List ClassInfo) (x y : Node → Flow) → Agree x y → (world : World) → IsWorldOf program x world → IsWorldOf program y world
world_kept program x y same world w = record {
  types = lists_kept name_cmp (HoldsType (x Inst)) (HoldsType (y Inst)) world.types
      (type_kept x y same) (type_kept y x (turned x y same)) w.types;
  methods = lists_kept member_cmp (IsEntered program x) (IsEntered program y) world.methods
      (entered_kept program x y same) (entered_kept program y x (turned x y same)) w.methods;
  fields = lists_kept member_cmp (IsTouched program x) (IsTouched program y) world.fields
      (touched_kept program x y same) (touched_kept program y x (turned x y same)) w.fields;
  unresolved = lists_kept place_cmp (IsUnresolved program x) (IsUnresolved program y) world.unresolved
      (unresolved_kept program x y same) (unresolved_kept program y x (turned x y same)) w.unresolved;
}
