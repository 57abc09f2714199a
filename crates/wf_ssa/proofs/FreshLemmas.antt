-- What an instruction gives is not known in front of it.
use Rattle.std.proofs.Common.{◌≡◌, ℕ, ◌<◌, ◌≤◌, Bool, true, false, List, [], length, get_or, Option, Some, None, refl, sym, ap, ◌∙◌, arith, inl, inr}
use Rattle.std.specs.Prelude.{◌⊎◌, map, nat_lt, if◌then◌else◌}
use Rattle.std.proofs.lemmas.Bool.{ltb-true, ltb-false, eqb-true}
use Rattle.std.proofs.lemmas.List.{get_or_past, get_or-map, length-map}
use Rattle.std.proofs.lemmas.List.FromFn.{length-map-range_with_len, get_or-map-range_with_len}
use Rattle.wf_operation.specs.declared.operation.Link.{Link}
use Rattle.wf_operation.specs.declared.operation.Link.TheVariants.{Plain, Calls, Tests}
use Rattle.wf_operation.specs.declared.operation.Operation.{Operation}
use Rattle.wf_operation.specs.declared.slot.SlotKind.{SlotKind}
use Rattle.wf_operation.specs.declared.slot.SlotKind.TheVariants.{Int, Ref, Long, LongRest, Unused}
use Rattle.wf_operation.specs.declared.slot.Source.{Source}
use Rattle.wf_operation.specs.declared.slot.Source.TheVariants.{Keep, KeepNoHead, KeepNoRest, Gives}
use Rattle.wf_operation.specs.Effects.{source_at}
use Rattle.wf_operation.specs.Operations.{link_of}
use Rattle.wf_operation.specs.Slots.{same_kind}
use Rattle.wf_blocks.specs.declared.body.Body.{Body}
use Rattle.wf_blocks.specs.Bodies.{locals_of, operation_at}
use Rattle.wf_blocks.specs.Graphs.{kind_at}
use Rattle.wf_blocks.proofs.SeenLemmas.{true_or_false}
use Rattle.wf_ssa.specs.declared.before.Before.{Before}
use Rattle.wf_ssa.specs.declared.name.FlowName.{FlowName}
use Rattle.wf_ssa.specs.declared.name.FlowName.TheVariants.{Nothing, Par, Refined}
use Rattle.wf_ssa.specs.declared.walk.Origin.TheVariants.{Name}
use Rattle.wf_ssa.specs.Environments.{name_at, pc_at, operand_slot, refined, refines, linked, before_along, fails_there, entry_name, entry_before, met_name, IsMet, IsBefore, met, entered, single, IsKnown}
use Rattle.wf_ssa.specs.Keeping.{origin_from, origin_by, named, renamed_by}
use Rattle.wf_ssa.specs.Laws.{is_of, AreApart}
use Rattle.wf_ssa.proofs.BackLemmas.{known_inside}
use Rattle.wf_ssa.proofs.MoveLemmas.{origin_is}
use Rattle.wf_ssa.proofs.OnceLemmas.{came_by, came_same}

clash : (x : Bool) → x ≡ true → x ≡ false → ⊥
clash x e f = cc

never : false ≡ true → ⊥
never e = cc

-- a flow of a place, or by what it is reached, is of an instruction
pub data HasOf (pc : ℕ) (k : Before) : Type 0 where
  held : (i : ℕ) → is_of pc (name_at k.names i) ≡ true → HasOf pc k
  led : is_of pc k.predicate ≡ true → HasOf pc k

-- ---- along an edge

choice_of : (p pc edge operand : ℕ) (c d : Bool) (name : FlowName) → is_of pc (if c then Refined p edge operand else if d then Refined p edge 2 else name) ≡ true → (p ≡ pc) ⊎ (is_of pc name ≡ true)
choice_of p pc edge operand true d name e = inl (eqb-true p pc e)
choice_of p pc edge operand false true name e = inl (eqb-true p pc e)
choice_of p pc edge operand false false name e = inr e

past_of : (pc : ℕ) (names : List FlowName) (i : ℕ) → length names ≤ i → is_of pc (name_at names i) ≡ true → ⊥
past_of pc names i le e = never (sym (ap (is_of pc) (get_or_past names i Nothing le)) ∙ e)

renamed_of : (o : Option Operation) (p pc edge i : ℕ) (names : List FlowName) → is_of pc (name_at (renamed_by o p edge names) i) ≡ true → (p ≡ pc) ⊎ (is_of pc (name_at names i) ≡ true)
renamed_of None p pc edge i names e = absurd (past_of pc [] i (omega arith) e)
renamed_of (Some o) p pc edge i names e = by_slot (true_or_false (nat_lt i (length names)))
  where
    one : FlowName
    one = name_at names (operand_slot o.effect (length names) 1)

    two : FlowName
    two = name_at names (operand_slot o.effect (length names) 2)

    by_slot : (nat_lt i (length names) ≡ true) ⊎ (nat_lt i (length names) ≡ false) → (p ≡ pc) ⊎ (is_of pc (name_at names i) ≡ true)
    by_slot (inl lt) =
        choice_of p pc edge 1 _ _ (name_at names i) (sym (ap (is_of pc) (get_or-map (refined p o.next edge one two) names i Nothing Nothing (ltb-true i (length names) lt))) ∙ e)
    by_slot (inr le) = absurd (past_of pc (map (refined p o.next edge one two) names) i (omega (arith, ltb-false i (length names) le, length-map names (refined p o.next edge one two))) e)

from_of : (p pc edge : ℕ) (o : Option Operation) (names : List FlowName) (below : Bool) (s : Source) → is_of pc (named (renamed_by o p edge names) (if below then origin_from p s else Name Nothing)) ≡ true
    → (p ≡ pc) ⊎ ((i : ℕ) × (is_of pc (name_at names i) ≡ true))
from_of p pc edge o names false s e = absurd (never e)
from_of p pc edge o names true (Keep i) e = elim (renamed_of o p pc edge i names e) [ inl at ↦ inl at | inr is ↦ inr (i, is) ]
from_of p pc edge o names true (KeepNoHead i) e = elim (renamed_of o p pc edge i names e) [ inl at ↦ inl at | inr is ↦ inr (i, is) ]
from_of p pc edge o names true (KeepNoRest i) e = elim (renamed_of o p pc edge i names e) [ inl at ↦ inl at | inr is ↦ inr (i, is) ]
from_of p pc edge o names true (Gives kind) e = inl (eqb-true p pc e)

origin_of : (o : Option Operation) (p pc edge n m slot : ℕ) (names : List FlowName) → is_of pc (named (renamed_by o p edge names) (origin_by p o (Some n) (Some m) slot)) ≡ true
    → (p ≡ pc) ⊎ ((i : ℕ) × (is_of pc (name_at names i) ≡ true))
origin_of None p pc edge n m slot names e = absurd (never e)
origin_of (Some o) p pc edge n m slot names e = from_of p pc edge (Some o) names (nat_lt slot m) (source_at o.effect n slot) e

linked_of : (l : Link) (p pc : ℕ) (fails : Bool) (before : FlowName) → is_of pc (linked p l fails before) ≡ true → (p ≡ pc) ⊎ (is_of pc before ≡ true)
linked_of Plain p pc true before e = absurd (never e)
linked_of Plain p pc false before e = inr e
linked_of Calls p pc true before e = absurd (never e)
linked_of Calls p pc false before e = inl (eqb-true p pc e)
linked_of Tests p pc true before e = inl (eqb-true p pc e)
linked_of Tests p pc false before e = inr e

led_of : (o : Option Operation) (p pc edge : ℕ) (fails : Bool) (k : Before) → is_of pc (before_along o p edge fails k).predicate ≡ true → (p ≡ pc) ⊎ (is_of pc k.predicate ≡ true)
led_of None p pc edge fails k e = inr e
led_of (Some o) p pc edge fails k e = by_next (refines o.next) e
  where
    by_next : (c : Bool) → is_of pc (if c then Refined p edge 1 else linked p (link_of o.sort) fails k.predicate) ≡ true → (p ≡ pc) ⊎ (is_of pc k.predicate ≡ true)
    by_next true e = inl (eqb-true p pc e)
    by_next false e = linked_of (link_of o.sort) p pc fails k.predicate e

pub along_of : (o : Option Operation) (p pc edge : ℕ) (fails : Bool) (k : Before) → HasOf pc (before_along o p edge fails k) → (p ≡ pc) ⊎ HasOf pc k
along_of o p pc edge fails k (held i e) =
    elim (origin_of o p pc edge (length k.names) (length (before_along o p edge fails k).names) i k.names (sym (ap (is_of pc) (origin_is o p edge fails k i)) ∙ e)) [
      | inl at ↦ inl at
      | inr is ↦ inr (held is.0 is.1)
    ]
along_of o p pc edge fails k (led e) = elim (led_of o p pc edge fails k e) [ inl at ↦ inl at | inr is ↦ inr (led is) ]

-- ---- where no edge was passed

met_name_of : (pc place slot : ℕ) (kind : SlotKind) → is_of pc (met_name place kind slot) ≡ false
met_name_of pc place slot Unused = refl
met_name_of pc place slot Int = refl
met_name_of pc place slot Ref = refl
met_name_of pc place slot Long = refl
met_name_of pc place slot LongRest = refl

met_none : (b : Body) (place pc : ℕ) (k : Before) → IsMet b place k → HasOf pc k → ⊥
met_none b place pc k is (held i e) = by_slot (true_or_false (nat_lt i (length k.names)))
  where
    by_slot : (nat_lt i (length k.names) ≡ true) ⊎ (nat_lt i (length k.names) ≡ false) → ⊥
    by_slot (inl lt) = clash (is_of pc (name_at k.names i)) e (ap (is_of pc) (is.names i (ltb-true i (length k.names) lt)) ∙ met_name_of pc (pc_at b place) i (is.kind i))
    by_slot (inr le) = past_of pc k.names i (ltb-false i (length k.names) le) e
met_none b place pc k is (led e) = never (sym (ap (is_of pc) is.predicate) ∙ e)

entry_name_of : (b : Body) (pc i : ℕ) → is_of pc (entry_name b i) ≡ false
entry_name_of b pc i = by_kind (same_kind (kind_at b.entry i) Unused)
  where
    by_kind : (c : Bool) → is_of pc (if c then Nothing else Par (get_or b.params i 0)) ≡ false
    by_kind true = refl
    by_kind false = refl

entry_none : (b : Body) (pc : ℕ) → HasOf pc (entry_before b) → ⊥
entry_none b pc (held i e) = by_slot (true_or_false (nat_lt i (locals_of b)))
  where
    by_slot : (nat_lt i (locals_of b) ≡ true) ⊎ (nat_lt i (locals_of b) ≡ false) → ⊥
    by_slot (inl lt) =
        clash (is_of pc (name_at (entry_before b).names i)) e
        (ap (is_of pc) (get_or-map-range_with_len (entry_name b) 0 (locals_of b) i i Nothing (ltb-true i (locals_of b) lt) (omega arith)) ∙ entry_name_of b pc i)
    by_slot (inr le) = past_of pc (entry_before b).names i (omega (arith, ltb-false i (locals_of b) le, length-map-range_with_len (entry_name b) 0 (locals_of b))) e
entry_none b pc (led e) = never e

-- ---- where a flow was given

-- an environment fewer edges along, whose instruction gave a flow
pub record GivenAt (b : Body) (failing : List ℕ) (marks : List Bool) (pc count : ℕ) : Type 0 where
  pub place : ℕ
  pub before : Before
  pub there : IsBefore b failing marks place before
  pub at : pc_at b place ≡ pc
  pub less : came_by b failing marks place before there < count

given_at : (b : Body) (failing : List ℕ) (marks : List Bool) (place pc : ℕ) (k : Before) (there : IsBefore b failing marks place k) → HasOf pc k → GivenAt b failing marks pc (came_by b failing marks place k there)
given_at b failing marks _ pc _ (met place k reached meet is) has = absurd (met_none b place pc k is has)
given_at b failing marks _ pc _ (entered alone) has = absurd (entry_none b pc has)
given_at b failing marks _ pc _ (single place edge to k before leads alone) has =
    elim (along_of (operation_at b place) (pc_at b place) pc edge (fails_there failing (pc_at b place)) k has) [
      | inl at ↦ record { place = place; before = k; there = before; at = at; less = omega arith }
      | inr is ↦ (let g = given_at b failing marks place pc k before is in record { place = g.place; before = g.before; there = g.there; at = g.at; less = omega (arith, g.less) })
    ]

fresh : (b : Body) (failing : List ℕ) (place : ℕ) (k : Before) → AreApart b → IsKnown b failing place k → HasOf (pc_at b place) k → ⊥
fresh b failing place k apart known has =
    let g = given_at b failing known.marks place (pc_at b place) k known.before has in
    let same : g.place ≡ place =
    apart.same g.place place (known_inside b failing g.place g.before (record { marks = known.marks; are = known.are; before = g.there })) (known_inside b failing place k known) g.at in
    absurd (omega (arith, g.less, came_same b failing known.marks g.place place g.before k known.are same g.there known.before))

pub fresh_name : (b : Body) (failing : List ℕ) (place i : ℕ) (k : Before) → AreApart b → IsKnown b failing place k → is_of (pc_at b place) (name_at k.names i) ≡ false
fresh_name b failing place i k apart known = by_test (true_or_false (is_of (pc_at b place) (name_at k.names i)))
  where
    by_test : (is_of (pc_at b place) (name_at k.names i) ≡ true) ⊎ (is_of (pc_at b place) (name_at k.names i) ≡ false) → is_of (pc_at b place) (name_at k.names i) ≡ false
    by_test (inl e) = absurd (fresh b failing place k apart known (held i e))
    by_test (inr e) = e

pub fresh_predicate : (b : Body) (failing : List ℕ) (place : ℕ) (k : Before) → AreApart b → IsKnown b failing place k → is_of (pc_at b place) k.predicate ≡ false
fresh_predicate b failing place k apart known = by_test (true_or_false (is_of (pc_at b place) k.predicate))
  where
    by_test : (is_of (pc_at b place) k.predicate ≡ true) ⊎ (is_of (pc_at b place) k.predicate ≡ false) → is_of (pc_at b place) k.predicate ≡ false
    by_test (inl e) = absurd (fresh b failing place k apart known (led e))
    by_test (inr e) = e
