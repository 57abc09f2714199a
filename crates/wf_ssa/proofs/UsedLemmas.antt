-- A slot that is used has a flow.
use Rattle.std.proofs.Common.{◌≡◌, ℕ, Bool, true, false, List, length, get_or, Option, Some, None, refl, sym, ap, ◌∙◌, arith, inl, inr}
use Rattle.std.specs.Prelude.{◌⊎◌, map, nat_lt, if◌then◌else◌}
use Rattle.std.proofs.Math.ListN.{get_or-map as moved_there}
use Rattle.std.proofs.lemmas.Bool.{ltb-true, ltb-false}
use Rattle.std.proofs.lemmas.List.{get_or_past, get_or-map}
use Rattle.wf_operation.specs.declared.operation.Operation.{Operation}
use Rattle.wf_operation.specs.declared.slot.SlotKind.{SlotKind}
use Rattle.wf_operation.specs.declared.slot.SlotKind.TheVariants.{Int, Ref, Long, LongRest, Unused}
use Rattle.wf_operation.specs.declared.slot.Source.{Source}
use Rattle.wf_operation.specs.declared.slot.Source.TheVariants.{Keep, KeepNoHead, KeepNoRest, Gives}
use Rattle.wf_operation.specs.Effects.{sources}
use Rattle.wf_operation.specs.Slots.{from, moved, named_by, same_kind}
use Rattle.wf_blocks.specs.declared.body.Body.{Body}
use Rattle.wf_blocks.specs.Bodies.{graph_of, operation_at, operation_sources, sources_at, targets_at}
use Rattle.wf_blocks.specs.Graphs.{Path, along, BadPaths, HasKind, edge_by, kind_at, moved_from}
use Rattle.wf_blocks.proofs.EdgeLemmas.{edge_of_target}
use Rattle.wf_blocks.proofs.LawLemmas.{same_depth}
use Rattle.wf_blocks.proofs.SeenLemmas.{true_or_false}
use Rattle.wf_ssa.specs.declared.before.Before.{Before}
use Rattle.wf_ssa.specs.declared.name.FlowName.{FlowName}
use Rattle.wf_ssa.specs.declared.name.FlowName.TheVariants.{Nothing, Par, Res, Refined}
use Rattle.wf_ssa.specs.Environments.{name_at, pc_at, operand_slot, refined, renamed, before_along, fails_there, met_name, IsMet, IsBefore, met, entered, single}
use Rattle.wf_ssa.proofs.BackLemmas.{contains_at, entry_path, path_of}
use Rattle.wf_ssa.proofs.TraceLemmas.{entry_slot}

-- ---- along an edge

-- a slot without a flow is kept from one, which had the same kind
record IsKept (names : List FlowName) (s : Source) : Type 0 where
  nothing : name_at names (named_by s) ≡ Nothing
  kind : (k kind : SlotKind) → (kind ≡ Unused → ⊥) → moved s k ≡ kind → k ≡ kind

left_whole : (lost : Bool) (k kind : SlotKind) → (kind ≡ Unused → ⊥) → (if lost then Unused else k) ≡ kind → k ≡ kind
left_whole true k kind used is = absurd (used (sym is))
left_whole false k kind used is = is

kept_from : (names : List FlowName) (pc : ℕ) (s : Source) → from names (Res pc) Nothing s ≡ Nothing → IsKept names s
kept_from names pc (Keep i) e = record { nothing = e; kind = λ k kind used is. is }
kept_from names pc (KeepNoHead i) e = record { nothing = e; kind = λ k kind used is. left_whole (same_kind k Long) k kind used is }
kept_from names pc (KeepNoRest i) e = record { nothing = e; kind = λ k kind used is. left_whole (same_kind k LongRest) k kind used is }
kept_from names pc (Gives new) e = absurd cc

choice_nothing : (p edge : ℕ) (c d : Bool) (name : FlowName) → (if c then Refined p edge 1 else if d then Refined p edge 2 else name) ≡ Nothing → name ≡ Nothing
choice_nothing p edge true d name e = absurd cc
choice_nothing p edge false true name e = absurd cc
choice_nothing p edge false false name e = e

renamed_nothing : (o : Operation) (p edge i : ℕ) (names : List FlowName) → name_at (renamed p o edge names) i ≡ Nothing → name_at names i ≡ Nothing
renamed_nothing o p edge i names e = by_slot (true_or_false (nat_lt i (length names)))
  where
    one : FlowName
    one = name_at names (operand_slot o.effect (length names) 1)

    two : FlowName
    two = name_at names (operand_slot o.effect (length names) 2)

    by_slot : (nat_lt i (length names) ≡ true) ⊎ (nat_lt i (length names) ≡ false) → name_at names i ≡ Nothing
    by_slot (inl lt) = choice_nothing p edge _ _ (name_at names i) (sym (get_or-map (refined p o.next edge one two) names i Nothing Nothing (ltb-true i (length names) lt)) ∙ e)
    by_slot (inr le) = get_or_past names i Nothing (ltb-false i (length names) le)

-- a slot in front of the instruction without a flow, that had this kind
record Lacked (o : Option Operation) (k : Before) (slot : ℕ) (kind : SlotKind) : Type 0 where
  from : ℕ
  nothing : name_at k.names from ≡ Nothing
  same : (slots : List SlotKind) → length slots ≡ length k.names → kind_at (map (moved_from slots) (operation_sources o (length slots))) slot ≡ kind → kind_at slots from ≡ kind

moved_kind : (o : Option Operation) (slots : List SlotKind) (n slot : ℕ) → length slots ≡ n
    → kind_at (map (moved_from slots) (operation_sources o (length slots))) slot ≡ moved_from slots (get_or (operation_sources o n) slot (Gives Unused))
moved_kind o slots n slot count =
    moved_there (moved_from slots) (operation_sources o (length slots)) slot (Gives Unused) ∙ ap (λ (m : ℕ). moved_from slots (get_or (operation_sources o m) slot (Gives Unused))) count

lacked : (o : Option Operation) (p edge slot : ℕ) (fails : Bool) (k : Before) (kind : SlotKind) (slots : List SlotKind) → (kind ≡ Unused → ⊥) → length slots ≡ length k.names
    → kind_at (map (moved_from slots) (operation_sources o (length slots))) slot ≡ kind → name_at (before_along o p edge fails k).names slot ≡ Nothing → Lacked o k slot kind
lacked None p edge slot fails k kind slots used count is e = absurd (used (sym is))
lacked (Some o) p edge slot fails k kind slots used count is e = by_slot (true_or_false (nat_lt slot (length all)))
  where
    all : List Source
    all = sources o.effect (length k.names)

    s : Source
    s = get_or all slot (Gives Unused)

    names : List FlowName
    names = renamed p o edge k.names

    by_slot : (nat_lt slot (length all) ≡ true) ⊎ (nat_lt slot (length all) ≡ false) → Lacked (Some o) k slot kind
    by_slot (inl lt) =
        let kept = kept_from names p s (sym (get_or-map (from names (Res p) Nothing) all slot (Gives Unused) Nothing (ltb-true slot (length all) lt)) ∙ e) in
        record {
          from = named_by s;
          nothing = renamed_nothing o p edge (named_by s) k.names kept.nothing;
          same = λ others count that. kept.kind (kind_at others (named_by s)) kind used (sym (moved_kind (Some o) others (length k.names) slot count) ∙ that);
        }
    by_slot (inr le) =
        absurd (used (sym is ∙ moved_kind (Some o) slots (length k.names) slot count ∙ ap (moved_from slots) (get_or_past all slot (Gives Unused) (ltb-false slot (length all) le))))

-- ---- where no edge was passed

met_nothing : (pc slot : ℕ) (kind : SlotKind) → met_name pc kind slot ≡ Nothing → kind ≡ Unused
met_nothing pc slot Unused e = refl
met_nothing pc slot Int e = absurd cc
met_nothing pc slot Ref e = absurd cc
met_nothing pc slot Long e = absurd cc
met_nothing pc slot LongRest e = absurd cc

entry_nothing : (k : SlotKind) (n : ℕ) → (if same_kind k Unused then Nothing else Par n) ≡ Nothing → k ≡ Unused
entry_nothing Unused n e = refl
entry_nothing Int n e = absurd cc
entry_nothing Ref n e = absurd cc
entry_nothing Long n e = absurd cc
entry_nothing LongRest n e = absurd cc

met_used : (b : Body) (place slot : ℕ) (k : Before) (kind : SlotKind) (slots : List SlotKind) → IsMet b place k → Path (graph_of b) place slots → (kind ≡ Unused → ⊥) → HasKind (graph_of b) place slot kind
    → name_at k.names slot ≡ Nothing → ⊥
met_used b place slot k kind slots is path used has e = by_slot (true_or_false (nat_lt slot (length k.names)))
  where
    by_slot : (nat_lt slot (length k.names) ≡ true) ⊎ (nat_lt slot (length k.names) ≡ false) → ⊥
    by_slot (inl lt) = used ((is.kinds slot).unused (met_nothing (pc_at b place) slot (is.kind slot) (sym (is.names slot (ltb-true slot (length k.names) lt)) ∙ e)) kind has)
    by_slot (inr le) = used (sym (has.every slots path) ∙ get_or_past slots slot Unused (omega (arith, ltb-false slot (length k.names) le, is.count.every slots path)))

pub used_flow : (b : Body) (failing : List ℕ) (marks : List Bool) (place slot : ℕ) (k : Before) (kind : SlotKind) → (BadPaths (graph_of b) → ⊥) → IsBefore b failing marks place k → (kind ≡ Unused → ⊥)
    → HasKind (graph_of b) place slot kind → name_at k.names slot ≡ Nothing → ⊥
used_flow b failing marks _ slot _ kind sound (met place k reached meet is) used has e = met_used b place slot k kind reached.slots is reached.path used has e
used_flow b failing marks _ slot _ kind sound (entered alone) used has e =
    used (sym (has.every b.entry (entry_path b)) ∙ entry_nothing (kind_at b.entry slot) (get_or b.params slot 0) (entry_slot b slot ∙ e))
used_flow b failing marks _ slot _ kind sound (single place edge to k before leads alone) used has e =
    let h = path_of b failing marks place k before in
    let onto : (slots : List SlotKind) → Path (graph_of b) place slots → kind_at (map (moved_from slots) (sources_at b place (length slots))) slot ≡ kind = λ slots path.
    has.every (map (moved_from slots) (sources_at b place (length slots)))
    (along place slots (edge_by (sources_at b place (length slots)) to) path (edge_of_target b place (length slots) to (contains_at (targets_at b place) edge to leads))) in
    let last = lacked (operation_at b place) (pc_at b place) edge slot (fails_there failing (pc_at b place)) k kind h.slots used h.same (onto h.slots h.path) e in
    used_flow b failing marks place last.from k kind sound before used
    (record { every = λ slots path. last.same slots (same_depth (graph_of b) place slots h.slots sound path h.path ∙ h.same) (onto slots path) }) last.nothing
