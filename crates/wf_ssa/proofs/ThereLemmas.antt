-- Something is known in front of each place that a path reaches.
use Rattle.std.proofs.Common.{◌≡◌, ℕ, zero, suc, Bool, true, false, List, [], ◌∷◌, length, Some, refl, sym, ap, subst, arith, inl, inr}
use Rattle.std.specs.Prelude.{map, Contains, slice_get}
use Rattle.std.specs.List.{range_with_len, list_any}
use Rattle.std.proofs.lemmas.List.FromFn.{length-map-range_with_len, get_or-map-range_with_len}
use Rattle.wf_operation.specs.declared.slot.SlotKind.{SlotKind}
use Rattle.wf_blocks.specs.declared.body.Body.{Body}
use Rattle.wf_blocks.specs.Answers.{HasSlots}
use Rattle.wf_blocks.specs.Bodies.{graph_of, is_handler, targets_at}
use Rattle.wf_blocks.specs.Graphs.{Path, entry, along, Reached, KindIs, moved_from}
use Rattle.wf_blocks.specs.Kinds.{HasKindIs, HasSlotCount}
use Rattle.wf_blocks.proofs.EdgeLemmas.{edge_cases, handler_any}
use Rattle.wf_blocks.proofs.SeenLemmas.{true_or_false, or_none}
use Rattle.wf_ssa.specs.declared.before.Before.{Before}
use Rattle.wf_ssa.specs.declared.name.FlowName.{FlowName}
use Rattle.wf_ssa.specs.declared.name.FlowName.TheVariants.{Nothing, Blk}
use Rattle.wf_ssa.specs.Environments.{pc_at, met_name, meets, along_edge, entry_before, IsMet, IsBefore, met, entered, single}

clash : (x : Bool) → x ≡ true → x ≡ false → ⊥
clash x e f = cc

-- ---- lists

contains_get : {A : Type 0} (xs : List A) (x : A) → Contains xs x → (i : ℕ) × (slice_get xs i ≡ Some x)
contains_get [] x (k, lt, is) = absurd (omega arith)
contains_get (y ∷ xs) x (zero, lt, is) = (0, ap (λ z. Some z) is)
contains_get (y ∷ xs) x (suc k, lt, is) = let r = contains_get xs x (k, omega arith, is) in (suc r.0, r.1)

-- ---- where ways meet

met_there : (b : Body) (place count : ℕ) (kind : ℕ → SlotKind) → HasSlots b place count → ((slot : ℕ) → KindIs (graph_of b) place slot (kind slot)) → (k : Before) × IsMet b place k
met_there b place count kind slots kinds = (
  record { predicate = Blk (pc_at b place); names = names },
  record { predicate = refl; count = subst (λ (n : ℕ). HasSlots b place n) (sym length_is) slots; kind = kind; kinds = kinds; names = λ slot lt. get_or-map-range_with_len name 0 count slot slot Nothing (omega (arith, lt, length_is)) (omega arith) },
)
  where
    name : ℕ → FlowName
    name slot = met_name (pc_at b place) (kind slot) slot

    names : List FlowName
    names = map name (range_with_len 0 count)

    length_is : length names ≡ count
    length_is = length-map-range_with_len name 0 count

met_at : (b : Body) (failing : List ℕ) (marks : List Bool) → ((place slot : ℕ) → Reached (graph_of b) place → HasKindIs (graph_of b) place slot) → ((place : ℕ) → Reached (graph_of b) place → HasSlotCount b place)
    → (place : ℕ) → Reached (graph_of b) place → meets b marks place ≡ true → (k : Before) × IsBefore b failing marks place k
met_at b failing marks kinds counts place reached together =
    let c = counts place reached in
    let m = met_there b place c.count (λ slot. (kinds place slot reached).kind) c.are (λ slot. (kinds place slot reached).is) in
    (m.0, met place m.0 reached together m.1)

-- ---- along a path

pub there : (b : Body) (failing : List ℕ) (marks : List Bool) → ((place slot : ℕ) → Reached (graph_of b) place → HasKindIs (graph_of b) place slot) → ((place : ℕ) → Reached (graph_of b) place → HasSlotCount b place)
    → (place : ℕ) (slots : List SlotKind) → Path (graph_of b) place slots → (k : Before) × IsBefore b failing marks place k
there b failing marks kinds counts _ _ entry =
    elim (true_or_false (meets b marks 0)) [
      | inl together ↦ met_at b failing marks kinds counts 0 (record { slots = (graph_of b).entry; path = entry }) together
      | inr alone ↦ (entry_before b, entered alone)
    ]
there b failing marks kinds counts _ _ (along place slots e path way) =
    elim (true_or_false (meets b marks e.to)) [
      | inl together ↦ met_at b failing marks kinds counts e.to (record { slots = map (moved_from slots) e.sources; path = along place slots e path way }) together
      | inr alone ↦ elim (edge_cases b place (length slots) e way) [
        | inl one ↦ (let g = contains_get (targets_at b place) e.to one.among in
            let last = there b failing marks kinds counts place slots path in
            (along_edge b failing place g.0 last.0, single place g.0 e.to last.0 last.1 g.1 alone))
        | inr other ↦ absurd (clash (list_any (is_handler e.to) b.catchers) (handler_any b.catchers place e.to other.among) (or_none _ _ alone).0)
      ]
    ]
