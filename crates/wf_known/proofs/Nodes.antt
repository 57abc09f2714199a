-- Lists of nodes of flows.
use Rattle.std.proofs.Common.{◌≡◌, ℕ, zero, suc, ◌+◌, ◌<◌, List, [], ◌∷◌, ◌++◌, length, get_or, refl, sym, ap, ◌∙◌, arith}
use Rattle.std.specs.Prelude.{map}
use Rattle.std.specs.List.{range_with_len}
use Rattle.std.proofs.lemmas.List.{length-map, get_or-map, ext_get_or}
use Rattle.std.proofs.lemmas.List.FromFn.{length-range_with_len, get_or-map-range_with_len}
use Rattle.wf_base.specs.declared.ids.MethodId.{MethodId}
use Rattle.wf_operation.specs.declared.effect.Effect.{Effect}
use Rattle.wf_operation.specs.declared.operation.Operation.{Operation}
use Rattle.wf_operation.specs.declared.slot.SlotKind.TheVariants.{Unused}
use Rattle.wf_operation.specs.declared.slot.Source.TheVariants.{Gives}
use Rattle.wf_operation.specs.Effects.{slots_after, source_at, sources}
use Rattle.wf_operation.specs.Slots.{from}
use Rattle.wf_ssa.specs.declared.before.Before.{Before}
use Rattle.wf_ssa.specs.declared.name.FlowName.{FlowName}
use Rattle.wf_ssa.specs.declared.name.FlowName.TheVariants as flow
use Rattle.wf_ssa.specs.Environments.{name_at, operand_slot, refined, renamed, names_along}
use Rattle.wf_rows.specs.declared.node.Node.{Node}
use Rattle.wf_rows.specs.declared.node.Node.TheVariants.{Nothing}
use Rattle.wf_rows.specs.declared.node.Own.{Own}
use Rattle.wf_rows.specs.Before.{Before as Known}
use Rattle.wf_known.specs.declared.front.Front.{Front}
use Rattle.wf_known.specs.Flows.{node_of}
use Rattle.wf_known.specs.Fronts.{Says}

-- ---- slots

pub node_there : (m : MethodId) (names : List FlowName) (i : ℕ) → get_or (map (node_of m) names) i Nothing ≡ node_of m (name_at names i)
node_there m [] zero = refl
node_there m [] (suc i) = refl
node_there m (n ∷ names) zero = refl
node_there m (n ∷ names) (suc i) = node_there m names i

-- the node of an operand is that of its flow
pub operand_there : (m : MethodId) (names : List FlowName) (nodes : List (Node Own)) (effect : Effect) (operand at : ℕ) → nodes ≡ map (node_of m) names → at ≡ operand_slot effect (length nodes) operand
    → get_or nodes at Nothing ≡ node_of m (name_at names (operand_slot effect (length names) operand))
operand_there m names nodes effect operand at same is =
    ap (λ (i : ℕ). get_or nodes i Nothing) is ∙ ap (λ (ns : List (Node Own)). get_or ns (operand_slot effect (length ns) operand) Nothing) same
    ∙ node_there m names (operand_slot effect (length (map (node_of m) names)) operand)
    ∙ ap (λ (n : ℕ). node_of m (name_at names (operand_slot effect n operand))) (length-map names (node_of m))

pub slot_there : (m : MethodId) (names : List FlowName) (nodes : List (Node Own)) (slot : ℕ) → nodes ≡ map (node_of m) names → get_or nodes slot Nothing ≡ node_of m (name_at names slot)
slot_there m names nodes slot same = ap (λ (ns : List (Node Own)). get_or ns slot Nothing) same ∙ node_there m names slot

pub same_count : (m : MethodId) (names : List FlowName) (nodes : List (Node Own)) → nodes ≡ map (node_of m) names → length nodes ≡ length names
same_count m names nodes same = ap length same ∙ length-map names (node_of m)

pub renamed_there : (names : List FlowName) (pc edge : ℕ) (o : Operation) (slot : ℕ) → slot < length names
    → name_at (renamed pc o edge names) slot ≡ refined pc o.next edge (name_at names (operand_slot o.effect (length names) 1)) (name_at names (operand_slot o.effect (length names) 2)) (name_at names slot)
renamed_there names pc edge o slot lt =
    get_or-map (refined pc o.next edge (name_at names (operand_slot o.effect (length names) 1)) (name_at names (operand_slot o.effect (length names) 2))) names slot flow.Nothing flow.Nothing lt

-- ---- lists that grow

pub node_push : (nodes : List (Node Own)) (node : Node Own) (f : ℕ → Node Own) (i : ℕ) → i < length nodes + 1 → (i < length nodes → get_or nodes i Nothing ≡ f i) → node ≡ f (length nodes)
    → get_or (nodes ++ node ∷ []) i Nothing ≡ f i
node_push [] node f zero lt below is = is
node_push [] node f (suc i) lt below is = absurd (omega (arith, lt))
node_push (n ∷ nodes) node f zero lt below is = below (omega arith)
node_push (n ∷ nodes) node f (suc i) lt below is = node_push nodes node (λ j. f (suc j)) i (omega (arith, lt)) (λ less. below (omega (arith, less))) is

-- nodes that are those of flows, slot by slot
pub all_there : (m : MethodId) (names : List FlowName) (nodes : List (Node Own)) → length nodes ≡ length names → ((i : ℕ) → i < length nodes → get_or nodes i Nothing ≡ node_of m (name_at names i))
    → nodes ≡ map (node_of m) names
all_there m names nodes count each = ext_get_or Nothing nodes (map (node_of m) names) (count ∙ sym (length-map names (node_of m))) (λ i lt. each i lt ∙ sym (node_there m names i))

-- ---- along an edge

pub source_count : (effect : Effect) (n : ℕ) → length (sources effect n) ≡ slots_after effect n
source_count effect n = length-map (range_with_len 0 (slots_after effect n)) (source_at effect n) ∙ length-range_with_len 0 (slots_after effect n)

pub along_length : (names : List FlowName) (pc edge : ℕ) (o : Operation) → length (names_along pc o edge names) ≡ slots_after o.effect (length names)
along_length names pc edge o =
    length-map (sources o.effect (length names)) (from (renamed pc o edge names) (flow.Res pc) flow.Nothing)
    ∙ source_count o.effect (length names)

pub along_there : (names : List FlowName) (pc edge : ℕ) (o : Operation) (i : ℕ) → i < slots_after o.effect (length names)
    → name_at (names_along pc o edge names) i ≡ from (renamed pc o edge names) (flow.Res pc) flow.Nothing (source_at o.effect (length names) i)
along_there names pc edge o i lt =
    get_or-map (from (renamed pc o edge names) (flow.Res pc) flow.Nothing) (sources o.effect (length names)) i (Gives Unused) flow.Nothing
    (omega (arith, lt, source_count o.effect (length names)))
    ∙ ap (from (renamed pc o edge names) (flow.Res pc) flow.Nothing)
    (get_or-map-range_with_len (source_at o.effect (length names)) 0 (slots_after o.effect (length names)) i i (Gives Unused) lt (omega arith))

-- ---- fronts

pub says : (m : MethodId) (k : Before) (f : Front) → f.predicate ≡ node_of m k.predicate → f.slots ≡ map (node_of m) k.names → Says m k f
says m k f predicate slots = record {
  at = λ pc.
      ap (λ (n : Node Own). let x : Known = record { method = m; pc = pc; predicate = n; slots = f.slots } in x) predicate
      ∙ ap (λ (ns : List (Node Own)). let x : Known = record { method = m; pc = pc; predicate = node_of m k.predicate; slots = ns } in x) slots;
}

pub said_predicate : (m : MethodId) (k : Before) (f : Front) → Says m k f → f.predicate ≡ node_of m k.predicate
said_predicate m k f s = ap (λ (x : Known). x.predicate) (s.at 0)

pub said_slots : (m : MethodId) (k : Before) (f : Front) → Says m k f → f.slots ≡ map (node_of m) k.names
said_slots m k f s = ap (λ (x : Known). x.slots) (s.at 0)
