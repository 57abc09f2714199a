-- The rows of a body, where they are added one behind the other.
use Rattle.std.proofs.Common.{◌≡◌, ℕ, ◌<◌, ◌≤◌, true, List, [], ◌++◌, length, drop, Option, Some, sym, ap, subst, ◌∙◌, append_assoc, append-nil}
use Rattle.std.specs.Prelude.{is_some, map, slice_get, if◌then◌else◌}
use Rattle.std.specs.List.{range_with_len}
use Rattle.std.proofs.lemmas.Grind.{flat_map-append}
use Rattle.std.proofs.lemmas.List.{drop_all}
use Rattle.wf_base.specs.declared.ids.MethodId.{MethodId}
use Rattle.wf_base.specs.declared.ids.NodeId.{NodeId}
use Rattle.wf_base.specs.declared.ids.TypeId.{TypeId}
use Rattle.wf_blocks.specs.declared.body.Body.{Body as Shape}
use Rattle.wf_blocks.specs.declared.body.Catcher.{Catcher}
use Rattle.wf_blocks.specs.declared.body.Step.{Step}
use Rattle.wf_blocks.specs.Answers.{AreReached}
use Rattle.wf_blocks.specs.Bodies.{graph_of, locals_of, sources_at, targets_at}
use Rattle.wf_blocks.specs.Graphs.{Reached, along, edge_by, moved_from}
use Rattle.wf_blocks.proofs.EdgeLemmas.{edge_of_target}
use Rattle.wf_ssa.specs.declared.before.Before.{Before}
use Rattle.wf_ssa.specs.Environments.{IsKnown, along_edge, entry_before, entry_name, meets, pc_at}
use Rattle.wf_ssa.proofs.BackLemmas.{contains_at, entry_path, reached_inside}
use Rattle.wf_system.specs.declared.inequality.Inequality.{Inequality}
use Rattle.wf_operation.specs.declared.operation.Operation.{Operation}
use Rattle.wf_rows.specs.declared.action.Action.{Action}
use Rattle.wf_rows.specs.declared.context.ArrayType.{ArrayType}
use Rattle.wf_rows.specs.declared.joins.HandlerEntry.{HandlerEntry}
use Rattle.wf_rows.specs.declared.throwable.Throwable.{Throwable}
use Rattle.wf_rows.specs.declared.node.Node.{Node}
use Rattle.wf_rows.specs.declared.node.Node.TheVariants.{Entered}
use Rattle.wf_rows.specs.declared.node.Own.{Own}
use Rattle.wf_rows.specs.Before.{Before as Known}
use Rattle.wf_rows.specs.Each.{each_from}
use Rattle.wf_rows.specs.Joins.{edge_rows}
use Rattle.wf_rows.specs.Renaming.{all_renamed, listed}
use Rattle.wf_known.specs.declared.front.Front.{Front}
use Rattle.wf_known.specs.Flows.{known_at, node_of}
use Rattle.wf_known.specs.Fronts.{IsAlong, IsReached, Says, known_of}
use Rattle.wf_body.specs.Methods.{act_at}
use Rattle.wf_graph.specs.Bodies.{Body, failing_in, is_reached, keys_at}
use Rattle.wf_graph.specs.BodyRows.{Row, act_rows, edge_from, edge_into, entry_over, known_in, reached_rows}
use Rattle.wf_graph.specs.Flow.{IsBodyBy, IsFlow}

-- ---- lists of rows

-- no element is left
pub added_all : {A : Type 0} (number : Node Own → Option NodeId) (f : ℕ → A → List Row) (xs : List A) (i : ℕ) (new total : List (Inequality NodeId))
    → length xs ≤ i → new ++ all_renamed number (each_from f i (drop i xs)) ≡ total → new ≡ total
added_all {A} number f xs i new total past e =
    sym (append-nil new) ∙ ap (λ (l : List A). new ++ all_renamed number (each_from f i l)) (sym (drop_all i xs past)) ∙ e

-- the rows of two lists, one behind the other
pub added_two : (number : Node Own → Option NodeId) (one two : List Row) (old mid new : List (Inequality NodeId))
    → mid ≡ old ++ all_renamed number one → new ≡ mid ++ all_renamed number two → new ≡ old ++ all_renamed number (one ++ two)
added_two number one two old mid new first next =
    next ∙ ap (λ (l : List (Inequality NodeId)). l ++ all_renamed number two) first
    ∙ append_assoc old (all_renamed number one) (all_renamed number two)
    ∙ ap (λ (l : List (Inequality NodeId)). old ++ l) (sym (flat_map-append (listed number) one two))

pub added_three : (number : Node Own → Option NodeId) (one two three : List Row) (old a b new : List (Inequality NodeId))
    → a ≡ old ++ all_renamed number one → b ≡ a ++ all_renamed number two → new ≡ b ++ all_renamed number three → new ≡ old ++ all_renamed number (one ++ two ++ three)
added_three number one two three old a b new first next last =
    added_two number (one ++ two) three old b new (added_two number one two old a b first next) last

-- ---- a body as what has been read of it

pub flow_reached : (shape : Shape) (failing : List ℕ) (m : MethodId) (b : Body) → IsFlow shape failing m b → AreReached shape b.marks
flow_reached shape failing m b flow = subst (λ (x : Shape). AreReached x b.marks) flow.shape flow.reached

pub flow_known : (shape : Shape) (failing : List ℕ) (m : MethodId) (b : Body) (place : ℕ) → IsFlow shape failing m b → Reached (graph_of shape) place → IsKnown shape failing place (b.before place)
flow_known shape failing m b place flow reached =
    subst (λ (x : Shape). IsKnown x failing place (b.before place)) flow.shape
    (subst (λ (x : List ℕ). IsKnown b.shape x place (b.before place)) flow.failing
    (record { marks = b.marks; are = flow.reached; before = flow.before.at place (subst (λ (x : Shape). Reached (graph_of x) place) (sym flow.shape) reached) }))

pub marked_there : (shape : Shape) (failing : List ℕ) (m : MethodId) (b : Body) (place : ℕ) → IsFlow shape failing m b → Reached (graph_of shape) place → is_reached b place ≡ true
marked_there shape failing m b place flow reached = ((flow_reached shape failing m b flow).each place).1 reached

-- the entry is a place
pub entry_inside : (shape : Shape) (failing : List ℕ) (m : MethodId) (b : Body) → IsFlow shape failing m b → 0 < length shape.steps
entry_inside shape failing m b flow = reached_inside shape b.marks 0 (flow_reached shape failing m b flow) (record { slots = shape.entry; path = entry_path shape })

-- ---- edges

abbrev pub known_by : MethodId → ℕ → List (Node Own) → Known
known_by m pc slots = record { method = m; pc = pc; predicate = Entered m; slots = slots }

-- an edge of a place that is reached leads to a place
pub leads_inside : (shape : Shape) (failing : List ℕ) (m : MethodId) (b : Body) (place edge to : ℕ) → IsFlow shape failing m b → Reached (graph_of shape) place → slice_get (targets_at shape place) edge ≡ Some to → to < length shape.steps
leads_inside shape failing m b place edge to flow reached leads =
    reached_inside shape b.marks to (flow_reached shape failing m b flow) (record {
      slots = map (moved_from reached.slots) (sources_at shape place (length reached.slots));
      path = along place reached.slots (edge_by (sources_at shape place (length reached.slots)) to) reached.path (edge_of_target shape place (length reached.slots) to (contains_at (targets_at shape place) edge to leads));
    })

-- what is known along an edge
pub along_said : (shape : Shape) (failing : List ℕ) (m : MethodId) (b : Body) (place edge : ℕ) (front f : Front) → IsFlow shape failing m b → Reached (graph_of shape) place → Says m (b.before place) front
    → IsAlong shape failing m place edge front f → Says m (along_edge b.shape (failing_in b) place edge (b.before place)) f
along_said shape failing m b place edge front f flow reached said is =
    subst (λ (x : Shape). Says m (along_edge x (failing_in b) place edge (b.before place)) f) (sym flow.shape)
    (subst (λ (x : List ℕ). Says m (along_edge shape x place edge (b.before place)) f) (sym flow.failing) (is.each (b.before place) (flow_known shape failing m b place flow reached) said))

-- the rows of an edge, by what is known along it
pub into_is : (env shape : Shape) (failing : List ℕ) (m : MethodId) (b : Body) (k : Before) (to pc : ℕ) (known : Known) → env ≡ shape → IsFlow shape failing m b → pc ≡ pc_at shape to → known ≡ known_at m pc k
    → (if meets env b.marks to then edge_rows known else []) ≡ edge_into b to k
into_is env shape failing m b k to pc known same flow here is =
    ap (λ (x : Shape). if meets x b.marks to then edge_rows known else []) (same ∙ sym flow.shape)
    ∙ ap (λ (x : Known). if meets b.shape b.marks to then edge_rows x else [])
    (is ∙ ap (λ (n : ℕ). known_at m n k) (here ∙ ap (λ (x : Shape). pc_at x to) (sym flow.shape)) ∙ ap (λ (x : MethodId). known_at x (pc_at b.shape to) k) (sym flow.method))

-- what is known at the entry
pub entry_is : (shape : Shape) (failing : List ℕ) (m : MethodId) (b : Body) (pc : ℕ) (slots : List (Node Own)) → IsFlow shape failing m b
    → slots ≡ map (node_of m) (map (entry_name shape) (range_with_len 0 (locals_of shape))) → known_by m pc slots ≡ known_at m pc (entry_before b.shape)
entry_is shape failing m b pc slots flow is =
    ap (λ (l : List (Node Own)). known_by m pc l) (is ∙ ap (λ (x : Shape). map (node_of m) (map (entry_name x) (range_with_len 0 (locals_of x)))) (sym flow.shape))

-- the same marks by the shape of an environment
pub env_reached : (env shape : Shape) (failing : List ℕ) (m : MethodId) (b : Body) → env ≡ shape → IsFlow shape failing m b → AreReached env b.marks
env_reached env shape failing m b same flow = subst (λ (x : Shape). AreReached x b.marks) (flow.shape ∙ sym same) flow.reached

-- ---- places

-- the rows of a place, by what is read there
pub reached_is : (shape : Shape) (failing : List ℕ) (m : MethodId) (does : List (Option Action)) (entries handlers : List (Option HandlerEntry)) (b : Body) (arrays : List ArrayType) (thrown : Throwable → Option TypeId) (place keys : ℕ) (step : Step)
    (front : Front) (known : Known) (operation : Option Operation) (act : Option Action) (catchers : List Catcher) → IsBodyBy shape failing m does entries b → keys ≡ keys_at b place → Says m (b.before place) front
    → known ≡ known_of m step.pc front → operation ≡ step.operation → act ≡ act_at does place → catchers ≡ shape.catchers → handlers ≡ entries
    → act_rows known arrays thrown keys operation act ++ each_from (edge_from b place) 0 (targets_at shape place) ++ each_from (entry_over handlers known place) 0 catchers ≡ reached_rows arrays thrown b place step
reached_is shape failing m does entries handlers b arrays thrown place keys step front known operation act catchers by number said is what does_is over caught =
    ap (λ (k : Known). rows k keys operation act (targets_at shape place) handlers catchers) (is ∙ said.at step.pc ∙ ap (λ (x : MethodId). known_at x step.pc (b.before place)) (sym by.flow.method))
    ∙ ap (λ (n : ℕ). rows here n operation act (targets_at shape place) handlers catchers) number
    ∙ ap (λ (o : Option Operation). rows here (keys_at b place) o act (targets_at shape place) handlers catchers) what
    ∙ ap (λ (a : Option Action). rows here (keys_at b place) step.operation a (targets_at shape place) handlers catchers) (does_is ∙ ap (λ (x : List (Option Action)). act_at x place) (sym by.acts))
    ∙ ap (λ (x : Shape). rows here (keys_at b place) step.operation (act_at b.acts place) (targets_at x place) handlers catchers) (sym by.flow.shape)
    ∙ ap (λ (x : List (Option HandlerEntry)). rows here (keys_at b place) step.operation (act_at b.acts place) (targets_at b.shape place) x catchers) (caught ∙ sym by.handlers)
    ∙ ap (λ (x : List Catcher). rows here (keys_at b place) step.operation (act_at b.acts place) (targets_at b.shape place) b.handlers x) (over ∙ ap (λ (x : Shape). x.catchers) (sym by.flow.shape))
  where
    rows : Known → ℕ → Option Operation → Option Action → List ℕ → List (Option HandlerEntry) → List Catcher → List Row
    rows k n o a targets hs cs = act_rows k arrays thrown n o a ++ each_from (edge_from b place) 0 targets ++ each_from (entry_over hs k place) 0 cs

    here : Known
    here = known_in b place step

-- what is known at a place where a front is
pub front_there : (shape : Shape) (failing : List ℕ) (m : MethodId) (place : ℕ) (o : Option Front) (front : Front) → IsReached shape failing m place o → o ≡ Some front → Reached (graph_of shape) place
front_there shape failing m place o front there is = there.there.1 (ap is_some is)

pub front_said : (shape : Shape) (failing : List ℕ) (m : MethodId) (b : Body) (place : ℕ) (o : Option Front) (front : Front) → IsFlow shape failing m b → IsReached shape failing m place o → o ≡ Some front → Says m (b.before place) front
front_said shape failing m b place o front flow there is =
    (there.is front is).each (b.before place) (flow_known shape failing m b place flow (front_there shape failing m place o front there is))
