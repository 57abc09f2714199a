-- The kinds of the slots at a place that a path reaches are one list.
use Rattle.std.proofs.Common.{◌≡◌, ℕ, ◌<◌, Bool, true, List, [], length, get_or, sym, ap, ◌∙◌, arith}
use Rattle.std.specs.Prelude.{◌&&◌, if◌then◌else◌}
use Rattle.std.proofs.lemmas.Bool.{and_parts}
use Rattle.std.proofs.lemmas.List.{ext_get_or}
use Rattle.std.proofs.lemmas.Option.{slice_get-get_or}
use Rattle.wf_operation.specs.declared.slot.SlotKind.{SlotKind}
use Rattle.wf_operation.specs.declared.slot.SlotKind.TheVariants.{Unused}
use Rattle.wf_blocks.specs.declared.body.Body.{Body as Shape}
use Rattle.wf_blocks.specs.declared.body.Step.{Step}
use Rattle.wf_blocks.specs.Answers.{AreReached}
use Rattle.wf_blocks.specs.Bodies.{graph_of}
use Rattle.wf_blocks.specs.Graphs.{Reached}
use Rattle.wf_ssa.specs.Environments.{meets}
use Rattle.wf_ssa.proofs.TraceLemmas.{one_kind}
use Rattle.wf_rows.specs.OwnNodes.{block_nodes}
use Rattle.wf_graph.specs.Bodies.{is_marked, AreKindsOf, AreKinds}
use Rattle.wf_graph.specs.BodyNodes.{meeting_nodes}

-- the kinds of a place that a path reaches are one list
one_list : (shape : Shape) (place : ℕ) (xs ys : List SlotKind) → Reached (graph_of shape) place → AreKindsOf shape place xs → AreKindsOf shape place ys → xs ≡ ys
one_list shape place xs ys reached a b = ext_get_or Unused xs ys same each where
  same : length xs ≡ length ys
  same = sym (a.count.every reached.slots reached.path) ∙ b.count.every reached.slots reached.path

  each : (k : ℕ) → k < length xs → get_or xs k Unused ≡ get_or ys k Unused
  each k h = one_kind (graph_of shape) place k (get_or xs k Unused) (get_or ys k Unused) reached
      (a.each k (get_or xs k Unused) (slice_get-get_or xs k Unused h))
      (b.each k (get_or ys k Unused) (slice_get-get_or ys k Unused (omega (arith, same, h))))

-- the nodes of a place where ways meet, by kinds that were found
pub meeting_are : (shape : Shape) (marks : List Bool) (kinds : ℕ → List SlotKind) (place : ℕ) (step : Step) (found : List SlotKind)
    → AreReached shape marks → AreKinds shape marks kinds → (is_marked marks place && meets shape marks place) ≡ true
    → (Reached (graph_of shape) place → AreKindsOf shape place found)
    → block_nodes step.pc found ≡ meeting_nodes shape marks kinds place step
meeting_are shape marks kinds place step found are kinds_are met is =
    let parts = and_parts (is_marked marks place) (meets shape marks place) met in
    let reached : Reached (graph_of shape) place = (are.each place).0 parts.0 in
    ap (block_nodes step.pc) (one_list shape place found (kinds place) reached (is reached) (kinds_are.at place reached parts.1))
    ∙ sym (ap (λ (b : Bool). if b then block_nodes step.pc (kinds place) else []) met)
