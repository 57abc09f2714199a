use Rattle.std.proofs.Common.{◌≡◌, ℕ, false, None, get_or, sym, subst, ◌∙◌}
use Rattle.std.specs.Prelude.{map, is_some}
use Rattle.std.proofs.Math.ListN.{get_or-map}
use Rattle.std.proofs.lemmas.List.{length-map}
use Rattle.wf_blocks.specs.declared.body.Body.{Body}
use Rattle.wf_blocks.specs.SeenKinds.{kind_seen}
use Rattle.wf_blocks.specs.Answers.{count_at}
use Rattle.wf_blocks.specs.Bodies.{graph_of, inner_of}
use Rattle.wf_blocks.specs.Graphs.{Reached}
use Rattle.wf_blocks.specs.Kinds.{HasKindIs, HasSlotCount, HasMarks}
use Rattle.wf_blocks.specs.Rows.{seen_at, row_in}
use Rattle.wf_blocks.proofs.AnswerLemmas.{counted_reached, has_slots, reached_counted, the_count}
use Rattle.wf_blocks.proofs.EdgeLemmas.{has_inner}
use Rattle.wf_blocks.proofs.PathLemmas.{covered, kind_is}
use Rattle.wf_blocks.proofs.blocks.Blocks.has_kinds.Goals as goal

pub returns-clause-kinds : goal.returns-clause-kinds
returns-clause-kinds c =
    let b = c.self.inside.body in
    let rows = c.self.inside.rows.items in
    let settled = c.self.invariant.settled.settled in
    let kinds : (place slot : ℕ) → Reached (graph_of b) place → HasKindIs (graph_of b) place slot = λ place slot reached.
    (let row = covered (graph_of b) (inner_of b) (row_in rows) settled place reached.slots reached.path in
    record { kind = kind_seen (seen_at row.row slot); is = kind_is (graph_of b) (inner_of b) (row_in rows) (has_inner b) settled place slot row.row row.at }) in
    subst (λ (x : Body). (place slot : ℕ) → Reached (graph_of x) place → HasKindIs (graph_of x) place slot) c.self.view_is kinds

pub returns-clause-slots : goal.returns-clause-slots
returns-clause-slots c =
    let b = c.self.inside.body in
    let rows = c.self.inside.rows.items in
    let counts = c.self.inside.counts in
    let i = c.self.invariant in
    let slots : (place : ℕ) → Reached (graph_of b) place → HasSlotCount b place = λ place reached.
    (let n = the_count (count_at counts place) (reached_counted b rows counts place i.settled i.counted reached) in record { count = n.0; are = has_slots b rows counts place n.0 i.settled i.counted n.1 }) in
    subst (λ (x : Body). (place : ℕ) → Reached (graph_of x) place → HasSlotCount x place) c.self.view_is slots

pub returns-clause-marks : goal.returns-clause-marks
returns-clause-marks c =
    let b = c.self.inside.body in
    let rows = c.self.inside.rows.items in
    let counts = c.self.inside.counts in
    let i = c.self.invariant in
    let at : (place : ℕ) → get_or (map is_some counts) place false ≡ is_some (count_at counts place) = λ place. get_or-map (is_some {T = ℕ}) counts place None in
    let marks : HasMarks b = record {
      marks = map is_some counts;
      are = record {
        same_length = length-map counts (is_some {T = ℕ}) ∙ i.counted.same_length;
        each = λ place. (λ e. counted_reached b rows counts place i.settled i.counted (sym (at place) ∙ e), λ reached. at place ∙ reached_counted b rows counts place i.settled i.counted reached);
      };
    } in
    subst HasMarks c.self.view_is marks
