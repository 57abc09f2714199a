-- One environment in front of a place.
use Rattle.std.proofs.Common.{◌≡◌, ℕ, suc, ◌<◌, Bool, true, false, Some, List, length, refl, sym, ap, subst, ◌∙◌, arith}
use Rattle.std.specs.Prelude.{slice_get}
use Rattle.wf_operation.specs.declared.slot.SlotKind.{SlotKind}
use Rattle.wf_blocks.specs.declared.body.Body.{Body}
use Rattle.wf_blocks.specs.Answers.{AreReached}
use Rattle.wf_blocks.specs.Bodies.{graph_of, targets_at}
use Rattle.wf_blocks.specs.Graphs.{Reached}
use Rattle.wf_ssa.specs.declared.before.Before.{Before}
use Rattle.wf_ssa.specs.Environments.{pc_at, name_at, met_name, along_edge, meets, IsMet, IsBefore, met, entered, single, IsKnown}
use Rattle.wf_ssa.proofs.BackLemmas.{came_along, entry_alone, marked, one_edge}
use Rattle.wf_ssa.proofs.FillLemmas.{row_is, same_names}
use Rattle.wf_ssa.proofs.TraceLemmas.{is_entry, is_met, marks_agree, one_kind}

clash : (x : Bool) → x ≡ true → x ≡ false → ⊥
clash x e f = cc

met_once : (b : Body) (place : ℕ) (k j : Before) → Reached (graph_of b) place → IsMet b place k → IsMet b place j → k ≡ j
met_once b place k j reached one other = row_is k.predicate k.names j (one.predicate ∙ sym other.predicate) (same_names k.names j.names count same)
  where
    count : length k.names ≡ length j.names
    count = sym (one.count.every reached.slots reached.path) ∙ other.count.every reached.slots reached.path

    same : (slot : ℕ) → slot < length k.names → name_at k.names slot ≡ name_at j.names slot
    same slot lt =
        one.names slot lt ∙ ap (λ (kind : SlotKind). met_name (pc_at b place) kind slot) (one_kind (graph_of b) place slot (one.kind slot) (other.kind slot) reached (one.kinds slot) (other.kinds slot))
        ∙ sym (other.names slot (omega (arith, lt, count)))

once : (b : Body) (failing : List ℕ) (marks : List Bool) (place : ℕ) (k j : Before) → AreReached b marks → IsBefore b failing marks place k → IsBefore b failing marks place j → k ≡ j
once b failing marks _ _ j are (met place k reached meet is) other = met_once b place k j reached is (is_met b failing marks place j other meet)
once b failing marks _ _ j are (entered alone) other = sym (is_entry b failing marks 0 j are other refl alone)
once b failing marks _ _ j are (single place edge to k before leads alone) other =
    let came = came_along b failing marks place edge to j are other (marked b failing marks place k are before) leads alone in
    ap (λ (x : Before). along_edge b failing place edge x) (once b failing marks place k came.before are before came.there) ∙ sym came.is

pub known_once : (b : Body) (failing : List ℕ) (place : ℕ) (k j : Before) → IsKnown b failing place k → IsKnown b failing place j → k ≡ j
known_once b failing place k j one other =
    once b failing one.marks place k j one.are one.before (subst (λ (ms : List Bool). IsBefore b failing ms place j) (marks_agree b other.marks one.marks other.are one.are) other.before)

-- ---- how many edges an environment has come along

abbrev pub came_by : (b : Body) (failing : List ℕ) (marks : List Bool) (place : ℕ) (k : Before) → IsBefore b failing marks place k → ℕ
came_by b failing marks _ _ (met place k reached meet is) = 0
came_by b failing marks _ _ (entered alone) = 0
came_by b failing marks _ _ (single place edge to k before leads alone) = suc (came_by b failing marks place k before)

met_none : (b : Body) (failing : List ℕ) (marks : List Bool) (place : ℕ) (k : Before) (there : IsBefore b failing marks place k) → meets b marks place ≡ true → came_by b failing marks place k there ≡ 0
met_none b failing marks _ _ (met place k reached meet is) together = refl
met_none b failing marks _ _ (entered alone) together = absurd (clash (meets b marks 0) together alone)
met_none b failing marks _ _ (single place edge to k before leads alone) together = absurd (clash (meets b marks to) together alone)

entry_none : (b : Body) (failing : List ℕ) (marks : List Bool) (place : ℕ) (k : Before) (there : IsBefore b failing marks place k) → AreReached b marks → place ≡ 0 → meets b marks 0 ≡ false
    → came_by b failing marks place k there ≡ 0
entry_none b failing marks _ _ (met place k reached meet is) are e apart = refl
entry_none b failing marks _ _ (entered alone) are e apart = refl
entry_none b failing marks _ _ (single place edge to k before leads alone) are e apart =
    absurd (entry_alone b marks place edge apart (marked b failing marks place k are before) (subst (λ (p : ℕ). slice_get (targets_at b place) edge ≡ Some p) e leads))

pub came_same : (b : Body) (failing : List ℕ) (marks : List Bool) (place there : ℕ) (k j : Before) → AreReached b marks → place ≡ there → (one : IsBefore b failing marks place k) (other : IsBefore b failing marks there j)
    → came_by b failing marks place k one ≡ came_by b failing marks there j other
came_same b failing marks _ there _ j are e (met place k reached meet is) other = sym (met_none b failing marks there j other (subst (λ (p : ℕ). meets b marks p ≡ true) e meet))
came_same b failing marks _ there _ j are e (entered alone) other = sym (entry_none b failing marks there j other are (sym e) alone)
came_same b failing marks _ _ _ _ are e (single place edge to k before leads alone) (met place' k' reached meet is) = absurd (clash (meets b marks to) (subst (λ (p : ℕ). meets b marks p ≡ true) (sym e) meet) alone)
came_same b failing marks _ _ _ _ are e (single place edge to k before leads alone) (entered alone') =
    absurd (entry_alone b marks place edge alone' (marked b failing marks place k are before) (subst (λ (p : ℕ). slice_get (targets_at b place) edge ≡ Some p) e leads))
came_same b failing marks _ _ _ _ are e (single place edge to k before leads alone) (single place' edge' to' k' before' leads' alone') =
    let one = one_edge b marks place place' edge edge' to alone (marked b failing marks place k are before) (marked b failing marks place' k' are before') leads
    (subst (λ (p : ℕ). slice_get (targets_at b place') edge' ≡ Some p) (sym e) leads') in
    ap (λ (n : ℕ). suc n) (came_same b failing marks place place' k k' are one.0 before before')
