-- Edges, and the one edge into a place.
use Rattle.std.proofs.Common.{◌≡◌, ℕ, Bool, true, false, List, length, get_or, Option, Some, None, Result, Ok, Err, refl, sym, ap, subst, ◌∙◌, ◌↔◌}
use Rattle.std.specs.Prelude.{◌==◌, IfOk, IfSome, map, is_some, slice_get, unwrap_or}
use Rattle.std.specs.List.{position}
use Rattle.std.proofs.lemmas.Bool.{eqb-true}
use Rattle.std.proofs.lemmas.List.Quantifiers.{position-Some}
use Rattle.std.proofs.lemmas.Option.{slice_get-get_or}
use Rattle.wf_base.specs.declared.ids.MethodId.{MethodId}
use Rattle.wf_operation.specs.declared.operation.Operation.{Operation}
use Rattle.wf_blocks.specs.declared.body.Body.{Body}
use Rattle.wf_blocks.specs.Answers.{AreReached, HasSlots}
use Rattle.wf_blocks.specs.Bodies.{graph_of, operation_at, operation_sources, sources_at, targets_at}
use Rattle.wf_operation.specs.Effects.{slots_after}
use Rattle.std.proofs.lemmas.List.{length-map}
use Rattle.wf_known.proofs.Nodes.{source_count}
use Rattle.wf_blocks.specs.Graphs.{Reached, along, edge_by, moved_from}
use Rattle.wf_blocks.proofs.EdgeLemmas.{edge_of_target}
use Rattle.wf_ssa.specs.declared.before.Before.{Before}
use Rattle.wf_ssa.specs.Environments.{pc_at, before_along, fails_there, along_edge, meets, IsKnown}
use Rattle.wf_ssa.proofs.BackLemmas.{HasPath, came_along, contains_at, known_path}
use Rattle.wf_known.specs.declared.front.Front.{Front}
use Rattle.wf_known.specs.Fronts.{Says, IsFront, IsAlong, IsReached, IsOnlyEdge}

some_is : {A : Type 0} {x y : A} → Some x ≡ Some y → x ≡ y
some_is e = cc

-- ---- along an edge

pub along_same : (b : Body) (failing : List ℕ) (place edge : ℕ) (k : Before) (o : Option Operation) (pc : ℕ) (fails : Bool) → o ≡ operation_at b place → pc ≡ pc_at b place → fails ≡ fails_there failing pc
    → before_along o pc edge fails k ≡ along_edge b failing place edge k
along_same b failing place edge k o pc fails operation here there =
    ap (λ (x : Option Operation). before_along x pc edge fails k) operation ∙ ap (λ (x : Bool). before_along (operation_at b place) pc edge x k) there
    ∙ ap (λ (n : ℕ). before_along (operation_at b place) n edge (fails_there failing n) k) here

next_reached : (b : Body) (place to edge : ℕ) → Reached (graph_of b) place → slice_get (targets_at b place) edge ≡ Some to → Reached (graph_of b) to
next_reached b place to edge reached leads =
    let n = length reached.slots in
    record {
      slots = map (moved_from reached.slots) (sources_at b place n);
      path = along place reached.slots (edge_by (sources_at b place n) to) reached.path (edge_of_target b place n to (contains_at (targets_at b place) edge to leads));
    }

-- How many slots there are behind an instruction along an edge of it: so many as every path leaves where the edge leads.
pub along_count : (b : Body) (failing : List ℕ) (place edge to count : ℕ) (k : Before) (o : Operation) (r : Option ℕ) → Some o ≡ operation_at b place → slice_get (targets_at b place) edge ≡ Some to
    → ((n : ℕ) → r ≡ Some n → HasSlots b to n) → Reached (graph_of b) to ↔ (is_some r ≡ true) → count ≡ unwrap_or r 0 → IsKnown b failing place k → count ≡ slots_after o.effect (length k.names)
unfolding next_reached
along_count b failing place edge to count k o r operation leads every reached is known = at r refl every (reached.0 (next_reached b place to edge here leads)) is where
  h : HasPath b place k
  h = known_path b failing place k known

  here : Reached (graph_of b) place
  here = record { slots = h.slots; path = h.path }

  at : (x : Option ℕ) → r ≡ x → ((n : ℕ) → x ≡ Some n → HasSlots b to n) → is_some x ≡ true → count ≡ unwrap_or x 0 → count ≡ slots_after o.effect (length k.names)
  at None same each there is = cc
  at (Some n) same each there is =
      let behind = next_reached b place to edge here leads in
      is ∙ sym ((each n refl).every behind.slots behind.path)
      ∙ length-map (sources_at b place (length h.slots)) (moved_from h.slots)
      ∙ ap (λ (x : Option Operation). length (operation_sources x (length h.slots))) (sym operation)
      ∙ source_count o.effect (length h.slots) ∙ ap (λ (j : ℕ). slots_after o.effect j) h.same

pub along_is : {E : Type 0} (b : Body) (failing : List ℕ) (m : MethodId) (place edge to count : ℕ) (front : Front) (o : Operation) (pc : ℕ) (fails : Bool) (r : Result Front E) → Some o ≡ operation_at b place → pc ≡ pc_at b place
    → fails ≡ fails_there failing pc → ((k : Before) → IsKnown b failing place k → count ≡ slots_after o.effect (length k.names))
    → IfOk r (λ f. (k : Before) → Says m k front → count ≡ slots_after o.effect (length k.names) → Says m (before_along (Some o) pc edge fails k) f) → IfOk r (IsAlong b failing m place edge front)
along_is b failing m place edge to count front o pc fails (Ok f) operation here there many says =
    record { each = λ k known s. subst (λ (x : Before). Says m x f) (along_same b failing place edge k (Some o) pc fails operation here there) (says k s (many k known)) }
along_is b failing m place edge to count front o pc fails (Err e) operation here there many says = tt

-- ---- the one edge

pub edge_is : (b : Body) (place to : ℕ) (targets : List ℕ) (r : Option ℕ) → targets ≡ targets_at b place → r ≡ position (λ (t : ℕ). t == to) targets
    → ((marks : List Bool) → AreReached b marks → meets b marks to ≡ false) → IfSome r (IsOnlyEdge b place to)
edge_is b place to targets None are is alone = tt
edge_is b place to targets (Some edge) are is alone =
    let p = position-Some (λ (t : ℕ). t == to) targets edge 0 (sym is) in
    let found : slice_get targets edge ≡ Some to = slice_get-get_or targets edge 0 p.0 ∙ ap (λ (t : ℕ). Some t) (eqb-true (get_or targets edge 0) to p.1) in
    record { leads = ap (λ (ts : List ℕ). slice_get ts edge) (sym are) ∙ found; alone = alone }

-- What is known behind the one edge is what is known along it.
pub front_behind : (b : Body) (failing : List ℕ) (m : MethodId) (place to edge : ℕ) (front f : Front) → Reached (graph_of b) place → IsOnlyEdge b place to edge → IsFront b failing m place front
    → IsAlong b failing m place edge front f → IsFront b failing m to f
front_behind b failing m place to edge front f reached only is came_on = record {
  each = λ k there.
      (let came = came_along b failing there.marks place edge to k there.are there.before ((there.are.each place).1 reached) only.leads (only.alone there.marks there.are) in
      subst (λ (x : Before). Says m x f) (sym came.is) (came_on.each came.before (record { marks = there.marks; are = there.are; before = came.there }) (is.each came.before (record { marks = there.marks; are = there.are; before = came.there }))));
}

pub only_is : (b : Body) (place to : ℕ) (r : Option ℕ) (edge : ℕ) → r ≡ Some edge → IfSome r (IsOnlyEdge b place to) → IsOnlyEdge b place to edge
only_is b place to r edge is only = subst (λ (x : Option ℕ). IfSome x (IsOnlyEdge b place to)) is only

pub reached_behind : (b : Body) (failing : List ℕ) (m : MethodId) (place to next edge : ℕ) (o : Option Front) (front f : Front) → IsReached b failing m place o → o ≡ Some front → IsOnlyEdge b place to edge → to ≡ next
    → IsAlong b failing m place edge front f → IsReached b failing m next (Some f)
reached_behind b failing m place to next edge o front f there is only same came_on =
    subst (λ (p : ℕ). IsReached b failing m p (Some f)) same (record {
      there = (λ _. refl, λ _. next_reached b place to edge reached only.leads);
      is = λ g e. subst (λ (x : Front). IsFront b failing m to x) (some_is e) (front_behind b failing m place to edge front f reached only (there.is front is) came_on);
    })
  where
    reached : Reached (graph_of b) place
    reached = there.there.1 (ap is_some is)
