-- Each method that has been read has a body.
use Rattle.std.proofs.Common.{◌≡◌, ℕ, ◌<◌, Bool, true, false, true≢false, List, [], length, ext_get_or, map, get_or, Option, refl, sym, subst, ◌∙◌, arith}
use Rattle.std.specs.List.{range_with_len}
use Rattle.std.proofs.lemmas.List.{length-map}
use Rattle.std.proofs.lemmas.List.FromFn.{get_or-map-range_with_len, length-range_with_len}
use Rattle.std.proofs.lemmas.Option.{slice_get_within, slice_get-get_or, same_Some}
use Rattle.wf_operation.specs.declared.slot.SlotKind.{SlotKind}
use Rattle.wf_operation.specs.declared.slot.SlotKind.TheVariants.{Unused}
use Rattle.wf_blocks.specs.declared.body.Body.{Body as Shape}
use Rattle.wf_blocks.specs.Answers.{AreReached, HasSlots}
use Rattle.wf_blocks.specs.Bodies.{graph_of}
use Rattle.wf_blocks.specs.Graphs.{Reached, KindIs}
use Rattle.wf_blocks.specs.Kinds.{HasKindIs, HasSlotCount, HasMarks}
use Rattle.wf_ssa.specs.declared.before.Before.{Before}
use Rattle.wf_ssa.specs.declared.name.FlowName.TheVariants.{Nothing}
use Rattle.wf_ssa.specs.Environments.{IsBefore}
use Rattle.wf_ssa.specs.Laws.{HasBefore}
use Rattle.wf_base.specs.declared.ids.MethodId.{MethodId}
use Rattle.wf_rows.specs.declared.action.Action.{Action}
use Rattle.wf_rows.specs.declared.joins.HandlerEntry.{HandlerEntry}
use Rattle.wf_body.specs.Methods.{failing_of}
use Rattle.wf_graph.specs.Flow.{IsBodyBy}
use Rattle.wf_graph.specs.Bodies.{Body, is_marked, AreKindsOf, AreKinds, AreBefore}

-- ---- marks

true_if : (a b : Bool) → (a ≡ true → b ≡ true) → (b ≡ true → a ≡ true) → a ≡ b
true_if true b to from = sym (to refl)
true_if false true to from = from refl
true_if false false to from = refl

-- two lists of marks at the same places are one
pub one_marks : (shape : Shape) (a b : List Bool) → AreReached shape a → AreReached shape b → a ≡ b
one_marks shape a b p q =
    ext_get_or false a b (p.same_length ∙ sym q.same_length) (λ i l. true_if (get_or a i false) (get_or b i false) (λ e. (q.each i).1 ((p.each i).0 e)) (λ e. (p.each i).1 ((q.each i).0 e)))

module _ (shape : Shape) (failing : List ℕ) (marks : List Bool) (are : AreReached shape marks) where
  -- ---- kinds

  module _ (kinds : (place slot : ℕ) → Reached (graph_of shape) place → HasKindIs (graph_of shape) place slot) (counts : (place : ℕ) → Reached (graph_of shape) place → HasSlotCount shape place) where
    abbrev kinds_by : (place : ℕ) (b : Bool) → is_marked marks place ≡ b → List SlotKind
    kinds_by place true e = map (λ slot. (kinds place slot ((are.each place).0 e)).kind) (range_with_len 0 (counts place ((are.each place).0 e)).count)
    kinds_by place false e = []

    abbrev pub kinds_at : ℕ → List SlotKind
    kinds_at place = kinds_by place (is_marked marks place) refl

    of_count : (place n : ℕ) (f : ℕ → SlotKind) → HasSlots shape place n → ((slot : ℕ) → KindIs (graph_of shape) place slot (f slot)) → AreKindsOf shape place (map f (range_with_len 0 n))
    of_count place n f has each =
        let many : length (map f (range_with_len 0 n)) ≡ n = length-map (range_with_len 0 n) f ∙ length-range_with_len 0 n in
        record {
          count = subst (λ k. HasSlots shape place k) (sym many) has;
          each = λ slot kind e.
              (let inside : slot < n = omega (arith, slice_get_within (map f (range_with_len 0 n)) slot kind e, many) in
              let here = slice_get-get_or (map f (range_with_len 0 n)) slot Unused (slice_get_within (map f (range_with_len 0 n)) slot kind e) in
              let same : f slot ≡ kind = sym (get_or-map-range_with_len f 0 n slot slot Unused inside (omega arith)) ∙ same_Some _ _ (sym here ∙ e) in
              subst (λ k. KindIs (graph_of shape) place slot k) same (each slot));
        }

    kinds_are : (place : ℕ) → Reached (graph_of shape) place → (b : Bool) (e : is_marked marks place ≡ b) → AreKindsOf shape place (kinds_by place b e)
    kinds_are place reached true e =
        let there = (are.each place).0 e in
        of_count place (counts place there).count (λ slot. (kinds place slot there).kind) (counts place there).are (λ slot. (kinds place slot there).is)
    kinds_are place reached false e = absurd (true≢false (sym ((are.each place).1 reached) ∙ e))

    pub are_kinds : AreKinds shape marks kinds_at
    are_kinds = record { at = λ place reached meet. kinds_are place reached (is_marked marks place) refl }

  -- ---- what is known

  module _ (known : (place : ℕ) → Reached (graph_of shape) place → HasBefore shape failing place) where
    abbrev nothing : Before
    nothing = record { predicate = Nothing; names = [] }

    abbrev before_by : (place : ℕ) (b : Bool) → is_marked marks place ≡ b → Before
    before_by place true e = (known place ((are.each place).0 e)).before
    before_by place false e = nothing

    abbrev pub before_at : ℕ → Before
    before_at place = before_by place (is_marked marks place) refl

    before_is : (place : ℕ) → Reached (graph_of shape) place → (b : Bool) (e : is_marked marks place ≡ b) → IsBefore shape failing marks place (before_by place b e)
    before_is place reached true e =
        let h = known place ((are.each place).0 e) in
        subst (λ (ms : List Bool). IsBefore shape failing ms place h.before) (one_marks shape h.there.marks marks h.there.are are) h.there.before
    before_is place reached false e = absurd (true≢false (sym ((are.each place).1 reached) ∙ e))

    pub are_before : AreBefore shape failing marks before_at
    are_before = record { at = λ place reached. before_is place reached (is_marked marks place) refl }

-- a body by what has been read, and by what is known of all that is read
pub a_body : (shape : Shape) (failing : List ℕ) (m : MethodId) (does : List (Option Action)) (entries : List (Option HandlerEntry)) (first_keys : ℕ) → failing ≡ failing_of shape does → HasMarks shape
    → ((place slot : ℕ) → Reached (graph_of shape) place → HasKindIs (graph_of shape) place slot) → ((place : ℕ) → Reached (graph_of shape) place → HasSlotCount shape place)
    → ((fails : List ℕ) (place : ℕ) → Reached (graph_of shape) place → HasBefore shape fails place) → (b : Body) × IsBodyBy shape failing m does entries b × (b.first_keys ≡ first_keys)
a_body shape failing m does entries first_keys fails marked kinds counts known =
    let all = failing_of shape does in
    let b : Body = record {
      method = m;
      shape = shape;
      marks = marked.marks;
      acts = does;
      handlers = entries;
      kinds = kinds_at shape all marked.marks marked.are kinds counts;
      before = before_at shape all marked.marks marked.are (known all);
      first_keys = first_keys;
    } in (
      b,
      record {
        flow = record {
          shape = refl;
          failing = sym fails;
          method = refl;
          reached = marked.are;
          kinds = are_kinds shape all marked.marks marked.are kinds counts;
          before = are_before shape all marked.marks marked.are (known all);
        };
        acts = refl;
        handlers = refl;
      },
      refl,
    )
