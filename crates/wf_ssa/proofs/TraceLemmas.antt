-- The walk back, step by step.
use Rattle.std.proofs.Common.{◌≡◌, ℕ, ◌-◌, ◌<◌, ◌≤◌, Bool, true, false, List, length, get_or, Option, Some, None, refl, sym, ap, subst, ◌∙◌, arith, inl, inr}
use Rattle.std.specs.Prelude.{◌⊎◌, nat_lt, map, unwrap_or, if◌then◌else◌}
use Rattle.std.specs.List.{range_with_len}
use Rattle.std.proofs.lemmas.Bool.{ltb-true, ltb-false}
use Rattle.std.proofs.lemmas.List.{length-map, get_or_past, ext_get_or}
use Rattle.std.proofs.lemmas.List.FromFn.{length-range_with_len, get_or-map-range_with_len}
use Rattle.wf_operation.specs.declared.slot.SlotKind.{SlotKind}
use Rattle.wf_operation.specs.declared.slot.SlotKind.TheVariants.{Int, Ref, Long, LongRest, Unused}
use Rattle.wf_operation.specs.Slots.{same_kind}
use Rattle.wf_blocks.specs.declared.body.Body.{Body}
use Rattle.wf_blocks.specs.Answers.{AreReached}
use Rattle.wf_blocks.specs.Bodies.{graph_of, locals_of, operation_at}
use Rattle.wf_blocks.specs.Graphs.{Graph, Reached, KindIs}
use Rattle.wf_blocks.proofs.SeenLemmas.{true_or_false}
use Rattle.wf_ssa.specs.declared.before.Before.{Before}
use Rattle.wf_ssa.specs.declared.name.FlowName.{FlowName}
use Rattle.wf_ssa.specs.declared.name.FlowName.TheVariants.{Nothing, Par}
use Rattle.wf_ssa.specs.declared.walk.Origin.{Origin}
use Rattle.wf_ssa.specs.declared.walk.Origin.TheVariants.{Slot, Name}
use Rattle.wf_ssa.specs.Environments.{name_at, pc_at, along_edge, fails_there, entry_name, entry_before, meets, met_name, IsMet, IsBefore, met, entered, single, IsKnown}
use Rattle.wf_ssa.specs.Keeping.{refines_at, ends, answered, named, renamed_by, linked_by, AreMeets}
use Rattle.wf_ssa.proofs.BackLemmas.{back_one, entry_alone, marked, ends_parts, answered_back, known_inside, known_reached}
use Rattle.wf_ssa.proofs.MoveLemmas.{renamed_same, predicate_same}

clash : (x : Bool) → x ≡ true → x ≡ false → ⊥
clash x e f = cc

-- what was known where the walk began, read where it has come
pub record IsTraced (b : Body) (failing : List ℕ) (ms : List Bool) (known : List (Option Before)) (at slot : ℕ) (name : FlowName) : Type 0 where
  pub before : Before
  pub there : IsKnown b failing at before
  pub same : name_at before.names slot ≡ name
  pub kept : answered b ms known at ≡ true

pub record IsLed (b : Body) (failing : List ℕ) (ms : List Bool) (known : List (Option Before)) (at : ℕ) (name : FlowName) : Type 0 where
  pub before : Before
  pub there : IsKnown b failing at before
  pub same : before.predicate ≡ name
  pub kept : answered b ms known at ≡ true

-- what is known at a place inside a block comes from the place before
pub record CameOn (b : Body) (failing : List ℕ) (ms : List Bool) (known : List (Option Before)) (at : ℕ) (k : Before) : Type 0 where
  pub before : Before
  pub there : IsKnown b failing (at - 1) before
  pub is : k ≡ along_edge b failing (at - 1) 0 before
  pub keeps : refines_at (operation_at b (at - 1)) ≡ false
  pub kept : answered b ms known (at - 1) ≡ true

came_on : (b : Body) (failing : List ℕ) (ms : List Bool) (known : List (Option Before)) (at : ℕ) (k : Before) → AreMeets b ms → 0 < at → ends b ms at ≡ false → IsKnown b failing at k
    → answered b ms known at ≡ true → CameOn b failing ms known at k
came_on b failing ms known at k meets_are lt on there kept =
    let parts = ends_parts b ms at on in
    let alone = sym (meets_are.each there.marks at there.are (known_inside b failing at k there)) ∙ parts.0 in
    let came = back_one b failing there.marks at k there.before alone parts.1 in
    record {
      before = came.before;
      there = record { marks = there.marks; are = there.are; before = came.there };
      is = came.is;
      keeps = parts.2;
      kept = sym (answered_back b ms known at lt on) ∙ kept;
    }

abbrev pub OriginMeans : Body → List ℕ → List Bool → List (Option Before) → ℕ → FlowName → Origin → Type 0
OriginMeans b failing ms known last name (Slot i) = IsTraced b failing ms known last i name
OriginMeans b failing ms known last name (Name f) = f ≡ name

pub trace_one : (b : Body) (failing : List ℕ) (ms : List Bool) (known : List (Option Before)) (at slot : ℕ) (name : FlowName) (r : Origin) → AreMeets b ms → 0 < at → ends b ms at ≡ false
    → IsTraced b failing ms known at slot name
    → ((edge : ℕ) (k : Before) → IsKnown b failing (at - 1) k → IsKnown b failing at (along_edge b failing (at - 1) edge k)
    → name_at (along_edge b failing (at - 1) edge k).names slot ≡ named (renamed_by (operation_at b (at - 1)) (pc_at b (at - 1)) edge k.names) r)
    → OriginMeans b failing ms known (at - 1) name r
trace_one b failing ms known at slot name r meets_are lt on t origin = by_origin r named_is
  where
    c : CameOn b failing ms known at t.before
    c = came_on b failing ms known at t.before meets_are lt on t.there t.kept

    named_is : named c.before.names r ≡ name
    named_is =
        ap (λ (ns : List FlowName). named ns r) (sym (renamed_same (operation_at b (at - 1)) (pc_at b (at - 1)) 0 c.before.names c.keeps))
        ∙ sym (origin 0 c.before c.there (subst (λ (k : Before). IsKnown b failing at k) c.is t.there)) ∙ ap (λ (k : Before). name_at k.names slot) (sym c.is) ∙ t.same

    by_origin : (r : Origin) → named c.before.names r ≡ name → OriginMeans b failing ms known (at - 1) name r
    by_origin (Slot i) is = record { before = c.before; there = c.there; same = is; kept = c.kept }
    by_origin (Name f) is = is

abbrev pub LinkMeans : Body → List ℕ → List Bool → List (Option Before) → ℕ → FlowName → Option FlowName → Type 0
LinkMeans b failing ms known last name None = IsLed b failing ms known last name
LinkMeans b failing ms known last name (Some own) = own ≡ name

pub led_one : (b : Body) (failing : List ℕ) (ms : List Bool) (known : List (Option Before)) (at : ℕ) (name : FlowName) (r : Option FlowName) → AreMeets b ms → 0 < at → ends b ms at ≡ false
    → IsLed b failing ms known at name
    → ((before : FlowName) → unwrap_or r before ≡ linked_by (operation_at b (at - 1)) (pc_at b (at - 1)) (fails_there failing (pc_at b (at - 1))) before)
    → LinkMeans b failing ms known (at - 1) name r
led_one b failing ms known at name r meets_are lt on t link = by_link r linked_is
  where
    c : CameOn b failing ms known at t.before
    c = came_on b failing ms known at t.before meets_are lt on t.there t.kept

    linked_is : unwrap_or r c.before.predicate ≡ name
    linked_is =
        link c.before.predicate ∙ sym (predicate_same (operation_at b (at - 1)) (pc_at b (at - 1)) 0 (fails_there failing (pc_at b (at - 1))) c.before c.keeps)
        ∙ ap (λ (k : Before). k.predicate) (sym c.is) ∙ t.same

    by_link : (r : Option FlowName) → unwrap_or r c.before.predicate ≡ name → LinkMeans b failing ms known (at - 1) name r
    by_link None is = record { before = c.before; there = c.there; same = is; kept = c.kept }
    by_link (Some own) is = is

-- ---- where the walk ends

pub is_met : (b : Body) (failing : List ℕ) (marks : List Bool) (place : ℕ) (k : Before) → IsBefore b failing marks place k → meets b marks place ≡ true → IsMet b place k
is_met b failing marks _ _ (met place k reached meet is) together = is
is_met b failing marks _ _ (entered alone) together = absurd (clash (meets b marks 0) together alone)
is_met b failing marks _ _ (single place edge to k before leads alone) together = absurd (clash (meets b marks to) together alone)

pub marks_agree : (b : Body) (one other : List Bool) → AreReached b one → AreReached b other → one ≡ other
marks_agree b one other a o = ext_get_or false one other (a.same_length ∙ sym o.same_length) (λ i lt. by_mark i (true_or_false (get_or one i false)) (true_or_false (get_or other i false)))
  where
    by_mark : (i : ℕ) → (get_or one i false ≡ true) ⊎ (get_or one i false ≡ false) → (get_or other i false ≡ true) ⊎ (get_or other i false ≡ false) → get_or one i false ≡ get_or other i false
    by_mark i (inl e) f = e ∙ sym ((o.each i).1 ((a.each i).0 e))
    by_mark i (inr e) (inl f) = absurd (clash (get_or one i false) ((a.each i).1 ((o.each i).0 f)) e)
    by_mark i (inr e) (inr f) = e ∙ sym f

pub is_met_here : (b : Body) (failing : List ℕ) (marks : List Bool) (place : ℕ) (k : Before) → AreReached b marks → meets b marks place ≡ true → IsKnown b failing place k → IsMet b place k
is_met_here b failing marks place k are together there =
    is_met b failing there.marks place k there.before (subst (λ (ms : List Bool). meets b ms place ≡ true) (marks_agree b marks there.marks are there.are) together)

pub is_entry : (b : Body) (failing : List ℕ) (marks : List Bool) (place : ℕ) (k : Before) → AreReached b marks → IsBefore b failing marks place k → place ≡ 0 → meets b marks place ≡ false → k ≡ entry_before b
is_entry b failing marks _ _ are (met place k reached meet is) zero_is alone = absurd (clash (meets b marks place) meet alone)
is_entry b failing marks _ _ are (entered alone') zero_is alone = refl
is_entry b failing marks _ _ are (single place edge to k before leads alone') zero_is alone =
    absurd (entry_alone b marks place edge (subst (λ (p : ℕ). meets b marks p ≡ false) zero_is alone) (marked b failing marks place k are before) (leads ∙ ap (λ (p : ℕ). Some p) zero_is))

used_or_not : (k : SlotKind) → (k ≡ Unused) ⊎ (k ≡ Unused → ⊥)
used_or_not Int = inr (λ e. absurd (clash (same_kind Int Unused) (ap (λ (x : SlotKind). same_kind x Unused) e) refl))
used_or_not Ref = inr (λ e. absurd (clash (same_kind Ref Unused) (ap (λ (x : SlotKind). same_kind x Unused) e) refl))
used_or_not Long = inr (λ e. absurd (clash (same_kind Long Unused) (ap (λ (x : SlotKind). same_kind x Unused) e) refl))
used_or_not LongRest = inr (λ e. absurd (clash (same_kind LongRest Unused) (ap (λ (x : SlotKind). same_kind x Unused) e) refl))
used_or_not Unused = inl refl

-- a slot has one kind
pub one_kind : (g : Graph) (place slot : ℕ) (a b : SlotKind) → Reached g place → KindIs g place slot a → KindIs g place slot b → a ≡ b
one_kind g place slot a b reached ka kb = by_use (used_or_not a) (used_or_not b)
  where
    by_use : ((a ≡ Unused) ⊎ (a ≡ Unused → ⊥)) → ((b ≡ Unused) ⊎ (b ≡ Unused → ⊥)) → a ≡ b
    by_use (inl e) (inl f) = e ∙ sym f
    by_use (inl e) (inr f) = absurd (f (ka.unused e b (kb.used f)))
    by_use (inr e) (inl f) = absurd (e (kb.unused f a (ka.used e)))
    by_use (inr e) (inr f) = sym ((ka.used e).every reached.slots reached.path) ∙ (kb.used f).every reached.slots reached.path

pub met_slot : (b : Body) (failing : List ℕ) (place slot : ℕ) (k : Before) (kind : SlotKind) → IsKnown b failing place k → IsMet b place k → slot < length k.names → KindIs (graph_of b) place slot kind
    → met_name (pc_at b place) kind slot ≡ name_at k.names slot
met_slot b failing place slot k kind there is lt kind_is =
    ap (λ (j : SlotKind). met_name (pc_at b place) j slot) (one_kind (graph_of b) place slot kind (is.kind slot) (known_reached b failing place k there) kind_is (is.kinds slot)) ∙ sym (is.names slot lt)

past_entry : (b : Body) (slot : ℕ) → locals_of b ≤ slot → entry_name b slot ≡ Nothing
past_entry b slot le = ap (λ (j : SlotKind). if same_kind j Unused then Nothing else Par (get_or b.params slot 0)) (get_or_past b.entry slot Unused le)

pub entry_slot : (b : Body) (slot : ℕ) → entry_name b slot ≡ name_at (entry_before b).names slot
entry_slot b slot = by_slot (true_or_false (nat_lt slot (locals_of b)))
  where
    by_slot : (nat_lt slot (locals_of b) ≡ true) ⊎ (nat_lt slot (locals_of b) ≡ false) → entry_name b slot ≡ name_at (entry_before b).names slot
    by_slot (inl lt) = sym (get_or-map-range_with_len (entry_name b) 0 (locals_of b) slot slot Nothing (ltb-true slot (locals_of b) lt) (omega arith))
    by_slot (inr past) =
        let le = ltb-false slot (locals_of b) past in
        past_entry b slot le ∙ sym (get_or_past (map (entry_name b) (range_with_len 0 (locals_of b))) slot Nothing (omega (arith, le, length-map (range_with_len 0 (locals_of b)) (entry_name b), length-range_with_len 0 (locals_of b))))
