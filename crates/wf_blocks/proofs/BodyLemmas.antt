-- What is asked of a body holds of those that are made.
use Rattle.std.proofs.Common.{◌≡◌, ℕ, zero, suc, ◌+◌, ◌-◌, ◌<◌, ◌≤◌, Bool, true, false, ◌&&◌, ◌||◌, List, [], ◌∷◌, length, Option, Some, None, refl, sym, ap, subst, ◌∙◌, arith, inl, inr}
use Rattle.std.specs.Prelude.{◌⊎◌, map, replicate, slice_get, nat_lt, nat_le, option_and_then, option_map, unwrap_or, Contains, All, is_none, if◌then◌else◌}
use Rattle.std.specs.List.{range_with_len, filter_map, cons_option, list_any}
use Rattle.std.proofs.lemmas.Bool.{ltb-true, leb-true}
use Rattle.std.proofs.lemmas.List.{length-map, length-append, length-replicate}
use Rattle.std.proofs.lemmas.List.Elements.{All-nil, All-cons, All-head, All-tail}
use Rattle.std.proofs.lemmas.List.FromFn.{length-range_with_len}
use Rattle.wf_data.specs.declared.class_info.CodeInfo.{CodeInfo}
use Rattle.wf_data.specs.declared.class_info.Handler.{Handler}
use Rattle.wf_data.specs.declared.class_info.PoolEntry.{PoolEntry}
use Rattle.wf_data.specs.declared.instr.Placed.{Placed}
use Rattle.wf_descriptor.specs.declared.descriptor.MethodDesc.{MethodDesc}
use Rattle.wf_operation.specs.declared.next.Next.{Next}
use Rattle.wf_operation.specs.declared.operation.Operation.{Operation}
use Rattle.wf_operation.specs.declared.slot.SlotKind.{SlotKind}
use Rattle.wf_operation.specs.declared.slot.SlotKind.TheVariants.{Ref, Unused}
use Rattle.wf_operation.specs.declared.slot.Source.TheVariants.{Keep, Gives}
use Rattle.wf_operation.specs.Nexts.{edge_count, target}
use Rattle.wf_operation.specs.Operations.{operation_of}
use Rattle.wf_blocks.specs.declared.body.Body.{Body}
use Rattle.wf_blocks.specs.declared.body.Catcher.{Catcher}
use Rattle.wf_blocks.specs.Answers.{step_pc, IsMade}
use Rattle.wf_blocks.specs.Bodies.{locals_of, covers, caught_by, catcher_fails, catchers_at, targets_in, step_fails, graph_of, BodyFits}
use Rattle.wf_blocks.specs.Graphs.{Path, entry, along, Edge, fails, BadPaths, fault, moved_from, caught_sources}
use Rattle.wf_blocks.specs.Methods.{all_some, number_of, number_at, target_at, targets_of, pc_of, pcs_of, step_by, step_of, steps_from, catches_well, catcher_by, end_of, catcher_of, filled, entry_slots, body_by, body_of}
use Rattle.wf_blocks.proofs.EdgeLemmas.{edge_cases, ByInstruction, IntoHandler}
use Rattle.wf_blocks.proofs.MethodLemmas.{number_below}
use Rattle.wf_blocks.proofs.SeenLemmas.{is_false, or_none}
use Rattle.wf_blocks.proofs.WalkLemmas.{sources_fit}

-- ---- the targets of instructions

all_given : {A B : Type 0} (P : B → Type 0) (f : A → Option B) (xs : List A) (ys : List B) → ((x : A) (y : B) → f x ≡ Some y → P y) → all_some (map f xs) ≡ Some ys → All P ys
all_given {B = B} P f [] ys each e = subst (All P) (some_is e) (All-nil P)
  where
    some_is : {a b : List B} → Some a ≡ Some b → a ≡ b
    some_is e = cc
all_given {A = A} {B = B} P f (x ∷ xs) ys each e = first (λ zs r. all_given P f xs zs each r) (f x) refl (all_some (map f xs)) refl e
  where
    some_is : {a b : List B} → Some a ≡ Some b → a ≡ b
    some_is e = cc

    first : ((zs : List B) → all_some (map f xs) ≡ Some zs → All P zs) → (o : Option B) → f x ≡ o → (r : Option (List B)) → all_some (map f xs) ≡ r
        → option_and_then (λ y. option_map (λ zs. y ∷ zs) r) o ≡ Some ys → All P ys
    first rest None is r with e = absurd cc
    first rest (Some y) is None with e = absurd cc
    first rest (Some y) is (Some zs) with e = subst (All P) (some_is e) (All-cons P y zs (each x y is) (rest zs with))

number_low : (pcs : List ℕ) (place : ℕ) (o : Option ℕ) (t : ℕ) → number_at pcs place o ≡ Some t → t < length pcs
number_low pcs place None t e = by_test (nat_lt (place + 1) (length pcs)) refl e
  where
    by_test : (b : Bool) → nat_lt (place + 1) (length pcs) ≡ b → (if b then Some (place + 1) else None) ≡ Some t → t < length pcs
    by_test true is e = let same : place + 1 ≡ t = cc in omega (arith, ltb-true (place + 1) (length pcs) is, same)
    by_test false is e = absurd cc
number_low pcs place (Some pc) t e = omega (arith, number_below 0 pcs pc t e)

step_low : (pool : List PoolEntry) (pcs : List ℕ) (place : ℕ) (p : Placed) → All (λ t. t < length pcs) (targets_in (step_of pool pcs place p))
step_low pool pcs place p = by_operation (operation_of pool p.instr)
  where
    by_targets : (n : Next) (o : Option (List ℕ)) → targets_of pcs place n ≡ o → All (λ t. t < length pcs) (unwrap_or o [])
    by_targets n None e = All-nil (λ t. t < length pcs)
    by_targets n (Some ts) e = all_given (λ t. t < length pcs) (target_at pcs place n) (range_with_len 0 (edge_count n)) ts (λ i t is. number_low pcs place (target n i) t is) e

    by_operation : (o : Option Operation) → All (λ t. t < length pcs) (targets_in (step_by pcs place p.pc o))
    by_operation None = All-nil (λ t. t < length pcs)
    by_operation (Some o) = by_targets o.next (targets_of pcs place o.next) refl

steps_low : (pool : List PoolEntry) (pcs : List ℕ) (first : ℕ) (code : List Placed) (place : ℕ) → All (λ t. t < length pcs) (unwrap_or (option_map targets_in (slice_get (steps_from pool pcs first code) place)) [])
steps_low pool pcs first [] place = All-nil (λ t. t < length pcs)
steps_low pool pcs first (p ∷ code) zero = step_low pool pcs first p
steps_low pool pcs first (p ∷ code) (suc place) = steps_low pool pcs (suc first) code place

pub length-steps : (pool : List PoolEntry) (pcs : List ℕ) (first : ℕ) (code : List Placed) → length (steps_from pool pcs first code) ≡ length code
length-steps pool pcs first [] = refl
length-steps pool pcs first (p ∷ code) = ap suc (length-steps pool pcs (suc first) code)

pub pcs-steps : (pool : List PoolEntry) (pcs : List ℕ) (first : ℕ) (code : List Placed) → map step_pc (steps_from pool pcs first code) ≡ pcs_of code
pcs-steps pool pcs first [] = refl
pcs-steps pool pcs first (p ∷ code) = ap (λ (ps : List ℕ). p.pc ∷ ps) (pcs-steps pool pcs (suc first) code)

-- ---- handlers

catcher_low : (pool : List PoolEntry) (pcs : List ℕ) (size : ℕ) (h : Handler) (c : Catcher) → catcher_of pool pcs size h ≡ Some c → (t : ℕ) → c.target ≡ Some t → t < length pcs
catcher_low pool pcs size h c e t is = by_test (nat_lt h.start h.end && catches_well pool h.catch_class) e
  where
    by_places : (first end target : Option ℕ) → catcher_by first end target ≡ Some c → target ≡ c.target
    by_places None end target e = absurd cc
    by_places (Some f) None target e = absurd cc
    by_places (Some f) (Some g) target e = let same : record { first = f; end = g; target = target } ≡ c = some_is e in ap (λ (d : Catcher). d.target) same
      where
        some_is : {a b : Catcher} → Some a ≡ Some b → a ≡ b
        some_is e = cc

    by_test : (b : Bool) → (if b then catcher_by (number_of pcs h.start) (end_of pcs size h.end) (number_of pcs h.target) else None) ≡ Some c → t < length pcs
    by_test true e = omega (arith, number_below 0 pcs h.target t (by_places (number_of pcs h.start) (end_of pcs size h.end) (number_of pcs h.target) e ∙ is))
    by_test false e = absurd cc

caught_low : (n place : ℕ) (catchers : List Catcher) → All (λ c. (t : ℕ) → c.target ≡ Some t → t < n) catchers → All (λ t. t < n) (filter_map (caught_by place) catchers)
caught_low n place [] all = All-nil (λ t. t < n)
caught_low n place (c ∷ catchers) all = first (caught_low n place catchers (All-tail (λ (d : Catcher). (t : ℕ) → d.target ≡ Some t → t < n) c catchers all)) (covers place c) c.target refl
  where
    here : (t : ℕ) → c.target ≡ Some t → t < n
    here = All-head (λ (d : Catcher). (t : ℕ) → d.target ≡ Some t → t < n) c catchers all

    first : All (λ t. t < n) (filter_map (caught_by place) catchers) → (b : Bool) (o : Option ℕ) → c.target ≡ o → All (λ t. t < n) (cons_option (if b then o else None) (filter_map (caught_by place) catchers))
    first rest true (Some t) is = All-cons (λ t. t < n) t (filter_map (caught_by place) catchers) (here t is) rest
    first rest true None is = rest
    first rest false o is = rest

-- ---- the whole

filled_count : (xs : List SlotKind) (count : ℕ) → length xs ≤ count → length (filled xs Unused count) ≡ count
filled_count xs count le = omega (arith, length-append xs (replicate (count - length xs) Unused), length-replicate (count - length xs) Unused)

pub body_by_fits : (desc : MethodDesc) (is_static : Bool) (pool : List PoolEntry) (info : CodeInfo) (code : List Placed) (catchers : List Catcher)
    → length code ≤ 65535 → info.max_locals ≤ 65535 → info.max_stack ≤ 65535 → length (entry_slots desc is_static) ≤ info.max_locals
    → all_some (map (catcher_of pool (pcs_of code) (length info.code)) info.table) ≡ Some catchers → BodyFits (body_by desc is_static pool info code catchers)
body_by_fits desc is_static pool info code catchers few locals stack room table = record {
  steps = omega (arith, count, few);
  locals = omega (arith, filled_count (entry_slots desc is_static) info.max_locals room, locals);
  stack = stack;
  targets = λ place. subst (λ (n : ℕ). All (λ t. t < n) (unwrap_or (option_map targets_in (slice_get (steps_from pool (pcs_of code) 0 code) place)) [])) (length-map code pc_of ∙ sym count) (steps_low pool (pcs_of code) 0 code place);
  catchers = λ place. subst (λ (n : ℕ). All (λ t. t < n) (filter_map (caught_by place) catchers)) (length-map code pc_of ∙ sym count)
      (caught_low (length (pcs_of code)) place catchers (all_given (λ (c : Catcher). (t : ℕ) → c.target ≡ Some t → t < length (pcs_of code)) (catcher_of pool (pcs_of code) (length info.code)) info.table catchers (λ h c e. catcher_low pool (pcs_of code) (length info.code) h c e) table));
}
  where
    count : length (steps_from pool (pcs_of code) 0 code) ≡ length code
    count = length-steps pool (pcs_of code) 0 code

pub made : (desc : MethodDesc) (is_static : Bool) (pool : List PoolEntry) (info : CodeInfo) (code : List Placed) (b : Body) → length code ≤ 65535 → info.max_locals ≤ 65535 → info.max_stack ≤ 65535
    → body_of desc is_static pool info code ≡ Some b → IsMade b (pcs_of code)
made desc is_static pool info code b few locals stack e = by_room (nat_le (length (entry_slots desc is_static)) info.max_locals) refl e
  where
    table : Option (List Catcher)
    table = all_some (map (catcher_of pool (pcs_of code) (length info.code)) info.table)

    some_is : {x y : Body} → Some x ≡ Some y → x ≡ y
    some_is e = cc

    by_table : length (entry_slots desc is_static) ≤ info.max_locals → (o : Option (List Catcher)) → all_some (map (catcher_of pool (pcs_of code) (length info.code)) info.table) ≡ o → option_map (body_by desc is_static pool info code) o ≡ Some b → IsMade b (pcs_of code)
    by_table room None is e = absurd cc
    by_table room (Some catchers) is e =
        subst (λ (x : Body). IsMade x (pcs_of code)) (some_is e) (record { fits = body_by_fits desc is_static pool info code catchers few locals stack room is; places = sym (pcs-steps pool (pcs_of code) 0 code) })

    by_room : (x : Bool) → nat_le (length (entry_slots desc is_static)) info.max_locals ≡ x
        → (if x then option_map (body_by desc is_static pool info code) (all_some (map (catcher_of pool (pcs_of code) (length info.code)) info.table)) else None) ≡ Some b → IsMade b (pcs_of code)
    by_room true is e = by_table (leb-true (length (entry_slots desc is_static)) info.max_locals is) (all_some (map (catcher_of pool (pcs_of code) (length info.code)) info.table)) refl e
    by_room false is e = absurd cc

-- ---- room on the stack

clash : (x : Bool) → x ≡ true → x ≡ false → ⊥
clash x e f = cc

room_caught : (max_stack place : ℕ) (catchers : List Catcher) (to : ℕ) → Contains (filter_map (caught_by place) catchers) to → list_any (catcher_fails max_stack place) catchers ≡ false → 0 < max_stack
room_caught zero place [] to (k, lt, is) none = absurd (omega arith)
room_caught zero place (c ∷ catchers) to h none =
    let two = or_none (catcher_fails 0 place c) (list_any (catcher_fails 0 place) catchers) none in
    first (λ r. room_caught zero place catchers to r two.1) (covers place c) c.target h two.0
  where
    or_true : (x : Bool) → (x || true) ≡ true
    or_true true = refl
    or_true false = refl

    first : (Contains (filter_map (caught_by place) catchers) to → 0 < 0) → (b : Bool) (o : Option ℕ) → Contains (cons_option (if b then o else None) (filter_map (caught_by place) catchers)) to → (b && (is_none o || true)) ≡ false → 0 < 0
    first rest true o h e = absurd (clash (is_none o || true) (or_true (is_none o)) e)
    first rest false o h e = rest h
room_caught (suc n) place catchers to h none = omega arith

not_failing : (b : Body) → (BadPaths (graph_of b) → ⊥) → (place : ℕ) (slots : List SlotKind) → Path (graph_of b) place slots → (graph_of b).fails place (length slots) ≡ false
not_failing b sound place slots path = is_false ((graph_of b).fails place (length slots)) (λ e. sound (fault place slots path (fails place slots e)))

caught_room : (b : Body) (place n to : ℕ) → (graph_of b).fails place n ≡ false → Contains (catchers_at b place) to → 0 < b.max_stack
unfolding graph_of
caught_room b place n to e h = room_caught b.max_stack place b.catchers to h (or_none (step_fails b (slice_get b.steps place) n) (list_any (catcher_fails b.max_stack place) b.catchers) e).1

caught_count : (locals : ℕ) → length (caught_sources locals) ≡ locals + 1
caught_count locals = omega (arith, length-append (map Keep (range_with_len 0 locals)) (Gives Ref ∷ []), length-map (range_with_len 0 locals) Keep, length-range_with_len 0 locals)

-- no path has more slots than there are
pub path_low : (b : Body) → (BadPaths (graph_of b) → ⊥) → (place : ℕ) (slots : List SlotKind) → Path (graph_of b) place slots → length slots ≤ locals_of b + b.max_stack
unfolding graph_of
path_low b sound _ _ entry = omega arith
path_low b sound _ _ (along place slots e path way) = by_way (edge_cases b place (length slots) e way)
  where
    ok : (graph_of b).fails place (length slots) ≡ false
    ok = not_failing b sound place slots path

    by_way : ByInstruction b place (length slots) e ⊎ IntoHandler b place e → length (map (moved_from slots) e.sources) ≤ locals_of b + b.max_stack
    by_way (inl one) = omega (arith, length-map e.sources (moved_from slots), ap (λ (w : Edge). length w.sources) one.is, sources_fit b place (length slots) ok)
    by_way (inr other) = omega (arith, length-map e.sources (moved_from slots), ap (λ (w : Edge). length w.sources) other.is, caught_count (locals_of b), caught_room b place (length slots) e.to ok other.among)
