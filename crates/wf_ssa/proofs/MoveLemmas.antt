-- Where a slot behind an instruction comes from.
use Rattle.std.proofs.Common.{◌≡◌, ℕ, ◌<◌, Bool, true, false, List, [], ◌∷◌, length, get_or, Option, Some, None, refl, sym, ap, ◌∙◌, arith, inl, inr}
use Rattle.std.specs.Prelude.{◌⊎◌, map, nat_lt, if◌then◌else◌}
use Rattle.std.specs.List.{range_with_len}
use Rattle.std.proofs.lemmas.Bool.{ltb-true, ltb-false}
use Rattle.std.proofs.lemmas.List.{length-map, get_or_past, get_or-map}
use Rattle.std.proofs.lemmas.List.FromFn.{length-range_with_len, get_or-map-range_with_len}
use Rattle.wf_operation.specs.declared.effect.Effect.{Effect}
use Rattle.wf_operation.specs.declared.next.Next.{Next}
use Rattle.wf_operation.specs.declared.next.Next.TheVariants.{Falls, Jumps, Branches, Switches, Returns, Throws}
use Rattle.wf_operation.specs.declared.operation.Operation.{Operation}
use Rattle.wf_operation.specs.declared.slot.SlotKind.TheVariants.{Unused}
use Rattle.wf_operation.specs.declared.slot.Source.{Source}
use Rattle.wf_operation.specs.declared.slot.Source.TheVariants.{Keep, KeepNoHead, KeepNoRest, Gives}
use Rattle.wf_operation.specs.Effects.{slots_after, source_at, sources}
use Rattle.wf_operation.specs.Operations.{link_of}
use Rattle.wf_operation.specs.Slots.{from}
use Rattle.wf_blocks.proofs.SeenLemmas.{true_or_false}
use Rattle.wf_ssa.specs.declared.before.Before.{Before}
use Rattle.wf_ssa.specs.declared.name.FlowName.{FlowName}
use Rattle.wf_ssa.specs.declared.name.FlowName.TheVariants.{Nothing, Res, Refined}
use Rattle.wf_ssa.specs.declared.walk.Origin.TheVariants.{Slot, Name}
use Rattle.wf_ssa.specs.Environments.{name_at, operand_slot, refined, refines, renamed, linked, before_along}
use Rattle.wf_ssa.specs.Keeping.{refines_at, origin_from, origin_by, named, renamed_by, linked_by, left_by, slot_by, name_by}

-- ---- an instruction that leaves nothing of its operands

refined_same : (pc edge : ℕ) (next : Next) (one two name : FlowName) → refines next ≡ false → refined pc next edge one two name ≡ name
refined_same pc edge Falls one two name e = refl
refined_same pc edge (Jumps to) one two name e = refl
refined_same pc edge (Branches test to) one two name e = absurd cc
refined_same pc edge (Switches cases default) one two name e = absurd cc
refined_same pc edge (Returns kind) one two name e = refl
refined_same pc edge Throws one two name e = refl

all_same : (f : FlowName → FlowName) (names : List FlowName) → ((n : FlowName) → f n ≡ n) → map f names ≡ names
all_same f [] same = refl
all_same f (n ∷ names) same = ap (λ (m : FlowName). m ∷ map f names) (same n) ∙ ap (λ (ms : List FlowName). n ∷ ms) (all_same f names same)

pub renamed_same : (o : Option Operation) (pc edge : ℕ) (names : List FlowName) → refines_at o ≡ false → renamed_by o pc edge names ≡ names
renamed_same None pc edge names e = absurd cc
renamed_same (Some o) pc edge names e =
    let one = name_at names (operand_slot o.effect (length names) 1) in
    let two = name_at names (operand_slot o.effect (length names) 2) in
    all_same (refined pc o.next edge one two) names (λ n. refined_same pc edge o.next one two n e)

if_not : (c : Bool) (x y : FlowName) → c ≡ false → (if c then x else y) ≡ y
if_not true x y e = absurd cc
if_not false x y e = refl

pub predicate_same : (o : Option Operation) (pc edge : ℕ) (fails : Bool) (k : Before) → refines_at o ≡ false → (before_along o pc edge fails k).predicate ≡ linked_by o pc fails k.predicate
predicate_same None pc edge fails k e = absurd cc
predicate_same (Some o) pc edge fails k e = if_not (refines o.next) (Refined pc edge 1) (linked pc (link_of o.sort) fails k.predicate) e

-- ---- slots

source_there : (e : Effect) (n slot : ℕ) → slot < length (sources e n) → get_or (sources e n) slot (Gives Unused) ≡ source_at e n slot
source_there e n slot lt =
    get_or-map-range_with_len (source_at e n) 0 (slots_after e n) slot slot (Gives Unused) (omega (arith, lt, length-map (range_with_len 0 (slots_after e n)) (source_at e n), length-range_with_len 0 (slots_after e n))) (omega arith)

from_named : (names : List FlowName) (pc : ℕ) (s : Source) → from names (Res pc) Nothing s ≡ named names (origin_from pc s)
from_named names pc (Keep i) = refl
from_named names pc (KeepNoHead i) = refl
from_named names pc (KeepNoRest i) = refl
from_named names pc (Gives kind) = refl

pub origin_is : (o : Option Operation) (pc edge : ℕ) (fails : Bool) (k : Before) (slot : ℕ) → name_at (before_along o pc edge fails k).names slot
    ≡ named (renamed_by o pc edge k.names) (origin_by pc o (Some (length k.names)) (Some (length (before_along o pc edge fails k).names)) slot)
origin_is None pc edge fails k slot = refl
origin_is (Some o) pc edge fails k slot = by_slot (true_or_false (nat_lt slot (length (map (from names (Res pc) Nothing) (sources o.effect (length k.names))))))
  where
    names : List FlowName
    names = renamed pc o edge k.names

    count : ℕ
    count = length (map (from names (Res pc) Nothing) (sources o.effect (length k.names)))

    by_slot : (nat_lt slot count ≡ true) ⊎ (nat_lt slot count ≡ false)
        → name_at (map (from names (Res pc) Nothing) (sources o.effect (length k.names))) slot ≡ named names (if nat_lt slot count then origin_from pc (source_at o.effect (length k.names) slot) else Name Nothing)
    by_slot (inl below) =
        let lt : slot < length (sources o.effect (length k.names)) = omega (arith, ltb-true slot count below, length-map (sources o.effect (length k.names)) (from names (Res pc) Nothing)) in
        get_or-map (from names (Res pc) Nothing) (sources o.effect (length k.names)) slot (Gives Unused) Nothing lt
        ∙ ap (from names (Res pc) Nothing) (source_there o.effect (length k.names) slot lt) ∙ from_named names pc (source_at o.effect (length k.names) slot)
        ∙ ap (λ (x : Bool). named names (if x then origin_from pc (source_at o.effect (length k.names) slot) else Name Nothing)) (sym below)
    by_slot (inr past) =
        get_or_past (map (from names (Res pc) Nothing) (sources o.effect (length k.names))) slot Nothing (ltb-false slot count past)
        ∙ ap (λ (x : Bool). named names (if x then origin_from pc (source_at o.effect (length k.names) slot) else Name Nothing)) (sym past)

pub origin_same : (p q : ℕ) (o r : Option Operation) (n i m j : Option ℕ) (slot : ℕ) → p ≡ q → o ≡ r → n ≡ i → m ≡ j → origin_by p o n m slot ≡ origin_by q r i j slot
origin_same p q o r n i m j slot a b c d =
    ap (λ (x : ℕ). origin_by x o n m slot) a ∙ ap (λ (x : Option Operation). origin_by q x n m slot) b ∙ ap (λ (x : Option ℕ). origin_by q r x m slot) c ∙ ap (λ (x : Option ℕ). origin_by q r i x slot) d

pub left_is : (o : Option Operation) (pc edge : ℕ) (fails : Bool) (k : Before) → left_by pc o edge (linked_by o pc fails k.predicate) ≡ (before_along o pc edge fails k).predicate
left_is None pc edge fails k = refl
left_is (Some o) pc edge fails k = refl

pub slot_named : (o : Option Operation) (pc edge : ℕ) (names : List FlowName) (one two : FlowName) (slot : ℕ) → one ≡ name_at names (slot_by o (Some (length names)) 1) → two ≡ name_at names (slot_by o (Some (length names)) 2)
    → name_by pc o (Some (length names)) edge one two slot (name_at names slot) ≡ named (renamed_by o pc edge names) (Slot slot)
slot_named None pc edge names one two slot first second = refl
slot_named (Some o) pc edge names one two slot first second =
    ap (λ (x : FlowName). if nat_lt slot (length names) then refined pc o.next edge x two (name_at names slot) else Nothing) first
    ∙ ap (λ (x : FlowName). if nat_lt slot (length names) then refined pc o.next edge (name_at names (operand_slot o.effect (length names) 1)) x (name_at names slot) else Nothing) second
    ∙ by_slot (true_or_false (nat_lt slot (length names)))
  where
    rename : FlowName → FlowName
    rename = refined pc o.next edge (name_at names (operand_slot o.effect (length names) 1)) (name_at names (operand_slot o.effect (length names) 2))

    by_slot : (nat_lt slot (length names) ≡ true) ⊎ (nat_lt slot (length names) ≡ false)
        → (if nat_lt slot (length names) then rename (name_at names slot) else Nothing) ≡ name_at (map rename names) slot
    by_slot (inl below) =
        ap (λ (x : Bool). if x then rename (name_at names slot) else Nothing) below ∙ sym (get_or-map rename names slot Nothing Nothing (ltb-true slot (length names) below))
    by_slot (inr past) =
        ap (λ (x : Bool). if x then rename (name_at names slot) else Nothing) past
        ∙ sym (get_or_past (map rename names) slot Nothing (omega (arith, ltb-false slot (length names) past, length-map names rename)))

pub name_same : (p q : ℕ) (o r : Option Operation) (n i : Option ℕ) (edge : ℕ) (one two : FlowName) (slot : ℕ) (name other : FlowName) → p ≡ q → o ≡ r → n ≡ i → name ≡ other
    → name_by p o n edge one two slot name ≡ name_by q r i edge one two slot other
name_same p q o r n i edge one two slot name other a b c d =
    ap (λ (x : ℕ). name_by x o n edge one two slot name) a ∙ ap (λ (x : Option Operation). name_by q x n edge one two slot name) b
    ∙ ap (λ (x : Option ℕ). name_by q r x edge one two slot name) c ∙ ap (name_by q r i edge one two slot) d
