-- What holds on all paths where none meets a fault.
use Rattle.std.proofs.Common.{◌≡◌, ℕ, ◌<◌, Bool, true, false, List, length, get_or, refl, sym, ap, subst, ◌∙◌, arith, inl, inr}
use Rattle.std.specs.Prelude.{◌⊎◌, ◌==◌, map, Contains}
use Rattle.std.proofs.Math.ListN.{get_or-map}
use Rattle.std.proofs.lemmas.Bool.{eqb-true, eqb-false}
use Rattle.wf_operation.specs.declared.slot.SlotKind.{SlotKind}
use Rattle.wf_operation.specs.declared.slot.SlotKind.TheVariants.{Int, Ref, Long, LongRest, Unused}
use Rattle.wf_operation.specs.declared.slot.Source.TheVariants.{Gives}
use Rattle.wf_operation.specs.declared.slot.Wanted.{Wanted}
use Rattle.wf_operation.specs.declared.slot.Wanted.TheVariants.{Only}
use Rattle.wf_operation.specs.Slots.{same_kind, allows}
use Rattle.wf_blocks.specs.Graphs.{Edge, Graph, Path, along, Faulty, unmet, BadPaths, fault, depths, Reached, HasKind, kind_at, moved_from, source_in}
use Rattle.wf_blocks.proofs.SeenLemmas.{true_or_false, only-has}

pub same_depth : (g : Graph) (place : ℕ) (one other : List SlotKind) → (BadPaths g → ⊥) → Path g place one → Path g place other → length one ≡ length other
same_depth g place one other sound p q = by_test (true_or_false (length one == length other))
  where
    by_test : ((length one == length other) ≡ true) ⊎ ((length one == length other) ≡ false) → length one ≡ length other
    by_test (inl e) = eqb-true (length one) (length other) e
    by_test (inr e) = absurd (sound (depths place one other p q (eqb-false (length one) (length other) e)))

pub met : (g : Graph) (place i : ℕ) (slots : List SlotKind) → (BadPaths g → ⊥) → Path g place slots → i < length slots → allows (g.wants place (length slots) i) (kind_at slots i) ≡ true
met g place i slots sound p lt = by_test (true_or_false (allows (g.wants place (length slots) i) (kind_at slots i)))
  where
    by_test : (allows (g.wants place (length slots) i) (kind_at slots i) ≡ true) ⊎ (allows (g.wants place (length slots) i) (kind_at slots i) ≡ false) → allows (g.wants place (length slots) i) (kind_at slots i) ≡ true
    by_test (inl e) = e
    by_test (inr e) = absurd (sound (fault place slots p (unmet place slots i lt e)))

same_is : (a b : SlotKind) → same_kind a b ≡ true → a ≡ b
same_is a Int e = only-has a Int e
same_is a Ref e = only-has a Ref e
same_is a Long e = only-has a Long e
same_is a LongRest e = only-has a LongRest e
same_is a Unused e = only-has a Unused e

pub read : (g : Graph) (place i : ℕ) (slots : List SlotKind) (k : SlotKind) → (BadPaths g → ⊥) → Path g place slots → i < length slots → g.wants place (length slots) i ≡ Only k → kind_at slots i ≡ k
read g place i slots k sound p lt is = same_is (kind_at slots i) k (subst (λ (w : Wanted). allows w (kind_at slots i) ≡ true) is (met g place i slots sound p lt))

pub came : (g : Graph) (place i : ℕ) (slots : List SlotKind) (e : Edge) (k : SlotKind) → Path g place slots → Contains (g.edges place (length slots)) e → HasKind g e.to i k → moved_from slots (source_in e i) ≡ k
came g place i slots e k p way has = sym (get_or-map (moved_from slots) e.sources i (Gives Unused)) ∙ has.every (map (moved_from slots) e.sources) (along place slots e p way)
