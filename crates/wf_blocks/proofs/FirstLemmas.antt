-- Where the worklist starts.
use Rattle.std.proofs.Common.{◌≡◌, ℕ, zero, suc, ◌-◌, ◌<◌, Bool, true, List, [], ◌∷◌, length, Option, Some, None, refl, sym, ap, subst, ◌∙◌, arith, inl}
use Rattle.std.specs.Prelude.{◌||◌, replicate, slice_get}
use Rattle.std.specs.List.{list_any}
use Rattle.std.proofs.Math.ListN.{get_or-map}
use Rattle.std.proofs.lemmas.List.{length-map, length-replicate}
use Rattle.std.proofs.lemmas.List.Elements.{All-nil, All-cons, All-replicate}
use Rattle.wf_operation.specs.declared.slot.SlotKind.TheVariants.{Unused}
use Rattle.wf_blocks.specs.declared.body.Body.{Body}
use Rattle.wf_blocks.specs.declared.seen.Seen.{Seen}
use Rattle.wf_blocks.specs.SeenKinds.{has, only}
use Rattle.wf_blocks.specs.Advancing.{width_of, Ready}
use Rattle.wf_blocks.specs.Answers.{AreRows}
use Rattle.wf_blocks.specs.declared.body.Step.{Step}
use Rattle.wf_blocks.specs.Bodies.{step_fails, catcher_fails, starts_at, inner_of, graph_of}
use Rattle.wf_blocks.specs.Flowing.{RowFits}
use Rattle.wf_blocks.specs.Graphs.{Graph, entry, fails, BadPaths, fault, kind_at}
use Rattle.wf_blocks.specs.Methods.{filled}
use Rattle.wf_blocks.specs.Rows.{row_in, IsLeft, entry_row, Settled}
use Rattle.wf_blocks.specs.Walking.{Working}
use Rattle.wf_blocks.proofs.MethodLemmas.{all_alike}
use Rattle.wf_blocks.proofs.SeenLemmas.{only-has}

entry_left : (g : Graph) → IsLeft g 0 (entry_row g)
entry_left g = record {
  each = λ i k h. record {
    slots = g.entry;
    path = entry;
    count_is = sym (length-map g.entry only);
    kind_is = only-has (kind_at g.entry i) k (subst (λ (q : Seen). has q k ≡ true) (get_or-map only g.entry i Unused) h);
  };
}

is_first : (g : Graph) (n place : ℕ) (row : List Seen) → row_in (filled (Some (entry_row g) ∷ []) None n) place ≡ Some row → (place ≡ 0) × (entry_row g ≡ row)
is_first g n zero row e = (refl, some_is e)
  where
    some_is : {a b : List Seen} → Some a ≡ Some b → a ≡ b
    some_is e = cc
is_first g n (suc place) row e = absurd (none_is (sym (all_alike (n - 1) place none) ∙ e))
  where
    none : Option (List Seen)
    none = None

    none_is : None ≡ Some row → ⊥
    none_is e = cc

pub first_working : (b : Body) → Working (graph_of b) (inner_of b) (filled (Some (entry_row (graph_of b)) ∷ []) None (length b.steps)) (0 ∷ [])
unfolding starts_at
first_working b = record {
  entry = record { row = entry_row (graph_of b); there = refl; within = record { same_length = refl; each = λ i k h. h } };
  starts = λ place row e. ap (inner_of b) (is_first (graph_of b) (length b.steps) place row e).0;
  left = λ place row e.
      let two = is_first (graph_of b) (length b.steps) place row e in
      subst (λ (p : ℕ). IsLeft (graph_of b) p row) (sym two.0) (subst (λ (r : List Seen). IsLeft (graph_of b) 0 r) two.1 (entry_left (graph_of b)));
  either = λ place row e. inl (0, omega arith, sym (is_first (graph_of b) (length b.steps) place row e).0);
}

pub first_ready : (b : Body) → 0 < length b.steps → Ready b (filled (Some (entry_row (graph_of b)) ∷ []) None (length b.steps)) (0 ∷ [])
unfolding graph_of
first_ready b lt = record {
  count = omega (arith, length-replicate (length b.steps - 1) none);
  fits = All-cons (RowFits (width_of b)) (Some (entry_row (graph_of b))) (replicate (length b.steps - 1) None) (omega (arith, length-map b.entry only)) (All-replicate (RowFits (width_of b)) (length b.steps - 1) None tt);
  below = All-cons (λ p. p < length b.steps) 0 [] lt (All-nil (λ p. p < length b.steps));
}
  where
    none : Option (List Seen)
    none = None

none_fails : (b : Body) (steps : List Step) (rest : Bool) → length steps ≡ 0 → (step_fails b (slice_get steps 0) (length b.entry) || rest) ≡ true
none_fails b [] rest e = refl
none_fails b (s ∷ steps) rest e = absurd (omega arith)

fails_there : (b : Body) → length b.steps ≡ 0 → (graph_of b).fails 0 (length (graph_of b).entry) ≡ true
unfolding graph_of
fails_there b e = none_fails b b.steps (list_any (catcher_fails b.max_stack 0) b.catchers) e

-- a method without instructions has a path past their end
pub nothing_bad : (b : Body) → length b.steps ≡ 0 → BadPaths (graph_of b)
nothing_bad b e = fault 0 (graph_of b).entry entry (fails 0 (graph_of b).entry (fails_there b e))

pub rows_are : (b : Body) (rows : List (Option (List Seen))) (queue : List ℕ) → Settled (graph_of b) (inner_of b) (row_in rows) → Ready b rows queue → AreRows b rows
rows_are b rows queue s r = record { count = r.count; fits = r.fits; settled = s }
