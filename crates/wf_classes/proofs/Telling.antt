-- The loop that tells the classes of some waits that these are over.
use Rattle.std.proofs.Common.{◌≡◌, ◌≢◌, ℕ, suc, ◌<◌, ◌≤◌, List, [], ◌∷◌, ◌++◌, length, get_or, set, refl, sym, subst, ◌∙◌, arith, inl, inr}
use Rattle.std.proofs.lemmas.Bool.{cases_eq}
use Rattle.std.proofs.lemmas.List.{get_or-set_same, get_or-set_other, length-set}
use Rattle.wf_classes.specs.declared.waits.Wait.{Wait}
use Rattle.wf_classes.specs.Closing.{IsReleasing, AreCounted, count_of}
use Rattle.wf_classes.proofs.Worklist.{releasing_lower, releasing_push, count_here, count_there}

-- the waits of `left` are still to be told
pub record Tells (told : List Wait) (waiting order : List ℕ) (left : List Wait) (now order_now : List ℕ) : Type 0 where
  pub counted : AreCounted now left
  pub size : length now ≡ length waiting
  pub kept : (waits : List Wait) (start done : List ℕ) → IsReleasing waits start done told waiting order → IsReleasing waits start done left now order_now

pub tells_none : (told : List Wait) (waiting order : List ℕ) → AreCounted waiting told → Tells told waiting order told waiting order
tells_none told waiting order counted = record { counted = counted; size = refl; kept = λ waits start done h. h }

-- the class of the first wait has at least this one
pub is_waiting : (told : List Wait) (waiting order : List ℕ) (w : Wait) (rest : List Wait) (now order_now : List ℕ) → w.below < length now → Tells told waiting order (w ∷ rest) now order_now → 0 < get_or now w.below 0
is_waiting told waiting order w rest now order_now inside h = (let c = h.counted.each w.below inside in omega (arith, count_here w rest))

counted_rest : (w : Wait) (rest : List Wait) (now : List ℕ) (v : ℕ) → w.below < length now → suc v ≡ get_or now w.below 0 → AreCounted now (w ∷ rest) → AreCounted (set now w.below v) rest
counted_rest w rest now v inside one h = record {
  each = λ i l.
      let short : i < length now = omega (arith, length-set now w.below v) in
      let all = h.each i short in
      elim (cases_eq i w.below) [
        | inl e ↦ (let before = subst (λ k. count_of (w ∷ rest) k ≤ get_or now k 0) e all in
            subst (λ k. count_of rest k ≤ get_or (set now w.below v) k 0) (sym e) (omega (arith, before, one, count_here w rest, get_or-set_same now w.below v 0 inside)))
        | inr away ↦ omega (arith, all, count_there w rest i away, get_or-set_other now w.below i v 0 away)
      ];
}

pub tells_lower : (told : List Wait) (waiting order : List ℕ) (w : Wait) (rest : List Wait) (now order_now : List ℕ) (v : ℕ) → w.below < length now → suc v ≡ get_or now w.below 0 → v ≢ 0 → Tells told waiting order (w ∷ rest) now order_now → Tells told waiting order rest (set now w.below v) order_now
tells_lower told waiting order w rest now order_now v inside one away h = record {
  counted = counted_rest w rest now v inside one h.counted;
  size = length-set now w.below v ∙ h.size;
  kept = λ waits start done s. releasing_lower waits start done w rest now order_now v inside one away (h.kept waits start done s);
}

pub tells_push : (told : List Wait) (waiting order : List ℕ) (w : Wait) (rest : List Wait) (now order_now : List ℕ) → w.below < length now → 1 ≡ get_or now w.below 0 → Tells told waiting order (w ∷ rest) now order_now → Tells told waiting order rest (set now w.below 0) (order_now ++ w.below ∷ [])
tells_push told waiting order w rest now order_now inside one h = record {
  counted = counted_rest w rest now 0 inside one h.counted;
  size = length-set now w.below 0 ∙ h.size;
  kept = λ waits start done s. releasing_push waits start done w rest now order_now inside one (h.kept waits start done s);
}
