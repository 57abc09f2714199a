-- Ways into a place, counted place by place.
use Rattle.std.proofs.Common.{◌≡◌, ℕ, zero, suc, ◌+◌, ◌<◌, List, [], ◌∷◌, length, get_or, take, Option, refl, ap, ◌∙◌, arith}
use Rattle.std.specs.Prelude.{◌==◌, min, map, replicate, is_some, count_by, if◌then◌else◌}
use Rattle.std.proofs.Math.Numerals.{add-one}
use Rattle.std.proofs.lemmas.List.Sums.{sum_by_more}
use Rattle.wf_blocks.specs.declared.body.Step.{Step}
use Rattle.wf_blocks.specs.Answers.{most, ways_from, ways_to, entry_ways}
use Rattle.wf_blocks.proofs.MethodLemmas.{all_alike}

pub capped_more : (new old first so_far here all : ℕ) → new ≡ min most (old + here) → old ≡ min most (first + so_far) → all ≡ so_far + here → new ≡ min most (first + all)
capped_more new old first so_far here all e f g = omega (arith, e, f, g)

pub count_more : (to : ℕ) (targets : List ℕ) (i d : ℕ) → i < length targets
    → count_by (λ t. t == to) (take (i + 1) targets) ≡ count_by (λ t. t == to) (take i targets) + (if get_or targets i d == to then 1 else 0)
count_more to targets i d lt = sum_by_more (λ t. if t == to then 1 else 0) targets i d lt

step_more : (to : ℕ) (steps : List Step) (counts : List (Option ℕ)) (i : ℕ) (d : Step) (e : Option ℕ) → i < length steps → i < length counts
    → ways_to to (take (suc i) steps) (map is_some (take (suc i) counts)) ≡ ways_to to (take i steps) (map is_some (take i counts)) + ways_from to (get_or steps i d) (is_some (get_or counts i e))
step_more to [] counts i d e lt less = absurd (omega arith)
step_more to (s ∷ steps) [] i d e lt less = absurd (omega arith)
step_more to (s ∷ steps) (c ∷ counts) zero d e lt less = omega arith
step_more to (s ∷ steps) (c ∷ counts) (suc i) d e lt less = omega (arith, step_more to steps counts i d e (omega arith) (omega arith))

pub ways_more : (to : ℕ) (steps : List Step) (counts : List (Option ℕ)) (i : ℕ) (d : Step) (e : Option ℕ) → i < length steps → i < length counts
    → ways_to to (take (i + 1) steps) (map is_some (take (i + 1) counts)) ≡ ways_to to (take i steps) (map is_some (take i counts)) + ways_from to (get_or steps i d) (is_some (get_or counts i e))
ways_more to steps counts i d e lt less =
    ap (λ (n : ℕ). ways_to to (take n steps) (map is_some (take n counts))) (add-one i) ∙ step_more to steps counts i d e lt less

pub first_way : (p n old new : ℕ) → old ≡ get_or (replicate n 0) p 0 → new ≡ min most (old + (if 0 == p then 1 else 0)) → new ≡ min most (entry_ways p + 0)
first_way p n old new none one = one ∙ ap (λ (k : ℕ). min most (k + (if 0 == p then 1 else 0))) (none ∙ all_alike n p 0) ∙ ap (λ (k : ℕ). min most k) (at p)
  where
    at : (p : ℕ) → 0 + (if 0 == p then 1 else 0) ≡ entry_ways p + 0
    at zero = refl
    at (suc p) = grind arith
