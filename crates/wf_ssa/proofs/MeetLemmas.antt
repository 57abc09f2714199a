-- Marks where resolution fails, and where ways meet.
use Rattle.std.proofs.Common.{◌≡◌, ℕ, ◌+◌, ◌<◌, Bool, true, false, not, ◌||◌, List, length, get_or, set, sym, ap, ◌∙◌, arith, inl, inr}
use Rattle.std.specs.Prelude.{◌⊎◌, ◌==◌, min, replicate}
use Rattle.std.specs.List.{list_any}
use Rattle.std.proofs.lemmas.Bool.{eqb-true, eqb-false}
use Rattle.std.proofs.lemmas.List.{get_or-replicate, get_or-set_same, get_or-set_other}
use Rattle.wf_blocks.specs.declared.body.Body.{Body}
use Rattle.wf_blocks.specs.Answers.{most, edges_in}
use Rattle.wf_blocks.specs.Bodies.{is_handler}
use Rattle.wf_blocks.proofs.EdgeLemmas.{same_at}
use Rattle.wf_blocks.proofs.SeenLemmas.{true_or_false}
use Rattle.wf_ssa.specs.Environments.{meets}
use Rattle.wf_ssa.specs.Keeping.{AreFails}

-- ---- resolution that fails

pub fails_are : (failing : List ℕ) (first marks : List Bool) → first ≡ replicate 65536 false → length marks ≡ 65536
    → ((p : ℕ) → get_or marks p true ≡ (get_or first p true || list_any (λ t. t == p) failing)) → AreFails failing marks
fails_are failing first marks none count each = record {
  each = λ pc lt.
      same_at marks pc false true (omega (arith, lt, count)) ∙ each pc
      ∙ ap (λ (x : Bool). x || list_any (λ t. t == pc) failing) (ap (λ (ms : List Bool). get_or ms pc true) none ∙ get_or-replicate 65536 pc false true lt);
}

-- ---- ways that meet

capped_one : (n : ℕ) → (min most n == 1) ≡ (n == 1)
capped_one n = by_test (true_or_false (min most n == 1)) (true_or_false (n == 1))
  where
    by_test : ((min most n == 1) ≡ true) ⊎ ((min most n == 1) ≡ false) → ((n == 1) ≡ true) ⊎ ((n == 1) ≡ false) → (min most n == 1) ≡ (n == 1)
    by_test (inl e) (inl f) = e ∙ sym f
    by_test (inl e) (inr f) = absurd (eqb-false n 1 f (omega (arith, eqb-true (min most n) 1 e)))
    by_test (inr e) (inl f) = absurd (eqb-false (min most n) 1 e (omega (arith, eqb-true n 1 f)))
    by_test (inr e) (inr f) = e ∙ sym f

-- handlers are marked from the start
pub handler_first : (n p : ℕ) (first marks : List Bool) (handlers : Bool) → first ≡ replicate n false → length marks ≡ n → p < n → get_or marks p true ≡ (get_or first p true || handlers) → get_or marks p false ≡ handlers
handler_first n p first marks handlers none count lt each =
    same_at marks p false true (omega (arith, lt, count)) ∙ each
    ∙ ap (λ (x : Bool). x || handlers) (ap (λ (ms : List Bool). get_or ms p true) none ∙ get_or-replicate n p false true lt)

-- one more place is marked
pub met_more : (b : Body) (reached marks : List Bool) (place p ways : ℕ) (here new : Bool) → p < place + 1 → place < length marks → (p < place → get_or marks p false ≡ meets b reached p)
    → new ≡ (here || not (ways == 1)) → here ≡ list_any (is_handler place) b.catchers → ways ≡ min most (edges_in b reached place) → get_or (set marks place new) p false ≡ meets b reached p
met_more b reached marks place p ways here new le lt below is handlers count = by_place (true_or_false (p == place))
  where
    at : get_or (set marks place new) place false ≡ meets b reached place
    at =
        get_or-set_same marks place new false lt ∙ is ∙ ap (λ (x : Bool). x || not (ways == 1)) handlers
        ∙ ap (λ (n : ℕ). list_any (is_handler place) b.catchers || not (n == 1)) count ∙ ap (λ (x : Bool). list_any (is_handler place) b.catchers || not x) (capped_one (edges_in b reached place))

    by_place : ((p == place) ≡ true) ⊎ ((p == place) ≡ false) → get_or (set marks place new) p false ≡ meets b reached p
    by_place (inl same) = let is : p ≡ place = eqb-true p place same in rw is at
    by_place (inr other) =
        let apart = eqb-false p place other in
        get_or-set_other marks place p new false apart ∙ below (omega (arith, le, apart))
