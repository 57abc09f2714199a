-- The calls of a method have few candidates.
use Rattle.std.proofs.Common.{◌≡◌, ℕ, ◌<◌, ◌≤◌, ◌^◌, List, [], ◌∷◌, ◌++◌, length, get_or, Option, Some, None, Ok, refl, sym, subst, ◌∙◌, arith, inl, inr, ◌⊎◌}
use Rattle.std.proofs.lemmas.Bool.{cases_lt}
use Rattle.std.proofs.lemmas.List.{length-append, get_or_past, get_or_append_left, get_or_push}
use Rattle.wf_base.specs.declared.ids.MethodId.{MethodId}
use Rattle.wf_data.specs.declared.instr.Placed.{Placed}
use Rattle.wf_operation.specs.declared.operation.Operation.{Operation}
use Rattle.wf_blocks.specs.declared.body.Body.{Body as Shape}
use Rattle.wf_blocks.specs.Bodies.{operation_at}
use Rattle.wf_rows.specs.declared.action.Action.{Action}
use Rattle.wf_rows.specs.declared.action.Action.TheVariants.{Calls}
use Rattle.wf_body.specs.Each.{AreEach}
use Rattle.wf_body.specs.Each.AreEach.{none, next}
use Rattle.wf_body.specs.Parts.{Parts, acting, candidates_of}
use Rattle.wf_body.specs.Sources.{MethodSource}
use Rattle.wf_body.specs.Methods.{IsActAt, IsActBy, act_at, instruction, site_at}
use Rattle.wf_graph.specs.Flow.{IsShortIf, AreShort}
use Rattle.wf_graph.proofs.Candidates.{HasThese, action_has}

count_each : {A : Type 0} (Is : ℕ → A → Type 0) (n : ℕ) (xs : List A) → AreEach Is n xs → length xs ≡ n
count_each Is _ _ none = refl
count_each Is _ _ (next n xs x before is) = length-append xs (x ∷ []) ∙ omega (arith, count_each Is n xs before)

-- each element is that of its place
at_each : {A : Type 0} (Is : ℕ → A → Type 0) (d : A) (n : ℕ) (xs : List A) → AreEach Is n xs → (i : ℕ) → i < n → Is i (get_or xs i d)
at_each Is d _ _ none i l = absurd (omega (arith, l))
at_each Is d _ _ (next n xs x before is) i l = at (cases_lt i n) (λ m. at_each Is d n xs before i m) where
  count : length xs ≡ n
  count = count_each Is n xs before

  at : ((i < n) ⊎ (n ≤ i)) → (i < n → Is i (get_or xs i d)) → Is i (get_or (xs ++ x ∷ []) i d)
  at (inl m) on = subst (λ y. Is i y) (sym (get_or_append_left xs (x ∷ []) d i (omega (arith, m, count)))) (on m)
  at (inr m) on = (let same : length xs ≡ i = omega (arith, l, m, count) in
      let here : n ≡ i = omega (arith, l, m) in
      subst (λ y. Is i y) (sym (get_or_push xs x d i same)) (subst (λ j. Is j x) here is))

short_if : (cs : List MethodId) → length cs < 2 ^ 32 → (act : Option Action) → HasThese cs act → IsShortIf act
short_if cs few (Some (Calls (Ok c))) h = subst (λ (xs : List MethodId). length xs < 2 ^ 32) (sym h) few
short_if cs few (Some other) h = tt
short_if cs few None h = tt

module _ (p : Parts) (s : MethodSource) (few : (site : ℕ) → length (candidates_of p.links site) < 2 ^ 32) where
  act_short : (site : ℕ) (at : Placed) (o : Option Operation) (act : Option Action) → IsActBy p s site at o act → IsShortIf act
  act_short site at None act is = subst (λ (a : Option Action). IsShortIf a) (sym is) tt
  act_short site at (Some o) act is = short_if (candidates_of p.links site) (few site) act (action_has (acting p) (instruction p s site at o) act is)

  -- all of them
  pub acts_short : (placed : List Placed) (shape : Shape) (acts : List (Option Action)) → AreEach (IsActAt p s placed shape) (length placed) acts → AreShort acts
  acts_short placed shape acts each place = at (cases_lt place (length placed)) where
    at : ((place < length placed) ⊎ (length placed ≤ place)) → IsShortIf (act_at acts place)
    at (inl l) = (let is = at_each (IsActAt p s placed shape) None (length placed) acts each place l in act_short (site_at s placed place) is.at (operation_at shape place) (act_at acts place) is.acts)
    at (inr m) = subst (λ (a : Option Action). IsShortIf a) (sym (get_or_past acts place None (omega (arith, m, count_each (IsActAt p s placed shape) (length placed) acts each)))) tt
