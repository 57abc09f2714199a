-- For words and files one thing is due.
use Rattle.std.proofs.Common.{◌≡◌, ℕ, List, [], ◌∷◌, refl, sym, ap, ◌∙◌}
use Rattle.wf_first.specs.declared.program.Program.{Program}
use Rattle.wf_runs.specs.Due.{due}
use Rattle.wf_runs.specs.Run.{Run}
use Rattle.world.specs.Command.{IsCommand}
use Rattle.world.specs.Load.{load_run}
use Rattle.world.specs.Outcome.{RunFor, no_command, command, OutcomeIsOne}

-- a command is of one pair of paths
one_command : (words : List (List ℕ)) (r d s f : List ℕ) → IsCommand words r d → IsCommand words s f → (r ≡ s) × (d ≡ f)
one_command words r d s f a b = go (sym a.words_are ∙ b.words_are)
  where
    go : {x : List ℕ} → (x ∷ r ∷ d ∷ []) ≡ (x ∷ s ∷ f ∷ []) → (r ≡ s) × (d ≡ f)
    go e = (cc, cc)

-- words ask for one run
run_is_one : (words : List (List ℕ)) (a b : Run Program) → RunFor words a → RunFor words b → a ≡ b
run_is_one words _ _ (no_command none) (no_command other) = refl
run_is_one words _ _ (no_command none) (command s f c) = absurd (none s f c)
run_is_one words _ _ (command r d c) (no_command none) = absurd (none r d c)
run_is_one words _ _ (command r d one) (command s f two) =
    let same = one_command words r d s f one two in
    ap (λ (x : List ℕ). load_run x d) same.0 ∙ ap (λ (y : List ℕ). load_run s y) same.1

pub outcome_is_one : OutcomeIsOne
outcome_is_one files words one other a b = sym a.is ∙ ap (λ run. due files run) (run_is_one words a.run b.run a.for_words b.for_words) ∙ b.is
