-- Reading entries line after line, as a loop does.
use Rattle.std.proofs.Common.{◌≡◌, ℕ, suc, ◌+◌, ◌-◌, ◌<◌, ◌≤◌, List, [], ◌∷◌, ◌++◌, Option, Result, Ok, Err, sym, ap, ◌∙◌, arith}
use Rattle.wf_report.specs.declared.fault.WorldFault.{WorldFault}
use Rattle.wf_report.specs.declared.fault.WorldFault.TheVariants.{BadLine, NoMemory}
use Rattle.wf_report.specs.Giving.{Fails}
use Rattle.wf_report.specs.Reading.{Place, next, say, entries}

one_more : {X : Type 0} (said : List X → List ℕ → Option X) (count i : ℕ) (before : List X) (p : Place) → i < count
    → entries said (count - i) before p ≡ next (say (said before) p) (λ x. entries said (count - (i + 1)) (before ++ x.0 ∷ []) x.1)
unfolding entries
one_more said count i before p lt = let e : count - i ≡ suc (count - (i + 1)) = omega arith in ap (λ (n : ℕ). entries said n before p) e

pub goes_on : {X : Type 0} (said : List X → List ℕ → Option X) (count i : ℕ) (before : List X) (x : X) (p q : Place) (total : Result (List X × Place) ℕ) → i < count → say (said before) p ≡ Ok (x, q)
    → entries said (count - i) before p ≡ total → entries said (count - (i + 1)) (before ++ x ∷ []) q ≡ total
goes_on {X} said count i before x p q total lt h so =
    sym (one_more said count i before p lt ∙ ap (λ (r : Result (X × Place) ℕ). next r (λ y. entries said (count - (i + 1)) (before ++ y.0 ∷ []) y.1)) h) ∙ so

stops : {X : Type 0} (said : List X → List ℕ → Option X) (count i : ℕ) (before : List X) (p : Place) (total : Result (List X × Place) ℕ) (line : ℕ) → i < count → say (said before) p ≡ Err line
    → entries said (count - i) before p ≡ total → total ≡ Err line
stops {X} said count i before p total line lt h so =
    sym so ∙ one_more said count i before p lt ∙ ap (λ (r : Result (X × Place) ℕ). next r (λ y. entries said (count - (i + 1)) (before ++ y.0 ∷ []) y.1)) h

pub fails : {X : Type 0} (said : List X → List ℕ → Option X) (count i : ℕ) (before : List X) (p : Place) (total : Result (List X × Place) ℕ) (fault : WorldFault) → i < count → Fails fault (say (said before) p)
    → entries said (count - i) before p ≡ total → Fails fault total
fails said count i before p total NoMemory lt h so = tt
fails said count i before p total (BadLine line) lt h so = stops said count i before p total line lt h so

pub is_done : {X : Type 0} (said : List X → List ℕ → Option X) (count i : ℕ) (before : List X) (p : Place) (total : Result (List X × Place) ℕ) → count ≤ i → entries said (count - i) before p ≡ total → total ≡ Ok (before, p)
unfolding entries
is_done said count i before p total le so = let e : count - i ≡ 0 = omega arith in sym so ∙ ap (λ (n : ℕ). entries said n before p) e
