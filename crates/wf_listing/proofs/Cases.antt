-- Reading the cases of a lookupswitch one after the other.
use Rattle.std.proofs.Common.{◌≡◌, ℕ, ◌+◌, ◌-◌, ◌<◌, ◌≤◌, List, [], ◌∷◌, ◌++◌, length, get_or, take, drop, Option, Some, None, refl, sym, ap, ◌∙◌, append_assoc, arith}
use Rattle.std.proofs.lemmas.List.{append-nil, take_all}
use Rattle.wf_listing.specs.declared.listing.ListedCase.{ListedCase}
use Rattle.wf_lines.specs.Members.{◌>>=◌}
use Rattle.wf_listing.specs.Lines.{Words, case_said, cases_said}

abbrev pub with_front : List ListedCase → Option (List ListedCase) → Option (List ListedCase)
with_front front rest = rest >>= λ cases. Some (front ++ cases)

regroup : (front : List ListedCase) (c : ListedCase) (rest : Option (List ListedCase)) → with_front front (rest >>= λ cases. Some (c ∷ cases)) ≡ with_front (front ++ c ∷ []) rest
regroup front c None = refl
regroup front c (Some cases) = ap (λ (cs : List ListedCase). Some cs) (simp append_assoc)

parts : (rest : Words) (key label : List ℕ) → 2 ≤ length rest → key ≡ get_or rest 0 key → label ≡ get_or rest 1 label → rest ≡ key ∷ label ∷ take (length rest - 2) (drop 2 rest)
parts [] key label le k l = absurd (omega arith)
parts (x ∷ []) key label le k l = absurd (omega arith)
parts (x ∷ y ∷ behind) key label le k l =
    let whole : take (length (x ∷ y ∷ behind) - 2) behind ≡ behind = take_all _ _ (omega arith) in
    let first : key ≡ x = k in
    let second : label ≡ y = l in
    cc

one_case : (rest : Words) (key label : List ℕ) → 2 ≤ length rest → key ≡ get_or rest 0 key → label ≡ get_or rest 1 label
    → cases_said rest ≡ (case_said key label >>= λ c. cases_said (take (length rest - 2) (drop 2 rest)) >>= λ cases. Some (c ∷ cases))
unfolding cases_said
one_case rest key label le k l = ap (λ (ws : Words). cases_said ws) (parts rest key label le k l)

pub goes_on : (front : List ListedCase) (rest : Words) (key label : List ℕ) (c : ListedCase) (total : Option (List ListedCase)) → 2 ≤ length rest → key ≡ get_or rest 0 key → label ≡ get_or rest 1 label → case_said key label ≡ Some c
    → with_front front (cases_said rest) ≡ total → with_front (front ++ c ∷ []) (cases_said (take (length rest - 2) (drop 2 rest))) ≡ total
goes_on front rest key label c total le k l h so_far =
    let behind = take (length rest - 2) (drop 2 rest) in
    let one : cases_said rest ≡ (cases_said behind >>= λ cases. Some (c ∷ cases)) = one_case rest key label le k l ∙ ap (λ (o : Option ListedCase). o >>= λ x. cases_said behind >>= λ cases. Some (x ∷ cases)) h in
    sym (regroup front c (cases_said behind)) ∙ ap (λ (o : Option (List ListedCase)). with_front front o) (sym one) ∙ so_far

pub stops : (front : List ListedCase) (rest : Words) (key label : List ℕ) (total : Option (List ListedCase)) → 2 ≤ length rest → key ≡ get_or rest 0 key → label ≡ get_or rest 1 label → case_said key label ≡ None
    → with_front front (cases_said rest) ≡ total → total ≡ None
stops front rest key label total le k l h so_far =
    let behind = take (length rest - 2) (drop 2 rest) in
    let one : cases_said rest ≡ None = one_case rest key label le k l ∙ ap (λ (o : Option ListedCase). o >>= λ x. cases_said behind >>= λ cases. Some (x ∷ cases)) h in
    sym so_far ∙ ap (λ (o : Option (List ListedCase)). with_front front o) one

pub ends : (front : List ListedCase) (rest : Words) (total : Option (List ListedCase)) → length rest ≡ 0 → with_front front (cases_said rest) ≡ total → total ≡ Some front
unfolding cases_said
ends front [] total none so_far = sym so_far ∙ ap (λ (cs : List ListedCase). Some cs) (append-nil front)
ends front (x ∷ rest) total none so_far = absurd (omega arith)

pub breaks_off : (front : List ListedCase) (rest : Words) (total : Option (List ListedCase)) → length rest < 2 → 0 < length rest → with_front front (cases_said rest) ≡ total → total ≡ None
unfolding cases_said
breaks_off front [] total few some so_far = absurd (omega arith)
breaks_off front (x ∷ []) total few some so_far = sym so_far
breaks_off front (x ∷ y ∷ rest) total few some so_far = absurd (omega arith)
