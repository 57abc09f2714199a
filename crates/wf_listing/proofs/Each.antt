-- Reading words one after the other, as a loop does.
use Rattle.std.proofs.Common.{◌≡◌, ℕ, ◌+◌, ◌<◌, ◌≤◌, List, [], ◌∷◌, ◌++◌, length, get_or, drop, Option, Some, None, refl, sym, ap, ◌∙◌, append_assoc}
use Rattle.std.proofs.lemmas.List.{append-nil, at_drop_more, drop_all, get_or_read}
use Rattle.wf_lines.specs.Members.{◌>>=◌}
use Rattle.wf_listing.specs.Lines.{Words, each_of}

-- what is read before, and what is still read
abbrev pub with_front : Words → Option Words → Option Words
with_front front rest = rest >>= λ xs. Some (front ++ xs)

regroup : (front : Words) (x : List ℕ) (rest : Option Words) → with_front front (rest >>= λ xs. Some (x ∷ xs)) ≡ with_front (front ++ x ∷ []) rest
regroup front x None = refl
regroup front x (Some xs) = ap (λ (ys : Words). Some ys) (simp append_assoc)

at_word : (read : List ℕ → Option (List ℕ)) (ws : Words) (i : ℕ) → i < length ws → each_of read (drop i ws) ≡ (read (get_or ws i []) >>= λ x. each_of read (drop (i + 1) ws) >>= λ xs. Some (x ∷ xs))
unfolding each_of
at_word read ws i lt = at_drop_more (each_of read) ws i [] lt

pub goes_on : (read : List ℕ → Option (List ℕ)) (front ws : Words) (i : ℕ) (w x : List ℕ) (total : Option Words) → i < length ws → w ≡ get_or ws i w → read w ≡ Some x
    → with_front front (each_of read (drop i ws)) ≡ total → with_front (front ++ x ∷ []) (each_of read (drop (i + 1) ws)) ≡ total
goes_on read front ws i w x total lt at h so_far =
    let same : read (get_or ws i []) ≡ Some x = ap read (sym (get_or_read ws i w lt at [])) ∙ h in
    let one : each_of read (drop i ws) ≡ (each_of read (drop (i + 1) ws) >>= λ xs. Some (x ∷ xs)) = rw (at_word read ws i lt, same) refl in
    sym (regroup front x (each_of read (drop (i + 1) ws))) ∙ ap (λ (o : Option Words). with_front front o) (sym one) ∙ so_far

pub stops : (read : List ℕ → Option (List ℕ)) (front ws : Words) (i : ℕ) (w : List ℕ) (total : Option Words) → i < length ws → w ≡ get_or ws i w → read w ≡ None
    → with_front front (each_of read (drop i ws)) ≡ total → total ≡ None
stops read front ws i w total lt at h so_far =
    let same : read (get_or ws i []) ≡ None = ap read (sym (get_or_read ws i w lt at [])) ∙ h in
    let one : each_of read (drop i ws) ≡ None = rw (at_word read ws i lt, same) refl in
    sym so_far ∙ ap (λ (o : Option Words). with_front front o) one

pub ends : (read : List ℕ → Option (List ℕ)) (front ws : Words) (i : ℕ) (total : Option Words) → length ws ≤ i → with_front front (each_of read (drop i ws)) ≡ total → total ≡ Some front
unfolding each_of
ends read front ws i total le so_far =
    let one : with_front front (each_of read (drop i ws)) ≡ Some front = rw (drop_all i ws le) (ap (λ (xs : Words). Some xs) (append-nil front)) in
    sym so_far ∙ one
