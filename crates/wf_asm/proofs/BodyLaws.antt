-- Loops over the statements of a body.
use Rattle.std.proofs.Common.{◌≡◌, ℕ, ◌+◌, ◌<◌, ◌≤◌, List, ◌∷◌, length, get_or, drop, Result, Ok, Err, refl, subst, sym, ap, ◌∙◌, add-one, drop-cons}
use Rattle.std.proofs.lemmas.List.{drop_all}
use Rattle.wf_listing.specs.declared.listing.Constant.{Constant}
use Rattle.wf_listing.specs.declared.listing.Statement.{Statement}
use Rattle.wf_asm.specs.declared.fault.AsmFault.{AsmFault}
use Rattle.wf_asm.specs.declared.fault.AsmFault.TheVariants.{BadLine, NoMemory}
use Rattle.wf_asm.specs.declared.code.CodeSoFar.{CodeSoFar}
use Rattle.wf_asm.specs.Building.{◌>>=◌, Label, behind, with_label_of, labels_on, statement_on, body_on}
use Rattle.wf_asm.specs.Giving.{Fails}

-- what is left at an index, where something is
pub cut : {X : Type 0} (xs : List X) (i : ℕ) (x : X) → i < length xs → x ≡ get_or xs i x → drop i xs ≡ x ∷ drop (i + 1) xs
cut xs i x lt is = (rw (add-one, drop-cons xs i x) refl) ∙ ap (λ y. y ∷ drop (i + 1) xs) (sym is)

pub labels_next : (cs : List Constant) (body : List Statement) (i at next : ℕ) (s : Statement) (labels new total : List Label) → i < length body → s ≡ get_or body i s
    → next ≡ behind cs at s.says → new ≡ with_label_of labels at s.line s.says → labels_on cs at labels (drop i body) ≡ total → labels_on cs next new (drop (i + 1) body) ≡ total
unfolding labels_on
labels_next cs body i at next s labels new total lt is fits added so_far =
    let rest = drop (i + 1) body in
    ap (λ (n : ℕ). labels_on cs n new rest) fits ∙ ap (λ (ls : List Label). labels_on cs (behind cs at s.says) ls rest) added
    ∙ ap (labels_on cs at labels) (sym (cut body i s lt is)) ∙ so_far

pub labels_done : (cs : List Constant) (body : List Statement) (i at : ℕ) (labels total : List Label) → length body ≤ i → labels_on cs at labels (drop i body) ≡ total → labels ≡ total
unfolding labels_on
labels_done cs body i at labels total le so_far = sym (ap (labels_on cs at labels) (drop_all i body le)) ∙ so_far

-- where a step fails, so does the whole
pub bind_fails : {A B : Type 0} (e : AsmFault) (r : Result A ℕ) (f : A → Result B ℕ) → Fails e r → Fails e (r >>= f)
bind_fails NoMemory r f h = tt
bind_fails (BadLine line) (Ok x) f h = cc
bind_fails (BadLine line) (Err l) f h = cc

pub body_next : (cs : List Constant) (labels : List Label) (body : List Statement) (i : ℕ) (s : Statement) (old new : CodeSoFar) (total : Result CodeSoFar ℕ) → i < length body → s ≡ get_or body i s
    → statement_on cs labels old s ≡ Ok new → body_on cs labels old (drop i body) ≡ total → body_on cs labels new (drop (i + 1) body) ≡ total
unfolding body_on
body_next cs labels body i s old new total lt is put so_far =
    sym (ap (λ (r : Result CodeSoFar ℕ). r >>= λ next. body_on cs labels next (drop (i + 1) body)) put) ∙ ap (body_on cs labels old) (sym (cut body i s lt is)) ∙ so_far

pub body_ends : (e : AsmFault) (cs : List Constant) (labels : List Label) (body : List Statement) (i : ℕ) (s : Statement) (old : CodeSoFar) (total : Result CodeSoFar ℕ) → i < length body → s ≡ get_or body i s
    → Fails e (statement_on cs labels old s) → body_on cs labels old (drop i body) ≡ total → Fails e total
unfolding body_on
body_ends e cs labels body i s old total lt is fails so_far =
    let whole : body_on cs labels old (s ∷ drop (i + 1) body) ≡ total = ap (body_on cs labels old) (sym (cut body i s lt is)) ∙ so_far in
    subst (λ (t : Result CodeSoFar ℕ). Fails e t) whole (bind_fails e (statement_on cs labels old s) (λ next. body_on cs labels next (drop (i + 1) body)) fails)

pub body_done : (cs : List Constant) (labels : List Label) (body : List Statement) (i : ℕ) (old : CodeSoFar) (total : Result CodeSoFar ℕ) → length body ≤ i → body_on cs labels old (drop i body) ≡ total → total ≡ Ok old
unfolding body_on
body_done cs labels body i old total le so_far = sym so_far ∙ ap (body_on cs labels old) (drop_all i body le)

pub ruleset statements = (body_next, body_ends, body_done)
