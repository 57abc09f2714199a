-- Bytes that are put behind others, one piece after another.
use Rattle.std.proofs.Common.{◌≡◌, ℕ, ◌+◌, ◌<◌, ◌≤◌, List, ◌++◌, length, get_or, drop, Option, Some, None, option_map, Result, Ok, Err, refl, sym, ap, ◌∙◌, append_assoc, append-nil}
use Rattle.std.proofs.lemmas.List.{drop_all}
use Rattle.std.specs.Int.{w32}
use Rattle.wf_listing.specs.declared.listing.ListedCase.{ListedCase}
use Rattle.wf_asm.specs.declared.code.CodeSoFar.{CodeSoFar}
use Rattle.wf_listing.specs.declared.stop.Stop.{Stop}
use Rattle.wf_listing.specs.declared.stop.Stop.TheVariants.{NotOfForm, NoMemory}
use Rattle.wf_asm.specs.Putting.{Puts}
use Rattle.wf_asm.specs.Building.{with_bytes, Label, onto, joined, distance_bytes, case_bytes, table_bytes, lookup_bytes}
use Rattle.wf_asm.proofs.BodyLaws.{cut}

-- bytes that are there are put
pub onto_some : (out bytes : List ℕ) → onto out (Some bytes) ≡ Some (out ++ bytes)
unfolding onto
onto_some out bytes = refl

pub onto_none : (out : List ℕ) → onto out None ≡ None
unfolding onto
onto_none out = refl

-- the second piece goes behind the first
pub onto_joined : (out : List ℕ) (a b : Option (List ℕ)) (mid : List ℕ) → onto out a ≡ Some mid → onto out (joined a b) ≡ onto mid b
unfolding onto joined
onto_joined out None b mid h = cc
onto_joined out (Some front) None mid h = refl
onto_joined out (Some front) (Some back) mid h =
    let same : out ++ front ≡ mid = cc in
    ap (λ (bs : List ℕ). Some bs) (sym (append_assoc out front back)) ∙ ap (λ (bs : List ℕ). Some (bs ++ back)) same

pub onto_joined_none : (out : List ℕ) (a b : Option (List ℕ)) → onto out a ≡ None → onto out (joined a b) ≡ None
unfolding onto joined
onto_joined_none out None b h = refl
onto_joined_none out (Some front) b h = cc

-- where the first piece is known, the rest goes behind it
pub onto_joined_some : (out front : List ℕ) (b : Option (List ℕ)) → onto out (joined (Some front) b) ≡ onto (out ++ front) b
onto_joined_some out front b = onto_joined out (Some front) b (out ++ front) (onto_some out front)

pub ruleset puts = (onto_some, onto_joined_some, onto_none, onto_joined, onto_joined_none)

-- ---- tables

pub targets_next : (labels : List Label) (at : ℕ) (ts : List (List ℕ)) (i : ℕ) (t old new : List ℕ) (total : Option (List ℕ)) → i < length ts → t ≡ get_or ts i t
    → onto old (distance_bytes w32 labels at t) ≡ Some new → onto old (table_bytes labels at (drop i ts)) ≡ total → onto new (table_bytes labels at (drop (i + 1) ts)) ≡ total
unfolding table_bytes
targets_next labels at ts i t old new total lt is put so_far =
    sym (onto_joined old (distance_bytes w32 labels at t) (table_bytes labels at (drop (i + 1) ts)) new put)
    ∙ ap (λ (us : List (List ℕ)). onto old (table_bytes labels at us)) (sym (cut ts i t lt is)) ∙ so_far

pub targets_stop : (labels : List Label) (at : ℕ) (ts : List (List ℕ)) (i : ℕ) (t old : List ℕ) (total : Option (List ℕ)) → i < length ts → t ≡ get_or ts i t
    → onto old (distance_bytes w32 labels at t) ≡ None → onto old (table_bytes labels at (drop i ts)) ≡ total → total ≡ None
unfolding table_bytes
targets_stop labels at ts i t old total lt is none so_far =
    sym so_far ∙ ap (λ (us : List (List ℕ)). onto old (table_bytes labels at us)) (cut ts i t lt is) ∙ onto_joined_none old (distance_bytes w32 labels at t) (table_bytes labels at (drop (i + 1) ts)) none

pub targets_done : (labels : List Label) (at : ℕ) (ts : List (List ℕ)) (i : ℕ) (old : List ℕ) (total : Option (List ℕ)) → length ts ≤ i
    → onto old (table_bytes labels at (drop i ts)) ≡ total → total ≡ Some old
unfolding table_bytes onto
targets_done labels at ts i old total le so_far =
    sym so_far ∙ ap (λ (us : List (List ℕ)). onto old (table_bytes labels at us)) (drop_all i ts le) ∙ ap (λ (bs : List ℕ). Some bs) (append-nil old)

pub ruleset targets = (targets_next, targets_stop, targets_done)

pub cases_next : (labels : List Label) (at : ℕ) (cs : List ListedCase) (i : ℕ) (c : ListedCase) (old new : List ℕ) (total : Option (List ℕ)) → i < length cs → c ≡ get_or cs i c
    → onto old (case_bytes labels at c) ≡ Some new → onto old (lookup_bytes labels at (drop i cs)) ≡ total → onto new (lookup_bytes labels at (drop (i + 1) cs)) ≡ total
unfolding lookup_bytes
cases_next labels at cs i c old new total lt is put so_far =
    sym (onto_joined old (case_bytes labels at c) (lookup_bytes labels at (drop (i + 1) cs)) new put)
    ∙ ap (λ (us : List ListedCase). onto old (lookup_bytes labels at us)) (sym (cut cs i c lt is)) ∙ so_far

pub cases_stop : (labels : List Label) (at : ℕ) (cs : List ListedCase) (i : ℕ) (c : ListedCase) (old : List ℕ) (total : Option (List ℕ)) → i < length cs → c ≡ get_or cs i c
    → onto old (case_bytes labels at c) ≡ None → onto old (lookup_bytes labels at (drop i cs)) ≡ total → total ≡ None
unfolding lookup_bytes
cases_stop labels at cs i c old total lt is none so_far =
    sym so_far ∙ ap (λ (us : List ListedCase). onto old (lookup_bytes labels at us)) (cut cs i c lt is) ∙ onto_joined_none old (case_bytes labels at c) (lookup_bytes labels at (drop (i + 1) cs)) none

pub cases_done : (labels : List Label) (at : ℕ) (cs : List ListedCase) (i : ℕ) (old : List ℕ) (total : Option (List ℕ)) → length cs ≤ i
    → onto old (lookup_bytes labels at (drop i cs)) ≡ total → total ≡ Some old
unfolding lookup_bytes onto
cases_done labels at cs i old total le so_far =
    sym so_far ∙ ap (λ (us : List ListedCase). onto old (lookup_bytes labels at us)) (drop_all i cs le) ∙ ap (λ (bs : List ℕ). Some bs) (append-nil old)

pub ruleset cases = (cases_next, cases_stop, cases_done)

-- ---- a body's code

abbrev put_there : CodeSoFar → List ℕ → Option CodeSoFar
put_there so_far all = Some (record { code = all; table = so_far.table })

pub code_put : {X : Type 0} (r : Result X Stop) (so_far : CodeSoFar) (code : List ℕ) (bytes : Option (List ℕ)) → Puts r code (onto so_far.code bytes)
    → Puts r (record { code = code; table = so_far.table }) (option_map (with_bytes so_far) bytes)
unfolding onto
code_put (Ok x) so_far code None h = cc
code_put (Ok x) so_far code (Some bs) h =
    let same : so_far.code ++ bs ≡ code = cc in
    ap (put_there so_far) same
code_put (Err NoMemory) so_far code bytes h = tt
code_put (Err NotOfForm) so_far code None h = refl
code_put (Err NotOfForm) so_far code (Some bs) h = cc
