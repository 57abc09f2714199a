-- Loops that collect the methods of a class, and classes.
use Rattle.std.proofs.Common.{◌≡◌, ℕ, ◌+◌, ◌<◌, ◌≤◌, List, [], ◌∷◌, ◌++◌, length, get_or, drop, Result, Ok, Err, refl, sym, ap, ◌∙◌, subst, append_assoc, append-nil}
use Rattle.std.proofs.lemmas.List.{drop_all}
use Rattle.wf_data.specs.declared.class_info.ClassInfo.{ClassInfo}
use Rattle.wf_data.specs.declared.class_info.MethodInfo.{MethodInfo}
use Rattle.wf_asm.specs.declared.fault.AsmFault.{AsmFault}
use Rattle.wf_listing.specs.declared.listing.Constant.{Constant}
use Rattle.wf_listing.specs.declared.listing.Listed.{Listed}
use Rattle.wf_listing.specs.declared.listing.ListedMethod.{ListedMethod}
use Rattle.wf_asm.specs.Building.{◌>>=◌, method_of, methods_of, class_of, classes_of}
use Rattle.wf_asm.specs.Giving.{Fails}
use Rattle.wf_asm.proofs.BodyLaws.{cut, bind_fails}

-- what is found behind what is there
unfoldable pub with_front : {X : Type 0} → List X → Result (List X) ℕ → Result (List X) ℕ
with_front front (Ok xs) = Ok (front ++ xs)
with_front front (Err line) = Err line

-- one step, and then the others
abbrev pub first_then : {X : Type 0} → Result X ℕ → Result (List X) ℕ → Result (List X) ℕ
first_then one rest = one >>= λ x. rest >>= λ xs. Ok (x ∷ xs)

pub one_more : {X : Type 0} (front : List X) (x : X) (rest : Result (List X) ℕ) → with_front front (first_then (Ok x) rest) ≡ with_front (front ++ x ∷ []) rest
unfolding with_front
one_more front x (Ok xs) = ap (λ (ys : List _). Ok ys) (sym (append_assoc front (x ∷ []) xs))
one_more front x (Err line) = refl

front_fails : {X : Type 0} (e : AsmFault) (front : List X) (one : Result X ℕ) (rest : Result (List X) ℕ) → Fails e one → Fails e (with_front front (first_then one rest))
unfolding with_front
front_fails e front one rest h =
    let step = bind_fails e one (λ x. rest >>= λ xs. Ok (x ∷ xs)) h in
    go (first_then one rest) step
  where
    go : (r : Result (List _) ℕ) → Fails e r → Fails e (with_front front r)
    go r f = subst (λ (t : Result (List _) ℕ). Fails e t) (same r) (bind_fails e r (λ xs. Ok (front ++ xs)) f)
      where
        same : (q : Result (List _) ℕ) → (q >>= λ xs. Ok (front ++ xs)) ≡ with_front front q
        same (Ok xs) = refl
        same (Err line) = refl

-- ---- the methods of a class

pub methods_begin : (cs : List Constant) (ms : List ListedMethod) → with_front [] (methods_of cs ms) ≡ methods_of cs ms
unfolding with_front
methods_begin cs ms = go (methods_of cs ms)
  where
    go : (r : Result (List MethodInfo) ℕ) → with_front [] r ≡ r
    go (Ok xs) = refl
    go (Err line) = refl

pub methods_next : (cs : List Constant) (ms : List ListedMethod) (i : ℕ) (m : ListedMethod) (front new : List MethodInfo) (one : MethodInfo) (total : Result (List MethodInfo) ℕ) → i < length ms → m ≡ get_or ms i m
    → method_of cs m ≡ Ok one → with_front front (methods_of cs (drop i ms)) ≡ total → new ≡ front ++ one ∷ [] → with_front new (methods_of cs (drop (i + 1) ms)) ≡ total
unfolding methods_of
methods_next cs ms i m front new one total lt is made so_far grown =
    let rest = methods_of cs (drop (i + 1) ms) in
    ap (λ (xs : List MethodInfo). with_front xs rest) grown ∙ sym (one_more front one rest) ∙ sym (ap (λ (r : Result MethodInfo ℕ). with_front front (first_then r rest)) made)
    ∙ ap (λ (ns : List ListedMethod). with_front front (methods_of cs ns)) (sym (cut ms i m lt is)) ∙ so_far

pub methods_end : (e : AsmFault) (cs : List Constant) (ms : List ListedMethod) (i : ℕ) (m : ListedMethod) (front : List MethodInfo) (total : Result (List MethodInfo) ℕ) → i < length ms → m ≡ get_or ms i m
    → Fails e (method_of cs m) → with_front front (methods_of cs (drop i ms)) ≡ total → Fails e total
unfolding methods_of
methods_end e cs ms i m front total lt is fails so_far =
    let whole : with_front front (methods_of cs (m ∷ drop (i + 1) ms)) ≡ total = ap (λ (ns : List ListedMethod). with_front front (methods_of cs ns)) (sym (cut ms i m lt is)) ∙ so_far in
    subst (λ (t : Result (List MethodInfo) ℕ). Fails e t) whole (front_fails e front (method_of cs m) (methods_of cs (drop (i + 1) ms)) fails)

pub methods_done : (cs : List Constant) (ms : List ListedMethod) (i : ℕ) (front : List MethodInfo) (total : Result (List MethodInfo) ℕ) → length ms ≤ i → with_front front (methods_of cs (drop i ms)) ≡ total → total ≡ Ok front
unfolding methods_of with_front
methods_done cs ms i front total le so_far =
    sym so_far ∙ ap (λ (ns : List ListedMethod). with_front front (methods_of cs ns)) (drop_all i ms le) ∙ ap (λ (xs : List MethodInfo). Ok xs) (append-nil front)

pub ruleset methods = (methods_begin, methods_next, methods_end, methods_done)

-- ---- classes

pub classes_begin : (ls : List Listed) → with_front [] (classes_of ls) ≡ classes_of ls
unfolding with_front
classes_begin ls = go (classes_of ls)
  where
    go : (r : Result (List ClassInfo) ℕ) → with_front [] r ≡ r
    go (Ok xs) = refl
    go (Err line) = refl

pub classes_next : (ls : List Listed) (i : ℕ) (l : Listed) (front new : List ClassInfo) (one : ClassInfo) (total : Result (List ClassInfo) ℕ) → i < length ls → l ≡ get_or ls i l
    → class_of l ≡ Ok one → with_front front (classes_of (drop i ls)) ≡ total → new ≡ front ++ one ∷ [] → with_front new (classes_of (drop (i + 1) ls)) ≡ total
unfolding classes_of
classes_next ls i l front new one total lt is made so_far grown =
    let rest = classes_of (drop (i + 1) ls) in
    ap (λ (xs : List ClassInfo). with_front xs rest) grown ∙ sym (one_more front one rest) ∙ sym (ap (λ (r : Result ClassInfo ℕ). with_front front (first_then r rest)) made)
    ∙ ap (λ (ns : List Listed). with_front front (classes_of ns)) (sym (cut ls i l lt is)) ∙ so_far

pub classes_end : (e : AsmFault) (ls : List Listed) (i : ℕ) (l : Listed) (front : List ClassInfo) (total : Result (List ClassInfo) ℕ) → i < length ls → l ≡ get_or ls i l
    → Fails e (class_of l) → with_front front (classes_of (drop i ls)) ≡ total → Fails e total
unfolding classes_of
classes_end e ls i l front total lt is fails so_far =
    let whole : with_front front (classes_of (l ∷ drop (i + 1) ls)) ≡ total = ap (λ (ns : List Listed). with_front front (classes_of ns)) (sym (cut ls i l lt is)) ∙ so_far in
    subst (λ (t : Result (List ClassInfo) ℕ). Fails e t) whole (front_fails e front (class_of l) (classes_of (drop (i + 1) ls)) fails)

pub classes_done : (ls : List Listed) (i : ℕ) (front : List ClassInfo) (total : Result (List ClassInfo) ℕ) → length ls ≤ i → with_front front (classes_of (drop i ls)) ≡ total → total ≡ Ok front
unfolding classes_of with_front
classes_done ls i front total le so_far =
    sym so_far ∙ ap (λ (ns : List Listed). with_front front (classes_of ns)) (drop_all i ls le) ∙ ap (λ (xs : List ClassInfo). Ok xs) (append-nil front)

pub ruleset classes = (classes_begin, classes_next, classes_end, classes_done)
