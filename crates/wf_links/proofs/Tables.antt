-- Tables of candidates.
use Rattle.std.proofs.Common.{◌≡◌, ℕ, zero, suc, ◌+◌, ◌<◌, ◌≤◌, Bool, true, false, List, [], ◌∷◌, ◌++◌, length, take, get_or, Contains, Option, Some, None, refl, sym, ap, subst, ◌∙◌, arith, inl, inr, ◌⊎◌}
use Rattle.std.specs.Prelude.{slice_get, slice_index_or, option_and_then, ◌==◌, if◌then◌else◌}
use Rattle.std.specs.List.{AllZip}
use Rattle.std.specs.declared.cmp.Ordering.TheVariants.{Less, Greater}
use Rattle.std.specs.Cmp.{nat_cmp_total}
use Rattle.std.specs.Ordering.{ordering_reverse}
use Rattle.std.proofs.lemmas.Bool.{cases_lt}
use Rattle.std.proofs.lemmas.List.{take_more}
use Rattle.std.proofs.lemmas.Option.{slice_get_within, same_Some, get_or_from_slice_get}
use Rattle.std.proofs.lemmas.Map.Keys.{Less-from_sorted}
use Rattle.wf_base.specs.declared.ids.MethodId.{MethodId}
use Rattle.wf_subtype.specs.Subtypes.{AllTypes}
use Rattle.wf_system.specs.declared.pick.Pick.{Pick}
use Rattle.wf_system.specs.Sides.{pick_of, Ascends}
use Rattle.wf_links.specs.declared.callee.Callee.{Callee}
use Rattle.wf_links.specs.declared.picking.Chosen.{Chosen}
use Rattle.wf_links.specs.Candidates.{IsSelectedBy, AreChosen, AreMethodsOf, AreTableOf, AreTables, IsPickOf, IsPicked, IsTable, IsTableIfAny, AreAscending, candidate_of, chosen_of, method_cmp}
use Rattle.wf_links.proofs.Choosing.{same_number, other_number}

-- methods that ascend stand at one place each
one_place : (list : List MethodId) → AreAscending list → (i j : ℕ) (m : MethodId) → slice_get list i ≡ Some m → slice_get list j ≡ Some m → i ≡ j
one_place list up i j m e f = at (cases_lt i j) (cases_lt j i) where
  less : (k l : ℕ) → k < l → slice_get list k ≡ Some m → slice_get list l ≡ Some m → ⊥
  less k l lt a b =
      let within = slice_get_within list l m b in
      let at_k : get_or list k m ≡ m = get_or_from_slice_get list k m m a in
      let at_l : get_or list l m ≡ m = get_or_from_slice_get list l m m b in
      let below : method_cmp (get_or list k m) (get_or list l m) ≡ Less = Less-from_sorted method_cmp list k l m up lt within in
      let self : method_cmp m m ≡ Less = ap (λ x. method_cmp x m) (sym at_k) ∙ ap (λ x. method_cmp (get_or list k m) x) (sym at_l) ∙ below in
      let bad : Less ≡ Greater = sym self ∙ nat_cmp_total.antisymm m.0 m.0 ∙ ap ordering_reverse self in
      absurd cc

  at : ((i < j) ⊎ (j ≤ i)) → ((j < i) ⊎ (i ≤ j)) → i ≡ j
  at (inl a) other = absurd (less i j a e f)
  at (inr a) (inl b) = absurd (less j i b f e)
  at (inr a) (inr b) = omega arith

pub no_tables : (types : AllTypes) → AreTables types [] [] []
no_tables types = tt

tables_push : (types : AllTypes) (callees : List (Option Callee)) (lists : List (List MethodId)) (tables : List (List Pick)) (callee : Option Callee) (list : List MethodId) (table : List Pick)
    → AreTables types callees lists tables → IsTableIfAny types callee list table → AreTables types (callees ++ callee ∷ []) (lists ++ list ∷ []) (tables ++ table ∷ [])
tables_push types [] [] [] callee list table h t = (t, tt)
tables_push types [] [] (x ∷ tables) callee list table h t = absurd h
tables_push types [] (x ∷ lists) tables callee list table h t = absurd h
tables_push types (x ∷ callees) [] tables callee list table h t = absurd h
tables_push types (x ∷ callees) (y ∷ lists) [] callee list table h t = absurd h
tables_push types (x ∷ callees) (y ∷ lists) (z ∷ tables) callee list table h t = (h.0, tables_push types callees lists tables callee list table h.1 t)

-- one more
pub tables_on : (types : AllTypes) (callees : List (Option Callee)) (lists : List (List MethodId)) (tables : List (List Pick)) (i : ℕ) (callee : Option Callee) (list : List MethodId) (table : List Pick)
    → i < length callees → callee ≡ get_or callees i callee → AreTables types (take i callees) lists tables → IsTableIfAny types callee list table
    → AreTables types (take (i + 1) callees) (lists ++ list ∷ []) (tables ++ table ∷ [])
tables_on types callees lists tables i callee list table l e h t =
    subst (λ cs. AreTables types cs (lists ++ list ∷ []) (tables ++ table ∷ [])) (sym (take_more callees i callee l ∙ ap (λ z. take i callees ++ z ∷ []) (sym e)))
    (tables_push types (take i callees) lists tables callee list table h t)

-- ---- what a table says

-- a type picks the candidate that it selects
candidate_is : (candidates : List MethodId) (chosen : List Chosen) (table : List Pick) (t : ℕ) → AreTableOf candidates chosen table → candidate_of candidates table t ≡ chosen_of chosen t
candidate_is candidates [] [] t h = refl
candidate_is candidates [] (p ∷ ps) t h = absurd h
candidate_is candidates (c ∷ cs) [] t h = absurd h
candidate_is candidates (c ∷ cs) (p ∷ ps) t h = at (c.t.0 == t) refl (candidate_is candidates cs ps t h.1) where
  same : (p.t.0 == t) ≡ (c.t.0 == t)
  same = ap (λ x. x.0 == t) h.0.type

  at : (b : Bool) → (c.t.0 == t) ≡ b → candidate_of candidates ps t ≡ chosen_of cs t → candidate_of candidates (p ∷ ps) t ≡ chosen_of (c ∷ cs) t
  at true e on =
      ap (λ b. option_and_then (slice_get candidates) (if b then Some p.candidate else pick_of ps t)) (same ∙ e)
      ∙ h.0.there ∙ sym (ap (λ b. if b then Some c.method else chosen_of cs t) e)
  at false e on =
      ap (λ b. option_and_then (slice_get candidates) (if b then Some p.candidate else pick_of ps t)) (same ∙ e)
      ∙ on ∙ sym (ap (λ b. if b then Some c.method else chosen_of cs t) e)

-- what is picked is a candidate
picked_inside : (candidates : List MethodId) (chosen : List Chosen) (table : List Pick) (t place : ℕ) → AreTableOf candidates chosen table → pick_of table t ≡ Some place → place < length candidates
picked_inside candidates [] [] t place h e = absurd cc
picked_inside candidates [] (p ∷ ps) t place h e = absurd h
picked_inside candidates (c ∷ cs) [] t place h e = absurd h
picked_inside candidates (c ∷ cs) (p ∷ ps) t place h e = at (p.t.0 == t) refl (λ f. picked_inside candidates cs ps t place h.1 f) where
  at : (b : Bool) → (p.t.0 == t) ≡ b → (pick_of ps t ≡ Some place → place < length candidates) → place < length candidates
  at true f on =
      let same : p.candidate ≡ place = same_Some p.candidate place (sym (ap (λ b. if b then Some p.candidate else pick_of ps t) f) ∙ e) in
      subst (λ k. k < length candidates) same (slice_get_within candidates p.candidate c.method h.0.there)
  at false f on = on (sym (ap (λ b. if b then Some p.candidate else pick_of ps t) f) ∙ e)

pub zip_get : {A B : Type 0} (R : A → B → Type 0) (xs : List A) (ys : List B) (i : ℕ) (d : A) (e : B) → AllZip R xs ys → i < length ys → R (slice_index_or xs i d) (slice_index_or ys i e)
zip_get R [] [] i d e h l = absurd (omega arith)
zip_get R [] (y ∷ ys) i d e h l = absurd h
zip_get R (x ∷ xs) [] i d e h l = absurd h
zip_get R (x ∷ xs) (y ∷ ys) zero d e h l = h.0
zip_get R (x ∷ xs) (y ∷ ys) (suc i) d e h l = zip_get R xs ys i d e h.1 (omega arith)

pub zip_length : {A B : Type 0} (R : A → B → Type 0) (xs : List A) (ys : List B) → AllZip R xs ys → length ys ≡ length xs
zip_length R [] [] h = refl
zip_length R [] (y ∷ ys) h = absurd h
zip_length R (x ∷ xs) [] h = absurd h
zip_length R (x ∷ xs) (y ∷ ys) h = ap suc (zip_length R xs ys h.1)

get_some : {X : Type 0} (xs : List X) (i : ℕ) (d : X) → i < length xs → slice_get xs i ≡ Some (slice_index_or xs i d)
get_some [] i d l = absurd (omega arith)
get_some (x ∷ xs) zero d l = refl
get_some (x ∷ xs) (suc i) d l = get_some xs i d (omega arith)

pub some_of : {X : Type 0} (xs : List X) (i : ℕ) → i < length xs → X
some_of [] i l = absurd (omega arith)
some_of (x ∷ xs) i l = x

contains_get : {X : Type 0} (xs : List X) (i : ℕ) (x : X) → slice_get xs i ≡ Some x → Contains xs x
contains_get xs i x e = (i, slice_get_within xs i x e, same_Some _ x (sym (get_some xs i x (slice_get_within xs i x e)) ∙ e))

-- types ascend in the table as they did when they were chosen
table_ascends : (candidates : List MethodId) (chosen : List Chosen) (table : List Pick) → AreTableOf candidates chosen table
    → ((i j : ℕ) (a b : Chosen) → i < j → slice_get chosen i ≡ Some a → slice_get chosen j ≡ Some b → a.t.0 < b.t.0) → Ascends table
table_ascends candidates chosen table h up = record { each = λ i j d l m. at i j d l m } where
  long : length table ≡ length chosen
  long = zip_length (IsPickOf candidates) chosen table h

  at : (i j : ℕ) (d : Pick) → i < j → j < length table → (slice_index_or table i d).t.0 < (slice_index_or table j d).t.0
  at i j d l m =
      let c = some_of chosen j (omega (arith, m, long)) in
      let a = slice_index_or chosen i c in
      let b = slice_index_or chosen j c in
      let less = up i j a b l (get_some chosen i c (omega (arith, l, m, long))) (get_some chosen j c (omega (arith, m, long))) in
      let first = ap (λ x. x.0) (zip_get (IsPickOf candidates) chosen table i c d h (omega (arith, l, m))).type in
      let second = ap (λ x. x.0) (zip_get (IsPickOf candidates) chosen table j c d h m).type in
      omega (arith, less, first, second)

-- an entry of a list whose types ascend is the first of its type
chosen_first : (chosen : List Chosen) (i : ℕ) (c : Chosen) → ((i j : ℕ) (a b : Chosen) → i < j → slice_get chosen i ≡ Some a → slice_get chosen j ≡ Some b → a.t.0 < b.t.0)
    → slice_get chosen i ≡ Some c → chosen_of chosen c.t.0 ≡ Some c.method
chosen_first [] i c up e = absurd cc
chosen_first (x ∷ xs) zero c up e =
    let same : x ≡ c = same_Some x c e in
    subst (λ (y : Chosen). (if x.t.0 == y.t.0 then Some x.method else chosen_of xs y.t.0) ≡ Some y.method) same (ap (λ b. if b then Some x.method else chosen_of xs x.t.0) (same_number x.t.0))
chosen_first (x ∷ xs) (suc i) c up e =
    let less : x.t.0 < c.t.0 = up 0 (suc i) x c (omega arith) refl e in
    ap (λ b. if b then Some x.method else chosen_of xs c.t.0) (other_number x.t.0 c.t.0 (λ f. omega (arith, f, less)))
    ∙ chosen_first xs i c (λ j k a b l f g. up (suc j) (suc k) a b (omega arith) f g) e

-- a type beyond all is no receiver
beyond : (types : AllTypes) (callee : Callee) (t : ℕ) → length types.names < t → IsSelectedBy types callee t None
beyond types callee t l = record { receiver = λ r. absurd (let there = r.there in omega arith); other = λ u. refl }

-- what is picked is at the place that it picks
picked_of : (candidates : List MethodId) (picked : Option ℕ) (m : MethodId) → option_and_then (slice_get candidates) picked ≡ Some m → (place : ℕ) × (picked ≡ Some place) × (slice_get candidates place ≡ Some m)
picked_of candidates None m e = absurd cc
picked_of candidates (Some place) m e = (place, refl, e)

-- the table of what is called
pub table_is : (types : AllTypes) (callee : Callee) (candidates : List MethodId) (chosen : List Chosen) (table : List Pick)
    → AreChosen types callee (length types.names) chosen → AreMethodsOf chosen candidates → AreTableOf candidates chosen table → IsTable types callee candidates table
table_is types callee candidates chosen table h m t = record {
  ascending = m.ascending;
  some = λ place l. some place l;
  ordered = table_ascends candidates chosen table t h.ascending;
  inside = λ u place e. picked_inside candidates chosen table u place t e;
  each = λ u. subst (IsSelectedBy types callee u) (sym (candidate_is candidates chosen table u t)) (at u (cases_lt (length types.names) u));
} where
  at : (u : ℕ) → ((length types.names < u) ⊎ (u ≤ length types.names)) → IsSelectedBy types callee u (chosen_of chosen u)
  at u (inr l) = h.each u l
  at u (inl l) = subst (IsSelectedBy types callee u) (sym (h.rest u l)) (beyond types callee u l)

  some : (place : ℕ) → place < length candidates → IsPicked table place
  some place l =
      let d = some_of candidates place l in
      let n = slice_index_or candidates place d in
      let here : slice_get candidates place ≡ Some n = get_some candidates place d l in
      let by = m.only n (contains_get candidates place n here) in
      let c = by.1 in
      let chose : chosen_of chosen c.t.0 ≡ Some c.method = chosen_first chosen by.0 c h.ascending by.2 in
      let picks = picked_of candidates (pick_of table c.t.0) n (candidate_is candidates chosen table c.t.0 t ∙ chose ∙ ap Some by.3) in
      record { type = c.t.0; picks = picks.1 ∙ ap Some (one_place candidates m.ascending picks.0 place n picks.2 here) }
