-- The table of first places, after one node more.
use Rattle.std.proofs.Common.{◌≡◌, ℕ, ◌+◌, ◌<◌, ◌≤◌, Bool, true, false, true≢false, ◌&&◌, cond, eqb, nat_eq, List, [], ◌∷◌, ◌++◌, length, Option, Some, None, refl, sym, ap, subst, ◌∙◌, arith, inl, inr, ◌⊎◌}
use Rattle.std.specs.Prelude.{position, is_some, not}
use Rattle.std.specs.List.{position_or_len}
use Rattle.std.specs.Map.{lookup}
use Rattle.std.proofs.lemmas.Bool.{cases_lt, lt-ltb, le-ltb, ne_eqb, eq-eqb}
use Rattle.std.proofs.lemmas.List.{length-append}
use Rattle.std.proofs.lemmas.List.Folds.{position_or_len_push}
use Rattle.std.proofs.lemmas.List.Sums.{prefix_len-le-length}
use Rattle.indexmap.specs.IndexMap.{IndexMap, get_by, Updates}
use Rattle.wf_rows.specs.contracts.node.OwnPartialEq.TheImpl.{eq-value}
use Rattle.wf_rows.specs.declared.node.Own.{Own}
use Rattle.wf_rows.specs.declared.node.Own.TheVariants.{Result, Refined, Block, Merged, Caught, Links}
use Rattle.wf_own.specs.OwnNumbers.{same_own}
use Rattle.wf_own.specs.Places.{ArePlaces}
use Rattle.wf_own.proofs.NumberLaws.{own_is, same_itself}

and_regroup : (a b c : Bool) → (a && (b && c)) ≡ ((a && b) && c)
and_regroup true b c = refl
and_regroup false b c = refl

-- the test that the code makes is the one that is defined
pub one_test : (a b : Own) → (eq-value).it a b ≡ same_own a b
one_test (Result p) (Result q) = refl
one_test (Refined p e o) (Refined q f r) = and_regroup (nat_eq p q) (nat_eq e f) (nat_eq o r)
one_test (Block p) (Block q) = refl
one_test (Merged p i) (Merged q j) = refl
one_test (Caught e) (Caught f) = refl
one_test (Links p) (Links q) = refl
one_test a b = refl

one_lookup : {K X : Type 0} (p q : K → Bool) (es : List (K × X)) → ((k : K) → p k ≡ q k) → lookup p es ≡ lookup q es
one_lookup p q [] h = refl
one_lookup {K} {X} p q (e ∷ es) h = ap {B = Option X} (λ (b : Bool). cond b (Some e.1) (lookup p es)) (h e.0) ∙ ap {B = Option X} (λ (r : Option X). cond (q e.0) (Some e.1) r) (one_lookup p q es h)

-- what the code finds is what the definition finds
pub found_same : {S : Type 0} (places : IndexMap Own ℕ S) (own : Own) → get_by ((eq-value).it own) places ≡ get_by (same_own own) places
found_same places own = one_lookup ((eq-value).it own) (same_own own) places.entries (one_test own)

-- ---- the first place in a list with one element more

at_place : {X : Type 0} (p : X → Bool) (xs : List X) (i : ℕ) → position_or_len p xs ≡ i → i < length xs → position p xs ≡ Some i
at_place p xs i e l = ap (λ (b : Bool). cond b (Some (position_or_len p xs)) None) (lt-ltb (position_or_len p xs) (length xs) (omega (arith, e, l))) ∙ ap Some e

at_none : {X : Type 0} (p : X → Bool) (xs : List X) → length xs ≤ position_or_len p xs → position p xs ≡ None
at_none p xs l = ap (λ (b : Bool). cond b (Some (position_or_len p xs)) None) (le-ltb (position_or_len p xs) (length xs) l)

record Pushed {X : Type 0} (p : X → Bool) (xs : List X) (y : X) : Type 0 where
  -- an element that is there keeps its place
  kept : (i : ℕ) → position p xs ≡ Some i → position p (xs ++ y ∷ []) ≡ Some i
  -- the new element has the last place
  last : position p xs ≡ None → p y ≡ true → position p (xs ++ y ∷ []) ≡ Some (length xs)
  -- one that doesn't pass changes nothing
  other : p y ≡ false → position p (xs ++ y ∷ []) ≡ position p xs

pushed : {X : Type 0} (p : X → Bool) (xs : List X) (y : X) → Pushed p xs y
pushed {X} p xs y = at (cases_lt (position_or_len p xs) (length xs)) where
  more : length (xs ++ y ∷ []) ≡ length xs + 1
  more = length-append xs (y ∷ [])

  at : ((position_or_len p xs < length xs) ⊎ (length xs ≤ position_or_len p xs)) → Pushed p xs y
  at (inl l) =
      let old : position p xs ≡ Some (position_or_len p xs) = at_place p xs (position_or_len p xs) refl l in
      let apart : eqb (position_or_len p xs) (length xs) ≡ false = ne_eqb (position_or_len p xs) (length xs) (λ e. absurd (omega (arith, e, l))) in
      let stays : position_or_len p (xs ++ y ∷ []) ≡ position_or_len p xs = position_or_len_push p xs y ∙ ap (λ (b : Bool). cond b (length xs + cond (p y) 0 1) (position_or_len p xs)) apart in
      let new : position p (xs ++ y ∷ []) ≡ Some (position_or_len p xs) = at_place p (xs ++ y ∷ []) (position_or_len p xs) stays (omega (arith, more, l)) in
      record { kept = λ i e. new ∙ sym old ∙ e; last = λ e t. absurd (let both = sym old ∙ e in cc); other = λ f. new ∙ sym old }
  at (inr l) =
      let old : position p xs ≡ None = at_none p xs l in
      let end : position_or_len p xs ≡ length xs = omega (arith, l, prefix_len-le-length (λ x. not (p x)) xs) in
      let ends : position_or_len p (xs ++ y ∷ []) ≡ length xs + cond (p y) 0 1 = position_or_len_push p xs y ∙ ap (λ (b : Bool). cond b (length xs + cond (p y) 0 1) (position_or_len p xs)) (eq-eqb (position_or_len p xs) (length xs) end) in
      record {
        kept = λ i e. absurd (let both = sym old ∙ e in cc);
        last = λ e t. (let none = ap {B = ℕ} (λ (b : Bool). cond b 0 1) t in at_place p (xs ++ y ∷ []) (length xs) (omega (arith, ends, none)) (omega (arith, more)));
        other = λ f. (let one = ap {B = ℕ} (λ (b : Bool). cond b 0 1) f in at_none p (xs ++ y ∷ []) (omega (arith, ends, one, more)) ∙ sym old);
      }

-- ---- the table

same_turned : (a b : Own) → same_own a b ≡ true → same_own b a ≡ true
same_turned a b e = ap (λ (x : Own). same_own b x) (own_is a b e) ∙ same_itself b

-- a test is true or false
of_test : (b : Bool) → (b ≡ true) ⊎ (b ≡ false)
of_test true = inl refl
of_test false = inr refl

-- a node that is there already has its place
pub there_noted : {S : Type 0} (places : IndexMap Own ℕ S) (nodes : List Own) (own : Own) → is_some (get_by ((eq-value).it own) places) ≡ true → ArePlaces places nodes → ArePlaces places (nodes ++ own ∷ [])
there_noted places nodes own e h other = at (of_test (same_own other own)) where
  found : is_some (position (same_own own) nodes) ≡ true
  found = ap is_some (sym (h own) ∙ sym (found_same places own)) ∙ e

  stays : (r : Option ℕ) → position (same_own own) nodes ≡ r → is_some r ≡ true → position (same_own own) (nodes ++ own ∷ []) ≡ position (same_own own) nodes
  stays (Some i) is t = (pushed (same_own own) nodes own).kept i is ∙ sym is
  stays None is t = absurd (true≢false (sym t))

  at : ((same_own other own ≡ true) ⊎ (same_own other own ≡ false)) → get_by (same_own other) places ≡ position (same_own other) (nodes ++ own ∷ [])
  at (inl t) = subst (λ (x : Own). get_by (same_own x) places ≡ position (same_own x) (nodes ++ own ∷ [])) (sym (own_is other own t)) (h own ∙ sym (stays (position (same_own own) nodes) refl found))
  at (inr f) = h other ∙ sym ((pushed (same_own other) nodes own).other f)

-- a node that is new gets the last place
pub new_noted : {S : Type 0} (old new : IndexMap Own ℕ S) (nodes : List Own) (own : Own) (place : ℕ) → is_some (get_by ((eq-value).it own) old) ≡ false → Updates (eq-value).it old new own (Some place) → length nodes ≡ place → ArePlaces old nodes → ArePlaces new (nodes ++ own ∷ [])
new_noted old new nodes own place e u n h other = at (of_test (same_own other own)) where
  absent : is_some (position (same_own own) nodes) ≡ false
  absent = ap is_some (sym (h own) ∙ sym (found_same old own)) ∙ e

  none : (r : Option ℕ) → position (same_own own) nodes ≡ r → is_some r ≡ false → position (same_own own) nodes ≡ None
  none (Some i) is f = absurd (true≢false f)
  none None is f = is

  turned : ((same_own own other ≡ true) ⊎ (same_own own other ≡ false)) → same_own other own ≡ false → same_own own other ≡ false
  turned (inl t) f = absurd (true≢false (sym (same_turned own other t) ∙ f))
  turned (inr g) f = g

  at : ((same_own other own ≡ true) ⊎ (same_own other own ≡ false)) → get_by (same_own other) new ≡ position (same_own other) (nodes ++ own ∷ [])
  at (inl t) = subst (λ (x : Own). get_by (same_own x) new ≡ position (same_own x) (nodes ++ own ∷ [])) (sym (own_is other own t))
      (sym (found_same new own) ∙ u.1 ∙ ap Some (sym n) ∙ sym ((pushed (same_own own) nodes own).last (none (position (same_own own) nodes) refl absent) (same_itself own)))
  at (inr f) =
      let apart : same_own own other ≡ false = turned (of_test (same_own own other)) f in
      sym (found_same new other) ∙ u.2 other (one_test own other ∙ apart) ∙ found_same old other ∙ h other ∙ sym ((pushed (same_own other) nodes own).other f)
