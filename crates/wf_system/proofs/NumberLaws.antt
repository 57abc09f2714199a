-- A least solution by numbers is one by names.
use Rattle.std.proofs.Common.{◌≡◌, ℕ, zero, suc, ◌-◌, true, not, ◌&&◌, inr, Option, Some, None, option_map, bit_or, refl, sym, ap, ◌∙◌, subst, subst₂}
use Rattle.wf_lattice.specs.declared.view.Nulls.TheVariants.{Keep, Drop}
use Rattle.wf_lattice.specs.Words.{has_bit, has_type, is_empty, types_of, both, one_word, nothing}
use Rattle.wf_lattice.specs.Ints.{constant_word, refined_word, not_among_word}
use Rattle.wf_lattice.specs.Order.{Receives}
use Rattle.wf_lattice.specs.Meaning.{means}
use Rattle.wf_lattice.specs.Filters.{filtered, no_null, only_null, equal_refs, unequal_refs, all_under, some_under, tested_word, null_word}
use Rattle.wf_system.specs.declared.inequality.Guard.{Guard}
use Rattle.wf_system.specs.declared.inequality.Guard.TheVariants.{Always, NonEmpty, HasType, HasUnder, Linked}
use Rattle.wf_system.specs.declared.inequality.ValueOp.{ValueOp}
use Rattle.wf_system.specs.declared.inequality.ValueOp.TheVariants.{Token, IntIs, AnyInt, AnyLong, NullRef, OneType, Copy, IntRefine, IntRefineBy, NotIn, RefEq, RefNe, OnlyNull, NoNull, Under, AllUnder, SomeUnder, Picked, Picks, Tested, ElementsOf, IfHolds, IfNull}
use Rattle.wf_system.specs.declared.inequality.Inequality.{Inequality}
use Rattle.wf_system.specs.Rows.{row_where}
use Rattle.wf_system.specs.System.{Tables, ref_words, AtLeast, guard_holds, meaning_has, one_type, row_if, is_candidate, picked_mask, some_type, picked_row, elem_row, elements_below, given, IsMet, Solves, Least}
use Rattle.wf_system.specs.Numbers.{Numbering, two, renamed_guard, renamed_value, IsRenamed, NumberedRow, NamedRow, SameElem, SameTables, at_number, by_name, by_number}

-- an option that is mapped to something is something
pub record Mapped {K A : Type 0} (f : K → A) (o : Option K) (a : A) : Type 0 where
  pub at : K
  pub is : o ≡ Some at
  pub gives : f at ≡ a

some_one : {A : Type 0} (a b : A) → Some a ≡ Some b → a ≡ b
some_one a b e = cc

mapped : {K A : Type 0} (f : K → A) (o : Option K) (a : A) → option_map f o ≡ Some a → Mapped f o a
mapped f None a e = absurd cc
mapped f (Some k) a e = record { at = k; is = refl; gives = some_one (f k) a e }

pub record MappedTwo {K A : Type 0} (f : K → K → A) (o p : Option K) (a : A) : Type 0 where
  pub first : K
  pub second : K
  pub first_is : o ≡ Some first
  pub second_is : p ≡ Some second
  pub gives : f first second ≡ a

mapped_two : {K A : Type 0} (f : K → K → A) (o p : Option K) (a : A) → two f o p ≡ Some a → MappedTwo f o p a
mapped_two f None p a e = absurd cc
mapped_two f (Some i) None a e = absurd cc
mapped_two f (Some i) (Some j) a e = record { first = i; second = j; first_is = refl; second_is = refl; gives = some_one (f i j) a e }

module _ {N K : Type 0} (number : N → Option K) (t : Tables N) (u : Tables K) (alike : SameTables number t u) (y : N → ℕ → ℕ) (x : K → ℕ → ℕ) (agree : (n : N) (k : K) → number n ≡ Some k → y n ≡ x k) where
  words_alike : ref_words t ≡ ref_words u
  words_alike = alike.words t.inst u.inst alike.inst

  inst_alike : y t.inst ≡ x u.inst
  inst_alike = agree t.inst u.inst alike.inst

  guard_alike : (g : Guard N) (h : Guard K) → renamed_guard number g ≡ Some h → guard_holds t g y ≡ guard_holds u h x
  guard_alike Always h e = ap (λ (o : Guard K). guard_holds u o x) (some_one Always h e)
  guard_alike (NonEmpty n) h e =
      let m : Mapped (λ (k : K). NonEmpty k) (number n) h = mapped (λ (k : K). NonEmpty k) (number n) h e in
      (λ i. not (is_empty (alike.words n m.at m.is i) (agree n m.at m.is i))) ∙ ap (λ (o : Guard K). guard_holds u o x) m.gives
  guard_alike (HasType c) h e = (λ i. has_type (inst_alike i) c.0) ∙ ap (λ (o : Guard K). guard_holds u o x) (some_one (HasType c) h e)
  guard_alike (HasUnder c) h e = (λ i. not (is_empty (words_alike i) (both (types_of (inst_alike i)) (alike.mask i c.0)))) ∙ ap (λ (o : Guard K). guard_holds u o x) (some_one (HasUnder c) h e)
  guard_alike (Linked n j) h e =
      let m : Mapped (λ (k : K). Linked k j) (number n) h = mapped (λ (k : K). Linked k j) (number n) h e in
      (λ i. has_bit (agree n m.at m.is i) j) ∙ ap (λ (o : Guard K). guard_holds u o x) m.gives

  meaning_alike : (n : N) (k : K) → number n ≡ Some k → (c : ℕ) → meaning_has t y n c ≡ meaning_has u x k c
  meaning_alike n k e c = λ i. means (alike.most i) (words_alike i) (agree n k e i) (inst_alike i) c

  elem_alike : (o : Option N) (p : Option K) → SameElem number o p → elem_row y o ≡ elem_row x p
  elem_alike None p e = ap (elem_row x) (sym e)
  elem_alike (Some n) None e = absurd e.1
  elem_alike (Some n) (Some k) e = agree n k e.0

  elements_alike : (n : N) (k : K) → number n ≡ Some k → (c : ℕ) → elements_below t y n c ≡ elements_below u x k c
  elements_alike n k e zero = refl
  elements_alike n k e (suc c) = λ i. λ (w : ℕ). bit_or (elements_alike n k e c i w) (row_if (meaning_alike n k e c i) (elem_alike (t.elem c) (u.elem c) (alike.elem c) i) w)

  picked_alike : (site j : ℕ) → picked_mask t site j ≡ picked_mask u site j
  picked_alike site j = λ i. row_where (λ (b : ℕ). is_candidate (alike.picks i site (b - 1)) j)

  picks_alike : (n : N) (k : K) → number n ≡ Some k → (site : ℕ) → picked_row t y n site ≡ picked_row u x k site
  picks_alike n k e site = λ i. row_where (λ (j : ℕ). some_type (alike.types i) (λ (c : ℕ). meaning_alike n k e c i && is_candidate (alike.picks i site c) j))

  value_alike : (v : ValueOp N) (w : ValueOp K) (to : N) (l : K) → renamed_value number v ≡ Some w → number to ≡ Some l → given t v y to ≡ given u w x l
  value_alike Token w to l e f = ap (λ (o : ValueOp K). given u o x l) (some_one Token w e)
  value_alike (IntIs c) w to l e f = ap (λ (o : ValueOp K). given u o x l) (some_one (IntIs c) w e)
  value_alike AnyInt w to l e f = ap (λ (o : ValueOp K). given u o x l) (some_one AnyInt w e)
  value_alike AnyLong w to l e f = ap (λ (o : ValueOp K). given u o x l) (some_one AnyLong w e)
  value_alike NullRef w to l e f = ap (λ (o : ValueOp K). given u o x l) (some_one NullRef w e)
  value_alike (OneType c) w to l e f = (λ i. one_type (alike.kind to l f i) c.0 (inst_alike i)) ∙ ap (λ (o : ValueOp K). given u o x l) (some_one (OneType c) w e)
  value_alike (Copy a) w to l e f =
      let m : Mapped (λ (k : K). Copy k) (number a) w = mapped (λ (k : K). Copy k) (number a) w e in
      (λ i. agree a m.at m.is i) ∙ ap (λ (o : ValueOp K). given u o x l) m.gives
  value_alike (IntRefine cmp a b) w to l e f =
      let m : MappedTwo (λ (k j : K). IntRefine cmp k j) (number a) (number b) w = mapped_two (λ (k j : K). IntRefine cmp k j) (number a) (number b) w e in
      (λ i. one_word (refined_word cmp (agree a m.first m.first_is i 0) (agree b m.second m.second_is i 0))) ∙ ap (λ (o : ValueOp K). given u o x l) m.gives
  value_alike (IntRefineBy cmp a c) w to l e f =
      let m : Mapped (λ (k : K). IntRefineBy cmp k c) (number a) w = mapped (λ (k : K). IntRefineBy cmp k c) (number a) w e in
      (λ i. one_word (refined_word cmp (agree a m.at m.is i 0) (constant_word c))) ∙ ap (λ (o : ValueOp K). given u o x l) m.gives
  value_alike (NotIn a place) w to l e f =
      let m : Mapped (λ (k : K). NotIn k place) (number a) w = mapped (λ (k : K). NotIn k place) (number a) w e in
      (λ i. one_word (not_among_word (alike.keys i place) (agree a m.at m.is i 0))) ∙ ap (λ (o : ValueOp K). given u o x l) m.gives
  value_alike (RefEq a b) w to l e f =
      let m : MappedTwo (λ (k j : K). RefEq k j) (number a) (number b) w = mapped_two (λ (k j : K). RefEq k j) (number a) (number b) w e in
      (λ i. equal_refs (alike.most i) (words_alike i) (agree a m.first m.first_is i) (agree b m.second m.second_is i) (inst_alike i)) ∙ ap (λ (o : ValueOp K). given u o x l) m.gives
  value_alike (RefNe a b) w to l e f =
      let m : MappedTwo (λ (k j : K). RefNe k j) (number a) (number b) w = mapped_two (λ (k j : K). RefNe k j) (number a) (number b) w e in
      (λ i. unequal_refs (alike.most i) (words_alike i) (agree a m.first m.first_is i) (agree b m.second m.second_is i) (inst_alike i)) ∙ ap (λ (o : ValueOp K). given u o x l) m.gives
  value_alike (OnlyNull a) w to l e f =
      let m : Mapped (λ (k : K). OnlyNull k) (number a) w = mapped (λ (k : K). OnlyNull k) (number a) w e in
      (λ i. only_null (alike.most i) (words_alike i) (agree a m.at m.is i)) ∙ ap (λ (o : ValueOp K). given u o x l) m.gives
  value_alike (NoNull a) w to l e f =
      let m : Mapped (λ (k : K). NoNull k) (number a) w = mapped (λ (k : K). NoNull k) (number a) w e in
      (λ i. no_null (alike.most i) (words_alike i) (agree a m.at m.is i) (inst_alike i)) ∙ ap (λ (o : ValueOp K). given u o x l) m.gives
  value_alike (Under a c) w to l e f =
      let m : Mapped (λ (k : K). Under k c) (number a) w = mapped (λ (k : K). Under k c) (number a) w e in
      (λ i. filtered (alike.most i) (words_alike i) (agree a m.at m.is i) (inst_alike i) (alike.mask i c.0) Keep) ∙ ap (λ (o : ValueOp K). given u o x l) m.gives
  value_alike (AllUnder c) w to l e f = (λ i. all_under (alike.most i) (words_alike i) (inst_alike i) (alike.mask i c.0)) ∙ ap (λ (o : ValueOp K). given u o x l) (some_one (AllUnder c) w e)
  value_alike (SomeUnder c) w to l e f = (λ i. some_under (alike.most i) (words_alike i) (inst_alike i) (alike.mask i c.0)) ∙ ap (λ (o : ValueOp K). given u o x l) (some_one (SomeUnder c) w e)
  value_alike (Picked a site j) w to l e f =
      let m : Mapped (λ (k : K). Picked k site j) (number a) w = mapped (λ (k : K). Picked k site j) (number a) w e in
      (λ i. filtered (alike.most i) (words_alike i) (agree a m.at m.is i) (inst_alike i) (picked_alike site j i) Drop) ∙ ap (λ (o : ValueOp K). given u o x l) m.gives
  value_alike (Picks a site) w to l e f =
      let m : Mapped (λ (k : K). Picks k site) (number a) w = mapped (λ (k : K). Picks k site) (number a) w e in
      picks_alike a m.at m.is site ∙ ap (λ (o : ValueOp K). given u o x l) m.gives
  value_alike (Tested a c) w to l e f =
      let m : Mapped (λ (k : K). Tested k c) (number a) w = mapped (λ (k : K). Tested k c) (number a) w e in
      (λ i. one_word (tested_word (alike.most i) (words_alike i) (agree a m.at m.is i) (inst_alike i) (alike.mask i c.0))) ∙ ap (λ (o : ValueOp K). given u o x l) m.gives
  value_alike (ElementsOf a) w to l e f =
      let m : Mapped (λ (k : K). ElementsOf k) (number a) w = mapped (λ (k : K). ElementsOf k) (number a) w e in
      (elements_alike a m.at m.is t.types ∙ ap (elements_below u x m.at) alike.types) ∙ ap (λ (o : ValueOp K). given u o x l) m.gives
  value_alike (IfHolds a c b d) w to l e f =
      let m : MappedTwo (λ (k j : K). IfHolds k c j d) (number a) (number b) w = mapped_two (λ (k j : K). IfHolds k c j d) (number a) (number b) w e in
      (λ i. row_if (meaning_alike a m.first m.first_is c.0 i) (filtered (alike.most i) (words_alike i) (agree b m.second m.second_is i) (inst_alike i) (alike.mask i d.0) Keep)) ∙ ap (λ (o : ValueOp K). given u o x l) m.gives
  value_alike (IfNull a) w to l e f =
      let m : Mapped (λ (k : K). IfNull k) (number a) w = mapped (λ (k : K). IfNull k) (number a) w e in
      (λ i. one_word (null_word (alike.most i) (words_alike i) (agree a m.at m.is i))) ∙ ap (λ (o : ValueOp K). given u o x l) m.gives

  at_least_alike : (n : N) (k : K) → number n ≡ Some k → (f g : ℕ → ℕ) → AtLeast t n f g ≡ AtLeast u k f g
  at_least_alike n k e f g = λ i. Receives (alike.most i) (alike.words n k e i) (alike.kind n k e i) f g

  -- an inequality is met by names exactly where it is by numbers
  met_alike : (q : Inequality N) (r : Inequality K) → IsRenamed number q r → IsMet t q y ≡ IsMet u r x
  met_alike q r e = λ i. (guard_alike q.guard r.guard e.guard i ≡ true)
      → Receives (alike.most i) (alike.words q.target r.target e.target i) (alike.kind q.target r.target e.target i) (value_alike q.value r.value q.target r.target e.value e.target i) (agree q.target r.target e.target i)

-- along an equality of facts
along : {P Q : Type 0} → P ≡ Q → P → Q
along e p = subst (λ (A : Type 0). A) e p

module _ {N K : Type 0} (b : Numbering N K) (t : Tables N) (u : Tables K) (alike : SameTables b.number t u) where
  named_agrees : (x : K → ℕ → ℕ) (n : N) (k : K) → b.number n ≡ Some k → by_name b.number x n ≡ x k
  named_agrees x n k e = ap (at_number x) e

  numbered_agrees : (z : N → ℕ → ℕ) (n : N) (k : K) → b.number n ≡ Some k → z n ≡ by_number b.name z k
  numbered_agrees z n k e = sym (ap (at_number z) (b.back n k e))

  module _ (System : Inequality N → Type 0) (seeds : N → ℕ → ℕ) (no_seeds : (n : N) → b.number n ≡ None → seeds n ≡ nothing) where
    solves_by_name : (x : K → ℕ → ℕ) → Solves u (NumberedRow b.number System) (by_number b.name seeds) x → Solves t (NamedRow b.number System) seeds (by_name b.number x)
    solves_by_name x s = record {
      above = λ n. above n (b.number n) refl;
      meets = λ q row. along (sym (met_alike b.number t u alike (by_name b.number x) x (named_agrees x) q row.numbered row.renamed))
          (s.meets row.numbered (record { row = q; there = row.there; renamed = row.renamed }));
    }
      where
        above : (n : N) (o : Option K) → b.number n ≡ o → AtLeast t n (seeds n) (by_name b.number x n)
        above n None e = subst (λ (f : ℕ → ℕ). AtLeast t n f (by_name b.number x n)) (sym (no_seeds n e)) (inr (record { each = λ k. refl }))
        above n (Some k) e = subst₂ (λ (f g : ℕ → ℕ). AtLeast t n f g) (sym (numbered_agrees seeds n k e)) (sym (named_agrees x n k e))
            (along (sym (at_least_alike b.number t u alike (by_name b.number x) x (named_agrees x) n k e (by_number b.name seeds k) (x k))) (s.above k))

    solves_by_number : (z : N → ℕ → ℕ) → Solves t (NamedRow b.number System) seeds z → Solves u (NumberedRow b.number System) (by_number b.name seeds) (by_number b.name z)
    solves_by_number z s = record {
      above = λ k. above k (b.name k) refl;
      meets = λ r row. along (met_alike b.number t u alike z (by_number b.name z) (numbered_agrees z) row.row r row.renamed)
          (s.meets row.row (record { there = row.there; numbered = r; renamed = row.renamed }));
    }
      where
        above : (k : K) (o : Option N) → b.name k ≡ o → AtLeast u k (by_number b.name seeds k) (by_number b.name z k)
        above k None e = subst (λ (f : ℕ → ℕ). AtLeast u k f (by_number b.name z k)) (sym (ap (at_number seeds) e)) (inr (record { each = λ w. refl }))
        above k (Some n) e = subst₂ (λ (f g : ℕ → ℕ). AtLeast u k f g) (numbered_agrees seeds n k (b.forth k n e)) (numbered_agrees z n k (b.forth k n e))
            (along (at_least_alike b.number t u alike z (by_number b.name z) (numbered_agrees z) n k (b.forth k n e) (seeds n) (z n)) (s.above n))

    -- a least solution by numbers is one by names
    pub least_by_name : (x : K → ℕ → ℕ)
        → Least u (NumberedRow b.number System) (by_number b.name seeds) x → Least t (NamedRow b.number System) seeds (by_name b.number x)
    least_by_name x l = record { solves = solves_by_name x l.solves; least = λ z s n. below z s n (b.number n) refl }
      where
        below : (z : N → ℕ → ℕ) → Solves t (NamedRow b.number System) seeds z → (n : N) (o : Option K) → b.number n ≡ o → AtLeast t n (by_name b.number x n) (z n)
        below z s n None e = subst (λ (f : ℕ → ℕ). AtLeast t n f (z n)) (sym (ap (at_number x) e)) (inr (record { each = λ w. refl }))
        below z s n (Some k) e = subst₂ (λ (f g : ℕ → ℕ). AtLeast t n f g) (sym (named_agrees x n k e)) (sym (numbered_agrees z n k e))
            (along (sym (at_least_alike b.number t u alike z (by_number b.name z) (numbered_agrees z) n k e (x k) (by_number b.name z k))) (l.least (by_number b.name z) (solves_by_number z s) k))

-- a least solution of some inequalities is one of the same in another list
solves_alike : {N : Type 0} (t : Tables N) (S T : Inequality N → Type 0) (seeds x : N → ℕ → ℕ) → ((q : Inequality N) → T q → S q) → Solves t S seeds x → Solves t T seeds x
solves_alike t S T seeds x back s = record { above = s.above; meets = λ q there. s.meets q (back q there) }

pub least_alike : {N : Type 0} (t : Tables N) (S T : Inequality N → Type 0) (seeds x : N → ℕ → ℕ) → ((q : Inequality N) → S q → T q) → ((q : Inequality N) → T q → S q) → Least t S seeds x → Least t T seeds x
least_alike t S T seeds x forth back l = record { solves = solves_alike t S T seeds x back l.solves; least = λ y s. l.least y (solves_alike t T S seeds y forth s) }
