-- What an inequality says grows with the assignment.
use Rattle.std.proofs.Common.{◌≡◌, ℕ, zero, suc, ◌+◌, ◌-◌, ◌^◌, ◌<◌, Bool, true, false, ◌&&◌, ◌||◌, ◌⊎◌, inl, inr, IsTrue, Option, Some, None, refl, sym, ap, ◌∙◌, subst, subst₂, arith}
use Rattle.std.proofs.lemmas.Bool.{true≢false, and_parts, and_from, or_cases, or_left, or_right, not-true, not_from_false}
use Rattle.wf_lattice.specs.declared.kind.NodeKind.{NodeKind}
use Rattle.wf_lattice.specs.declared.kind.NodeKind.TheVariants as kinds
use Rattle.wf_lattice.specs.declared.view.Nulls.TheVariants.{Keep, Drop}
use Rattle.wf_lattice.specs.Words.{IsIn, IsWithin, has_type, is_empty, types_of, both, either, one_word, nothing}
use Rattle.wf_lattice.specs.Ints.{is_any, constant_word, refined_word, not_among_word}
use Rattle.wf_lattice.specs.Order.{Receives, is_saturated, is_full}
use Rattle.wf_lattice.specs.Filters.{filtered, tested_word, null_word}
use Rattle.wf_lattice.proofs.BitLaws.{in_itself}
use Rattle.wf_lattice.proofs.RowLaws.{within_itself, nothing_within, either_left, either_right, types_grow, both_grows, bit_grows, nonempty_grows}
use Rattle.wf_lattice.proofs.OrderLaws.{there_rises, receives_through, receives_either}
use Rattle.wf_lattice.proofs.IntLaws.{refined_word_grows, not_among_word_grows}
use Rattle.wf_lattice.proofs.FilterLaws.{saturated_rises, null_grows, filtered_grows, no_null_grows, only_null_grows, equal_refs_grows, unequal_refs_grows, all_under_grows, some_under_grows, tested_grows, null_word_grows}
use Rattle.wf_system.specs.declared.inequality.Guard.{Guard}
use Rattle.wf_system.specs.declared.inequality.Guard.TheVariants.{Always, NonEmpty, HasType, HasUnder, Linked}
use Rattle.wf_system.specs.declared.inequality.ValueOp.{ValueOp}
use Rattle.wf_system.specs.declared.inequality.ValueOp.TheVariants.{Token, IntIs, AnyInt, AnyLong, NullRef, OneType, Copy, IntRefine, IntRefineBy, NotIn, RefEq, RefNe, OnlyNull, NoNull, Under, AllUnder, SomeUnder, Picked, Picks, Tested, ElementsOf, IfHolds, IfNull}
use Rattle.wf_system.specs.Rows.{type_row}
use Rattle.wf_system.specs.System.{Tables, ref_words, AtLeast, IsBelow, guard_holds, meaning_has, one_type, row_if, is_candidate, picked_mask, some_type, picked_row, elem_row, elements_below, given}
use Rattle.wf_system.specs.Fits.{HasKind, HasTypes, AreShaped, IsCopied, IsOfTypes, GuardFits, ValueFits}
use Rattle.wf_system.specs.Bodies.{guard_reads, value_reads, elem_is, is_element, type_reads}
use Rattle.wf_system.proofs.RowLaws.{row_grows, some_grows}

-- rows of one word
one_word_grows : (v w : ℕ) → IsIn v w → IsWithin (one_word v) (one_word w)
one_word_grows v w p = record { each = each }
  where
    each : (k : ℕ) → IsIn (one_word v k) (one_word w k)
    each zero = p
    each (suc k) = refl

-- joins of rows that rise
receives_joined : (most n : ℕ) (kind : NodeKind) (f g v w : ℕ → ℕ) → Receives most n kind f v → Receives most n kind g w → Receives most n kind (either f g) (either v w)
receives_joined most n kind f g v w p q = receives_either most n kind f g (either v w)
    (receives_through most n kind f v (either v w) p (inr (either_left v w)))
    (receives_through most n kind g w (either v w) q (inr (either_right v w)))

-- and rows under a condition
row_if_grows : (most n : ℕ) (kind : NodeKind) (a b : Bool) (f v : ℕ → ℕ) → (a ≡ true → b ≡ true) → Receives most n kind f v → Receives most n kind (row_if a f) (row_if b v)
row_if_grows most n kind true true f v up r = r
row_if_grows most n kind true false f v up r = absurd (true≢false (sym (up refl)))
row_if_grows most n kind false b f v up r = inr (record { each = λ k. refl })

-- a system with a node of references, or with one of the types that are made, has types
pub typed_refs : {N : Type 0} (t : Tables N) → AreShaped t → (n : N) → HasKind t n kinds.Refs → HasTypes t
typed_refs t shaped n e = shaped.types n (subst IsOfTypes (sym e) tt)

pub typed_inst : {N : Type 0} (t : Tables N) → AreShaped t → (n : N) → HasKind t n kinds.Inst → HasTypes t
typed_inst t shaped n e = shaped.types n (subst IsOfTypes (sym e) tt)

-- each node has a word
pub some_words : {N : Type 0} (t : Tables N) (shaped : AreShaped t) (n : N) → 0 < t.words n
some_words {N = N} t shaped n = go (t.kind n) refl
  where
    go : (kind : NodeKind) → t.kind n ≡ kind → 0 < t.words n
    go kinds.Token e = omega (arith, shaped.token n e)
    go kinds.Int e = omega (arith, shaped.int n e)
    go kinds.Long e = omega (arith, shaped.long n e)
    go kinds.Refs e = omega (arith, (typed_refs t shaped n e).refs n e, (typed_refs t shaped n e).bits)
    go kinds.Inst e = omega (arith, ap (λ (m : N). t.words m) ((typed_inst t shaped n e).one_inst n e), (typed_inst t shaped n e).bits)
    go kinds.Links e = shaped.links n e

-- one type reads what is made wherever it reads at all
type_read : (kind : NodeKind) (b : Bool) → b ≡ true → type_reads kind true ≡ true → type_reads kind b ≡ true
type_read kinds.Inst b e h = h
type_read kinds.Token b e h = e
type_read kinds.Int b e h = e
type_read kinds.Long b e h = e
type_read kinds.Refs b e h = e
type_read kinds.Links b e h = e

-- nodes between which a value is copied have equally many words
pub same_words : {N : Type 0} (t : Tables N) (shaped : AreShaped t) (n to : N) → t.kind n ≡ t.kind to → IsCopied (t.kind to) → t.words n ≡ t.words to
same_words {N = N} t shaped n to e copied = go (t.kind to) refl copied
  where
    go : (kind : NodeKind) → t.kind to ≡ kind → IsCopied kind → t.words n ≡ t.words to
    go kinds.Token h c = shaped.token n (e ∙ h) ∙ sym (shaped.token to h)
    go kinds.Int h c = shaped.int n (e ∙ h) ∙ sym (shaped.int to h)
    go kinds.Long h c = shaped.long n (e ∙ h) ∙ sym (shaped.long to h)
    go kinds.Refs h c = (typed_refs t shaped to h).refs n (e ∙ h) ∙ sym ((typed_refs t shaped to h).refs to h)
    go kinds.Inst h c = absurd c
    go kinds.Links h c = absurd c

-- The two assignments are compared at some nodes alone, those of which R says so.
module _ {N : Type 0} (t : Tables N) (shaped : AreShaped t) (x y : N → ℕ → ℕ) (R : N → Type 0) (below : (n : N) → R n → AtLeast t n (x n) (y n)) (same : N → N → Bool) (itself : (n : N) → same n n ≡ true) where
  -- a node of references, a node of ints, and the types that are made
  refs_rise : (n : N) → R n → HasKind t n kinds.Refs → Receives t.most (ref_words t) kinds.Refs (x n) (y n)
  refs_rise n r e = subst₂ (λ (w : ℕ) (k : NodeKind). Receives t.most w k (x n) (y n)) ((typed_refs t shaped n e).refs n e) e (below n r)

  pub int_rises : (n : N) → R n → HasKind t n kinds.Int → IsTrue (is_any (y n 0)) ⊎ IsIn (x n 0) (y n 0)
  int_rises n r e = go (subst (λ (k : NodeKind). Receives t.most (t.words n) k (x n) (y n)) e (below n r))
    where
      go : Receives t.most (t.words n) kinds.Int (x n) (y n) → IsTrue (is_any (y n 0)) ⊎ IsIn (x n 0) (y n 0)
      go (inl full) = inl full
      go (inr p) = inr (p.each 0)

  plain_rises : (n : N) → R n → (kind : NodeKind) → (is_full t.most (t.words n) kind (y n) ≡ true → ⊥) → HasKind t n kind → IsWithin (x n) (y n)
  plain_rises n r kind never e = go (subst (λ (k : NodeKind). Receives t.most (t.words n) k (x n) (y n)) e (below n r))
    where
      go : Receives t.most (t.words n) kind (x n) (y n) → IsWithin (x n) (y n)
      go (inl full) = absurd (never full)
      go (inr p) = p

  inst_rises : HasTypes t → R t.inst → IsWithin (x t.inst) (y t.inst)
  inst_rises has r = plain_rises t.inst r kinds.Inst (λ full. true≢false (sym full)) has.inst

  pub guard_rises : (guard : Guard N) → GuardFits t guard → ((n : N) → guard_reads same t guard n ≡ true → R n) → guard_holds t guard x ≡ true → guard_holds t guard y ≡ true
  guard_rises Always fits read h = refl
  guard_rises (NonEmpty n) fits read h = not_from_false (is_empty (t.words n) (y n)) (there_rises t.most (t.words n) (t.kind n) (x n) (y n) (some_words t shaped n) (below n (read n (itself n))) (not-true (is_empty (t.words n) (x n)) h))
  guard_rises (HasType c) fits read h = bit_grows (x t.inst) (y t.inst) (c.0 + 1) (inst_rises (typed_inst t shaped t.inst fits.0) (read t.inst (itself t.inst))) h
  guard_rises (HasUnder u) fits read h = not_from_false (is_empty (ref_words t) (both (types_of (y t.inst)) (t.mask u.0)))
      (nonempty_grows (ref_words t) (both (types_of (x t.inst)) (t.mask u.0)) (both (types_of (y t.inst)) (t.mask u.0))
      (both_grows (types_of (x t.inst)) (t.mask u.0) (types_of (y t.inst)) (t.mask u.0) (types_grow (x t.inst) (y t.inst) (inst_rises (typed_inst t shaped t.inst fits) (read t.inst (itself t.inst)))) (within_itself (t.mask u.0)))
      (not-true (is_empty (ref_words t) (both (types_of (x t.inst)) (t.mask u.0))) h))
  guard_rises (Linked n j) fits read h = bit_grows (x n) (y n) j (plain_rises n (read n (itself n)) kinds.Links (λ full. true≢false (sym full)) fits.0) h

  -- the meaning of a node grows, type by type
  pub meaning_grows : (n : N) → R n → R t.inst → HasKind t n kinds.Refs → (c : ℕ) → meaning_has t x n c ≡ true → meaning_has t y n c ≡ true
  meaning_grows n r i e zero h = null_grows t.most (ref_words t) (x n) (y n) (refs_rise n r e) h
  meaning_grows n r i e (suc c) h =
      let parts : ((is_saturated t.most (ref_words t) (x n) || has_type (x n) (suc c)) ≡ true) × (has_type (x t.inst) (suc c) ≡ true) =
      and_parts (is_saturated t.most (ref_words t) (x n) || has_type (x n) (suc c)) (has_type (x t.inst) (suc c)) h in
      and_from (is_saturated t.most (ref_words t) (y n) || has_type (y n) (suc c)) (has_type (y t.inst) (suc c))
      (held (refs_rise n r e) (or_cases (is_saturated t.most (ref_words t) (x n)) (has_type (x n) (suc c)) parts.0))
      (bit_grows (x t.inst) (y t.inst) (suc c + 1) (inst_rises (typed_refs t shaped n e) i) parts.1)
    where
      held : Receives t.most (ref_words t) kinds.Refs (x n) (y n) → ((is_saturated t.most (ref_words t) (x n) ≡ true) ⊎ (has_type (x n) (suc c) ≡ true))
          → (is_saturated t.most (ref_words t) (y n) || has_type (y n) (suc c)) ≡ true
      held p (inl s) = or_left (is_saturated t.most (ref_words t) (y n)) (has_type (y n) (suc c)) (saturated_rises t.most (ref_words t) (x n) (y n) p s)
      held (inl full) (inr b) = or_left (is_saturated t.most (ref_words t) (y n)) (has_type (y n) (suc c)) full
      held (inr p) (inr b) = or_right (is_saturated t.most (ref_words t) (y n)) (has_type (y n) (suc c)) (bit_grows (x n) (y n) (suc c + 1) p b)

  -- a row of references that is received is so at a node of references
  at_refs : (to : N) (f v : ℕ → ℕ) → HasKind t to kinds.Refs → Receives t.most (ref_words t) kinds.Refs f v → AtLeast t to f v
  at_refs to f v e r = subst₂ (λ (w : ℕ) (k : NodeKind). Receives t.most w k f v) (sym ((typed_refs t shaped to e).refs to e)) (sym e) r

  elem_grows : HasTypes t → (c : ℕ) (o : Option N) → t.elem c ≡ o → ((n : N) → elem_is same o n ≡ true → R n) → Receives t.most (ref_words t) kinds.Refs (elem_row x o) (elem_row y o)
  elem_grows has c None e r = inr (nothing_within nothing)
  elem_grows has c (Some n) e r = refs_rise n (r n (itself n)) (has.elem c n e)

  elements_grow : (n : N) → R n → R t.inst → HasKind t n kinds.Refs → (c : ℕ) → ((m : N) → is_element same t c m ≡ true → R m) → Receives t.most (ref_words t) kinds.Refs (elements_below t x n c) (elements_below t y n c)
  elements_grow n r i e zero read = inr (within_itself nothing)
  elements_grow n r i e (suc c) read = receives_joined t.most (ref_words t) kinds.Refs
      (elements_below t x n c) (row_if (meaning_has t x n c) (elem_row x (t.elem c))) (elements_below t y n c) (row_if (meaning_has t y n c) (elem_row y (t.elem c)))
      (elements_grow n r i e c (λ m h. read m (or_left (is_element same t c m) (elem_is same (t.elem c) m) h)))
      (row_if_grows t.most (ref_words t) kinds.Refs (meaning_has t x n c) (meaning_has t y n c) (elem_row x (t.elem c)) (elem_row y (t.elem c)) (meaning_grows n r i e c)
      (elem_grows (typed_refs t shaped n e) c (t.elem c) refl (λ m h. read m (or_right (is_element same t c m) (elem_is same (t.elem c) m) h))))

  made_grows : HasTypes t → (c : ℕ) → R t.inst → IsWithin (both (type_row c) (x t.inst)) (both (type_row c) (y t.inst))
  made_grows has c r = both_grows (type_row c) (x t.inst) (type_row c) (y t.inst) (within_itself (type_row c)) (inst_rises has r)

  one_type_grows : HasTypes t → (kind : NodeKind) (c : ℕ) → (type_reads kind true ≡ true → R t.inst) → IsWithin (one_type kind c (x t.inst)) (one_type kind c (y t.inst))
  one_type_grows has kinds.Inst c r = within_itself (type_row c)
  one_type_grows has kinds.Token c r = made_grows has c (r refl)
  one_type_grows has kinds.Int c r = made_grows has c (r refl)
  one_type_grows has kinds.Long c r = made_grows has c (r refl)
  one_type_grows has kinds.Refs c r = made_grows has c (r refl)
  one_type_grows has kinds.Links c r = made_grows has c (r refl)

  picked_grows : (n : N) (site : ℕ) → R n → R t.inst → HasKind t n kinds.Refs → IsWithin (picked_row t x n site) (picked_row t y n site)
  picked_grows n site r i e = row_grows (λ j. some_type t.types (λ c. meaning_has t x n c && is_candidate (t.picks site c) j)) (λ j. some_type t.types (λ c. meaning_has t y n c && is_candidate (t.picks site c) j))
      (λ j. some_grows t.types (λ c. meaning_has t x n c && is_candidate (t.picks site c) j) (λ c. meaning_has t y n c && is_candidate (t.picks site c) j)
      (λ c h. let parts : (meaning_has t x n c ≡ true) × (is_candidate (t.picks site c) j ≡ true) = and_parts (meaning_has t x n c) (is_candidate (t.picks site c) j) h in
      and_from (meaning_has t y n c) (is_candidate (t.picks site c) j) (meaning_grows n r i e c parts.0) parts.1))

  -- what is joined rises
  pub value_rises : (value : ValueOp N) (to : N) → ValueFits t value to → ((n : N) → value_reads same t value (t.kind to) n ≡ true → R n) → AtLeast t to (given t value x to) (given t value y to)
  value_rises Token to fits read = inr (within_itself (one_word 1))
  value_rises (IntIs c) to fits read = inr (within_itself (one_word (constant_word c)))
  value_rises AnyInt to fits read = inr (within_itself (one_word (2 ^ 64 - 1)))
  value_rises AnyLong to fits read = inr (within_itself (one_word 1))
  value_rises NullRef to fits read = inr (within_itself (type_row 0))
  value_rises (OneType c) to fits read = inr (one_type_grows (shaped.types to fits.0) (t.kind to) c.0 (λ e. read t.inst (type_read (t.kind to) (same t.inst t.inst) (itself t.inst) e)))
  value_rises (Copy n) to fits read = subst₂ (λ (w : ℕ) (k : NodeKind). Receives t.most w k (x n) (y n)) (same_words t shaped n to fits.0 fits.1) fits.0 (below n (read n (itself n)))
  value_rises (IntRefine cmp a b) to fits read = inr (one_word_grows (refined_word cmp (x a 0) (x b 0)) (refined_word cmp (y a 0) (y b 0))
      (refined_word_grows cmp (x a 0) (x b 0) (y a 0) (y b 0) (int_rises a (read a (or_left (same a a) (same b a) (itself a))) fits.1) (int_rises b (read b (or_right (same a b) (same b b) (itself b))) fits.2)))
  value_rises (IntRefineBy cmp a j) to fits read = inr (one_word_grows (refined_word cmp (x a 0) (constant_word j)) (refined_word cmp (y a 0) (constant_word j))
      (refined_word_grows cmp (x a 0) (constant_word j) (y a 0) (constant_word j) (int_rises a (read a (itself a)) fits.1) (inr (in_itself (constant_word j)))))
  value_rises (NotIn a place) to fits read = inr (one_word_grows (not_among_word (t.keys place) (x a 0)) (not_among_word (t.keys place) (y a 0))
      (not_among_word_grows (t.keys place) (x a 0) (y a 0) (int_rises a (read a (itself a)) fits.1)))
  value_rises (RefEq a b) to fits read = inr (equal_refs_grows t.most (ref_words t) (x a) (x b) (y a) (y b) (x t.inst) (y t.inst) (refs_rise a (read a (or_left (same a a || same b a) (same t.inst a) (or_left (same a a) (same b a) (itself a)))) fits.1) (refs_rise b (read b (or_left (same a b || same b b) (same t.inst b) (or_right (same a b) (same b b) (itself b)))) fits.2) (inst_rises (typed_refs t shaped a fits.1) (read t.inst (or_right (same a t.inst || same b t.inst) (same t.inst t.inst) (itself t.inst)))))
  value_rises (RefNe a b) to fits read = inr (unequal_refs_grows t.most (ref_words t) (x a) (x b) (y a) (y b) (x t.inst) (y t.inst) (refs_rise a (read a (or_left (same a a || same b a) (same t.inst a) (or_left (same a a) (same b a) (itself a)))) fits.1) (refs_rise b (read b (or_left (same a b || same b b) (same t.inst b) (or_right (same a b) (same b b) (itself b)))) fits.2) (inst_rises (typed_refs t shaped a fits.1) (read t.inst (or_right (same a t.inst || same b t.inst) (same t.inst t.inst) (itself t.inst)))))
  value_rises (OnlyNull a) to fits read = inr (only_null_grows t.most (ref_words t) (x a) (y a) (refs_rise a (read a (or_left (same a a) (same t.inst a) (itself a))) fits.1))
  value_rises (NoNull a) to fits read = inr (no_null_grows t.most (ref_words t) (x a) (y a) (x t.inst) (y t.inst) (refs_rise a (read a (or_left (same a a) (same t.inst a) (itself a))) fits.1) (inst_rises (typed_refs t shaped a fits.1) (read t.inst (or_right (same a t.inst) (same t.inst t.inst) (itself t.inst)))))
  value_rises (Under a u) to fits read = inr (filtered_grows t.most (ref_words t) (x a) (y a) (x t.inst) (y t.inst) (t.mask u.0) Keep (refs_rise a (read a (or_left (same a a) (same t.inst a) (itself a))) fits.1) (inst_rises (typed_refs t shaped a fits.1) (read t.inst (or_right (same a t.inst) (same t.inst t.inst) (itself t.inst)))))
  value_rises (AllUnder u) to fits read = inr (all_under_grows t.most (ref_words t) (x t.inst) (y t.inst) (t.mask u.0) (inst_rises (typed_refs t shaped to fits) (read t.inst (itself t.inst))))
  value_rises (SomeUnder u) to fits read = inr (some_under_grows t.most (ref_words t) (x t.inst) (y t.inst) (t.mask u.0) (inst_rises (typed_refs t shaped to fits) (read t.inst (itself t.inst))))
  value_rises (Picked a site j) to fits read = inr (filtered_grows t.most (ref_words t) (x a) (y a) (x t.inst) (y t.inst) (picked_mask t site j) Drop (refs_rise a (read a (or_left (same a a) (same t.inst a) (itself a))) fits.1) (inst_rises (typed_refs t shaped a fits.1) (read t.inst (or_right (same a t.inst) (same t.inst t.inst) (itself t.inst)))))
  value_rises (Picks a site) to fits read = inr (picked_grows a site (read a (or_left (same a a) (same t.inst a) (itself a))) (read t.inst (or_right (same a t.inst) (same t.inst t.inst) (itself t.inst))) fits.1)
  value_rises (Tested a u) to fits read = inr (one_word_grows (tested_word t.most (ref_words t) (x a) (x t.inst) (t.mask u.0)) (tested_word t.most (ref_words t) (y a) (y t.inst) (t.mask u.0))
      (tested_grows t.most (ref_words t) (x a) (y a) (x t.inst) (y t.inst) (t.mask u.0) (refs_rise a (read a (or_left (same a a) (same t.inst a) (itself a))) fits.1) (inst_rises (typed_refs t shaped a fits.1) (read t.inst (or_right (same a t.inst) (same t.inst t.inst) (itself t.inst))))))
  value_rises (ElementsOf a) to fits read = at_refs to (elements_below t x a t.types) (elements_below t y a t.types) fits.0 (elements_grow a (read a (or_left (same a a || same t.inst a) (is_element same t t.types a) (or_left (same a a) (same t.inst a) (itself a)))) (read t.inst (or_left (same a t.inst || same t.inst t.inst) (is_element same t t.types t.inst) (or_right (same a t.inst) (same t.inst t.inst) (itself t.inst)))) fits.1 t.types (λ m h. read m (or_right (same a m || same t.inst m) (is_element same t t.types m) h)))
  value_rises (IfHolds a c b u) to fits read = at_refs to (given t (IfHolds a c b u) x to) (given t (IfHolds a c b u) y to) fits.0
      (row_if_grows t.most (ref_words t) kinds.Refs (meaning_has t x a c.0) (meaning_has t y a c.0)
      (filtered t.most (ref_words t) (x b) (x t.inst) (t.mask u.0) Keep) (filtered t.most (ref_words t) (y b) (y t.inst) (t.mask u.0) Keep)
      (meaning_grows a (read a (or_left (same a a || same b a) (same t.inst a) (or_left (same a a) (same b a) (itself a)))) (read t.inst (or_right (same a t.inst || same b t.inst) (same t.inst t.inst) (itself t.inst))) fits.1 c.0) (inr (filtered_grows t.most (ref_words t) (x b) (y b) (x t.inst) (y t.inst) (t.mask u.0) Keep (refs_rise b (read b (or_left (same a b || same b b) (same t.inst b) (or_right (same a b) (same b b) (itself b)))) fits.2) (inst_rises (typed_refs t shaped a fits.1) (read t.inst (or_right (same a t.inst || same b t.inst) (same t.inst t.inst) (itself t.inst)))))))
  value_rises (IfNull a) to fits read = inr (one_word_grows (null_word t.most (ref_words t) (x a)) (null_word t.most (ref_words t) (y a)) (null_word_grows t.most (ref_words t) (x a) (y a) (refs_rise a (read a (or_left (same a a) (same t.inst a) (itself a))) fits.1)))

-- where all values rise, guards still hold, and what is joined rises
pub guard_grows : {N : Type 0} (t : Tables N) → AreShaped t → (x y : N → ℕ → ℕ) → IsBelow t x y → (guard : Guard N) → GuardFits t guard → guard_holds t guard x ≡ true → guard_holds t guard y ≡ true
guard_grows {N = N} t shaped x y below guard fits = guard_rises t shaped x y (λ (n : N). Unit {0}) (λ n r. below n) (λ m n. true) (λ n. refl) guard fits (λ n r. tt)

pub value_grows : {N : Type 0} (t : Tables N) → AreShaped t → (x y : N → ℕ → ℕ) → IsBelow t x y → (value : ValueOp N) (to : N) → ValueFits t value to → AtLeast t to (given t value x to) (given t value y to)
value_grows {N = N} t shaped x y below value to fits = value_rises t shaped x y (λ (n : N). Unit {0}) (λ n r. below n) (λ m n. true) (λ n. refl) value to fits (λ n r. tt)
