-- What an inequality joins ends with its target's words.
use Rattle.std.proofs.Common.{◌≡◌, ℕ, zero, suc, ◌+◌, ◌-◌, ◌*◌, ◌^◌, ◌/◌, ◌%◌, ◌<◌, ◌≤◌, Bool, true, false, not, ◌&&◌, ◌||◌, ◌==◌, nat_lt, if◌then◌else◌, ◌⊎◌, inl, inr, Option, Some, None, bit_and, bit_or, refl, sym, ap, ◌∙◌, subst, subst₂, arith, ne_eqb, eqb-true}
use Rattle.std.proofs.lemmas.Bool.{cond-false, and_parts, or_cases, false_from_ne_true, true≢false}
use Rattle.std.proofs.lemmas.Nat.Bits.{same_from_bits, bit_at_and, bit_at_or, bit_at-zero}
use Rattle.wf_lattice.specs.declared.kind.NodeKind.{NodeKind}
use Rattle.wf_lattice.specs.declared.kind.NodeKind.TheVariants as kinds
use Rattle.wf_lattice.specs.declared.view.Nulls.TheVariants.{Keep, Drop}
use Rattle.wf_lattice.specs.Words.{IsIn, counted, types_of, flags_of, both, either, one_word, nothing, is_empty}
use Rattle.wf_lattice.specs.Order.{is_saturated}
use Rattle.wf_lattice.specs.Meaning.{means_null, types_if, meant_types}
use Rattle.wf_lattice.specs.Filters.{set_words, unequal_types, filtered}
use Rattle.wf_lattice.proofs.JoinLaws.{types_past, flags_past}
use Rattle.wf_lattice.proofs.BitLaws.{or_zero}
use Rattle.wf_system.specs.declared.inequality.ValueOp.{ValueOp}
use Rattle.wf_system.specs.declared.inequality.ValueOp.TheVariants.{Token, IntIs, AnyInt, AnyLong, NullRef, OneType, Copy, IntRefine, IntRefineBy, NotIn, RefEq, RefNe, OnlyNull, NoNull, Under, AllUnder, SomeUnder, Picked, Picks, Tested, ElementsOf, IfHolds, IfNull}
use Rattle.wf_system.specs.Rows.{bit_row, type_row, word_where, row_where}
use Rattle.wf_system.specs.System.{Tables, ref_words, picked_mask, meaning_has, one_type, row_if, is_candidate, some_type, elem_row, elements_below, given}
use Rattle.wf_system.specs.Fits.{HasKind, HasTypes, AreShaped, IsOfTypes, ValueFits}
use Rattle.wf_system.proofs.GrowLaws.{typed_refs, some_words, same_words}

and_zero : (a b : ℕ) → b ≡ 0 → bit_and a b ≡ 0
and_zero a b e = same_from_bits (bit_and a b) 0 (λ k. omega (arith, bit_at_and a b k, bit_at-zero k, ap (λ (n : ℕ). Rattle.std.specs.Int.bit_at n k) e))

zero_and : (a b : ℕ) → a ≡ 0 → bit_and a b ≡ 0
zero_and a b e = same_from_bits (bit_and a b) 0 (λ k. omega (arith, bit_at_and a b k, bit_at-zero k, ap (λ (n : ℕ). Rattle.std.specs.Int.bit_at n k) e))

or_zeros : (a b : ℕ) → a ≡ 0 → b ≡ 0 → bit_or a b ≡ 0
or_zeros a b e f = same_from_bits (bit_or a b) 0 (λ k. omega (arith, bit_at_or a b k, bit_at-zero k, ap (λ (n : ℕ). Rattle.std.specs.Int.bit_at n k) e, ap (λ (n : ℕ). Rattle.std.specs.Int.bit_at n k) f))

one_word_ends : (w k : ℕ) → 0 < k → one_word w k ≡ 0
one_word_ends w zero some = absurd (omega arith)
one_word_ends w (suc k) some = refl

bit_row_ends : (b k : ℕ) → b < 64 * k → bit_row b k ≡ 0
bit_row_ends b k lt = cond-false (k == b / 64) (2 ^ (b % 64)) 0 (ne_eqb k (b / 64) (λ e. absurd (omega (arith, e, lt))))

if_zeros : (b : Bool) (v w : ℕ) → v ≡ 0 → w ≡ 0 → (if b then v else w) ≡ w
if_zeros true v w e f = e ∙ sym f
if_zeros false v w e f = refl

if_nought : (b : Bool) (v : ℕ) → v ≡ 0 → ◌≡◌ {A = ℕ} (if b then v else 0) 0
if_nought true v e = e
if_nought false v e = refl

unless_nought : (b : Bool) (v : ℕ) → v ≡ 0 → ◌≡◌ {A = ℕ} (if b then 0 else v) 0
unless_nought true v e = refl
unless_nought false v e = e

word_of_none : (P : ℕ → Bool) (n : ℕ) → ((i : ℕ) → P i ≡ false) → word_where P n ≡ 0
word_of_none P zero h = refl
word_of_none P (suc n) h = or_zeros (if P n then 2 ^ n else 0) (word_where P n) (cond-false (P n) (2 ^ n) 0 (h n)) (word_of_none P n h)

none_found : (n : ℕ) (Q : ℕ → Bool) → ((c : ℕ) → Q c ≡ false) → some_type n Q ≡ false
none_found zero Q h = refl
none_found (suc zero) Q h = refl
none_found (suc (suc n)) Q h = false_from_ne_true (some_type (suc n) Q || Q (suc n)) (λ e. go (or_cases (some_type (suc n) Q) (Q (suc n)) e) (none_found (suc n) Q h))
  where
    go : ((some_type (suc n) Q ≡ true) ⊎ (Q (suc n) ≡ true)) → some_type (suc n) Q ≡ false → ⊥
    go (inl i) f = absurd (true≢false (sym i ∙ f))
    go (inr i) f = absurd (true≢false (sym i ∙ h (suc n)))

-- a set whose types end
set_ends : (most n : ℕ) (types : ℕ → ℕ) (null : Bool) (k : ℕ) → 0 < k → types k ≡ 0 → set_words most n types null k ≡ 0
set_ends most n types null k some e = or_zeros (types k) (flags_of (nat_lt most (counted n types)) null k) e (flags_past k (nat_lt most (counted n types)) null some)

meant_ends : (s : Bool) (v inst : ℕ → ℕ) (k : ℕ) → 0 < k → inst k ≡ 0 → types_if s v inst k ≡ 0
meant_ends s v inst k some e = types_past k (λ (i : ℕ). if s then inst i else bit_and (v i) (inst i)) some ∙ go s
  where
    go : (b : Bool) → (if b then inst k else bit_and (v k) (inst k)) ≡ 0
    go true = e
    go false = and_zero (v k) (inst k) e

module _ {N : Type 0} (t : Tables N) (shaped : AreShaped t) (x : N → ℕ → ℕ) (ends : (n : N) (k : ℕ) → t.words n ≤ k → x n k ≡ 0) where
  -- where a node of references is the target, or a node
  made_ends : (to : N) → HasKind t to kinds.Refs → (k : ℕ) → t.words to ≤ k → x t.inst k ≡ 0
  made_ends to e k le = ends t.inst k (omega (arith, le, (typed_refs t shaped to e).refs to e))

  past : (to : N) (k : ℕ) → t.words to ≤ k → 0 < k
  past to k le = omega (arith, le, some_words t shaped to)

  elements_end : (a to : N) → HasKind t to kinds.Refs → (c k : ℕ) → t.words to ≤ k → elements_below t x a c k ≡ 0
  elements_end a to e zero k le = refl
  elements_end a to e (suc c) k le = or_zeros (elements_below t x a c k) (row_if (meaning_has t x a c) (elem_row x (t.elem c)) k) (elements_end a to e c k le)
      (if_nought (meaning_has t x a c) (elem_row x (t.elem c) k) (go (t.elem c) refl))
    where
      go : (o : Option N) → t.elem c ≡ o → elem_row x o k ≡ 0
      go None f = refl
      go (Some n) f = ends n k (omega (arith, le, (typed_refs t shaped to e).refs to e, (typed_refs t shaped to e).refs n ((typed_refs t shaped to e).elem c n f)))

  type_ends : (kind : NodeKind) (to : N) (c k : ℕ) → t.kind to ≡ kind → IsOfTypes kind → c < t.types → t.words to ≤ k → one_type kind c (x t.inst) k ≡ 0
  type_ends kinds.Token to c k e of lt le = absurd of
  type_ends kinds.Int to c k e of lt le = absurd of
  type_ends kinds.Long to c k e of lt le = absurd of
  type_ends kinds.Refs to c k e of lt le = and_zero (type_row c k) (x t.inst k) (made_ends to e k le)
  type_ends kinds.Inst to c k e of lt le = bit_row_ends (c + 1) k (omega (arith, lt, le, has.bits, ap t.words (has.one_inst to e)))
    where
      has : HasTypes t
      has = shaped.types to (subst IsOfTypes (sym e) tt)
  type_ends kinds.Links to c k e of lt le = absurd of

  -- a value ends with its target's words
  pub given_ends : (value : ValueOp N) (to : N) → ValueFits t value to → (k : ℕ) → t.words to ≤ k → given t value x to k ≡ 0
  given_ends Token to fits k le = one_word_ends 1 k (past to k le)
  given_ends (IntIs c) to fits k le = one_word_ends _ k (past to k le)
  given_ends AnyInt to fits k le = one_word_ends _ k (past to k le)
  given_ends AnyLong to fits k le = one_word_ends 1 k (past to k le)
  given_ends NullRef to fits k le = bit_row_ends 1 k (omega (arith, past to k le))
  given_ends (OneType c) to fits k le = type_ends (t.kind to) to c.0 k refl fits.0 fits.2 le
  given_ends (Copy n) to fits k le = ends n k (omega (arith, le, same_words t shaped n to fits.0 fits.1))
  given_ends (IntRefine cmp a b) to fits k le = one_word_ends _ k (past to k le)
  given_ends (IntRefineBy cmp a j) to fits k le = one_word_ends _ k (past to k le)
  given_ends (NotIn a place) to fits k le = one_word_ends _ k (past to k le)
  given_ends (RefEq a b) to fits k le = set_ends t.most (ref_words t) (both (meant_types t.most (ref_words t) (x a) (x t.inst)) (meant_types t.most (ref_words t) (x b) (x t.inst))) (means_null t.most (ref_words t) (x a) && means_null t.most (ref_words t) (x b)) k (past to k le)
      (zero_and (meant_types t.most (ref_words t) (x a) (x t.inst) k) (meant_types t.most (ref_words t) (x b) (x t.inst) k) (meant_ends (is_saturated t.most (ref_words t) (x a)) (x a) (x t.inst) k (past to k le) (made_ends to fits.0 k le)))
  given_ends (RefNe a b) to fits k le = set_ends t.most (ref_words t) (unequal_types t.most (ref_words t) (x a) (x b) (x t.inst)) (means_null t.most (ref_words t) (x a) && not (is_empty (ref_words t) (meant_types t.most (ref_words t) (x b) (x t.inst)))) k (past to k le)
      (unless_nought (is_empty (ref_words t) (meant_types t.most (ref_words t) (x b) (x t.inst)) && not (means_null t.most (ref_words t) (x b))) (meant_types t.most (ref_words t) (x a) (x t.inst) k) (meant_ends (is_saturated t.most (ref_words t) (x a)) (x a) (x t.inst) k (past to k le) (made_ends to fits.0 k le)))
  given_ends (OnlyNull a) to fits k le = set_ends t.most (ref_words t) nothing (means_null t.most (ref_words t) (x a)) k (past to k le) refl
  given_ends (NoNull a) to fits k le = set_ends t.most (ref_words t) (meant_types t.most (ref_words t) (x a) (x t.inst)) false k (past to k le) (meant_ends (is_saturated t.most (ref_words t) (x a)) (x a) (x t.inst) k (past to k le) (made_ends to fits.0 k le))
  given_ends (Under a u) to fits k le = set_ends t.most (ref_words t) (both (meant_types t.most (ref_words t) (x a) (x t.inst)) (t.mask u.0)) (means_null t.most (ref_words t) (x a)) k (past to k le)
      (zero_and (meant_types t.most (ref_words t) (x a) (x t.inst) k) (t.mask u.0 k) (meant_ends (is_saturated t.most (ref_words t) (x a)) (x a) (x t.inst) k (past to k le) (made_ends to fits.0 k le)))
  given_ends (AllUnder u) to fits k le = set_ends t.most (ref_words t) (both (types_of (x t.inst)) (t.mask u.0)) false k (past to k le)
      (zero_and (types_of (x t.inst) k) (t.mask u.0 k) (types_past k (x t.inst) (past to k le) ∙ made_ends to fits k le))
  given_ends (SomeUnder u) to fits k le = set_ends t.most (ref_words t) (both (types_of (x t.inst)) (t.mask u.0)) true k (past to k le)
      (zero_and (types_of (x t.inst) k) (t.mask u.0 k) (types_past k (x t.inst) (past to k le) ∙ made_ends to fits k le))
  given_ends (Picked a site j) to fits k le = set_ends t.most (ref_words t) (both (meant_types t.most (ref_words t) (x a) (x t.inst)) (picked_mask t site j)) false k (past to k le)
      (zero_and (meant_types t.most (ref_words t) (x a) (x t.inst) k) (picked_mask t site j k) (meant_ends (is_saturated t.most (ref_words t) (x a)) (x a) (x t.inst) k (past to k le) (made_ends to fits.0 k le)))
  given_ends (Picks a site) to fits k le = word_of_none (λ i. some_type t.types (λ c. meaning_has t x a c && is_candidate (t.picks site c) (k * 64 + i))) 64
      (λ i. none_found t.types (λ c. meaning_has t x a c && is_candidate (t.picks site c) (k * 64 + i))
      (λ c. false_from_ne_true (meaning_has t x a c && is_candidate (t.picks site c) (k * 64 + i)) (λ e. far (t.picks site c) c i refl (and_parts (meaning_has t x a c) (is_candidate (t.picks site c) (k * 64 + i)) e).1)))
    where
      far : (o : Option ℕ) (c i : ℕ) → t.picks site c ≡ o → is_candidate o (k * 64 + i) ≡ true → ⊥
      far None c i f e = absurd cc
      far (Some j) c i f e = absurd (omega (arith, eqb-true j (k * 64 + i) e, fits.2 c j f, le))
  given_ends (Tested a u) to fits k le = one_word_ends _ k (past to k le)
  given_ends (ElementsOf a) to fits k le = elements_end a to fits.0 t.types k le
  given_ends (IfHolds a c b u) to fits k le = if_nought (meaning_has t x a c.0) (filtered t.most (ref_words t) (x b) (x t.inst) (t.mask u.0) Keep k) (set_ends t.most (ref_words t) (both (meant_types t.most (ref_words t) (x b) (x t.inst)) (t.mask u.0)) (means_null t.most (ref_words t) (x b)) k (past to k le)
      (zero_and (meant_types t.most (ref_words t) (x b) (x t.inst) k) (t.mask u.0 k) (meant_ends (is_saturated t.most (ref_words t) (x b)) (x b) (x t.inst) k (past to k le) (made_ends to fits.0 k le))))
  given_ends (IfNull a) to fits k le = one_word_ends _ k (past to k le)
