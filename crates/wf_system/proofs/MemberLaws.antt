-- An inequality that is met in words is met in members.
use Rattle.std.proofs.Common.{◌≡◌, ℕ, zero, suc, ◌+◌, ◌*◌, ◌-◌, ◌^◌, ◌/◌, ◌%◌, ◌≤◌, ◌<◌, Bool, true, false, not, ◌&&◌, ◌||◌, ◌==◌, if◌then◌else◌, cond, ◌⊎◌, inl, inr, IsTrue, FitsSigned, Option, Some, None, ℤ, pos, List, bit_or, nat_lt, refl, sym, ap, ◌∙◌, subst, subst₂, arith, eqb-true, eq-eqb, lit<}
use Rattle.std.specs.Int.{bit_at, bit_not, w32, w64}
use Rattle.std.specs.List.{list_any}
use Rattle.std.specs.Ordering.{int_eq}
use Rattle.std.proofs.lemmas.Bool.{cases_eq, true≢false, and_left, and_right, not_from_true, eqb-false, and_from, or_left, or_right, not_from_false, cond-true, cond-false, false_from_ne_true}
use Rattle.std.proofs.lemmas.Nat.Bits.{bit_at-pow_same, bit_at-pow_other, bit_at-lt, bit_at_not}
use Rattle.wf_base.specs.declared.cmp.Cmp.{Cmp}
use Rattle.wf_base.specs.declared.ids.TargetId.{TargetId}
use Rattle.wf_base.specs.Comparisons.{compares}
use Rattle.wf_lattice.specs.declared.kind.NodeKind.{NodeKind}
use Rattle.wf_lattice.specs.declared.kind.NodeKind.TheVariants as kinds
use Rattle.wf_lattice.specs.declared.int_word.IntValue.{IntValue}
use Rattle.wf_lattice.specs.declared.int_word.IntValue.TheVariants as ints
use Rattle.wf_lattice.specs.declared.view.Nulls.TheVariants.{Keep}
use Rattle.wf_lattice.specs.Words.{IsIn, IsWithin, has_bit, has_type, is_empty, counted, types_of, flags_of, both, without, one_word, nothing}
use Rattle.wf_lattice.specs.Ints.{is_any, int_value, constant_word, word_of, refined, not_among, refined_word, not_among_word, ◌⊑◌}
use Rattle.wf_lattice.specs.Order.{Receives, is_saturated, is_full}
use Rattle.wf_lattice.specs.Meaning.{means, means_null, meant_types}
use Rattle.wf_lattice.specs.Filters.{set_words, masked_types, unequal_types, filtered, tested_word, null_word}
use Rattle.wf_lattice.proofs.BitLaws.{from_bits, in_itself, in_and, in_through, in_left, in_right}
use Rattle.wf_lattice.proofs.RowLaws.{word_of_nothing, within_itself, within_through, bit_grows, either_left, either_right, word_there}
use Rattle.wf_lattice.proofs.OrderLaws.{receives_through, full_is_there}
use Rattle.wf_lattice.proofs.IntLaws.{value_rises, value_of_constant, refined_grows, not_among_grows, words_grow}
use Rattle.wf_lattice.proofs.SetLaws.{no_bits_if_empty, both_bit, meant_type, filtered_named, equal_named, unequal_named, under_named}
use Rattle.wf_system.specs.declared.inequality.Guard.{Guard}
use Rattle.wf_system.specs.declared.inequality.Guard.TheVariants.{Always, NonEmpty, HasType, HasUnder, Linked}
use Rattle.wf_system.specs.declared.inequality.ValueOp.{ValueOp}
use Rattle.wf_system.specs.declared.inequality.ValueOp.TheVariants.{Token, IntIs, AnyInt, AnyLong, NullRef, OneType, Copy, IntRefine, IntRefineBy, NotIn, RefEq, RefNe, OnlyNull, NoNull, Under, AllUnder, SomeUnder, Picked, Picks, Tested, ElementsOf, IfHolds, IfNull}
use Rattle.wf_system.specs.declared.inequality.Inequality.{Inequality}
use Rattle.wf_system.specs.Rows.{bit_row, type_row}
use Rattle.wf_system.specs.System.{Tables, ref_words, AtLeast, guard_holds, meaning_has, one_type, row_if, is_candidate, picked_mask, some_type, picked_row, elem_row, elements_below, given, IsMet}
use Rattle.wf_system.specs.Fits.{HasKind, HasTypes, AreShaped, IsOfTypes, GuardFits, ValueFits, Fits}
use Rattle.wf_system.specs.Members.{Member, AToken, AnInt, ALong, ANull, OfType, Candidate, member_row, Holds, IsUnder, MeansType, MeansSome, HoldsInt, GivesSet, null, type, MadeUnder, GivesPick, GivesTest, one, zero_of, zero_of_null, GivesElement, GivesType, Gives, Guards, MemberFits, IsMetByMembers}
use Rattle.wf_system.proofs.RowLaws.{in_row, some_from}
use Rattle.wf_system.proofs.GrowLaws.{same_words, some_words, typed_refs, typed_inst}

-- ---- the row of one bit

pub bit_row_has : (b : ℕ) → has_bit (bit_row b) b ≡ true
bit_row_has b = eq-eqb (bit_at (if b / 64 == b / 64 then 2 ^ (b % 64) else 0) (b % 64)) 1
    (ap (λ (w : ℕ). bit_at w (b % 64)) (cond-true (b / 64 == b / 64) (2 ^ (b % 64)) 0 (eq-eqb (b / 64) (b / 64) refl)) ∙ bit_at-pow_same (b % 64))

-- a row that has the bit has the row of the bit
pub bit_row_within : (v : ℕ → ℕ) (b : ℕ) → has_bit v b ≡ true → IsWithin (bit_row b) v
bit_row_within v b e = record { each = λ k. go k (cases_eq k (b / 64)) }
  where
    bits : (j : ℕ) → ((j ≡ b % 64) ⊎ (j ≡ b % 64 → ⊥)) → bit_at (2 ^ (b % 64)) j ≤ bit_at (v (b / 64)) j
    bits j (inl same) = omega (arith, bit_at-lt (2 ^ (b % 64)) j, ap (λ (i : ℕ). bit_at (v (b / 64)) i) same, eqb-true (bit_at (v (b / 64)) (b % 64)) 1 e)
    bits j (inr other) = omega (arith, bit_at-pow_other (b % 64) j other)

    there : IsIn (2 ^ (b % 64)) (v (b / 64))
    there = from_bits (2 ^ (b % 64)) (v (b / 64)) (λ j. bits j (cases_eq j (b % 64)))

    go : (k : ℕ) → ((k ≡ b / 64) ⊎ (k ≡ b / 64 → ⊥)) → IsIn (if k == b / 64 then 2 ^ (b % 64) else 0) (v k)
    go k (inl same) = subst₂ IsIn (sym (cond-true (k == b / 64) (2 ^ (b % 64)) 0 (eq-eqb k (b / 64) same))) (ap v (sym same)) there
    go k (inr other) = subst (λ (w : ℕ). IsIn w (v k)) (sym (cond-false (k == b / 64) (2 ^ (b % 64)) 0 (Rattle.std.proofs.Common.ne_eqb k (b / 64) other))) refl

pub has_from_row : (v : ℕ → ℕ) (b : ℕ) → IsWithin (bit_row b) v → has_bit v b ≡ true
has_from_row v b p = bit_grows (bit_row b) v b p (bit_row_has b)

null_in_set : (most n : ℕ) (types : ℕ → ℕ) (flag : Bool) → flag ≡ true → IsWithin (type_row 0) (set_words most n types flag)
null_in_set most n types flag e = within_through (type_row 0) (flags_of (nat_lt most (counted n types)) flag) (set_words most n types flag)
    (bit_row_within (flags_of (nat_lt most (counted n types)) flag) 1 (bit (nat_lt most (counted n types)) flag e))
    (either_right types (flags_of (nat_lt most (counted n types)) flag))
  where
    bit : (over flag : Bool) → flag ≡ true → has_bit (flags_of over flag) 1 ≡ true
    bit true true h = refl
    bit false true h = refl
    bit over false h = absurd (true≢false (sym h))

type_in_set : (most n : ℕ) (types : ℕ → ℕ) (flag : Bool) (c : ℕ) → has_type types c ≡ true → IsWithin (type_row c) (set_words most n types flag)
type_in_set most n types flag c e = within_through (type_row c) types (set_words most n types flag) (bit_row_within types (c + 1) e) (either_left types (flags_of (nat_lt most (counted n types)) flag))

-- a test of types that are not 0, at a number that isn't
at_type : (P Q : ℕ → Bool) → ((c : ℕ) → P (suc c) ≡ Q (suc c)) → (c : ℕ) → 0 < c → Q c ≡ true → P c ≡ true
at_type P Q same zero some e = absurd (omega arith)
at_type P Q same (suc c) some e = same c ∙ e

one_word_holds : (v w : ℕ) → IsIn v w → IsWithin (one_word v) (one_word w)
one_word_holds v w p = record { each = each }
  where
    each : (k : ℕ) → IsIn (one_word v k) (one_word w k)
    each zero = p
    each (suc k) = refl

if_empty : (s : Bool) (w : ℕ) → s ≡ false → IsIn w (if s then 0 else w)
if_empty true w e = absurd (true≢false e)
if_empty false w e = in_itself w

module _ {N : Type 0} (t : Tables N) (shaped : AreShaped t) (x : N → ℕ → ℕ) where
  refs_value : (n : N) (f : ℕ → ℕ) → HasKind t n kinds.Refs → AtLeast t n f (x n) → Receives t.most (ref_words t) kinds.Refs f (x n)
  refs_value n f e r = subst₂ (λ (w : ℕ) (k : NodeKind). Receives t.most w k f (x n)) ((typed_refs t shaped n e).refs n e) e r

  as_target : (to : N) (f v : ℕ → ℕ) → HasKind t to kinds.Refs → Receives t.most (ref_words t) kinds.Refs f v → AtLeast t to f v
  as_target to f v e r = subst₂ (λ (w : ℕ) (k : NodeKind). Receives t.most w k f v) (sym ((typed_refs t shaped to e).refs to e)) (sym e) r

  plain_value : (n : N) (f : ℕ → ℕ) (kind : NodeKind) → (is_full t.most (t.words n) kind (x n) ≡ true → ⊥) → HasKind t n kind → AtLeast t n f (x n) → IsWithin f (x n)
  plain_value n f kind never e r = go (subst (λ (k : NodeKind). Receives t.most (t.words n) k f (x n)) e r)
    where
      go : Receives t.most (t.words n) kind f (x n) → IsWithin f (x n)
      go (inl full) = absurd (never full)
      go (inr p) = p

  made_has : HasTypes t → (c : ℕ) → Holds t x t.inst (OfType c) → has_type (x t.inst) c ≡ true
  made_has has c h = has_from_row (x t.inst) (c + 1) (plain_value t.inst (type_row c) kinds.Inst (λ full. true≢false (sym full)) has.inst h)

  means_from : (n : N) → HasKind t n kinds.Refs → (c : ℕ) → MeansType t x n c → meaning_has t x n c ≡ true
  means_from n e zero m = absurd (omega (arith, m.is_type))
  means_from n e (suc c) m = and_from (is_saturated t.most (ref_words t) (x n) || has_type (x n) (suc c)) (has_type (x t.inst) (suc c))
      (held (refs_value n (type_row (suc c)) e m.held)) (made_has (typed_refs t shaped n e) (suc c) m.made)
    where
      held : Receives t.most (ref_words t) kinds.Refs (type_row (suc c)) (x n) → (is_saturated t.most (ref_words t) (x n) || has_type (x n) (suc c)) ≡ true
      held (inl full) = or_left (is_saturated t.most (ref_words t) (x n)) (has_type (x n) (suc c)) full
      held (inr p) = or_right (is_saturated t.most (ref_words t) (x n)) (has_type (x n) (suc c)) (has_from_row (x n) (suc c + 1) p)

  null_from : (n : N) → HasKind t n kinds.Refs → Holds t x n ANull → means_null t.most (ref_words t) (x n) ≡ true
  null_from n e h = go (refs_value n (type_row 0) e h)
    where
      go : Receives t.most (ref_words t) kinds.Refs (type_row 0) (x n) → means_null t.most (ref_words t) (x n) ≡ true
      go (inl full) = or_left (is_saturated t.most (ref_words t) (x n)) (has_bit (x n) 1) full
      go (inr p) = or_right (is_saturated t.most (ref_words t) (x n)) (has_bit (x n) 1) (has_from_row (x n) 1 p)

  int_from : (n : N) (i : ℤ) → HasKind t n kinds.Int → HoldsInt t x n i → ints.Is i ⊑ int_value (x n 0)
  int_from n i e h = subst (λ (v : IntValue). v ⊑ int_value (x n 0)) (value_of_constant i h.fits) (value_rises (constant_word i) (x n 0) (go (subst (λ (k : NodeKind). Receives t.most (t.words n) k (one_word (constant_word i)) (x n)) e h.held)))
    where
      go : Receives t.most (t.words n) kinds.Int (one_word (constant_word i)) (x n) → IsTrue (is_any (x n 0)) ⊎ IsIn (constant_word i) (x n 0)
      go (inl full) = inl full
      go (inr p) = inr (p.each 0)

  -- a row of types that has one isn't empty
  there_from_type : HasTypes t → (f : ℕ → ℕ) (c : ℕ) → c < t.types → has_type f c ≡ true → is_empty (ref_words t) f ≡ false
  there_from_type has f c lt e = false_from_ne_true (is_empty (ref_words t) f) (λ none. true≢false (sym e ∙ no_bits_if_empty (ref_words t) f none (c + 1) (omega (arith, has.bits))))

  meant_has : (n : N) → HasKind t n kinds.Refs → (c : ℕ) → MeansType t x n c → has_type (meant_types t.most (ref_words t) (x n) (x t.inst)) c ≡ true
  meant_has n e c m = at_type (has_type (meant_types t.most (ref_words t) (x n) (x t.inst))) (means t.most (ref_words t) (x n) (x t.inst)) (meant_type t.most (ref_words t) (x n) (x t.inst)) c m.is_type (means_from n e c m)

  meant_there : (n : N) → HasKind t n kinds.Refs → MeansSome t x n → is_empty (ref_words t) (meant_types t.most (ref_words t) (x n) (x t.inst)) ≡ false
  meant_there n e s = there_from_type (typed_refs t shaped n e) (meant_types t.most (ref_words t) (x n) (x t.inst)) s.type s.means.there (meant_has n e s.type s.means)

  masked_has : (n : N) → HasKind t n kinds.Refs → (mask : ℕ → ℕ) (c : ℕ) → MeansType t x n c → has_type mask c ≡ true → has_type (masked_types t.most (ref_words t) (x n) (x t.inst) mask) c ≡ true
  masked_has n e mask c m u = at_type (has_type (masked_types t.most (ref_words t) (x n) (x t.inst) mask)) (λ d. means t.most (ref_words t) (x n) (x t.inst) d && has_type mask d)
      (filtered_named t.most (ref_words t) (x n) (x t.inst) mask) c m.is_type (and_from (means t.most (ref_words t) (x n) (x t.inst) c) (has_type mask c) (means_from n e c m) u)

  under_has : HasTypes t → (u : TargetId) (c : ℕ) → MadeUnder t x u c → has_type (both (types_of (x t.inst)) (t.mask u.0)) c ≡ true
  under_has has u c m = at_type (has_type (both (types_of (x t.inst)) (t.mask u.0))) (λ d. has_type (x t.inst) d && has_type (t.mask u.0) d)
      (under_named (x t.inst) (t.mask u.0)) c m.is_type (and_from (has_type (x t.inst) c) (has_type (t.mask u.0) c) (made_has has c m.made) m.under)

  -- each member of a set is in its words
  set_has : (to : N) (types : ℕ → ℕ) (flag : Bool) (Null : Type 0) (P : ℕ → Type 0) (m : Member) → HasKind t to kinds.Refs → (Null → flag ≡ true) → ((c : ℕ) → P c → has_type types c ≡ true)
      → GivesSet Null P m → AtLeast t to (member_row m) (set_words t.most (ref_words t) types flag)
  set_has to types flag Null P AToken e nulls named h = elim h [ ]
  set_has to types flag Null P (AnInt i) e nulls named h = elim h [ ]
  set_has to types flag Null P ALong e nulls named h = elim h [ ]
  set_has to types flag Null P (Candidate j) e nulls named h = elim h [ ]
  set_has to types flag Null P ANull e nulls named (null h) = inr (null_in_set t.most (ref_words t) types flag (nulls h))
  set_has to types flag Null P (OfType c) e nulls named (type _ h) = inr (type_in_set t.most (ref_words t) types flag c (named c h))

  -- a picked type is in the mask of the pick
  picked_has : (site j c : ℕ) → t.picks site c ≡ Some j → has_type (picked_mask t site j) c ≡ true
  picked_has site j c e = has_from_row (picked_mask t site j) (c + 1) (in_row (λ b. is_candidate (t.picks site (b - 1)) j) (c + 1)
      (let back : c + 1 - 1 ≡ c = omega arith in
      ap (λ (d : ℕ). is_candidate (t.picks site d) j) back ∙ ap (λ (o : Option ℕ). is_candidate o j) e ∙ eq-eqb j j refl))

  -- ints that are left
  int_left : (to : N) (i : ℤ) (v : IntValue) → FitsSigned w32 i → ints.Is i ⊑ v → AtLeast t to (one_word (constant_word i)) (one_word (word_of v))
  int_left to i v fits p = inr (one_word_holds (constant_word i) (word_of v) (words_grow (ints.Is i) v fits p))

  refined_left : (cmp : Cmp) (i j : ℤ) (a b : IntValue) → compares cmp i j ≡ true → ints.Is i ⊑ a → ints.Is j ⊑ b → ints.Is i ⊑ refined cmp a b
  refined_left cmp i j a b e p q = subst (λ (v : IntValue). v ⊑ refined cmp a b) (cond-true (compares cmp i j) (ints.Is i) ints.Empty e) (refined_grows cmp (ints.Is i) (ints.Is j) a b p q)

  other_left : (keys : List ℤ) (i : ℤ) (a : IntValue) → list_any (int_eq i) keys ≡ false → ints.Is i ⊑ a → ints.Is i ⊑ not_among keys a
  other_left keys i a e p = subst (λ (v : IntValue). v ⊑ not_among keys a) (cond-false (list_any (int_eq i) keys) ints.Empty (ints.Is i) e) (not_among_grows keys (ints.Is i) a p)

  -- the elements of each array type of the meaning are joined
  element_within : (n : N) (d c : ℕ) → c < d → meaning_has t x n c ≡ true → IsWithin (elem_row x (t.elem c)) (elements_below t x n d)
  element_within n zero c lt e = absurd (omega arith)
  element_within n (suc d) c lt e = go (cases_eq c d) (element_within n d c)
    where
      last : c ≡ d → IsWithin (elem_row x (t.elem c)) (row_if (meaning_has t x n d) (elem_row x (t.elem d)))
      last same = subst (λ (b : Bool). IsWithin (elem_row x (t.elem c)) (row_if b (elem_row x (t.elem d)))) (sym (sym (ap (meaning_has t x n) same) ∙ e))
          (subst (λ (i : ℕ). IsWithin (elem_row x (t.elem c)) (elem_row x (t.elem i))) same (within_itself (elem_row x (t.elem c))))

      go : ((c ≡ d) ⊎ (c ≡ d → ⊥)) → (c < d → meaning_has t x n c ≡ true → IsWithin (elem_row x (t.elem c)) (elements_below t x n d)) → IsWithin (elem_row x (t.elem c)) (elements_below t x n (suc d))
      go (inl same) before = within_through (elem_row x (t.elem c)) (row_if (meaning_has t x n d) (elem_row x (t.elem d))) (elements_below t x n (suc d)) (last same)
          (record { each = λ k. in_right (elements_below t x n d k) (row_if (meaning_has t x n d) (elem_row x (t.elem d)) k) })
      go (inr other) before = within_through (elem_row x (t.elem c)) (elements_below t x n d) (elements_below t x n (suc d)) (before (omega (arith, other)) e)
          (record { each = λ k. in_left (elements_below t x n d k) (row_if (meaning_has t x n d) (elem_row x (t.elem d)) k) })

  element_has : (a to : N) (m : Member) → HasKind t to kinds.Refs → HasKind t a kinds.Refs → GivesElement t x a m → AtLeast t to (member_row m) (elements_below t x a t.types)
  element_has a to m e f g = as_target to (member_row m) (elements_below t x a t.types) e
      (receives_through t.most (ref_words t) kinds.Refs (member_row m) (x g.elements) (elements_below t x a t.types)
      (refs_value g.elements (member_row m) ((typed_refs t shaped a f).elem g.type g.elements g.is) g.held)
      (inr (subst (λ (o : Option N). IsWithin (elem_row x o) (elements_below t x a t.types)) g.is (element_within a t.types g.type g.means.there (means_from a f g.type g.means)))))

  pick_has : (a to : N) (site : ℕ) (m : Member) → HasKind t a kinds.Refs → GivesPick t x a site m → AtLeast t to (member_row m) (picked_row t x a site)
  pick_has a to site m f g = subst (λ (d : Member). AtLeast t to (member_row d) (picked_row t x a site)) (sym g.is)
      (inr (in_row (λ j. some_type t.types (λ c. meaning_has t x a c && is_candidate (t.picks site c) j)) g.candidate
      (some_from t.types g.type (λ c. meaning_has t x a c && is_candidate (t.picks site c) g.candidate) g.means.is_type g.means.there
      (and_from (meaning_has t x a g.type) (is_candidate (t.picks site g.type) g.candidate) (means_from a f g.type g.means)
      (ap (λ (o : Option ℕ). is_candidate o g.candidate) g.picks ∙ eq-eqb g.candidate g.candidate refl)))))

  -- a type that the mask lacks
  lacking_has : (n : N) (u : TargetId) (c : ℕ) → HasKind t n kinds.Refs → MeansType t x n c → has_type (t.mask u.0) c ≡ false → has_type (without (meant_types t.most (ref_words t) (x n) (x t.inst)) (t.mask u.0)) c ≡ true
  lacking_has n u c e m lacks = both_bit (meant_types t.most (ref_words t) (x n) (x t.inst)) (λ k. bit_not w64 (t.mask u.0 k)) (c + 1)
      ∙ and_from (has_type (meant_types t.most (ref_words t) (x n) (x t.inst)) c) (has_bit (λ k. bit_not w64 (t.mask u.0 k)) (c + 1)) (meant_has n e c m) lacking
    where
      k : ℕ
      k = (c + 1) / 64

      j : ℕ
      j = (c + 1) % 64

      lacking : has_bit (λ i. bit_not w64 (t.mask u.0 i)) (c + 1) ≡ true
      lacking = eq-eqb (bit_at (bit_not w64 (t.mask u.0 k)) j) 1 (omega (
        arith,
        bit_at_not w64 (t.mask u.0 k) j ((shaped.masks u.0).each k) (omega arith),
        bit_at-lt (t.mask u.0 k) j,
        eqb-false (bit_at (t.mask u.0 k) j) 1 lacks,
      ))

  test_has : (a to : N) (u : TargetId) (m : Member) → HasKind t a kinds.Refs → GivesTest t x a u m → AtLeast t to (member_row m) (one_word (tested_word t.most (ref_words t) (x a) (x t.inst) (t.mask u.0)))
  test_has a to u AToken e h = elim h [ ]
  test_has a to u ALong e h = elim h [ ]
  test_has a to u ANull e h = elim h [ ]
  test_has a to u (OfType c) e h = elim h [ ]
  test_has a to u (Candidate j) e h = elim h [ ]
  test_has a to u (AnInt _) e (one c m under) = inr (one_word_holds (constant_word (pos 1)) (tested_word t.most (ref_words t) (x a) (x t.inst) (t.mask u.0))
      (in_through (constant_word (pos 1)) (if is_empty (ref_words t) (masked_types t.most (ref_words t) (x a) (x t.inst) (t.mask u.0)) then 0 else constant_word (pos 1)) (tested_word t.most (ref_words t) (x a) (x t.inst) (t.mask u.0))
      (if_empty (is_empty (ref_words t) (masked_types t.most (ref_words t) (x a) (x t.inst) (t.mask u.0))) (constant_word (pos 1))
      (there_from_type (typed_refs t shaped a e) (masked_types t.most (ref_words t) (x a) (x t.inst) (t.mask u.0)) c m.there (masked_has a e (t.mask u.0) c m under)))
      (in_left (if is_empty (ref_words t) (masked_types t.most (ref_words t) (x a) (x t.inst) (t.mask u.0)) then 0 else constant_word (pos 1))
      (if is_empty (ref_words t) (without (meant_types t.most (ref_words t) (x a) (x t.inst)) (t.mask u.0)) && not (means_null t.most (ref_words t) (x a)) then 0 else constant_word (pos 0)))))
  test_has a to u (AnInt _) e (zero_of c m lacks) = inr (one_word_holds (constant_word (pos 0)) (tested_word t.most (ref_words t) (x a) (x t.inst) (t.mask u.0))
      (in_through (constant_word (pos 0)) (if is_empty (ref_words t) (without (meant_types t.most (ref_words t) (x a) (x t.inst)) (t.mask u.0)) && not (means_null t.most (ref_words t) (x a)) then 0 else constant_word (pos 0)) (tested_word t.most (ref_words t) (x a) (x t.inst) (t.mask u.0))
      (if_empty (is_empty (ref_words t) (without (meant_types t.most (ref_words t) (x a) (x t.inst)) (t.mask u.0)) && not (means_null t.most (ref_words t) (x a))) (constant_word (pos 0))
      (and_left (is_empty (ref_words t) (without (meant_types t.most (ref_words t) (x a) (x t.inst)) (t.mask u.0))) (not (means_null t.most (ref_words t) (x a)))
      (there_from_type (typed_refs t shaped a e) (without (meant_types t.most (ref_words t) (x a) (x t.inst)) (t.mask u.0)) c m.there (lacking_has a u c e m lacks))))
      (in_right (if is_empty (ref_words t) (masked_types t.most (ref_words t) (x a) (x t.inst) (t.mask u.0)) then 0 else constant_word (pos 1))
      (if is_empty (ref_words t) (without (meant_types t.most (ref_words t) (x a) (x t.inst)) (t.mask u.0)) && not (means_null t.most (ref_words t) (x a)) then 0 else constant_word (pos 0)))))
  test_has a to u (AnInt _) e (zero_of_null h) = inr (one_word_holds (constant_word (pos 0)) (tested_word t.most (ref_words t) (x a) (x t.inst) (t.mask u.0))
      (in_through (constant_word (pos 0)) (if is_empty (ref_words t) (without (meant_types t.most (ref_words t) (x a) (x t.inst)) (t.mask u.0)) && not (means_null t.most (ref_words t) (x a)) then 0 else constant_word (pos 0)) (tested_word t.most (ref_words t) (x a) (x t.inst) (t.mask u.0))
      (if_empty (is_empty (ref_words t) (without (meant_types t.most (ref_words t) (x a) (x t.inst)) (t.mask u.0)) && not (means_null t.most (ref_words t) (x a))) (constant_word (pos 0))
      (and_right (is_empty (ref_words t) (without (meant_types t.most (ref_words t) (x a) (x t.inst)) (t.mask u.0))) (not (means_null t.most (ref_words t) (x a)))
      (not_from_true (means_null t.most (ref_words t) (x a)) (null_from a e h))))
      (in_right (if is_empty (ref_words t) (masked_types t.most (ref_words t) (x a) (x t.inst) (t.mask u.0)) then 0 else constant_word (pos 1))
      (if is_empty (ref_words t) (without (meant_types t.most (ref_words t) (x a) (x t.inst)) (t.mask u.0)) && not (means_null t.most (ref_words t) (x a)) then 0 else constant_word (pos 0)))))

  made_type : HasTypes t → (c : ℕ) (m : Member) → (m ≡ OfType c) × Holds t x t.inst (OfType c) → IsWithin (member_row m) (both (type_row c) (x t.inst))
  made_type has c m g = subst (λ (d : Member). IsWithin (member_row d) (both (type_row c) (x t.inst))) (sym g.0)
      (record { each = λ k. in_and (type_row c k) (type_row c k) (x t.inst k) (in_itself (type_row c k)) ((bit_row_within (x t.inst) (c + 1) (made_has has c g.1)).each k) })

  one_type_has : HasTypes t → (kind : NodeKind) (c to : ℕ) (m : Member) → GivesType t x kind c m → IsWithin (member_row m) (one_type kind c (x t.inst))
  one_type_has has kinds.Inst c to m g = subst (λ (d : Member). IsWithin (member_row d) (type_row c)) (sym g) (within_itself (type_row c))
  one_type_has has kinds.Token c to m g = made_type has c m g
  one_type_has has kinds.Int c to m g = made_type has c m g
  one_type_has has kinds.Long c to m g = made_type has c m g
  one_type_has has kinds.Refs c to m g = made_type has c m g
  one_type_has has kinds.Links c to m g = made_type has c m g

  -- where b isn't empty, unequal references are those of a
  unequal_has : (a b : N) (c : ℕ) → HasKind t a kinds.Refs → HasKind t b kinds.Refs → MeansType t x a c → (MeansSome t x b ⊎ Holds t x b ANull)
      → has_type (unequal_types t.most (ref_words t) (x a) (x b) (x t.inst)) c ≡ true
  unequal_has a b c e f m other = at_type (has_type (unequal_types t.most (ref_words t) (x a) (x b) (x t.inst)))
      (λ d. not (is_empty (ref_words t) (meant_types t.most (ref_words t) (x b) (x t.inst)) && not (means_null t.most (ref_words t) (x b))) && means t.most (ref_words t) (x a) (x t.inst) d)
      (unequal_named t.most (ref_words t) (x a) (x b) (x t.inst)) c m.is_type
      (and_from (not (is_empty (ref_words t) (meant_types t.most (ref_words t) (x b) (x t.inst)) && not (means_null t.most (ref_words t) (x b)))) (means t.most (ref_words t) (x a) (x t.inst) c)
      (not_from_false (is_empty (ref_words t) (meant_types t.most (ref_words t) (x b) (x t.inst)) && not (means_null t.most (ref_words t) (x b))) (go other))
      (means_from a e c m))
    where
      go : (MeansSome t x b ⊎ Holds t x b ANull) → (is_empty (ref_words t) (meant_types t.most (ref_words t) (x b) (x t.inst)) && not (means_null t.most (ref_words t) (x b))) ≡ false
      go (inl s) = and_left (is_empty (ref_words t) (meant_types t.most (ref_words t) (x b) (x t.inst))) (not (means_null t.most (ref_words t) (x b))) (meant_there b f s)
      go (inr h) = and_right (is_empty (ref_words t) (meant_types t.most (ref_words t) (x b) (x t.inst))) (not (means_null t.most (ref_words t) (x b))) (not_from_true (means_null t.most (ref_words t) (x b)) (null_from b f h))

  -- each member that a value gives is in its row
  pub gives_within : (value : ValueOp N) (to : N) (m : Member) → ValueFits t value to → Gives t x value to m → AtLeast t to (member_row m) (given t value x to)
  gives_within Token to m fits g = subst (λ (d : Member). AtLeast t to (member_row d) (one_word 1)) (sym g) (inr (within_itself (one_word 1)))
  gives_within (IntIs c) to m fits g = subst (λ (d : Member). AtLeast t to (member_row d) (one_word (constant_word c))) (sym g) (inr (within_itself (one_word (constant_word c))))
  gives_within AnyInt to m fits g = inl (subst (λ (k : NodeKind). is_full t.most (t.words to) k (one_word (2 ^ 64 - 1)) ≡ true) (sym fits) refl)
  gives_within AnyLong to m fits g = subst (λ (d : Member). AtLeast t to (member_row d) (one_word 1)) (sym g) (inr (within_itself (one_word 1)))
  gives_within NullRef to m fits g = subst (λ (d : Member). AtLeast t to (member_row d) (type_row 0)) (sym g) (inr (within_itself (type_row 0)))
  gives_within (OneType c) to m fits g = inr (one_type_has (shaped.types to fits.0) (t.kind to) c.0 0 m g)
  gives_within (Copy n) to m fits g = subst₂ (λ (w : ℕ) (k : NodeKind). Receives t.most w k (member_row m) (x n)) (same_words t shaped n to fits.0 fits.1) fits.0 g
  gives_within (IntRefine cmp a b) to m fits g = subst (λ (d : Member). AtLeast t to (member_row d) (one_word (refined_word cmp (x a 0) (x b 0)))) (sym g.is)
      (int_left to g.int (refined cmp (int_value (x a 0)) (int_value (x b 0))) g.left.fits
      (refined_left cmp g.int g.other (int_value (x a 0)) (int_value (x b 0)) g.compares (int_from a g.int fits.1 g.left) (int_from b g.other fits.2 g.right)))
  gives_within (IntRefineBy cmp a j) to m fits g = subst (λ (d : Member). AtLeast t to (member_row d) (one_word (refined_word cmp (x a 0) (constant_word j)))) (sym g.0.is)
      (int_left to g.0.int (refined cmp (int_value (x a 0)) (int_value (constant_word j))) g.0.left.fits
      (refined_left cmp g.0.int j (int_value (x a 0)) (int_value (constant_word j)) g.0.compares (int_from a g.0.int fits.1 g.0.left)
      (subst (λ (v : IntValue). ints.Is j ⊑ v) (sym (value_of_constant j g.1)) refl)))
  gives_within (NotIn a place) to m fits g = subst (λ (d : Member). AtLeast t to (member_row d) (one_word (not_among_word (t.keys place) (x a 0)))) (sym g.is)
      (int_left to g.int (not_among (t.keys place) (int_value (x a 0))) g.left.fits (other_left (t.keys place) g.int (int_value (x a 0)) g.none (int_from a g.int fits.1 g.left)))
  gives_within (RefEq a b) to m fits g = set_has to (both (meant_types t.most (ref_words t) (x a) (x t.inst)) (meant_types t.most (ref_words t) (x b) (x t.inst))) (means_null t.most (ref_words t) (x a) && means_null t.most (ref_words t) (x b))
      (Holds t x a ANull × Holds t x b ANull) (λ c. MeansType t x a c × MeansType t x b c) m fits.0
      (λ h. and_from (means_null t.most (ref_words t) (x a)) (means_null t.most (ref_words t) (x b)) (null_from a fits.1 h.0) (null_from b fits.2 h.1))
      (λ c h. at_type (has_type (both (meant_types t.most (ref_words t) (x a) (x t.inst)) (meant_types t.most (ref_words t) (x b) (x t.inst)))) (λ d. means t.most (ref_words t) (x a) (x t.inst) d && means t.most (ref_words t) (x b) (x t.inst) d)
      (equal_named t.most (ref_words t) (x a) (x b) (x t.inst)) c h.0.is_type (and_from (means t.most (ref_words t) (x a) (x t.inst) c) (means t.most (ref_words t) (x b) (x t.inst) c) (means_from a fits.1 c h.0) (means_from b fits.2 c h.1))) g
  gives_within (RefNe a b) to m fits g = set_has to (unequal_types t.most (ref_words t) (x a) (x b) (x t.inst)) (means_null t.most (ref_words t) (x a) && not (is_empty (ref_words t) (meant_types t.most (ref_words t) (x b) (x t.inst))))
      (Holds t x a ANull × MeansSome t x b) (λ c. MeansType t x a c × (MeansSome t x b ⊎ Holds t x b ANull)) m fits.0
      (λ h. and_from (means_null t.most (ref_words t) (x a)) (not (is_empty (ref_words t) (meant_types t.most (ref_words t) (x b) (x t.inst)))) (null_from a fits.1 h.0)
      (not_from_false (is_empty (ref_words t) (meant_types t.most (ref_words t) (x b) (x t.inst))) (meant_there b fits.2 h.1)))
      (λ c h. unequal_has a b c fits.1 fits.2 h.0 h.1) g
  gives_within (OnlyNull a) to m fits g = set_has to nothing (means_null t.most (ref_words t) (x a)) (Holds t x a ANull) (λ c. ⊥) m fits.0 (null_from a fits.1) (λ c h. absurd h) g
  gives_within (NoNull a) to m fits g = set_has to (meant_types t.most (ref_words t) (x a) (x t.inst)) false ⊥ (MeansType t x a) m fits.0 (λ h. absurd h) (meant_has a fits.1) g
  gives_within (Under a u) to m fits g = set_has to (masked_types t.most (ref_words t) (x a) (x t.inst) (t.mask u.0)) (means_null t.most (ref_words t) (x a)) (Holds t x a ANull) (λ c. MeansType t x a c × IsUnder t c u) m fits.0
      (null_from a fits.1) (λ c h. masked_has a fits.1 (t.mask u.0) c h.0 h.1) g
  gives_within (AllUnder u) to m fits g = set_has to (both (types_of (x t.inst)) (t.mask u.0)) false ⊥ (MadeUnder t x u) m fits (λ h. absurd h) (under_has (typed_refs t shaped to fits) u) g
  gives_within (SomeUnder u) to m fits g = set_has to (both (types_of (x t.inst)) (t.mask u.0)) true (Unit {0}) (MadeUnder t x u) m fits (λ h. refl) (under_has (typed_refs t shaped to fits) u) g
  gives_within (Picked a site j) to m fits g = set_has to (masked_types t.most (ref_words t) (x a) (x t.inst) (picked_mask t site j)) false ⊥ (λ c. MeansType t x a c × (t.picks site c ≡ Some j)) m fits.0
      (λ h. absurd h) (λ c h. masked_has a fits.1 (picked_mask t site j) c h.0 (picked_has site j c h.1)) g
  gives_within (Picks a site) to m fits g = pick_has a to site m fits.1 g
  gives_within (Tested a u) to m fits g = test_has a to u m fits.1 g
  gives_within (ElementsOf a) to m fits g = element_has a to m fits.0 fits.1 g
  gives_within (IfHolds a c b u) to m fits g = subst (λ (h : Bool). AtLeast t to (member_row m) (row_if h (filtered t.most (ref_words t) (x b) (x t.inst) (t.mask u.0) Keep))) (sym (means_from a fits.1 c.0 g.0))
      (set_has to (masked_types t.most (ref_words t) (x b) (x t.inst) (t.mask u.0)) (means_null t.most (ref_words t) (x b)) (Holds t x b ANull) (λ d. MeansType t x b d × IsUnder t d u) m fits.0
      (null_from b fits.2) (λ d h. masked_has b fits.2 (t.mask u.0) d h.0 h.1) g.1)
  gives_within (IfNull a) to m fits g = subst (λ (d : Member). AtLeast t to (member_row d) (one_word (null_word t.most (ref_words t) (x a)))) (sym g.0)
      (inr (one_word_holds (constant_word (pos 0)) (null_word t.most (ref_words t) (x a))
      (subst (λ (w : ℕ). IsIn (constant_word (pos 0)) w) (sym (cond-true (means_null t.most (ref_words t) (x a)) (constant_word (pos 0)) 0 (null_from a fits.1 g.1))) (in_itself (constant_word (pos 0))))))

  -- a node that has a member isn't empty
  bit_there : (n : N) (b : ℕ) → b < 64 * t.words n → has_bit (x n) b ≡ true → is_empty (t.words n) (x n) ≡ false
  bit_there n b lt e = false_from_ne_true (is_empty (t.words n) (x n)) (λ none. true≢false (sym e ∙ no_bits_if_empty (t.words n) (x n) none b lt))

  word_holds : (n : N) (v : ℕ) → (v ≡ 0 → ⊥) → IsWithin (one_word v) (x n) → is_empty (t.words n) (x n) ≡ false
  word_holds n v some p = word_there (t.words n) 0 (x n) (some_words t shaped n) (λ z. some (word_of_nothing v (x n 0) (p.each 0) z))

  type_words : (n : N) → IsOfTypes (t.kind n) → t.words n ≡ ref_words t
  type_words n of = go (t.kind n) refl of
    where
      go : (kind : NodeKind) → t.kind n ≡ kind → IsOfTypes kind → t.words n ≡ ref_words t
      go kinds.Token e h = absurd h
      go kinds.Int e h = absurd h
      go kinds.Long e h = absurd h
      go kinds.Refs e h = (typed_refs t shaped n e).refs n e
      go kinds.Inst e h = ap t.words ((typed_inst t shaped n e).one_inst n e)
      go kinds.Links e h = absurd h

  row_there : (n : N) (m : Member) → MemberFits t n m → IsWithin (member_row m) (x n) → is_empty (t.words n) (x n) ≡ false
  row_there n AToken fits p = word_holds n 1 (λ z. absurd cc) p
  row_there n (AnInt i) fits p = word_holds n (constant_word i) (λ z. absurd (omega (arith, z))) p
  row_there n ALong fits p = word_holds n 1 (λ z. absurd cc) p
  row_there n ANull fits p = bit_there n 1 (omega (arith, some_words t shaped n)) (has_from_row (x n) 1 p)
  row_there n (OfType c) fits p = bit_there n (c + 1) (omega (arith, type_words n fits.0, (shaped.types n fits.0).bits, fits.1)) (has_from_row (x n) (c + 1) p)
  row_there n (Candidate j) fits p = bit_there n j fits (has_from_row (x n) j p)

  pub there_from_member : (n : N) (m : Member) → MemberFits t n m → Holds t x n m → is_empty (t.words n) (x n) ≡ false
  there_from_member n m fits (inl full) = full_is_there t.most (t.words n) (t.kind n) (x n) (some_words t shaped n) full
  there_from_member n m fits (inr p) = row_there n m fits p

  pub guard_from : (guard : Guard N) → GuardFits t guard → Guards t x guard → guard_holds t guard x ≡ true
  guard_from Always fits g = refl
  guard_from (NonEmpty n) fits g = not_from_false (is_empty (t.words n) (x n)) (there_from_member n g.0 g.1 g.2)
  guard_from (HasType c) fits g = made_has (typed_inst t shaped t.inst fits.0) c.0 g
  guard_from (HasUnder u) fits g = not_from_false (is_empty (ref_words t) (both (types_of (x t.inst)) (t.mask u.0)))
      (there_from_type (typed_inst t shaped t.inst fits) (both (types_of (x t.inst)) (t.mask u.0)) g.0 g.1.there (under_has (typed_inst t shaped t.inst fits) u g.0 g.1))
  guard_from (Linked n j) fits g = has_from_row (x n) j (plain_value n (bit_row j) kinds.Links (λ full. true≢false (sym full)) fits.0 g)

  -- an inequality that is met is met member by member
  pub met_by_members : (q : Inequality N) → Fits t q → IsMet t q x → IsMetByMembers t q x
  met_by_members q fits met guards m g = receives_through t.most (t.words q.target) (t.kind q.target) (member_row m) (given t q.value x q.target) (x q.target)
      (gives_within q.value q.target m fits.value g) (met (guard_from q.guard fits.guard guards))
