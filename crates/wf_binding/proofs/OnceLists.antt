-- Numbers of roots that were sorted and rid of doubles.
use Rattle.std.proofs.Common.{◌≡◌, ◌≢◌, ℕ, ◌<◌, Bool, true, ◌&&◌, nat_eq, List, length, get_or, refl, sym, ap, subst, ◌∙◌, Ordering}
use Rattle.std.specs.declared.cmp.Ordering.TheVariants.{Less, Equal}
use Rattle.std.specs.Ordering.{eq_by_cmp}
use Rattle.std.specs.Cmp.{IsTotalOrder, IsEquivalence, eq_by_cmp_equiv}
use Rattle.std.specs.List.{AllPairs, Contains, dedup}
use Rattle.std.specs.List.Sorted.{IsPermutation, IsSorted, IsStrictlySortedBy}
use Rattle.std.proofs.lemmas.Bool.{and_parts, eqb-true}
use Rattle.std.proofs.lemmas.Cmp.{tied_itself}
use Rattle.std.proofs.lemmas.List.Sorted.{Contains-permutation, IsPermutation-sym}
use Rattle.std.proofs.lemmas.List.Kept.{IsStrictlySortedBy-dedup, Contains-dedup, Contains-from_dedup}
use Rattle.std.proofs.lemmas.Map.Keys.{Less-from_sorted}
use Rattle.wf_base.specs.declared.ids.ClassId.{ClassId}
use Rattle.wf_base.specs.declared.ids.MethodId.{MethodId}
use Rattle.wf_base.specs.declared.ids.TypeId.{TypeId}
use Rattle.wf_binding.specs.Numbering.{AreEachOnce}
use Rattle.wf_binding.specs.declared.numbers.RootNumbers.{RootNumbers}
use Rattle.wf_binding.specs.declared.numbers.RootNumbers.TheVariants as roots
use Rattle.wf_binding.specs.contracts.numbers.RootNumbersPartialEq.TheImpl.{eq-value}
use Rattle.wf_binding.specs.contracts.numbers.RootNumbersOrd.TheImpl.{cmp-value}
use Rattle.wf_binding.specs.contracts.numbers.RootNumbersOrd.TheImpl.Laws.{total-law, matches_eq-law}

less_is_not_equal : Less ≡ Equal → ⊥
less_is_not_equal e = cc

apart_sorted : {X : Type 0} {R : X → X → Ordering} → IsTotalOrder R → (xs : List X) → IsStrictlySortedBy R xs → AllPairs (λ x y. x ≢ y) xs
apart_sorted {X} {R} o xs s i j d below within same =
    let tied : R (get_or xs i d) (get_or xs j d) ≡ Equal = subst (λ (y : X). R (get_or xs i d) y ≡ Equal) same (tied_itself o (get_or xs i d)) in
    less_is_not_equal (sym (Less-from_sorted R xs i j d s below within) ∙ tied)

once_sorted : {X : Type 0} {R : X → X → Ordering} (o : IsTotalOrder R) {E : X → X → Bool} (ties : (x y : X) → E x y ≡ eq_by_cmp R x y) → ((x y : X) → E x y ≡ true → x ≡ y) → (given moved : List X) → IsPermutation given moved → IsSorted R moved → AreEachOnce given (dedup E moved)
once_sorted o {E} ties same given moved p s =
    let e : IsEquivalence E = subst IsEquivalence (λ i x y. sym (ties x y) i) (eq_by_cmp_equiv o) in
    record {
      all = λ x h. Contains-dedup e same moved x (Contains-permutation given moved x p h);
      only = λ x h. Contains-permutation moved given x (IsPermutation-sym given moved p) (Contains-from_dedup E moved x h);
      apart = apart_sorted o (dedup E moved) (IsStrictlySortedBy-dedup o ties moved s);
    }

one_method : (a b : MethodId) → nat_eq a.0 b.0 ≡ true → a ≡ b
one_method a b e = ap (λ (n : ℕ). let m : MethodId = record { 0 = n } in m) (eqb-true a.0 b.0 e)

one_type : (a b : TypeId) → nat_eq a.0 b.0 ≡ true → a ≡ b
one_type a b e = ap (λ (n : ℕ). let t : TypeId = record { 0 = n } in t) (eqb-true a.0 b.0 e)

one_class : (a b : ClassId) → nat_eq a.0 b.0 ≡ true → a ≡ b
one_class a b e = ap (λ (n : ℕ). let c : ClassId = record { 0 = n } in c) (eqb-true a.0 b.0 e)

-- numbers of roots that the code takes as equal are the same
same_root : (a b : RootNumbers) → (eq-value).it a b ≡ true → a ≡ b
same_root (roots.StaticCall a) (roots.StaticCall b) e = ap (λ (m : MethodId). roots.StaticCall m) (one_method a b e)
same_root (roots.Inst a) (roots.Inst b) e = ap (λ (t : TypeId). roots.Inst t) (one_type a b e)
same_root (roots.Make c t m) (roots.Make d u n) e =
    let p = and_parts (nat_eq c.0 d.0) (nat_eq t.0 u.0 && nat_eq m.0 n.0) e in
    let q = and_parts (nat_eq t.0 u.0) (nat_eq m.0 n.0) p.1 in
    ap (λ (k : ClassId). roots.Make k t m) (one_class c d p.0) ∙ ap (λ (k : TypeId). roots.Make d k m) (one_type t u q.0) ∙ ap (λ (k : MethodId). roots.Make d u k) (one_method m n q.1)
same_root a b e = cc

pub roots_once : (given moved : List RootNumbers) → IsPermutation given moved → IsSorted (cmp-value).it moved → AreEachOnce given (dedup (eq-value).it moved)
roots_once given moved p s = once_sorted total-law matches_eq-law same_root given moved p s
