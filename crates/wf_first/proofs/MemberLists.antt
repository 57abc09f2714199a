-- Members that are the same, and members in the order of their names, each once.
use Rattle.std.proofs.Common.{◌≡◌, ℕ, List, Bool, ◌&&◌, nat_eq, true, sym, ap, subst, ◌∙◌}
use Rattle.std.specs.Ordering.{eq_by_cmp}
use Rattle.std.specs.Cmp.{IsTotalOrder, IsEquivalence, then_total, on_total, nat_cmp_total, eq_by_cmp_equiv, both_tied}
use Rattle.std.specs.Cmp.Lexicographic.{pointwise, lists_total, texts_ties}
use Rattle.std.specs.List.{Contains, dedup}
use Rattle.std.specs.List.Sorted.{IsPermutation, IsSorted}
use Rattle.std.proofs.lemmas.List.Sorted.{Contains-permutation, IsPermutation-sym}
use Rattle.std.proofs.lemmas.List.Kept.{IsStrictlySortedBy-dedup, Contains-dedup, Contains-from_dedup}
use Rattle.std.specs.Str.{bytes_eq}
use Rattle.std.proofs.lemmas.Slice.Eq.{bytes_eq-Decides}
use Rattle.wf_names.specs.declared.member.MemberName.{MemberName}
use Rattle.wf_names.specs.Members.{same_member}
use Rattle.wf_names.specs.NameForm.{member_of}
use Rattle.wf_first.proofs.ListLaws.{and_both}
use Rattle.wf_sys.specs.Names.{Lists, member_cmp}

member_total : IsTotalOrder member_cmp
member_total = then_total (on_total (λ (m : MemberName). m.class) (lists_total nat_cmp_total)) (then_total (on_total (λ (m : MemberName). m.name) (lists_total nat_cmp_total)) (on_total (λ (m : MemberName). m.desc) (lists_total nat_cmp_total)))

-- `==` of members holds just where they compare as equal
pub member_ties : (a b : MemberName) → (pointwise nat_eq a.class b.class && (pointwise nat_eq a.name b.name && pointwise nat_eq a.desc b.desc)) ≡ eq_by_cmp member_cmp a b
member_ties a b = both_tied _ _ _ _ (texts_ties a.class b.class) (both_tied _ _ _ _ (texts_ties a.name b.name) (texts_ties a.desc b.desc))

-- members of which the test says so are the same
pub member_is : (a b : MemberName) → same_member a b ≡ true → a ≡ b
member_is a b e =
    let class = and_both (bytes_eq a.class b.class) (bytes_eq a.name b.name && bytes_eq a.desc b.desc) e in
    let rest = and_both (bytes_eq a.name b.name) (bytes_eq a.desc b.desc) class.1 in
    ap (λ (c : List ℕ). member_of c a.name a.desc) ((bytes_eq-Decides a.class b.class).0 class.0)
    ∙ ap (λ (n : List ℕ). member_of b.class n a.desc) ((bytes_eq-Decides a.name b.name).0 rest.0)
    ∙ ap (λ (d : List ℕ). member_of b.class b.name d) ((bytes_eq-Decides a.desc b.desc).0 rest.1)

-- members that were sorted and rid of doubles
pub lists_sorted : {E : MemberName → MemberName → Bool} (ties : (a b : MemberName) → E a b ≡ eq_by_cmp member_cmp a b) (given moved : List MemberName) → IsPermutation given moved → IsSorted member_cmp moved
    → Lists member_cmp (Contains given) (dedup E moved)
lists_sorted {E} ties given moved p s =
    let e : IsEquivalence E = subst IsEquivalence (λ i x y. sym (ties x y) i) (eq_by_cmp_equiv member_total) in
    record {
      in_order = IsStrictlySortedBy-dedup member_total ties moved s;
      only = λ m h. Contains-permutation moved given m (IsPermutation-sym given moved p) (Contains-from_dedup E moved m h);
      all = λ m h. Contains-dedup e (λ a b same. member_is a b (member_ties a b ∙ sym (ties a b) ∙ same)) moved m (Contains-permutation given moved m p h);
    }
