-- The numbers of texts stay as texts are met.
use Rattle.std.proofs.Common.{◌≡◌, ℕ, Bool, true, false, cond, ◌⊎◌, List, Option, Some, None, refl, sym, ap, subst, ◌∙◌, inl, inr}
use Rattle.std.specs.Ordering.{nat_cmp, is_eq}
use Rattle.std.specs.Cmp.Lexicographic.{slice_cmp}
use Rattle.std.specs.BTreeMap as tree
use Rattle.std.specs.BTreeMap.{BTreeMap, is_at}
use Rattle.std.specs.Map.{lookup}
use Rattle.std.specs.Cmp.{Equal-is}
use Rattle.std.proofs.lemmas.Map.Lookups.{exact_unsigned}
use Rattle.std.proofs.lemmas.Option.{none-some, same_Some}
use Rattle.std.proofs.lemmas.Map.Text.{is_eq-slice_cmp}
use Rattle.std.proofs.lemmas.Slice.Eq.{bytes_eq-Decides}
use Rattle.wf_data.specs.declared.class_info.PoolEntry.{PoolEntry}
use Rattle.wf_data.specs.Pool.{text_at}
use Rattle.wf_classfile.specs.declared.texts.Seen.{Seen}
use Rattle.wf_classfile.specs.Numbers.{number_in, Adds}
use Rattle.wf_classfile.specs.Places.{IsSeen, AreSeen}

kept_at : (b : Bool) (old new : Option ℕ) (place n : ℕ) → (b ≡ true → old ≡ None) → new ≡ cond b (Some place) old → old ≡ Some n → new ≡ Some n
kept_at true old new place n absent is h = absurd (none-some n (sym (absent refl) ∙ h))
kept_at false old new place n absent is h = is ∙ h

only_at : (b : Bool) (old new : Option ℕ) (place n : ℕ) → new ≡ cond b (Some place) old → new ≡ Some n → (old ≡ Some n) ⊎ ((b ≡ true) × (n ≡ place))
only_at true old new place n is h = inr (refl, same_Some n place (sym h ∙ is))
only_at false old new place n is h = inl (sym is ∙ h)

same : (t u : List ℕ) → is_eq (slice_cmp nat_cmp t u) ≡ true → t ≡ u
same t u h = (bytes_eq-Decides t u).0 (sym (is_eq-slice_cmp t u) ∙ h)

more : (old new : BTreeMap (List ℕ) ℕ) (added : List ℕ) (place : ℕ) → tree.get (slice_cmp nat_cmp) old added ≡ None → tree.Updates (slice_cmp nat_cmp) old new added (Some place) → Adds old.entries new.entries added place
more old new added place absent updated = record {
  kept = λ text n h. kept_at (is_eq (slice_cmp nat_cmp added text)) (number_in old.entries text) (number_in new.entries text) place n (λ e. subst (λ (t : List ℕ). number_in old.entries t ≡ None) (same added text e) absent) (updated.0 text) h;
  only = λ text n h. elim (only_at (is_eq (slice_cmp nat_cmp added text)) (number_in old.entries text) (number_in new.entries text) place n (updated.0 text) h) [
    | inl e ↦ inl e
    | inr e ↦ inr (sym (same added text e.0), e.1)
  ];
}

-- a text that had no number got one, by a key that is equal to it
pub one_more : (old new : BTreeMap (List ℕ) ℕ) (key added : List ℕ) (place : ℕ) → key ≡ added → tree.get (slice_cmp nat_cmp) old added ≡ None → tree.Updates (slice_cmp nat_cmp) old new key (Some place) → Adds old.entries new.entries added place
one_more old new key added place is absent updated = more old new added place absent (subst (λ (t : List ℕ). tree.Updates (slice_cmp nat_cmp) old new t (Some place)) is updated)

-- a text that stands at a place got a number, or had it
pub still_seen : (pool : List PoolEntry) (places : BTreeMap ℕ Seen) (old new : List (List ℕ × ℕ)) (added : List ℕ) (place : ℕ) → text_at pool place ≡ Some added → Adds old new added place → AreSeen pool places old → AreSeen pool places new
still_seen pool places old new added place there adds so_far = record {
  seen = λ p s h. record { text = (so_far.seen p s h).text; number = adds.kept s.known s.number (so_far.seen p s h).number };
  stands = λ text n h. elim (adds.only text n h) [
    | inl e ↦ so_far.stands text n e
    | inr e ↦ ap (text_at pool) e.1 ∙ there ∙ ap (λ (t : List ℕ). Some t) (sym e.0)
  ];
}

seen_at : (b : Bool) (old new : Option Seen) (one s : Seen) → new ≡ cond b (Some one) old → new ≡ Some s → (old ≡ Some s) ⊎ ((b ≡ true) × (one ≡ s))
seen_at true old new one s is h = inr (refl, same_Some one s (sym is ∙ h))
seen_at false old new one s is h = inl (sym is ∙ h)

-- what was seen at one more place
pub one_more_seen : (pool : List PoolEntry) (old new : BTreeMap ℕ Seen) (numbers : List (List ℕ × ℕ)) (place : ℕ) (one : Seen) → IsSeen pool numbers place one → tree.Updates nat_cmp old new place (Some one) → AreSeen pool old numbers → AreSeen pool new numbers
one_more_seen pool old new numbers place one is updated so_far = record {
  seen = λ p s h. elim (seen_at (is_eq (nat_cmp place p)) (tree.get nat_cmp old p) (tree.get nat_cmp new p) one s (updated.0 p) h) [
    | inl e ↦ so_far.seen p s e
    | inr e ↦ subst (λ (q : Seen). IsSeen pool numbers p q) e.1 (subst (λ (q : ℕ). IsSeen pool numbers q one) (exact_unsigned place p ((Equal-is (nat_cmp place p)).0 e.0)) is)
  ];
  stands = so_far.stands;
}

-- where nothing more was seen
pub same_seen : (pool : List PoolEntry) (old new : BTreeMap ℕ Seen) (numbers : List (List ℕ × ℕ)) → tree.IsUnchanged old new → AreSeen pool old numbers → AreSeen pool new numbers
same_seen pool old new numbers e so_far = record {
  seen = λ p s h. so_far.seen p s (ap (λ (es : List (ℕ × Seen)). lookup (is_at (nat_cmp p)) es) (sym e) ∙ h);
  stands = so_far.stands;
}
