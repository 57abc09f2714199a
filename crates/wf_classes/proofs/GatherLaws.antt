-- A class more among those that are gathered, and that these can be closed.
use Rattle.std.proofs.Common.{◌≡◌, ℕ, zero, suc, ◌+◌, ◌-◌, ◌≤◌, ◌<◌, ◌⊎◌, inl, inr, List, [], ◌∷◌, ◌++◌, length, sum_by, Some, refl, sym, ap, subst, ◌∙◌, arith}
use Rattle.std.specs.Prelude.{slice_get}
use Rattle.std.proofs.lemmas.List.{length-append}
use Rattle.std.proofs.lemmas.List.Sums.{sum_by-append, sum_by-cons}
use Rattle.wf_data.specs.declared.class_info.ClassInfo.{ClassInfo}
use Rattle.wf_data.specs.declared.class_info.CodeInfo.{CodeInfo}
use Rattle.wf_data.specs.declared.class_info.MethodInfo.{MethodInfo}
use Rattle.wf_grammar.specs.ClassFile.{Spells}
use Rattle.wf_grammar.specs.Writing.{HasSpelling}
use Rattle.wf_classes.specs.Gathering.{IsNew, AreGathered}
use Rattle.wf_classes.specs.World.{AreWithinLimits, code_bytes, text_bytes}
use Rattle.wf_classes.proofs.Sizes.{within_bytes}

no_class : (i : ℕ) (k : ClassInfo) → slice_get {X = ClassInfo} [] i ≡ Some k → ⊥
no_class i k e = cc

-- an element of a longer list is one of before, or the last
last_or : (xs : List ClassInfo) (y k : ClassInfo) (i : ℕ) → slice_get (xs ++ y ∷ []) i ≡ Some k → (slice_get xs i ≡ Some k) ⊎ ((i ≡ length xs) × (k ≡ y))
last_or [] y k zero e = (let same : y ≡ k = cc in inr (refl, sym same))
last_or [] y k (suc i) e = absurd (no_class i k e)
last_or (x ∷ xs) y k zero e = inl e
last_or (x ∷ xs) y k (suc i) e = elim (last_or xs y k i e) [
  | inl a ↦ inl a
  | inr b ↦ inr (ap (λ n. suc n) b.0, b.1)
]

one_sum : (m : ClassInfo → ℕ) (xs : List ClassInfo) (k : ClassInfo) → sum_by m (xs ++ k ∷ []) ≡ sum_by m xs + m k
one_sum m xs k = let one : sum_by m (k ∷ []) ≡ m k + sum_by m [] = sum_by-cons m k [] in omega (arith, sum_by-append m xs (k ∷ []), one)

pub none_gathered : (left : ℕ) → left ≤ 536870912 → AreGathered [] left
none_gathered left le = record {
  apart = record { apart = λ i j a b e f s. absurd (no_class i a e) };
  spelled = record { each = λ c k e. absurd (no_class c k e) };
  count = omega arith;
  methods = omega (arith, le);
  fields = omega (arith, le);
  code = omega (arith, le);
  text = omega (arith, le);
  codes = λ c i k m code e f g. absurd (no_class c k e);
}

pub one_gathered : (classes : List ClassInfo) (left : ℕ) (bytes : List ℕ) (k : ClassInfo) → AreGathered classes left → Spells bytes k → length classes < 65536 → length bytes ≤ left → IsNew classes k.name → AreGathered (classes ++ k ∷ []) (left - length bytes)
one_gathered classes left bytes k r h few room new =
    let size = within_bytes bytes k h in
    let rest : (left - length bytes) + length bytes ≡ left = omega (arith, room) in
    record {
      apart = record { apart = λ i j a b e f s. apart i j a b s (last_or classes k a i e) (last_or classes k b j f) };
      spelled = record { each = λ c d e. spelled c d (last_or classes k d c e) };
      count = omega (arith, few, length-append classes (k ∷ []));
      methods = omega (arith, rest, r.methods, one_sum (λ (d : ClassInfo). length d.methods) classes k, size.methods);
      fields = omega (arith, rest, r.fields, one_sum (λ (d : ClassInfo). length d.fields) classes k, size.fields);
      code = omega (arith, rest, r.code, one_sum code_bytes classes k, size.code);
      text = omega (arith, rest, r.text, one_sum text_bytes classes k, size.text);
      codes = λ c i d m code e f g. codes c i d m code f g (last_or classes k d c e);
    } where
      apart : (i j : ℕ) (a b : ClassInfo) → a.name ≡ b.name → ((slice_get classes i ≡ Some a) ⊎ ((i ≡ length classes) × (a ≡ k))) → ((slice_get classes j ≡ Some b) ⊎ ((j ≡ length classes) × (b ≡ k))) → i ≡ j
      apart i j a b s (inl e) (inl f) = r.apart.apart i j a b e f s
      apart i j a b s (inl e) (inr f) = absurd (new.none i a e (s ∙ ap (λ (d : ClassInfo). d.name) f.1))
      apart i j a b s (inr e) (inl f) = absurd (new.none j b f (sym s ∙ ap (λ (d : ClassInfo). d.name) e.1))
      apart i j a b s (inr e) (inr f) = e.0 ∙ sym f.0

      spelled : (c : ℕ) (d : ClassInfo) → ((slice_get classes c ≡ Some d) ⊎ ((c ≡ length classes) × (d ≡ k))) → HasSpelling d
      spelled c d (inl e) = r.spelled.each c d e
      spelled c d (inr e) = subst HasSpelling (sym e.1) (record { bytes = bytes; spelled = h })

      codes : (c i : ℕ) (d : ClassInfo) (m : MethodInfo) (code : CodeInfo) → slice_get d.methods i ≡ Some m → m.code ≡ Some code → ((slice_get classes c ≡ Some d) ⊎ ((c ≡ length classes) × (d ≡ k))) → length code.code ≤ 65535
      codes c i d m code f g (inl e) = r.codes c i d m code e f g
      codes c i d m code f g (inr e) = (within_bytes bytes k h).codes i m code (sym (ap (λ (a : ClassInfo). slice_get a.methods i) e.1) ∙ f) g

pub gathered_limits : (classes : List ClassInfo) (left : ℕ) → AreGathered classes left → AreWithinLimits classes
gathered_limits classes left r = record {
  count = r.count;
  methods = omega (arith, r.methods);
  fields = omega (arith, r.fields);
  code = omega (arith, r.code);
  text = omega (arith, r.text);
  codes = r.codes;
}
