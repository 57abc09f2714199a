-- What assignments that are at most each other agree on.
use Rattle.std.proofs.Common.{◌≡◌, ℕ, Bool, true, false, refl, sym, ap}
use Rattle.wf_lattice.specs.declared.kind.NodeKind.TheVariants as kinds
use Rattle.wf_lattice.specs.declared.int_word.IntValue.{IntValue}
use Rattle.wf_lattice.specs.declared.int_word.IntValue.TheVariants.{Empty, Is, Any}
use Rattle.wf_lattice.specs.Ints.{int_value, ◌⊑◌}
use Rattle.wf_lattice.proofs.IntLaws.{value_rises}
use Rattle.wf_lattice.proofs.OrderLaws.{receives_through}
use Rattle.wf_system.specs.declared.inequality.Guard.{Guard}
use Rattle.wf_system.specs.System.{Tables, IsBelow, guard_holds, meaning_has}
use Rattle.wf_system.specs.Fits.{HasKind, AreShaped, GuardFits}
use Rattle.wf_system.specs.Members.{Member, member_row, Holds}
use Rattle.wf_system.proofs.GrowLaws.{guard_grows, meaning_grows, int_rises}

same_test : (a b : Bool) → (a ≡ true → b ≡ true) → (b ≡ true → a ≡ true) → a ≡ b
same_test true b p q = sym (p refl)
same_test false true p q = q refl
same_test false false p q = refl

same_value : (a b : IntValue) → a ⊑ b → b ⊑ a → a ≡ b
same_value Empty Empty p q = refl
same_value Empty (Is d) p q = absurd q
same_value Empty Any p q = absurd q
same_value (Is c) Empty p q = absurd p
same_value (Is c) (Is d) p q = ap (λ e. Is e) p
same_value (Is c) Any p q = absurd q
same_value Any Empty p q = absurd p
same_value Any (Is d) p q = absurd p
same_value Any Any p q = refl

module _ {N : Type 0} (t : Tables N) (x y : N → ℕ → ℕ) (up : IsBelow t x y) (down : IsBelow t y x) (shaped : AreShaped t) where
  pub guards_agree : (guard : Guard N) → GuardFits t guard → guard_holds t guard x ≡ guard_holds t guard y
  guards_agree guard fits = same_test (guard_holds t guard x) (guard_holds t guard y) (guard_grows t shaped x y up guard fits) (guard_grows t shaped y x down guard fits)

  pub meanings_agree : (n : N) (c : ℕ) → HasKind t n kinds.Refs → meaning_has t x n c ≡ meaning_has t y n c
  meanings_agree n c e = same_test (meaning_has t x n c) (meaning_has t y n c)
      (meaning_grows t shaped x y (λ (m : N). Unit {0}) (λ m r. up m) (λ a b. true) (λ m. refl) n tt tt e c)
      (meaning_grows t shaped y x (λ (m : N). Unit {0}) (λ m r. down m) (λ a b. true) (λ m. refl) n tt tt e c)

  pub ints_agree : (n : N) → HasKind t n kinds.Int → int_value (x n 0) ≡ int_value (y n 0)
  ints_agree n e = same_value (int_value (x n 0)) (int_value (y n 0))
      (value_rises (x n 0) (y n 0) (int_rises t shaped x y (λ (m : N). Unit {0}) (λ m r. up m) (λ a b. true) (λ m. refl) n tt e))
      (value_rises (y n 0) (x n 0) (int_rises t shaped y x (λ (m : N). Unit {0}) (λ m r. down m) (λ a b. true) (λ m. refl) n tt e))

pub members_grow : {N : Type 0} (t : Tables N) (x y : N → ℕ → ℕ) (n : N) (m : Member) → IsBelow t x y → Holds t x n m → Holds t y n m
members_grow t x y n m up h = receives_through t.most (t.words n) (t.kind n) (member_row m) (x n) (y n) h (up n)
