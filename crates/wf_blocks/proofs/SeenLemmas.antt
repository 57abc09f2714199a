-- Sets of kinds.
use Rattle.std.proofs.Common.{◌≡◌, ℕ, ◌+◌, ◌<◌, ◌≤◌, Bool, true, false, not, ◌&&◌, ◌||◌, refl, sym, ap, subst, ◌∙◌, arith, inl, inr}
use Rattle.std.specs.Prelude.{◌⊎◌}
use Rattle.wf_operation.specs.declared.slot.SlotKind.{SlotKind}
use Rattle.wf_operation.specs.declared.slot.SlotKind.TheVariants.{Int, Ref, Long, LongRest, Unused}
use Rattle.wf_operation.specs.declared.slot.Source.{Source}
use Rattle.wf_operation.specs.declared.slot.Source.TheVariants.{Keep, KeepNoHead, KeepNoRest, Gives}
use Rattle.wf_operation.specs.declared.slot.Wanted.{Wanted}
use Rattle.wf_operation.specs.Slots.{same_kind, allows, moved}
use Rattle.wf_blocks.specs.declared.seen.Seen.{Seen}
use Rattle.wf_blocks.specs.SeenKinds.{has, only, both, adds, through, all_allowed, kind_seen}
use Rattle.wf_blocks.specs.Flowing.{flag, kinds_in}

pub true_or_false : (b : Bool) → (b ≡ true) ⊎ (b ≡ false)
true_or_false true = inl refl
true_or_false false = inr refl

pub or_left : (x y : Bool) → x ≡ true → (x || y) ≡ true
or_left true y e = refl
or_left false y e = absurd cc

pub or_right : (x y : Bool) → y ≡ true → (x || y) ≡ true
or_right true y e = refl
or_right false y e = e

pub or_cases : (x y : Bool) → (x || y) ≡ true → (x ≡ true) ⊎ (y ≡ true)
or_cases true y e = inl refl
or_cases false y e = inr e

pub or_none : (x y : Bool) → (x || y) ≡ false → (x ≡ false) × (y ≡ false)
or_none true y e = absurd cc
or_none false y e = (refl, e)

pub and_parts : (x y : Bool) → (x && y) ≡ true → (x ≡ true) × (y ≡ true)
and_parts true y e = (refl, e)
and_parts false y e = absurd cc

pub no_more : (x y : Bool) → (y && not x) ≡ false → y ≡ true → x ≡ true
no_more true y e t = refl
no_more false true e t = absurd cc
no_more false false e t = absurd cc

pub implied : (x y : Bool) → (not x || y) ≡ true → x ≡ true → y ≡ true
implied true y e t = e
implied false y e t = absurd cc

pub is_false : (b : Bool) → (b ≡ true → ⊥) → b ≡ false
is_false true never = absurd (never refl)
is_false false never = refl

pub has-both_left : (a b : Seen) (k : SlotKind) → has a k ≡ true → has (both a b) k ≡ true
has-both_left a b Int e = or_left _ _ e
has-both_left a b Ref e = or_left _ _ e
has-both_left a b Long e = or_left _ _ e
has-both_left a b LongRest e = or_left _ _ e
has-both_left a b Unused e = or_left _ _ e

pub has-both_right : (a b : Seen) (k : SlotKind) → has b k ≡ true → has (both a b) k ≡ true
has-both_right a b Int e = or_right a.int _ e
has-both_right a b Ref e = or_right a.reference _ e
has-both_right a b Long e = or_right a.long _ e
has-both_right a b LongRest e = or_right a.rest _ e
has-both_right a b Unused e = or_right a.unused _ e

pub has-both : (a b : Seen) (k : SlotKind) → has (both a b) k ≡ true → (has a k ≡ true) ⊎ (has b k ≡ true)
has-both a b Int e = or_cases a.int b.int e
has-both a b Ref e = or_cases a.reference b.reference e
has-both a b Long e = or_cases a.long b.long e
has-both a b LongRest e = or_cases a.rest b.rest e
has-both a b Unused e = or_cases a.unused b.unused e

pub record AddsNone (a b : Seen) : Type 0 where
  pub int : (b.int && not a.int) ≡ false
  pub reference : (b.reference && not a.reference) ≡ false
  pub long : (b.long && not a.long) ≡ false
  pub rest : (b.rest && not a.rest) ≡ false
  pub unused : (b.unused && not a.unused) ≡ false

adds_none : (a b : Seen) → adds a b ≡ false → AddsNone a b
adds_none a b e =
    let one = or_none _ _ e in
    let two = or_none _ _ one.0 in
    let three = or_none _ _ two.0 in
    let four = or_none _ _ three.0 in
    record { int = four.0; reference = four.1; long = three.1; rest = two.1; unused = one.1 }

pub has-no_adds : (a b : Seen) (k : SlotKind) → adds a b ≡ false → has b k ≡ true → has a k ≡ true
has-no_adds a b Int e h = no_more a.int b.int (adds_none a b e).int h
has-no_adds a b Ref e h = no_more a.reference b.reference (adds_none a b e).reference h
has-no_adds a b Long e h = no_more a.long b.long (adds_none a b e).long h
has-no_adds a b LongRest e h = no_more a.rest b.rest (adds_none a b e).rest h
has-no_adds a b Unused e h = no_more a.unused b.unused (adds_none a b e).unused h

gain : (x y : Bool) → flag (x || y) ≡ flag x + flag (y && not x)
gain true true = refl
gain true false = refl
gain false true = refl
gain false false = refl

gains : Seen → Seen → ℕ
gains a b = flag (b.int && not a.int) + flag (b.reference && not a.reference) + flag (b.long && not a.long) + flag (b.rest && not a.rest) + flag (b.unused && not a.unused)

kinds_in-both_gains : (a b : Seen) → kinds_in (both a b) ≡ kinds_in a + gains a b
unfolding gains
kinds_in-both_gains a b =
    omega (arith, gain a.int b.int, gain a.reference b.reference, gain a.long b.long, gain a.rest b.rest, gain a.unused b.unused)

pub kinds_in-both : (a b : Seen) → kinds_in a ≤ kinds_in (both a b)
kinds_in-both a b = omega (arith, kinds_in-both_gains a b)

flag-or : (x y : Bool) → (x || y) ≡ true → 1 ≤ flag x + flag y
flag-or true y e = omega arith
flag-or false true e = omega arith
flag-or false false e = absurd cc

flag_true : (x : Bool) → x ≡ true → flag x ≡ 1
flag_true true e = refl
flag_true false e = absurd cc

gains-adds : (a b : Seen) → adds a b ≡ true → 1 ≤ gains a b
unfolding gains
gains-adds a b e =
    elim (or_cases _ _ e) [
      | inr unused ↦ omega (arith, flag_true (b.unused && not a.unused) unused)
      | inl four ↦ elim (or_cases _ _ four) [
        | inr rest ↦ omega (arith, flag_true (b.rest && not a.rest) rest)
        | inl three ↦ elim (or_cases _ _ three) [
          | inr long ↦ omega (arith, flag_true (b.long && not a.long) long)
          | inl two ↦ elim (or_cases _ _ two) [
            | inr reference ↦ omega (arith, flag_true (b.reference && not a.reference) reference)
            | inl int ↦ omega (arith, flag_true (b.int && not a.int) int)
          ]
        ]
      ]
    ]

pub kinds_in-adds : (a b : Seen) → adds a b ≡ true → kinds_in a < kinds_in (both a b)
kinds_in-adds a b e = omega (arith, kinds_in-both_gains a b, gains-adds a b e)

flag-le : (x : Bool) → flag x ≤ 1
flag-le true = omega arith
flag-le false = omega arith

pub kinds_in-le : (s : Seen) → kinds_in s ≤ 5
kinds_in-le s = omega (arith, flag-le s.int, flag-le s.reference, flag-le s.long, flag-le s.rest, flag-le s.unused)

pub has-only : (k : SlotKind) → has (only k) k ≡ true
has-only Int = refl
has-only Ref = refl
has-only Long = refl
has-only LongRest = refl
has-only Unused = refl

same-kind : (j k : SlotKind) → same_kind j k ≡ true → j ≡ k
same-kind Int Int e = refl
same-kind Ref Ref e = refl
same-kind Long Long e = refl
same-kind LongRest LongRest e = refl
same-kind Unused Unused e = refl
same-kind Int Ref e = absurd cc
same-kind Int Long e = absurd cc
same-kind Int LongRest e = absurd cc
same-kind Int Unused e = absurd cc
same-kind Ref Int e = absurd cc
same-kind Ref Long e = absurd cc
same-kind Ref LongRest e = absurd cc
same-kind Ref Unused e = absurd cc
same-kind Long Int e = absurd cc
same-kind Long Ref e = absurd cc
same-kind Long LongRest e = absurd cc
same-kind Long Unused e = absurd cc
same-kind LongRest Int e = absurd cc
same-kind LongRest Ref e = absurd cc
same-kind LongRest Long e = absurd cc
same-kind LongRest Unused e = absurd cc
same-kind Unused Int e = absurd cc
same-kind Unused Ref e = absurd cc
same-kind Unused Long e = absurd cc
same-kind Unused LongRest e = absurd cc

pub only-has : (j k : SlotKind) → has (only j) k ≡ true → j ≡ k
only-has j Int e = same-kind j Int e
only-has j Ref e = same-kind j Ref e
only-has j Long e = same-kind j Long e
only-has j LongRest e = same-kind j LongRest e
only-has j Unused e = same-kind j Unused e

-- a kind goes with its set through a way
pub has-through : (s : Source) (seen : Seen) (k : SlotKind) → has seen k ≡ true → has (through s seen) (moved s k) ≡ true
has-through (Keep i) seen k e = e
has-through (KeepNoHead i) seen Int e = e
has-through (KeepNoHead i) seen Ref e = e
has-through (KeepNoHead i) seen Long e = or_right seen.unused _ e
has-through (KeepNoHead i) seen LongRest e = e
has-through (KeepNoHead i) seen Unused e = or_left _ _ e
has-through (KeepNoRest i) seen Int e = e
has-through (KeepNoRest i) seen Ref e = e
has-through (KeepNoRest i) seen Long e = e
has-through (KeepNoRest i) seen LongRest e = or_right seen.unused _ e
has-through (KeepNoRest i) seen Unused e = or_left _ _ e
has-through (Gives new) seen k e = has-only new

-- a kind behind a way comes from one in front of it
pub record ComesFrom (s : Source) (seen : Seen) (k : SlotKind) : Type 0 where
  pub before : SlotKind
  pub there : has seen before ≡ true
  pub moved_is : moved s before ≡ k

pub comes_head : (i : ℕ) (seen : Seen) (k : SlotKind) → has (through (KeepNoHead i) seen) k ≡ true → ComesFrom (KeepNoHead i) seen k
comes_head i seen Int e = record { before = Int; there = e; moved_is = refl }
comes_head i seen Ref e = record { before = Ref; there = e; moved_is = refl }
comes_head i seen Long e = absurd cc
comes_head i seen LongRest e = record { before = LongRest; there = e; moved_is = refl }
comes_head i seen Unused e =
    elim (or_cases seen.unused seen.long e) [
      | inl unused ↦ record { before = Unused; there = unused; moved_is = refl }
      | inr long ↦ record { before = Long; there = long; moved_is = refl }
    ]

pub comes_rest : (i : ℕ) (seen : Seen) (k : SlotKind) → has (through (KeepNoRest i) seen) k ≡ true → ComesFrom (KeepNoRest i) seen k
comes_rest i seen Int e = record { before = Int; there = e; moved_is = refl }
comes_rest i seen Ref e = record { before = Ref; there = e; moved_is = refl }
comes_rest i seen Long e = record { before = Long; there = e; moved_is = refl }
comes_rest i seen LongRest e = absurd cc
comes_rest i seen Unused e =
    elim (or_cases seen.unused seen.rest e) [
      | inl unused ↦ record { before = Unused; there = unused; moved_is = refl }
      | inr rest ↦ record { before = LongRest; there = rest; moved_is = refl }
    ]

pub allowed-has : (w : Wanted) (s : Seen) (k : SlotKind) → all_allowed w s ≡ true → has s k ≡ true → allows w k ≡ true
allowed-has w s k e h =
    let one = and_parts _ _ e in
    let two = and_parts _ _ one.0 in
    let three = and_parts _ _ two.0 in
    let four = and_parts _ _ three.0 in
    by_kind k h four.0 four.1 three.1 two.1 one.1
  where
    by_kind : (j : SlotKind) → has s j ≡ true → (not s.int || allows w Int) ≡ true → (not s.reference || allows w Ref) ≡ true
        → (not s.long || allows w Long) ≡ true → (not s.rest || allows w LongRest) ≡ true → (not s.unused || allows w Unused) ≡ true → allows w j ≡ true
    by_kind Int h a b c d f = implied s.int _ a h
    by_kind Ref h a b c d f = implied s.reference _ b h
    by_kind Long h a b c d f = implied s.long _ c h
    by_kind LongRest h a b c d f = implied s.rest _ d h
    by_kind Unused h a b c d f = implied s.unused _ f h

-- ---- the kind where it is the only one

one_of : (i r l t u : Bool) (k : SlotKind) → has (record { int = i; reference = r; long = l; rest = t; unused = u }) k ≡ true
    → (kind_seen (record { int = i; reference = r; long = l; rest = t; unused = u }) ≡ Unused → ⊥)
    → k ≡ kind_seen (record { int = i; reference = r; long = l; rest = t; unused = u })
one_of i r l t true k h n = absurd (n refl)
one_of true true l t false k h n = absurd (n refl)
one_of true false true t false k h n = absurd (n refl)
one_of true false false true false k h n = absurd (n refl)
one_of true false false false false Int h n = refl
one_of true false false false false Ref h n = absurd cc
one_of true false false false false Long h n = absurd cc
one_of true false false false false LongRest h n = absurd cc
one_of true false false false false Unused h n = absurd cc
one_of false true true t false k h n = absurd (n refl)
one_of false true false true false k h n = absurd (n refl)
one_of false true false false false Ref h n = refl
one_of false true false false false Int h n = absurd cc
one_of false true false false false Long h n = absurd cc
one_of false true false false false LongRest h n = absurd cc
one_of false true false false false Unused h n = absurd cc
one_of false false true true false k h n = absurd (n refl)
one_of false false true false false Long h n = refl
one_of false false true false false Int h n = absurd cc
one_of false false true false false Ref h n = absurd cc
one_of false false true false false LongRest h n = absurd cc
one_of false false true false false Unused h n = absurd cc
one_of false false false true false LongRest h n = refl
one_of false false false true false Int h n = absurd cc
one_of false false false true false Ref h n = absurd cc
one_of false false false true false Long h n = absurd cc
one_of false false false true false Unused h n = absurd cc
one_of false false false false false k h n = absurd (n refl)

pub kind_seen-has : (s : Seen) (k : SlotKind) → has s k ≡ true → (kind_seen s ≡ Unused → ⊥) → k ≡ kind_seen s
kind_seen-has s k h n = one_of s.int s.reference s.long s.rest s.unused k h n

kind_seen-only : (k : SlotKind) → kind_seen (only k) ≡ k
kind_seen-only Int = refl
kind_seen-only Ref = refl
kind_seen-only Long = refl
kind_seen-only LongRest = refl
kind_seen-only Unused = refl

-- a flag of a set that has one kind alone
flag_is : (b : Bool) (j k : SlotKind) → (b ≡ true → k ≡ j) → (j ≡ k → b ≡ true) → b ≡ same_kind j k
flag_is true j k back here = let e : k ≡ j = back refl in subst (λ (q : SlotKind). true ≡ same_kind q k) e (sym (itself k))
  where
    itself : (q : SlotKind) → same_kind q q ≡ true
    itself Int = refl
    itself Ref = refl
    itself Long = refl
    itself LongRest = refl
    itself Unused = refl
flag_is false j k back here = sym (is_false (same_kind j k) (λ e. clash (here (same-kind j k e))))
  where
    clash : false ≡ true → ⊥
    clash e = cc

abbrev of_flags : Bool → Bool → Bool → Bool → Bool → Seen
of_flags i r l t u = record { int = i; reference = r; long = l; rest = t; unused = u }

pub kind_seen-alone : (s : Seen) (j : SlotKind) → has s j ≡ true → ((k : SlotKind) → has s k ≡ true → k ≡ j) → kind_seen s ≡ j
kind_seen-alone s j h every =
    let at : (k : SlotKind) → j ≡ k → has s k ≡ true = λ k e. subst (λ (q : SlotKind). has s q ≡ true) e h in
    let int : s.int ≡ same_kind j Int = flag_is s.int j Int (every Int) (at Int) in
    let reference : s.reference ≡ same_kind j Ref = flag_is s.reference j Ref (every Ref) (at Ref) in
    let long : s.long ≡ same_kind j Long = flag_is s.long j Long (every Long) (at Long) in
    let rest : s.rest ≡ same_kind j LongRest = flag_is s.rest j LongRest (every LongRest) (at LongRest) in
    let unused : s.unused ≡ same_kind j Unused = flag_is s.unused j Unused (every Unused) (at Unused) in
    ap kind_seen (all_same s (only j) int reference long rest unused) ∙ kind_seen-only j
  where
    all_same : (a b : Seen) → a.int ≡ b.int → a.reference ≡ b.reference → a.long ≡ b.long → a.rest ≡ b.rest → a.unused ≡ b.unused → a ≡ b
    all_same a b int reference long rest unused =
        ap (λ (x : Bool). of_flags x a.reference a.long a.rest a.unused) int
        ∙ ap (λ (x : Bool). of_flags b.int x a.long a.rest a.unused) reference
        ∙ ap (λ (x : Bool). of_flags b.int b.reference x a.rest a.unused) long
        ∙ ap (λ (x : Bool). of_flags b.int b.reference b.long x a.unused) rest
        ∙ ap (λ (x : Bool). of_flags b.int b.reference b.long b.rest x) unused
