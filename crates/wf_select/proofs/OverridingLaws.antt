-- What overrides a method.
use Rattle.std.proofs.Common.{◌≡◌, ◌∙◌, ℕ, zero, suc, ◌<◌, Bool, true, false, not, ◌&&◌, List, length, get_or, Option, Some, None, refl, sym, ap, subst, arith, inl, inr, ◌⊎◌}
use Rattle.std.proofs.lemmas.Option.{same_Some}
use Rattle.std.proofs.lemmas.Slice.Eq.{bytes_eq-Decides}
use Rattle.wf_data.specs.Flags.{is_private, is_static}
use Rattle.wf_data.specs.declared.class_info.ClassInfo.{ClassInfo}
use Rattle.wf_grammar.specs.ClassFile.{Key}
use Rattle.wf_classes.specs.Above.{superclass, IsAbove, itself, through}
use Rattle.wf_classes.specs.Own.{method_flags}
use Rattle.wf_classes.specs.World.{AreHeights, superclass_of}
use Rattle.wf_resolve.specs.Upward.{FirstUp, passed, ended, Offers}
use Rattle.wf_resolve.specs.declared.upward.Wanted.TheVariants.{Overriding}
use Rattle.wf_resolve.proofs.Climbing.{above_above, no_higher, same_height}
use Rattle.wf_resolve.proofs.Ranks.{is_lower}
use Rattle.wf_select.specs.Overriding as o
use Rattle.wf_select.specs.Overriding.{IsSuperclass, direct, further, is_open, is_of_package, CanOverride, IsInstance, Overrides, of_open, in_package}
use Rattle.wf_select.specs.Packages.{same_package, package_of, name_of}

-- ---- going up

pub superclass_above : (classes : List ClassInfo) (c d : ℕ) → IsSuperclass classes c d → IsAbove classes c d
superclass_above classes c d (direct x s e) = through x s s (superclass s e) (itself s)
superclass_above classes c d (further x s y e rest) = through x s y (superclass s e) (superclass_above classes s y rest)

superclass_superclass : (classes : List ClassInfo) (c d e : ℕ) → IsSuperclass classes c d → IsSuperclass classes d e → IsSuperclass classes c e
superclass_superclass classes c d e (direct x s f) h = further x s e f h
superclass_superclass classes c d e (further x s y f rest) h = further x s e f (superclass_superclass classes s y e rest h)

pub superclass_lower : (classes : List ClassInfo) (order heights : List ℕ) (c d : ℕ) → AreHeights classes order heights → c < length classes → IsSuperclass classes c d → get_or heights d 0 < get_or heights c 0
superclass_lower classes order heights c d r k (direct x s e) = (is_lower classes order heights x s r k (superclass s e)).lower
superclass_lower classes order heights c d r k (further x s y e rest) =
    let l = is_lower classes order heights x s r k (superclass s e) in
    let m = superclass_lower classes order heights s y r l.there rest in
    let n = l.lower in
    omega arith

-- what is above each other is one
pub above_both : (classes : List ClassInfo) (order heights : List ℕ) (c d : ℕ) → AreHeights classes order heights → c < length classes → IsAbove classes c d → IsAbove classes d c → c ≡ d
above_both classes order heights c d r k a b =
    let n = no_higher classes order heights c d r k a in
    let m = no_higher classes order heights d c r n.there b in
    same_height classes order heights c d r k n.there (let x = n.height in let y = m.height in omega arith)

-- P holds of nothing above class d
pub first_none : (classes : List ClassInfo) (order heights : List ℕ) (P : ℕ → Type 0) (n d : ℕ) → AreHeights classes order heights → d < length classes → get_or heights d 0 < n → ((x : ℕ) → IsAbove classes d x → P x → ⊥) → FirstUp classes P d None
first_none classes order heights P zero d r k l h = absurd (omega arith)
first_none classes order heights P (suc n) d r k l h =
    go (superclass_of classes d) refl (λ s e. (let m = is_lower classes order heights d s r k (superclass s e) in
    first_none classes order heights P n s r m.there (let y = m.lower in omega arith) (λ x a p. h x (through d s x (superclass s e) a) p))) where
      go : (s : Option ℕ) → superclass_of classes d ≡ s → ((s : ℕ) → superclass_of classes d ≡ Some s → FirstUp classes P s None) → FirstUp classes P d None
      go None e rest = ended d (h d (itself d)) e
      go (Some s) e rest = passed d s None (h d (itself d)) e (rest s e)

-- ---- overriding

pub overridden_instance : (classes : List ClassInfo) (key : Key) (c a flags : ℕ) → Overrides classes key c a → method_flags classes key a ≡ Some flags → is_static flags ≡ false
overridden_instance classes key c a flags (o.itself x f i) e = subst (λ n. is_static n ≡ false) (same_Some f flags (sym i.there ∙ e)) i.of_instance
overridden_instance classes key c a flags (of_open x y f k i t) e = subst (λ n. is_static n ≡ false) (same_Some f flags (sym i.there ∙ e)) i.of_instance
overridden_instance classes key c a flags (in_package x y f k i t p) e = subst (λ n. is_static n ≡ false) (same_Some f flags (sym i.there ∙ e)) i.of_instance
overridden_instance classes key c a flags (o.through x b y k s g h) e = overridden_instance classes key b y flags h e

pub one_or_candidate : (classes : List ClassInfo) (key : Key) (c a : ℕ) → Overrides classes key c a → (c ≡ a) ⊎ CanOverride classes key c a
one_or_candidate classes key c a (o.itself x f i) = inl refl
one_or_candidate classes key c a (of_open x y f k i t) = inr k
one_or_candidate classes key c a (in_package x y f k i t p) = inr k
one_or_candidate classes key c a (o.through x b y k s g h) = inr k

pub overrides_above : (classes : List ClassInfo) (key : Key) (c a : ℕ) → Overrides classes key c a → IsAbove classes c a
overrides_above classes key c a h = elim (one_or_candidate classes key c a h) [ inl same ↦ subst (IsAbove classes c) same (itself c) | inr k ↦ k.above ]

two_values : (b : Bool) → b ≡ true → b ≡ false → ⊥
two_values b e f = cc

-- of a method with neither leave only that itself
pub private_alone : (classes : List ClassInfo) (key : Key) (c a flags : ℕ) → Overrides classes key c a → method_flags classes key a ≡ Some flags → is_open flags ≡ false → is_of_package flags ≡ false → c ≡ a
private_alone classes key c a flags (o.itself x f i) e u v = refl
private_alone classes key c a flags (of_open x y f k i t) e u v = absurd (two_values (is_open f) t (subst (λ n. is_open n ≡ false) (same_Some flags f (sym e ∙ i.there)) u))
private_alone classes key c a flags (in_package x y f k i t p) e u v = absurd (two_values (is_of_package f) t (subst (λ n. is_of_package n ≡ false) (same_Some flags f (sym e ∙ i.there)) v))
private_alone classes key c a flags (o.through x b y k s g h) e u v =
    let same = private_alone classes key b y flags h e u v in
    private_alone classes key x b flags g (subst (λ n. method_flags classes key n ≡ Some flags) (sym same) e) u v ∙ same

-- ---- of package access

-- a public or protected candidate of the package of class a, of a class above class c
pub record IsOpener (classes : List ClassInfo) (key : Key) (a b : ℕ) : Type 0 where
  pub candidate : CanOverride classes key b a
  pub flags : ℕ
  pub there : method_flags classes key b ≡ Some flags
  pub opens : is_open flags ≡ true
  pub near : same_package classes b a ≡ true

pub record OpenAbove (classes : List ClassInfo) (key : Key) (a c : ℕ) : Type 0 where
  pub by : ℕ
  pub up : IsSuperclass classes c by
  pub opener : IsOpener classes key a by

same_package_through : (classes : List ClassInfo) (c d e : ℕ) → same_package classes c d ≡ true → same_package classes d e ≡ true → same_package classes c e ≡ true
same_package_through classes c d e p q =
    let cd = (bytes_eq-Decides (package_of (name_of classes c)) (package_of (name_of classes d))).0 p in
    let de = (bytes_eq-Decides (package_of (name_of classes d)) (package_of (name_of classes e))).0 q in
    (bytes_eq-Decides (package_of (name_of classes c)) (package_of (name_of classes e))).1 (cd ∙ de)

-- what overrides a method of package access is that itself, or a candidate of its package, or one below an opener
pub data Ways (classes : List ClassInfo) (key : Key) (c a : ℕ) : Type 0 where
  one : c ≡ a → Ways classes key c a
  close : CanOverride classes key c a → same_package classes c a ≡ true → Ways classes key c a
  below : CanOverride classes key c a → OpenAbove classes key a c → Ways classes key c a

flag_cases : (b p : Bool) → (not b && not p) ≡ true ⊎ ((b ≡ true) ⊎ (p ≡ true))
flag_cases true p = inr (inl refl)
flag_cases false true = inr (inr refl)
flag_cases false false = inl refl

not_private : (classes : List ClassInfo) (key : Key) (b flags : ℕ) → Offers classes key Overriding b → method_flags classes key b ≡ Some flags → is_private flags ≡ true → ⊥
not_private classes key b flags h e p = go (is_static h.flags) (is_private h.flags) (ap is_private (same_Some h.flags flags (sym h.there ∙ e)) ∙ p) h.sought where
  go : (s v : Bool) → v ≡ true → (not s && not v) ≡ true → ⊥
  go true v f g = cc
  go false true f g = cc
  go false false f g = cc

pub ways : (classes : List ClassInfo) (order heights : List ℕ) (key : Key) (c a flags : ℕ) → AreHeights classes order heights → c < length classes → Overrides classes key c a → method_flags classes key a ≡ Some flags → is_of_package flags ≡ true → Ways classes key c a
ways classes order heights key c a flags r l (o.itself x f i) e u = one refl
ways classes order heights key c a flags r l (of_open x y f k i t) e u = absurd (clash (is_open flags) (is_private flags) u (subst (λ n. is_open n ≡ true) (same_Some f flags (sym i.there ∙ e)) t)) where
  clash : (b p : Bool) → (not b && not p) ≡ true → b ≡ true → ⊥
  clash true p g h = cc
  clash false p g h = cc
ways classes order heights key c a flags r l (in_package x y f k i t p) e u = close k p
ways classes order heights key c a flags r l (o.through x b y k s g h) e u =
    by_second (ways classes order heights key b y flags r (no_higher classes order heights x b r l (superclass_above classes x b s)).there h e u) (λ fb eb pack. ways classes order heights key x b fb r l g eb pack) where
      lift : CanOverride classes key b y → OpenAbove classes key b x → same_package classes b y ≡ true → OpenAbove classes key y x
      lift kb w near = record {
        by = w.by;
        up = w.up;
        opener = record {
          candidate = record {
            offers = w.opener.candidate.offers;
            above = above_above classes w.by b y w.opener.candidate.above kb.above;
            other = λ same. kb.other (sym (above_both classes order heights y b r (no_higher classes order heights x y r l k.above).there (subst (λ n. IsAbove classes n b) same w.opener.candidate.above) kb.above));
          };
          flags = w.opener.flags;
          there = w.opener.there;
          opens = w.opener.opens;
          near = same_package_through classes w.by b y w.opener.near near;
        };
      }

      by_first : CanOverride classes key b y → same_package classes b y ≡ true → Ways classes key x b → Ways classes key x y
      by_first kb near (one same) = close k (subst (λ n. same_package classes n y ≡ true) (sym same) near)
      by_first kb near (close kx p) = close k (same_package_through classes x b y p near)
      by_first kb near (below kx w) = below k (lift kb w near)

      -- b is of the package too, and a candidate
      third : CanOverride classes key b y → same_package classes b y ≡ true → (fb : ℕ) → method_flags classes key b ≡ Some fb → ((n : ℕ) → method_flags classes key b ≡ Some n → is_of_package n ≡ true → Ways classes key x b) → Ways classes key x y
      third kb near fb eb rest = elim (flag_cases (is_open fb) (is_private fb)) [
        | inl pack ↦ by_first kb near (rest fb eb pack)
        | inr other ↦ elim other [
          | inl op ↦ below k (record { by = b; up = s; opener = record { candidate = kb; flags = fb; there = eb; opens = op; near = near } })
          | inr pr ↦ absurd (not_private classes key b fb kb.offers eb pr)
        ]
      ]

      by_second : Ways classes key b y → ((n : ℕ) → method_flags classes key b ≡ Some n → is_of_package n ≡ true → Ways classes key x b) → Ways classes key x y
      by_second (one same) rest = subst (λ n. Ways classes key x n) same (rest flags (subst (λ n. method_flags classes key n ≡ Some flags) (sym same) e) u)
      by_second (close kb p) rest = third kb p kb.offers.flags kb.offers.there rest
      by_second (below kb w) rest = below k (record { by = w.by; up = superclass_superclass classes x b w.by s w.up; opener = w.opener })
