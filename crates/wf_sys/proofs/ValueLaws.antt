-- Values are partially ordered, and the join of two is their least upper bound.
use Rattle.std.proofs.Common.{◌≡◌, Bool, true, false, cond, refl, sym, ap, ◌∙◌}
use Rattle.std.specs.Ordering.{int_eq}
use Rattle.std.proofs.lemmas.Bool.Decides.{Decides-int_eq}
use Rattle.wf_sys.specs.declared.flow.Flow.{Flow}
use Rattle.wf_sys.specs.declared.flow.Flow.TheVariants.{Empty, Set, Is, Any}
use Rattle.wf_sys.specs.Values.{◌⊑◌, is_below, join, is_empty, IsNonEmpty}

pub below_itself : (a : Flow) → a ⊑ a
below_itself Empty = tt
below_itself Set = tt
below_itself (Is c) = refl
below_itself Any = tt

pub below_any : (a : Flow) → a ⊑ Any
below_any Empty = tt
below_any Set = tt
below_any (Is c) = tt
below_any Any = tt

pub below_through : (a b c : Flow) → a ⊑ b → b ⊑ c → a ⊑ c
below_through Empty b c p q = tt
below_through Set Empty c p q = absurd p
below_through Set Set c p q = q
below_through Set (Is d) c p q = absurd p
below_through Set Any Any p q = tt
below_through Set Any Empty p q = absurd q
below_through Set Any Set p q = tt
below_through Set Any (Is e) p q = absurd q
below_through (Is x) Empty c p q = absurd p
below_through (Is x) Set c p q = absurd p
below_through (Is x) (Is d) Empty p q = absurd q
below_through (Is x) (Is d) Set p q = absurd q
below_through (Is x) (Is d) (Is e) p q = p ∙ q
below_through (Is x) (Is d) Any p q = tt
below_through (Is x) Any Empty p q = absurd q
below_through (Is x) Any Set p q = absurd q
below_through (Is x) Any (Is e) p q = absurd q
below_through (Is x) Any Any p q = tt
below_through Any Empty c p q = absurd p
below_through Any Set c p q = absurd p
below_through Any (Is d) c p q = absurd p
below_through Any Any c p q = q

pub below_both_ways : (a b : Flow) → a ⊑ b → b ⊑ a → a ≡ b
below_both_ways Empty Empty p q = refl
below_both_ways Empty Set p q = absurd q
below_both_ways Empty (Is d) p q = absurd q
below_both_ways Empty Any p q = absurd q
below_both_ways Set Empty p q = absurd p
below_both_ways Set Set p q = refl
below_both_ways Set (Is d) p q = absurd p
below_both_ways Set Any p q = absurd q
below_both_ways (Is c) Empty p q = absurd p
below_both_ways (Is c) Set p q = absurd p
below_both_ways (Is c) (Is d) p q = ap (λ e. Is e) p
below_both_ways (Is c) Any p q = absurd q
below_both_ways Any Empty p q = absurd p
below_both_ways Any Set p q = absurd p
below_both_ways Any (Is d) p q = absurd p
below_both_ways Any Any p q = refl

-- the test decides the order
pub below_tested : (a b : Flow) → is_below a b ≡ true → a ⊑ b
below_tested Empty b e = tt
below_tested Set Empty e = absurd cc
below_tested Set Set e = tt
below_tested Set (Is d) e = absurd cc
below_tested Set Any e = tt
below_tested (Is c) Empty e = absurd cc
below_tested (Is c) Set e = absurd cc
below_tested (Is c) (Is d) e = (Decides-int_eq c d).0 e
below_tested (Is c) Any e = tt
below_tested Any Empty e = absurd cc
below_tested Any Set e = absurd cc
below_tested Any (Is d) e = absurd cc
below_tested Any Any e = tt

pub tested_below : (a b : Flow) → a ⊑ b → is_below a b ≡ true
tested_below Empty b p = refl
tested_below Set Empty p = absurd p
tested_below Set Set p = refl
tested_below Set (Is d) p = absurd p
tested_below Set Any p = refl
tested_below (Is c) Empty p = absurd p
tested_below (Is c) Set p = absurd p
tested_below (Is c) (Is d) p = (Decides-int_eq c d).1 p
tested_below (Is c) Any p = refl
tested_below Any Empty p = absurd p
tested_below Any Set p = absurd p
tested_below Any (Is d) p = absurd p
tested_below Any Any p = refl

-- the join is at least both
pub join_left : (a b : Flow) → a ⊑ join a b
join_left Empty b = tt
join_left Set Empty = tt
join_left Set Set = tt
join_left Set (Is d) = tt
join_left Set Any = tt
join_left (Is c) Empty = refl
join_left (Is c) Set = tt
join_left (Is c) (Is d) = go (int_eq c d)
  where
    go : (t : Bool) → Is c ⊑ cond t (Is c) Any
    go true = refl
    go false = tt
join_left (Is c) Any = tt
join_left Any b = tt

pub join_right : (a b : Flow) → b ⊑ join a b
join_right Empty b = below_itself b
join_right Set Empty = tt
join_right Set Set = tt
join_right Set (Is d) = tt
join_right Set Any = tt
join_right (Is c) Empty = tt
join_right (Is c) Set = tt
join_right (Is c) (Is d) = go (int_eq c d) refl
  where
    go : (t : Bool) → int_eq c d ≡ t → Is d ⊑ cond t (Is c) Any
    go true e = sym ((Decides-int_eq c d).0 e)
    go false e = tt
join_right (Is c) Any = tt
join_right Any b = below_any b

-- and below whatever is
pub join_least : (a b c : Flow) → a ⊑ c → b ⊑ c → join a b ⊑ c
join_least Empty b c p q = q
join_least Set Empty c p q = p
join_least Set Set c p q = p
join_least Set (Is d) Empty p q = absurd p
join_least Set (Is d) Set p q = absurd q
join_least Set (Is d) (Is e) p q = absurd p
join_least Set (Is d) Any p q = tt
join_least Set Any c p q = q
join_least (Is x) Empty c p q = p
join_least (Is x) Set Empty p q = absurd p
join_least (Is x) Set Set p q = absurd p
join_least (Is x) Set (Is e) p q = absurd q
join_least (Is x) Set Any p q = tt
join_least (Is x) (Is d) c p q = go (int_eq x d) refl c p q
  where
    go : (t : Bool) → int_eq x d ≡ t → (c : Flow) → Is x ⊑ c → Is d ⊑ c → cond t (Is x) Any ⊑ c
    go true e c p q = p
    go false e Empty p q = absurd p
    go false e Set p q = absurd p
    go false e (Is y) p q =
        let same : int_eq x d ≡ true = (Decides-int_eq x d).1 (p ∙ sym q) in
        absurd cc
    go false e Any p q = tt
join_least (Is x) Any c p q = q
join_least Any b c p q = p

-- a value that is not empty flows
pub not_empty : (a : Flow) → is_empty a ≡ false → IsNonEmpty a
not_empty Empty e = absurd cc
not_empty Set e = tt
not_empty (Is c) e = tt
not_empty Any e = tt

pub flows : (a : Flow) → IsNonEmpty a → is_empty a ≡ false
flows Empty p = absurd p
flows Set p = refl
flows (Is c) p = refl
flows Any p = refl

-- and so does a value above it
pub flows_above : (a b : Flow) → a ⊑ b → IsNonEmpty a → IsNonEmpty b
flows_above Empty b p q = absurd q
flows_above Set Empty p q = absurd p
flows_above Set Set p q = tt
flows_above Set (Is d) p q = tt
flows_above Set Any p q = tt
flows_above (Is c) Empty p q = absurd p
flows_above (Is c) Set p q = tt
flows_above (Is c) (Is d) p q = tt
flows_above (Is c) Any p q = tt
flows_above Any Empty p q = absurd p
flows_above Any Set p q = tt
flows_above Any (Is d) p q = tt
flows_above Any Any p q = tt
