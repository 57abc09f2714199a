-- The walk past the candidates of a method that has package access.
use Rattle.std.proofs.Common.{◌≡◌, ◌≢◌, ◌∙◌, ℕ, ◌+◌, ◌<◌, Bool, true, false, not, ◌&&◌, List, length, get_or, Option, Some, None, refl, sym, ap, subst, arith, inl, inr, ◌⊎◌}
use Rattle.std.specs.Prelude.{IfSome, option_map, unwrap_or}
use Rattle.std.proofs.lemmas.Option.{same_Some}
use Rattle.wf_data.specs.Flags.{is_private, is_static}
use Rattle.wf_data.specs.declared.class_info.ClassInfo.{ClassInfo}
use Rattle.wf_grammar.specs.ClassFile.{Key}
use Rattle.wf_classes.specs.Above as up
use Rattle.wf_classes.specs.Above.{IsAbove, superclass}
use Rattle.wf_classes.specs.Own.{method_flags}
use Rattle.wf_classes.specs.World.{AreHeights, number, superclass_of}
use Rattle.wf_classes.specs.declared.own.OwnMethod.{OwnMethod}
use Rattle.wf_resolve.specs.Upward.{FirstUp, found, passed, ended, IsOwn, Offers}
use Rattle.wf_resolve.specs.declared.upward.Wanted.TheVariants.{Overriding}
use Rattle.wf_resolve.proofs.Climbing.{above_above, by_last}
use Rattle.wf_resolve.proofs.Ranks.{is_lower}
use Rattle.wf_select.specs.Overriding.{IsSuperclass, direct, further, is_open, is_of_package, CanOverride, IsInstance, Overrides, itself, of_open, in_package, through}
use Rattle.wf_select.specs.Packages.{same_package}
use Rattle.wf_select.specs.Walking.{IsCandidate, StandsAs, known, with_passed}
use Rattle.wf_select.specs.declared.overriding.Passed.{Passed}
use Rattle.wf_select.specs.declared.overriding.Standing.{Standing}
use Rattle.wf_select.specs.declared.overriding.Standing.TheVariants.{Itself, Opener, Near, Far, Nothing}
use Rattle.wf_select.proofs.OverridingLaws.{superclass_above, superclass_lower, above_both, first_none, one_or_candidate, IsOpener, OpenAbove, Ways, one, close, below, ways, overrides_above}

-- class d is an opener, or one stands above it
abbrev pub OpenAt : List ClassInfo → Key → ℕ → ℕ → Type 0
OpenAt classes key a d = IsOpener classes key a d ⊎ OpenAbove classes key a d

abbrev pub First : List ClassInfo → Key → ℕ → ℕ → Option ℕ → Type 0
First classes key a = FirstUp classes (λ x. Overrides classes key x a)

abbrev pub class_of_method : OwnMethod → ℕ
class_of_method m = number m.class

-- What overrides it, seen from class t, where the walk has come to class d.
pub record IsWalked (classes : List ClassInfo) (key : Key) (a t d : ℕ) (p : Passed) : Type 0 where
  pub in_there : d < length classes
  pub way : IsAbove classes t d
  pub under : IsAbove classes d a
  pub own_any : IfSome p.any (λ m. IsOwn classes key m)
  pub own_near : IfSome p.near (λ m. IsOwn classes key m)
  pub opened : (m : OwnMethod) → p.any ≡ Some m → OpenAt classes key a d → First classes key a t (Some (number m.class))
  pub nearest : (m : OwnMethod) → p.near ≡ Some m → (OpenAt classes key a d → ⊥) → First classes key a t (Some (number m.class))
  pub none : p.any ≡ None → (r : Option ℕ) → First classes key a d r → First classes key a t r
  pub none_near : p.near ≡ None → (OpenAt classes key a d → ⊥) → (r : Option ℕ) → First classes key a d r → First classes key a t r

pub walked_none : (classes : List ClassInfo) (key : Key) (a t : ℕ) → t < length classes → IsAbove classes t a → IsWalked classes key a t t (record { any = None; near = None })
walked_none classes key a t l u = record {
  in_there = l;
  way = up.itself t;
  under = u;
  own_any = tt;
  own_near = tt;
  opened = λ m e. absurd cc;
  nearest = λ m e. absurd cc;
  none = λ e r h. h;
  none_near = λ e n r h. h;
}

-- ---- what stands in the class

can_override : (classes : List ClassInfo) (key : Key) (a d : ℕ) (m : OwnMethod) → IsAbove classes d a → IsCandidate classes key a d m → CanOverride classes key d a
can_override classes key a d m u k = record { offers = k.offers; above = u; other = k.other }

flags_there : (classes : List ClassInfo) (key : Key) (a d : ℕ) (m : OwnMethod) → IsCandidate classes key a d m → method_flags classes key d ≡ Some m.flags
flags_there classes key a d m k = subst (λ n. method_flags classes key n ≡ Some m.flags) k.class k.own.flagged

opener_is : (classes : List ClassInfo) (key : Key) (a d : ℕ) (m : OwnMethod) → IsAbove classes d a → IsCandidate classes key a d m → same_package classes d a ≡ true → is_open m.flags ≡ true → IsOpener classes key a d
opener_is classes key a d m u k near op = record { candidate = can_override classes key a d m u k; flags = m.flags; there = flags_there classes key a d m k; opens = op; near = near }

-- nothing opens at the class itself, nor above it
pub closed_itself : (classes : List ClassInfo) (order heights : List ℕ) (key : Key) (a : ℕ) → AreHeights classes order heights → a < length classes → OpenAt classes key a a → ⊥
closed_itself classes order heights key a r l (inl w) = w.candidate.other refl
closed_itself classes order heights key a r l (inr w) =
    let up = superclass_above classes a w.by w.up in
    w.opener.candidate.other (sym (above_both classes order heights a w.by r l up w.opener.candidate.above))

-- a candidate below an opener overrides
pub open_overrides : (classes : List ClassInfo) (order heights : List ℕ) (key : Key) (a d flags : ℕ) → AreHeights classes order heights → d < length classes → IsInstance classes key a flags → is_of_package flags ≡ true → CanOverride classes key d a → OpenAbove classes key a d → Overrides classes key d a
open_overrides classes order heights key a d flags r l i pack k w =
    let o = w.opener in
    let lower = superclass_lower classes order heights d w.by r l w.up in
    let over_b : CanOverride classes key d w.by = record { offers = k.offers; above = superclass_above classes d w.by w.up; other = λ same. (let e = ap (λ n. get_or heights n 0) same in omega arith) } in
    through d w.by a k w.up (of_open d w.by o.flags over_b (record { there = o.there; of_instance = not_static (o.candidate.offers) }) o.opens)
    (in_package w.by a flags o.candidate i pack o.near) where
      not_static : Offers classes key Overriding w.by → is_static w.opener.flags ≡ false
      not_static h = go (is_static h.flags) (is_private h.flags) refl h.sought where
        go : (s v : Bool) → is_static h.flags ≡ s → (not s && not v) ≡ true → is_static w.opener.flags ≡ false
        go true v e f = absurd cc
        go false v e f = subst (λ n. is_static n ≡ false) (same_Some h.flags w.opener.flags (sym h.there ∙ w.opener.there)) e

-- where nothing opens, a candidate of another package, or none, doesn't override
far_not : (classes : List ClassInfo) (order heights : List ℕ) (key : Key) (a d flags : ℕ) → AreHeights classes order heights → d < length classes → IsInstance classes key a flags → is_of_package flags ≡ true → d ≢ a → same_package classes d a ≡ false → (OpenAbove classes key a d → ⊥) → Overrides classes key d a → ⊥
far_not classes order heights key a d flags r l i pack other far closed h = go (ways classes order heights key d a flags r l h i.there pack) where
  go : Ways classes key d a → ⊥
  go (one same) = other same
  go (close k p) = clash far p where
    clash : same_package classes d a ≡ false → same_package classes d a ≡ true → ⊥
    clash e f = cc
  go (below k w) = closed w

-- ---- steps

-- the class that is passed has no opener of its own: what opens above it opens at its superclass
open_up : (classes : List ClassInfo) (key : Key) (a d s : ℕ) → superclass_of classes d ≡ Some s → OpenAt classes key a s → OpenAbove classes key a d
open_up classes key a d s e (inl w) = record { by = s; up = direct d s e; opener = w }
open_up classes key a d s e (inr w) = record { by = w.by; up = further d s w.by e w.up; opener = w.opener }

open_down : (classes : List ClassInfo) (key : Key) (a d s : ℕ) → superclass_of classes d ≡ Some s → OpenAbove classes key a d → OpenAt classes key a s
open_down classes key a d s e w = go w.by w.up w.opener where
  go : (b : ℕ) → IsSuperclass classes d b → IsOpener classes key a b → OpenAt classes key a s
  go b (direct x y f) o = inl (subst (IsOpener classes key a) (same_Some y s (sym f ∙ e)) o)
  go b (further x y z f rest) o = inr (record { by = z; up = subst (λ n. IsSuperclass classes n z) (same_Some y s (sym f ∙ e)) rest; opener = o })

-- What overrides it, seen from class t, where the walk has passed class d.
pub record IsPast (classes : List ClassInfo) (key : Key) (a t d : ℕ) (p : Passed) : Type 0 where
  pub own_any : IfSome p.any (λ m. IsOwn classes key m)
  pub own_near : IfSome p.near (λ m. IsOwn classes key m)
  pub opened : (m : OwnMethod) → p.any ≡ Some m → OpenAbove classes key a d → First classes key a t (Some (number m.class))
  pub nearest : (m : OwnMethod) → p.near ≡ Some m → (OpenAbove classes key a d → ⊥) → First classes key a t (Some (number m.class))
  pub none : p.any ≡ None → (r : Option ℕ) → First classes key a d r → First classes key a t r
  pub none_near : p.near ≡ None → (OpenAbove classes key a d → ⊥) → (r : Option ℕ) → First classes key a d r → First classes key a t r
  pub not_any : p.any ≡ None → Overrides classes key d a → ⊥
  pub not_near : p.near ≡ None → (OpenAbove classes key a d → ⊥) → Overrides classes key d a → ⊥

-- with a candidate first found in class d
found_here : (classes : List ClassInfo) (key : Key) (a d : ℕ) (m : OwnMethod) → number m.class ≡ d → Overrides classes key d a → First classes key a d (Some (number m.class))
found_here classes key a d m e h = subst (λ n. First classes key a d (Some n)) (sym e) (found d h)

own_of : (classes : List ClassInfo) (key : Key) (o : Option OwnMethod) (m : OwnMethod) → IfSome o (λ x. IsOwn classes key x) → IsOwn classes key m → IsOwn classes key (unwrap_or o m)
own_of classes key None m h k = k
own_of classes key (Some x) m h k = h

not_opener : (classes : List ClassInfo) (key : Key) (a d : ℕ) (m : OwnMethod) → IsCandidate classes key a d m → is_open m.flags ≡ false → IsOpener classes key a d → ⊥
not_opener classes key a d m k f o = clash (is_open o.flags) o.opens (subst (λ n. is_open n ≡ false) (same_Some m.flags o.flags (sym (flags_there classes key a d m k) ∙ o.there)) f) where
  clash : (b : Bool) → b ≡ true → b ≡ false → ⊥
  clash b e g = cc

-- what the lowest candidate is where the walk has one, or takes this one
opened_by : (classes : List ClassInfo) (key : Key) (a t d : ℕ) (p : Passed) (m x : OwnMethod) → IsWalked classes key a t d p → OpenAbove classes key a d → First classes key a d (Some (number m.class)) → Some (unwrap_or p.any m) ≡ Some x → First classes key a t (Some (number x.class))
opened_by classes key a t d p m x w opening h e = go p.any refl e where
  go : (o : Option OwnMethod) → p.any ≡ o → Some (unwrap_or o m) ≡ Some x → First classes key a t (Some (number x.class))
  go None is e = subst (λ (y : OwnMethod). First classes key a t (Some (number y.class))) (same_Some m x e) (w.none is (Some (number m.class)) h)
  go (Some y) is e = subst (λ (y : OwnMethod). First classes key a t (Some (number y.class))) (same_Some y x e) (w.opened y is (inr opening))

nearest_by : (classes : List ClassInfo) (key : Key) (a t d : ℕ) (p : Passed) (m x : OwnMethod) → IsWalked classes key a t d p → (OpenAt classes key a d → ⊥) → First classes key a d (Some (number m.class)) → Some (unwrap_or p.near m) ≡ Some x → First classes key a t (Some (number x.class))
nearest_by classes key a t d p m x w closed h e = go p.near refl e where
  go : (o : Option OwnMethod) → p.near ≡ o → Some (unwrap_or o m) ≡ Some x → First classes key a t (Some (number x.class))
  go None is e = subst (λ (y : OwnMethod). First classes key a t (Some (number y.class))) (same_Some m x e) (w.none_near is closed (Some (number m.class)) h)
  go (Some y) is e = subst (λ (y : OwnMethod). First classes key a t (Some (number y.class))) (same_Some y x e) (w.nearest y is closed)

closed_at : (classes : List ClassInfo) (key : Key) (a d : ℕ) → (IsOpener classes key a d → ⊥) → (OpenAbove classes key a d → ⊥) → OpenAt classes key a d → ⊥
closed_at classes key a d n m (inl o) = n o
closed_at classes key a d n m (inr w) = m w

pub past : (classes : List ClassInfo) (order heights : List ℕ) (key : Key) (a t d flags : ℕ) (p : Passed) (m : OwnMethod) (at : Standing) → AreHeights classes order heights → IsInstance classes key a flags → is_of_package flags ≡ true → IsWalked classes key a t d p → StandsAs classes key a d at → known at p m ≡ None → IsPast classes key a t d (with_passed at p)
past classes order heights key a t d flags p m Itself r i pack w s e = absurd cc
past classes order heights key a t d flags p m (Opener x) r i pack w s e = absurd cc
past classes order heights key a t d flags p m (Near x) r i pack w s e =
    let can = can_override classes key a d x w.under s.0 in
    let no_opener = not_opener classes key a d x s.0 s.2 in
    record {
      own_any = own_of classes key p.any x w.own_any s.0.own;
      own_near = own_of classes key p.near x w.own_near s.0.own;
      opened = λ y f opening. opened_by classes key a t d p x y w opening (found_here classes key a d x s.0.class (in_package d a flags can i pack s.1)) f;
      nearest = λ y f closed. nearest_by classes key a t d p x y w (closed_at classes key a d no_opener closed) (found_here classes key a d x s.0.class (in_package d a flags can i pack s.1)) f;
      none = λ f. absurd cc;
      none_near = λ f. absurd cc;
      not_any = λ f. absurd cc;
      not_near = λ f. absurd cc;
    }
past classes order heights key a t d flags p m (Far x) r i pack w s e =
    let can = can_override classes key a d x w.under s.0 in
    let no_opener : IsOpener classes key a d → ⊥ = λ o. clash s.1 o.near in
    record {
      own_any = own_of classes key p.any x w.own_any s.0.own;
      own_near = w.own_near;
      opened = λ y f opening. opened_by classes key a t d p x y w opening (found_here classes key a d x s.0.class (open_overrides classes order heights key a d flags r w.in_there i pack can opening)) f;
      nearest = λ y f closed. w.nearest y f (closed_at classes key a d no_opener closed);
      none = λ f. absurd cc;
      none_near = λ f closed q h. w.none_near f (closed_at classes key a d no_opener closed) q h;
      not_any = λ f. absurd cc;
      not_near = λ f closed h. far_not classes order heights key a d flags r w.in_there i pack s.0.other s.1 closed h;
    } where
      clash : same_package classes d a ≡ false → same_package classes d a ≡ true → ⊥
      clash e f = cc
past classes order heights key a t d flags p m Nothing r i pack w s e =
    let no_opener : IsOpener classes key a d → ⊥ = λ o. s.1 o.candidate.offers in
    record {
      own_any = w.own_any;
      own_near = w.own_near;
      opened = λ y f opening. w.opened y f (inr opening);
      nearest = λ y f closed. w.nearest y f (closed_at classes key a d no_opener closed);
      none = λ f q h. w.none f q h;
      none_near = λ f closed q h. w.none_near f (closed_at classes key a d no_opener closed) q h;
      not_any = λ f h. nothing_here h;
      not_near = λ f closed h. nothing_here h;
    } where
      nothing_here : Overrides classes key d a → ⊥
      nothing_here h = elim (one_or_candidate classes key d a h) [ inl same ↦ s.0 same | inr k ↦ s.1 k.offers ]

-- ---- to the superclass, and the ends

pub walk_on : (classes : List ClassInfo) (order heights : List ℕ) (key : Key) (a t d s : ℕ) (p : Passed) → AreHeights classes order heights → d < length classes → IsAbove classes t d → IsPast classes key a t d p → superclass_of classes d ≡ Some s → IsAbove classes s a → IsWalked classes key a t s p
walk_on classes order heights key a t d s p r l way past e u = record {
  way = by_last classes t d s way (superclass s e);
  in_there = (is_lower classes order heights d s r l (superclass s e)).there;
  under = u;
  own_any = past.own_any;
  own_near = past.own_near;
  opened = λ m f o. past.opened m f (open_up classes key a d s e o);
  nearest = λ m f closed. past.nearest m f (λ w. closed (open_down classes key a d s e w));
  none = λ f q h. past.none f q (passed d s q (past.not_any f) e h);
  none_near = λ f closed q h. past.none_near f (λ w. closed (open_down classes key a d s e w)) q (passed d s q (past.not_near f (λ w. closed (open_down classes key a d s e w))) e h);
}

pub walk_ends : (classes : List ClassInfo) (order heights : List ℕ) (key : Key) (a t d : ℕ) (p : Passed) → AreHeights classes order heights → d < length classes → IsPast classes key a t d p → ((s : ℕ) → superclass_of classes d ≡ Some s → IsAbove classes s a → ⊥) → First classes key a t (option_map class_of_method p.near)
walk_ends classes order heights key a t d p r l past stop = go p.near refl where
  closed : OpenAbove classes key a d → ⊥
  closed w = up w.by w.up w.opener where
    up : (b : ℕ) → IsSuperclass classes d b → IsOpener classes key a b → ⊥
    up b (direct x y f) o = stop y f o.candidate.above
    up b (further x y z f rest) o = stop y f (above_above classes y z a (superclass_above classes y z rest) o.candidate.above)

  rest : (q : Option ℕ) → superclass_of classes d ≡ q → (Overrides classes key d a → ⊥) → First classes key a d None
  rest None e n = ended d n e
  rest (Some s) e n =
      let m = (is_lower classes order heights d s r l (superclass s e)).there in
      passed d s None n e (first_none classes order heights (λ x. Overrides classes key x a) (get_or heights s 0 + 1) s r m (omega arith) (λ x way h. stop s e (above_above classes s x a way (overrides_above classes key x a h))))

  go : (o : Option OwnMethod) → p.near ≡ o → First classes key a t (option_map class_of_method o)
  go (Some m) e = past.nearest m e closed
  go None e = past.none_near e closed None (rest (superclass_of classes d) refl (past.not_near e closed))

pub known_is : (classes : List ClassInfo) (order heights : List ℕ) (key : Key) (a t d flags : ℕ) (p : Passed) (m x : OwnMethod) (at : Standing) → AreHeights classes order heights → a < length classes → number m.class ≡ a → IsInstance classes key a flags → is_of_package flags ≡ true → IsWalked classes key a t d p → StandsAs classes key a d at → known at p m ≡ Some x → First classes key a t (Some (number x.class))
known_is classes order heights key a t d flags p m x Itself r k mc i pack w s e =
    nearest_by classes key a t d p m x w (λ o. closed_itself classes order heights key a r k (subst (OpenAt classes key a) s o)) (subst (λ n. First classes key a n (Some (number m.class))) (sym s) (found_here classes key a a m mc (itself a flags i))) e
known_is classes order heights key a t d flags p m x (Opener y) r k mc i pack w s e =
    opener_by p.any refl e where
      can : CanOverride classes key d a
      can = can_override classes key a d y w.under s.0

      opener_by : (o : Option OwnMethod) → p.any ≡ o → Some (unwrap_or o y) ≡ Some x → First classes key a t (Some (number x.class))
      opener_by None is e = subst (λ (y : OwnMethod). First classes key a t (Some (number y.class))) (same_Some y x e) (w.none is (Some (number y.class)) (found_here classes key a d y s.0.class (in_package d a flags can i pack s.1)))
      opener_by (Some z) is e = subst (λ (y : OwnMethod). First classes key a t (Some (number y.class))) (same_Some z x e) (w.opened z is (inl (opener_is classes key a d y w.under s.0 s.1 s.2)))
known_is classes order heights key a t d flags p m x (Near y) r k mc i pack w s e = absurd cc
known_is classes order heights key a t d flags p m x (Far y) r k mc i pack w s e = absurd cc
known_is classes order heights key a t d flags p m x Nothing r k mc i pack w s e = absurd cc

pub known_own : (classes : List ClassInfo) (key : Key) (a d : ℕ) (p : Passed) (m x : OwnMethod) (at : Standing) → IfSome p.any (λ m. IsOwn classes key m) → IfSome p.near (λ m. IsOwn classes key m) → IsOwn classes key m → StandsAs classes key a d at → known at p m ≡ Some x → IsOwn classes key x
known_own classes key a d p m x Itself g h k s e = subst (IsOwn classes key) (same_Some (unwrap_or p.near m) x e) (own_of classes key p.near m h k)
known_own classes key a d p m x (Opener y) g h k s e = subst (IsOwn classes key) (same_Some (unwrap_or p.any y) x e) (own_of classes key p.any y g s.0.own)
known_own classes key a d p m x (Near y) g h k s e = absurd cc
known_own classes key a d p m x (Far y) g h k s e = absurd cc
known_own classes key a d p m x Nothing g h k s e = absurd cc
