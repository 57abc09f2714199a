-- What the waits of some classes say of the classes.
use Rattle.std.proofs.Common.{◌≡◌, ◌≢◌, ℕ, zero, suc, ◌+◌, ◌<◌, ◌≤◌, Bool, true, false, cond, not, ◌&&◌, eqb, List, [], ◌∷◌, ◌++◌, length, get_or, Option, Some, None, refl, sym, ap, subst, ◌∙◌, arith, inl, inr, ◌⊎◌}
use Rattle.std.specs.Prelude.{slice_get, Contains, option_and_then}
use Rattle.std.specs.Cmp.Lexicographic.{slice_cmp}
use Rattle.std.specs.List.{flat_map}
use Rattle.std.specs.Option.{option_map_or, is_none}
use Rattle.std.specs.Ordering.{nat_cmp}
use Rattle.std.specs.Str.{bytes_eq}
use Rattle.std.proofs.lemmas.Bool.{cases_lt, cases_Bool, eq-eqb, ne_eqb, eqb-true, and_parts, not-true, false≢true}
use Rattle.std.proofs.lemmas.Cmp.{nat_list_cmp_total, tied_itself}
use Rattle.std.proofs.lemmas.List.{length-append}
use Rattle.std.proofs.lemmas.List.Elements.{Contains-append_cases, Contains-append_left, Contains-append_right}
use Rattle.std.proofs.lemmas.List.Quantifiers.{position-Some}
use Rattle.std.proofs.lemmas.List.Sums.{sum_by-append, sum_by-cons}
use Rattle.std.proofs.lemmas.Map.Text.{is_eq-slice_cmp}
use Rattle.std.proofs.lemmas.Option.{slice_get-get_or, slice_get_within, get_or_from_slice_get}
use Rattle.std.proofs.lemmas.Slice.Eq.{bytes_eq-Decides}
use Rattle.wf_data.specs.Flags.{is_interface}
use Rattle.wf_data.specs.declared.class_info.ClassInfo.{ClassInfo}
use Rattle.wf_names.specs.Names.{object_name}
use Rattle.wf_classes.specs.World.{Names, IsAscending, names_of, class_of}
use Rattle.wf_classes.specs.declared.waits.Wait.{Wait}
use Rattle.wf_classes.specs.Closing.{is_of_kind, is_of_kind_at, class_of_kind, wait_for, waits_at, waits_upto, is_root, wanted, count_of}
use Rattle.wf_classes.proofs.Search.{found_place}

-- ---- places

pub contains_from_get : {X : Type 0} (xs : List X) (i : ℕ) (x : X) → slice_get xs i ≡ Some x → Contains xs x
contains_from_get xs i x e = (i, slice_get_within xs i x e, get_or_from_slice_get xs i x x e)

pub record IsAt {X : Type 0} (xs : List X) (x : X) : Type 0 where
  pub place : ℕ
  pub is : slice_get xs place ≡ Some x

pub at_from_contains : {X : Type 0} (xs : List X) (x : X) → Contains xs x → IsAt xs x
at_from_contains xs x h = record { place = h.0; is = slice_get-get_or xs h.0 x h.1 ∙ ap (λ y. Some y) h.2 }

pub some_place : {X : Type 0} (xs : List X) (i : ℕ) → i < length xs → (x : X) × (slice_get xs i ≡ Some x)
some_place [] i l = absurd (omega arith)
some_place (x ∷ xs) zero l = (x, refl)
some_place (x ∷ xs) (suc i) l = some_place xs i (omega arith)

-- ---- classes by name

-- the class of a name at its place
pub record Found (files : List ClassInfo) (interface : Bool) (name : List ℕ) (s : ℕ) : Type 0 where
  pub class : ClassInfo
  pub there : slice_get files s ≡ Some class
  pub named : class.name ≡ name
  pub kind : is_interface class.flags ≡ interface

bind_is : {A B : Type 0} (o : Option A) (f : A → Option B) (y : B) → option_and_then f o ≡ Some y → (x : A) × (o ≡ Some x) × (f x ≡ Some y)
bind_is (Some x) f y e = (x, refl, e)
bind_is None f y e = absurd cc

pub class_found : (files : List ClassInfo) (name : List ℕ) (s : ℕ) → class_of files name ≡ Some s → (k : ClassInfo) × (slice_get files s ≡ Some k) × (k.name ≡ name)
class_found [] name s e = absurd cc
class_found (k ∷ ks) name s e =
    let files = k ∷ ks in
    let p = position-Some (λ (k : ClassInfo). bytes_eq k.name name) files s k e in
    (get_or files s k, slice_get-get_or files s k p.0, (bytes_eq-Decides (get_or files s k).name name).0 p.1)

pub class_is : (files : List ClassInfo) (s : ℕ) (k : ClassInfo) → IsAscending (names_of files) → slice_get files s ≡ Some k → class_of files k.name ≡ Some s
class_is files s k up e =
    found_place nat_list_cmp_total (λ (k : ClassInfo). k.name) files k.name s (λ (x : ClassInfo). bytes_eq x.name k.name) (λ x. sym (is_eq-slice_cmp x.name k.name)) up (slice_get_within files s k e)
    (λ d. ap (λ (x : ClassInfo). slice_cmp nat_cmp x.name k.name) (get_or_from_slice_get files s k d e) ∙ tied_itself nat_list_cmp_total k.name)

kind_is : (interface : Bool) (k : ClassInfo) → is_of_kind interface k ≡ true → is_interface k.flags ≡ interface
kind_is true k e = e
kind_is false k e = not-true (is_interface k.flags) e

is_kind : (interface : Bool) (k : ClassInfo) → is_interface k.flags ≡ interface → is_of_kind interface k ≡ true
is_kind true k e = e
is_kind false k e = ap not e

taken : (b : Bool) (x y : ℕ) → cond b (Some x) None ≡ Some y → (b ≡ true) × (x ≡ y)
taken true x y e = (refl, cc)
taken false x y e = absurd cc

pub found_is : (files : List ClassInfo) (interface : Bool) (name : List ℕ) (s : ℕ) → class_of_kind files interface name ≡ Some s → Found files interface name s
found_is files interface name s e =
    let b = bind_is (class_of files name) (λ c. cond (is_of_kind_at files interface c) (Some c) None) s e in
    let t = taken (is_of_kind_at files interface b.0) b.0 s b.2 in
    let c = class_found files name s (b.1 ∙ ap (λ x. Some x) t.1) in
    let test : is_of_kind interface c.0 ≡ true = sym (ap (λ o. option_map_or (is_of_kind interface) o false) c.1) ∙ subst (λ x. is_of_kind_at files interface x ≡ true) t.1 t.0 in
    record { class = c.0; there = c.1; named = c.2; kind = kind_is interface c.0 test }

pub is_found : (files : List ClassInfo) (interface : Bool) (name : List ℕ) (s : ℕ) → IsAscending (names_of files) → Found files interface name s → class_of_kind files interface name ≡ Some s
is_found files interface name s up f =
    let number : class_of files name ≡ Some s = subst (λ n. class_of files n ≡ Some s) f.named (class_is files s f.class up f.there) in
    let test : is_of_kind_at files interface s ≡ true = ap (λ o. option_map_or (is_of_kind interface) o false) f.there ∙ is_kind interface f.class f.kind in
    ap (option_and_then (λ c. cond (is_of_kind_at files interface c) (Some c) None)) number ∙ ap (λ b. cond b (Some s) None) test

pub found_from_names : (files : List ClassInfo) (interface : Bool) (name : List ℕ) (n : Names files interface name) → Found files interface name n.place
found_from_names files interface name n = record { class = n.class; there = n.there; named = n.named; kind = n.kind }

pub names_from_found : (files : List ClassInfo) (interface : Bool) (name : List ℕ) (s : ℕ) → Found files interface name s → Names files interface name
names_from_found files interface name s f = record { place = s; class = f.class; there = f.there; named = f.named; kind = f.kind }

-- classes of one name stand at one place
pub one_place : (files : List ClassInfo) (i j : ℕ) (a b : ClassInfo) → IsAscending (names_of files) → slice_get files i ≡ Some a → slice_get files j ≡ Some b → a.name ≡ b.name → i ≡ j
one_place files i j a b up e f n = some_is (sym (class_is files i a up e) ∙ ap (class_of files) n ∙ class_is files j b up f) where
  some_is : {x y : ℕ} → Some x ≡ Some y → x ≡ y
  some_is e = cc

-- ---- the waits of one class

pub record Waited (files : List ClassInfo) (i : ℕ) (interface : Bool) (name : List ℕ) (w : Wait) : Type 0 where
  pub above : class_of_kind files interface name ≡ Some w.above
  pub below : w.below ≡ i

-- a wait for a name
wait_is : (files : List ClassInfo) (i : ℕ) (interface : Bool) (name : List ℕ) (w : Wait) → Contains (wait_for files i interface name) w → Waited files i interface name w
wait_is files i interface name w h = go (class_of_kind files interface name) refl h where
  go : (o : Option ℕ) → class_of_kind files interface name ≡ o → Contains (option_map_or (λ c. record { above = c; below = i } ∷ []) o []) w → Waited files i interface name w
  go None e h = absurd (omega (arith, h.1))
  go (Some c) e h = (let is = one (record { above = c; below = i }) w h in record { above = e ∙ ap (λ (v : Wait). Some v.above) is; below = sym (ap (λ (v : Wait). v.below) is) }) where
    one : (v w : Wait) → Contains (v ∷ []) w → v ≡ w
    one v w h = (let a = at_from_contains (v ∷ []) w h in first a.place a.is) where
      first : (p : ℕ) → slice_get (v ∷ []) p ≡ Some w → v ≡ w
      first zero e = cc
      first (suc p) e = absurd cc

abbrev pub wait : ℕ → ℕ → Wait
wait s i = record { above = s; below = i }

has_wait : (files : List ClassInfo) (i : ℕ) (interface : Bool) (name : List ℕ) (s : ℕ) → class_of_kind files interface name ≡ Some s → Contains (wait_for files i interface name) (wait s i)
has_wait files i interface name s e =
    subst (λ (o : Option ℕ). Contains (option_map_or (λ c. wait c i ∷ []) o []) (wait s i)) (sym e) (0, omega arith, refl)

-- a name resolves to a class or adds no wait
wait_count : (files : List ClassInfo) (i : ℕ) (interface : Bool) (name : List ℕ) → ((s : ℕ) × (class_of_kind files interface name ≡ Some s) × (length (wait_for files i interface name) ≡ 1)) ⊎ (length (wait_for files i interface name) ≡ 0)
wait_count files i interface name = go (class_of_kind files interface name) refl where
  go : (o : Option ℕ) → class_of_kind files interface name ≡ o → ((s : ℕ) × (class_of_kind files interface name ≡ Some s) × (length (option_map_or (λ c. wait c i ∷ []) o []) ≡ 1)) ⊎ (length (option_map_or (λ c. wait c i ∷ []) o []) ≡ 0)
  go (Some s) e = inl (s, e, refl)
  go None e = inr refl

resolved_count : (files : List ClassInfo) (i : ℕ) (interface : Bool) (name : List ℕ) (s : ℕ) → class_of_kind files interface name ≡ Some s → length (wait_for files i interface name) ≡ 1
resolved_count files i interface name s e = ap (λ (o : Option ℕ). length (option_map_or (λ c. wait c i ∷ []) o [])) e

-- the waits for a list of names
flat_le : (files : List ClassInfo) (i : ℕ) (names : List (List ℕ)) → length (flat_map (wait_for files i true) names) ≤ length names
flat_le files i [] = omega arith
flat_le files i (n ∷ names) =
    elim (wait_count files i true n) [
      | inl s ↦ omega (arith, s.2, flat_le files i names, length-append (wait_for files i true n) (flat_map (wait_for files i true) names))
      | inr z ↦ omega (arith, z, flat_le files i names, length-append (wait_for files i true n) (flat_map (wait_for files i true) names))
    ]

flat_all : (files : List ClassInfo) (i : ℕ) (names : List (List ℕ)) → length (flat_map (wait_for files i true) names) ≡ length names → (j : ℕ) (name : List ℕ) → slice_get names j ≡ Some name → (s : ℕ) × (class_of_kind files true name ≡ Some s)
flat_all files i [] e j name f = absurd cc
flat_all files i (n ∷ names) e j name f =
    let parts = length-append (wait_for files i true n) (flat_map (wait_for files i true) names) in
    let rest = flat_le files i names in
    elim (wait_count files i true n) [
      | inl s ↦ at j f s (flat_all files i names (omega (arith, parts, s.2)))
      | inr z ↦ absurd (omega (arith, parts, z, rest))
    ] where
      at : (j : ℕ) → slice_get (n ∷ names) j ≡ Some name → (s : ℕ) × (class_of_kind files true n ≡ Some s) × (length (wait_for files i true n) ≡ 1) → ((j : ℕ) (name : List ℕ) → slice_get names j ≡ Some name → (s : ℕ) × (class_of_kind files true name ≡ Some s)) → (s : ℕ) × (class_of_kind files true name ≡ Some s)
      at zero f s later = (let same : n ≡ name = cc in (s.0, subst (λ m. class_of_kind files true m ≡ Some s.0) same s.1))
      at (suc j) f s later = later j name f

flat_full : (files : List ClassInfo) (i : ℕ) (names : List (List ℕ)) → ((j : ℕ) (name : List ℕ) → slice_get names j ≡ Some name → (s : ℕ) × (class_of_kind files true name ≡ Some s)) → length (flat_map (wait_for files i true) names) ≡ length names
flat_full files i [] all = refl
flat_full files i (n ∷ names) all =
    let s = all 0 n refl in
    let one = resolved_count files i true n s.0 s.1 in
    let rest = flat_full files i names (λ j name e. all (suc j) name e) in
    omega (arith, one, rest, length-append (wait_for files i true n) (flat_map (wait_for files i true) names))

flat_from : (files : List ClassInfo) (i : ℕ) (names : List (List ℕ)) (w : Wait) → Contains (flat_map (wait_for files i true) names) w → (j : ℕ) × (name : List ℕ) × (slice_get names j ≡ Some name) × Waited files i true name w
flat_from files i [] w h = absurd (omega (arith, h.1))
flat_from files i (n ∷ names) w h =
    elim (Contains-append_cases (wait_for files i true n) (flat_map (wait_for files i true) names) w h) [
      | inl a ↦ (0, n, refl, wait_is files i true n w a)
      | inr b ↦ (let r = flat_from files i names w b in (suc r.0, r.1, r.2, r.3))
    ]

flat_has : (files : List ClassInfo) (i : ℕ) (names : List (List ℕ)) (j : ℕ) (name : List ℕ) (s : ℕ) → slice_get names j ≡ Some name → class_of_kind files true name ≡ Some s → Contains (flat_map (wait_for files i true) names) (wait s i)
flat_has files i [] j name s e f = absurd cc
flat_has files i (n ∷ names) zero name s e f =
    let same : n ≡ name = cc in
    Contains-append_left (wait_for files i true n) (flat_map (wait_for files i true) names) (wait s i) (has_wait files i true n s (subst (λ m. class_of_kind files true m ≡ Some s) (sym same) f))
flat_has files i (n ∷ names) (suc j) name s e f = Contains-append_right (wait_for files i true n) (flat_map (wait_for files i true) names) (wait s i) (flat_has files i names j name s e f)

-- what stands above a class, found
pub record Resolves (files : List ClassInfo) (k : ClassInfo) : Type 0 where
  pub super : List ℕ
  pub is : k.superclass ≡ Some super
  pub superclass : (s : ℕ) × (class_of_kind files false super ≡ Some s)
  pub interfaces : (j : ℕ) (name : List ℕ) → slice_get k.interfaces j ≡ Some name → (s : ℕ) × (class_of_kind files true name ≡ Some s)

-- a class whose waits are all there has nothing above it, or all that it names
pub waits_full : (files : List ClassInfo) (i : ℕ) (k : ClassInfo) → wanted k ≡ length (waits_at files i k) → (is_root k ≡ true) ⊎ Resolves files k
waits_full files i k e =
    elim (cases_Bool (is_root k)) [
      | inl t ↦ inl t
      | inr f ↦ inr (go k.superclass refl (ap (λ b. cond b 0 (length k.interfaces + 1)) (sym f) ∙ e))
    ] where
      go : (o : Option (List ℕ)) → k.superclass ≡ o → length k.interfaces + 1 ≡ length (option_map_or (wait_for files i false) o [] ++ flat_map (wait_for files i true) k.interfaces) → Resolves files k
      go None n e = absurd (omega (arith, flat_le files i k.interfaces))
      go (Some super) n e =
          let parts = length-append (wait_for files i false super) (flat_map (wait_for files i true) k.interfaces) in
          let rest = flat_le files i k.interfaces in
          elim (wait_count files i false super) [
            | inl s ↦ record { super = super; is = n; superclass = (s.0, s.1); interfaces = flat_all files i k.interfaces (omega (arith, e, parts, s.2)) }
            | inr z ↦ absurd (omega (arith, e, parts, z, rest))
          ]

not_root : (k : ClassInfo) (super : List ℕ) → k.superclass ≡ Some super → is_root k ≡ false
not_root k super e = elim (cases_Bool (is_root k)) [ inl t ↦ absurd (false≢true (ap is_none (sym e) ∙ (and_parts _ _ t).0)) | inr f ↦ f ]

pub full_waits : (files : List ClassInfo) (i : ℕ) (k : ClassInfo) → Resolves files k → wanted k ≡ length (waits_at files i k)
full_waits files i k r =
    let one = resolved_count files i false r.super r.superclass.0 r.superclass.1 in
    let rest = flat_full files i k.interfaces r.interfaces in
    let parts = length-append (wait_for files i false r.super) (flat_map (wait_for files i true) k.interfaces) in
    let opened : length (waits_at files i k) ≡ length (wait_for files i false r.super ++ flat_map (wait_for files i true) k.interfaces) = ap (λ (o : Option (List ℕ)). length (option_map_or (wait_for files i false) o [] ++ flat_map (wait_for files i true) k.interfaces)) r.is in
    ap (λ b. cond b 0 (length k.interfaces + 1)) (not_root k r.super r.is) ∙ omega (arith, one, rest, parts, opened)

root_has_none : (k : ClassInfo) → is_root k ≡ true → length k.interfaces ≡ 0
root_has_none k t =
    let a = and_parts (is_none k.superclass) (bytes_eq k.name object_name && (not (is_interface k.flags) && eqb (length k.interfaces) 0)) t in
    let b = and_parts (bytes_eq k.name object_name) (not (is_interface k.flags) && eqb (length k.interfaces) 0) a.1 in
    let c = and_parts (not (is_interface k.flags)) (eqb (length k.interfaces) 0) b.1 in
    eqb-true (length k.interfaces) 0 c.1

pub waits_at_most : (files : List ClassInfo) (i : ℕ) (k : ClassInfo) → length (waits_at files i k) ≤ wanted k
waits_at_most files i k = go k.superclass refl (cases_Bool (is_root k)) where
  go : (o : Option (List ℕ)) → k.superclass ≡ o → ((is_root k ≡ true) ⊎ (is_root k ≡ false)) → length (option_map_or (wait_for files i false) o [] ++ flat_map (wait_for files i true) k.interfaces) ≤ wanted k
  go o e (inr f) =
      let wants : wanted k ≡ length k.interfaces + 1 = ap (λ b. cond b 0 (length k.interfaces + 1)) f in
      let parts = length-append (option_map_or (wait_for files i false) o []) (flat_map (wait_for files i true) k.interfaces) in
      omega (arith, wants, parts, flat_le files i k.interfaces, one_at_most o)
    where
      one_at_most : (o : Option (List ℕ)) → length (option_map_or (wait_for files i false) o []) ≤ 1
      one_at_most None = omega arith
      one_at_most (Some n) = elim (wait_count files i false n) [ inl s ↦ omega (arith, s.2) | inr z ↦ omega (arith, z) ]
  go None e (inl t) =
      omega (arith, flat_le files i k.interfaces, root_has_none k t)
  go (Some n) e (inl t) = absurd (false≢true (sym (not_root k n e) ∙ t))

-- each wait of a class is for its superclass or one of its interfaces
pub wait_from : (files : List ClassInfo) (i : ℕ) (k : ClassInfo) (w : Wait) → Contains (waits_at files i k) w → ((super : List ℕ) × (k.superclass ≡ Some super) × Waited files i false super w) ⊎ ((j : ℕ) × (name : List ℕ) × (slice_get k.interfaces j ≡ Some name) × Waited files i true name w)
wait_from files i k w h = go k.superclass refl h where
  go : (o : Option (List ℕ)) → k.superclass ≡ o → Contains (option_map_or (wait_for files i false) o [] ++ flat_map (wait_for files i true) k.interfaces) w → ((super : List ℕ) × (k.superclass ≡ Some super) × Waited files i false super w) ⊎ ((j : ℕ) × (name : List ℕ) × (slice_get k.interfaces j ≡ Some name) × Waited files i true name w)
  go None e h = inr (flat_from files i k.interfaces w h)
  go (Some super) e h =
      elim (Contains-append_cases (wait_for files i false super) (flat_map (wait_for files i true) k.interfaces) w h) [
        | inl a ↦ inl (super, e, wait_is files i false super w a)
        | inr b ↦ inr (flat_from files i k.interfaces w b)
      ]

pub has_superclass : (files : List ClassInfo) (i : ℕ) (k : ClassInfo) (super : List ℕ) (s : ℕ) → k.superclass ≡ Some super → class_of_kind files false super ≡ Some s → Contains (waits_at files i k) (wait s i)
has_superclass files i k super s e f =
    subst (λ (o : Option (List ℕ)). Contains (option_map_or (wait_for files i false) o [] ++ flat_map (wait_for files i true) k.interfaces) (wait s i)) (sym e)
    (Contains-append_left (wait_for files i false super) (flat_map (wait_for files i true) k.interfaces) (wait s i) (has_wait files i false super s f))

pub has_interface : (files : List ClassInfo) (i : ℕ) (k : ClassInfo) (j : ℕ) (name : List ℕ) (s : ℕ) → slice_get k.interfaces j ≡ Some name → class_of_kind files true name ≡ Some s → Contains (waits_at files i k) (wait s i)
has_interface files i k j name s e f =
    Contains-append_right (option_map_or (wait_for files i false) k.superclass []) (flat_map (wait_for files i true) k.interfaces) (wait s i) (flat_has files i k.interfaces j name s e f)

-- ---- the waits of all classes

-- all waits of class i are of class i
below_is : (files : List ClassInfo) (i : ℕ) (k : ClassInfo) (w : Wait) → Contains (waits_at files i k) w → w.below ≡ i
below_is files i k w h = elim (wait_from files i k w h) [ inl a ↦ a.2.below | inr b ↦ b.3.below ]

count_all : (ws : List Wait) (i : ℕ) → ((w : Wait) → Contains ws w → w.below ≡ i) → count_of ws i ≡ length ws
count_all [] i h = refl
count_all (w ∷ ws) i h =
    let here = h w (0, omega arith, refl) in
    let rest = count_all ws i (λ v c. h v (suc c.0, omega (arith, c.1), c.2)) in
    let one : cond {A = ℕ} (eqb w.below i) 1 0 ≡ 1 = ap (λ b. cond {A = ℕ} b 1 0) (eq-eqb w.below i here) in
    omega (arith, sum_by-cons (λ (w : Wait). cond (eqb w.below i) 1 0) w ws, one, rest)

count_other : (ws : List Wait) (i j : ℕ) → i ≢ j → ((w : Wait) → Contains ws w → w.below ≡ j) → count_of ws i ≡ 0
count_other [] i j n h = refl
count_other (w ∷ ws) i j n h =
    let here = h w (0, omega arith, refl) in
    let rest = count_other ws i j n (λ v c. h v (suc c.0, omega (arith, c.1), c.2)) in
    let none : cond {A = ℕ} (eqb w.below i) 1 0 ≡ 0 = ap (λ b. cond {A = ℕ} b 1 0) (ne_eqb w.below i (λ e. n (sym e ∙ here))) in
    omega (arith, sum_by-cons (λ (w : Wait). cond (eqb w.below i) 1 0) w ws, none, rest)

-- what the class at a place adds
abbrev added : List ClassInfo → ℕ → List Wait
added files i = option_map_or (waits_at files i) (slice_get files i) []

added_below : (files : List ClassInfo) (i : ℕ) (w : Wait) → Contains (added files i) w → (k : ClassInfo) × (slice_get files i ≡ Some k) × Contains (waits_at files i k) w
added_below files i w h = go (slice_get files i) refl h where
  go : (o : Option ClassInfo) → slice_get files i ≡ o → Contains (option_map_or (waits_at files i) o []) w → (k : ClassInfo) × (slice_get files i ≡ Some k) × Contains (waits_at files i k) w
  go None e h = absurd (omega (arith, h.1))
  go (Some k) e h = (k, e, h)

added_is : (files : List ClassInfo) (i : ℕ) (w : Wait) → Contains (added files i) w → w.below ≡ i
added_is files i w h = (let a = added_below files i w h in below_is files i a.0 w a.2)

count_past : (files : List ClassInfo) (n i : ℕ) → n ≤ i → count_of (waits_upto files n) i ≡ 0
count_past files zero i l = refl
count_past files (suc n) i l =
    let other : i ≢ n = λ e. omega arith in
    omega (arith, sum_by-append (λ (w : Wait). cond (eqb w.below i) 1 0) (waits_upto files n) (added files n), count_past files n i (omega arith), count_other (added files n) i n other (added_is files n))

pub count_at : (files : List ClassInfo) (n i : ℕ) (k : ClassInfo) → i < n → slice_get files i ≡ Some k → count_of (waits_upto files n) i ≡ length (waits_at files i k)
count_at files zero i k l e = absurd (omega arith)
count_at files (suc n) i k l e =
    let parts = sum_by-append (λ (w : Wait). cond (eqb w.below i) 1 0) (waits_upto files n) (added files n) in
    elim (cases_lt i n) [
      | inl m ↦ (let other : i ≢ n = λ s. omega arith in omega (arith, parts, count_at files n i k m e, count_other (added files n) i n other (added_is files n)))
      | inr o ↦
          (let same : i ≡ n = omega arith in
          let mine : count_of (added files n) i ≡ length (waits_at files i k) =
          subst (λ j. count_of (added files j) i ≡ length (waits_at files i k)) same (ap (λ (o : Option ClassInfo). count_of (option_map_or (waits_at files i) o []) i) e ∙ count_all (waits_at files i k) i (below_is files i k)) in
          omega (arith, parts, count_past files n i (omega arith), mine))
    ]

pub wait_of_class : (files : List ClassInfo) (n : ℕ) (w : Wait) → Contains (waits_upto files n) w → (k : ClassInfo) × (w.below < n) × (slice_get files w.below ≡ Some k) × Contains (waits_at files w.below k) w
wait_of_class files zero w h = absurd (omega (arith, h.1))
wait_of_class files (suc n) w h =
    elim (Contains-append_cases (waits_upto files n) (added files n) w h) [
      | inl a ↦ (let r = wait_of_class files n w a in (r.0, omega (arith, r.1), r.2, r.3))
      | inr b ↦ (let r = added_below files n w b in let e = below_is files n r.0 w r.2 in
          (r.0, omega (arith, e), subst (λ j. slice_get files j ≡ Some r.0) (sym e) r.1, subst (λ j. Contains (waits_at files j r.0) w) (sym e) r.2))
    ]

pub class_has_wait : (files : List ClassInfo) (n i : ℕ) (k : ClassInfo) (w : Wait) → i < n → slice_get files i ≡ Some k → Contains (waits_at files i k) w → Contains (waits_upto files n) w
class_has_wait files zero i k w l e h = absurd (omega arith)
class_has_wait files (suc n) i k w l e h =
    elim (cases_lt i n) [
      | inl m ↦ Contains-append_left (waits_upto files n) (added files n) w (class_has_wait files n i k w m e h)
      | inr o ↦ (let same : i ≡ n = omega arith in Contains-append_right (waits_upto files n) (added files n) w
          (subst (λ j. Contains (added files j) w) same (subst (λ (o : Option ClassInfo). Contains (option_map_or (waits_at files i) o []) w) (sym e) h)))
    ]
