-- The order in which a closed world was closed, and each class's place in it.
use Rattle.std.proofs.Common.{◌≡◌, ℕ, zero, suc, ◌<◌, Bool, true, false, cond, eqb, List, [], ◌∷◌, length, get_or, map, take, count_by, Option, Some, None, refl, sym, ap, subst, ◌∙◌, arith}
use Rattle.std.specs.Prelude.{slice_get, option_and_then, option_map, IfSome, IfNone, All}
use Rattle.std.specs.List.{filter_map, cons_option}
use Rattle.std.specs.Option.{option_map_or}
use Rattle.std.proofs.lemmas.Bool.{eq-eqb}
use Rattle.std.proofs.lemmas.List.{length-map, take_all, get_or-take, length-take}
use Rattle.std.proofs.lemmas.List.Sums.{sum_by-cons}
use Rattle.std.proofs.lemmas.Option.{slice_get_within, slice_get-get_or, get_or_from_slice_get, slice_get-map}
use Rattle.wf_base.specs.declared.ids.ClassId.{ClassId}
use Rattle.wf_data.specs.declared.class_info.ClassInfo.{ClassInfo}
use Rattle.wf_data.specs.Flags.{is_interface}
use Rattle.wf_names.specs.Names.{object_name}
use Rattle.wf_classes.specs.World.{Names, Loadable, object, below, IsClosedWorld, AreHeights, IsAscending, names_of, name_at, kind_at, number, number_in, class_of, superclass_of, superinterfaces_of}
use Rattle.wf_classes.specs.Closing.{Closes}
use Rattle.wf_classes.proofs.Bridge.{loadable_is_in_order, there_is_wait}
use Rattle.wf_classes.proofs.KeptFacts.{waiting_size, loadable_is_zero}
use Rattle.wf_classes.proofs.WaitFacts.{IsAt, Found, some_place, class_is, one_place, is_found, found_from_names, has_superclass, has_interface, wait}
use Rattle.wf_classes.proofs.Worklist.{place_of}

-- ---- what stands above a loadable class

-- what a loadable class names is there, of the kind that is wanted
pub record IsUnder (classes : List ClassInfo) (k : ClassInfo) : Type 0 where
  pub superclass : (name : List ℕ) → k.superclass ≡ Some name → Names classes false name
  pub interfaces : (i : ℕ) (name : List ℕ) → slice_get k.interfaces i ≡ Some name → Names classes true name
  pub root : k.superclass ≡ None → k.name ≡ object_name

pub under : (classes : List ClassInfo) → IsAscending (names_of classes) → (name : List ℕ) → Loadable classes name → (c : ℕ) (k : ClassInfo) → slice_get classes c ≡ Some k → k.name ≡ name → IsUnder classes k
under classes up name (object place a there named super kind none) c k e n =
    let same = one_class (one_place classes c place k a up e there n) e there in
    record {
      superclass = λ m f. absurd (some_none m (sym f ∙ ap (λ (x : ClassInfo). x.superclass) same ∙ super));
      interfaces = λ i m f. absurd (empty i m (sym (ap (λ (xs : List (List ℕ)). slice_get xs i) (ap (λ (x : ClassInfo). x.interfaces) same ∙ none)) ∙ f));
      root = λ f. n ∙ named;
    } where
      one_class : c ≡ place → slice_get classes c ≡ Some k → slice_get classes place ≡ Some a → k ≡ a
      one_class s e f = some_is (sym e ∙ ap (slice_get classes) s ∙ f) where
        some_is : {x y : ClassInfo} → Some x ≡ Some y → x ≡ y
        some_is e = cc

      some_none : (m : List ℕ) → Some m ≡ None → ⊥
      some_none m e = cc

      empty : (i : ℕ) (m : List ℕ) → slice_get {X = List ℕ} [] i ≡ Some m → ⊥
      empty i m e = cc
under classes up name (below place a super there is names above all each) c k e n =
    let same = one_class (one_place classes c place k a up e there n) e there in
    record {
      superclass = λ m f. subst (Names classes false) (some_is (sym is ∙ sym (ap (λ (x : ClassInfo). x.superclass) same) ∙ f)) names;
      interfaces = λ i m f. all i m (sym (ap (λ (xs : List (List ℕ)). slice_get xs i) (ap (λ (x : ClassInfo). x.interfaces) same)) ∙ f);
      root = λ f. absurd (some_none super (sym is ∙ sym (ap (λ (x : ClassInfo). x.superclass) same) ∙ f));
    } where
      one_class : c ≡ place → slice_get classes c ≡ Some k → slice_get classes place ≡ Some a → k ≡ a
      one_class s e f = same_class (sym e ∙ ap (slice_get classes) s ∙ f) where
        same_class : {x y : ClassInfo} → Some x ≡ Some y → x ≡ y
        same_class e = cc

      some_is : {x y : List ℕ} → Some x ≡ Some y → x ≡ y
      some_is e = cc

      some_none : (m : List ℕ) → Some m ≡ None → ⊥
      some_none m e = cc

pub under_world : (classes : List ClassInfo) → IsClosedWorld classes → (c : ℕ) (k : ClassInfo) → slice_get classes c ≡ Some k → IsUnder classes k
under_world classes w c k e = under classes w.ascending k.name (w.loadable c k e) c k e refl

bind_some : {A B : Type 0} (o : Option A) (f : A → Option B) (y : B) → option_and_then f o ≡ Some y → (x : A) × (o ≡ Some x) × (f x ≡ Some y)
bind_some (Some x) f y e = (x, refl, e)
bind_some None f y e = absurd cc

-- the superclass of a class, with the class and the name
pub record IsSuper (classes : List ClassInfo) (c s : ℕ) : Type 0 where
  pub class : ClassInfo
  pub there : slice_get classes c ≡ Some class
  pub name : List ℕ
  pub named : class.superclass ≡ Some name
  pub number : class_of classes name ≡ Some s

pub super_is : (classes : List ClassInfo) (c s : ℕ) → superclass_of classes c ≡ Some s → IsSuper classes c s
super_is classes c s e =
    let a = bind_some (slice_get classes c) (λ (k : ClassInfo). option_and_then (class_of classes) k.superclass) s e in
    let b = bind_some a.0.superclass (class_of classes) s a.2 in
    record { class = a.0; there = a.1; name = b.0; named = b.1; number = b.2 }

pub record IsInterface (classes : List ClassInfo) (c s : ℕ) : Type 0 where
  pub class : ClassInfo
  pub there : slice_get classes c ≡ Some class
  pub place : ℕ
  pub name : List ℕ
  pub named : slice_get class.interfaces place ≡ Some name
  pub number : class_of classes name ≡ Some s

filtered : {X Y : Type 0} (f : X → Option Y) (xs : List X) (i : ℕ) (y : Y) → slice_get (filter_map f xs) i ≡ Some y → (j : ℕ) × (x : X) × (slice_get xs j ≡ Some x) × (f x ≡ Some y)
filtered f [] i y e = absurd cc
filtered {X} {Y} f (x ∷ xs) i y e = go (f x) refl i e (λ i e. filtered f xs i y e) where
  go : (o : Option Y) → f x ≡ o → (i : ℕ) → slice_get (cons_option o (filter_map f xs)) i ≡ Some y → ((i : ℕ) → slice_get (filter_map f xs) i ≡ Some y → (j : ℕ) × (z : X) × (slice_get xs j ≡ Some z) × (f z ≡ Some y)) → (j : ℕ) × (z : X) × (slice_get (x ∷ xs) j ≡ Some z) × (f z ≡ Some y)
  go None n i e rest = (let r = rest i e in (suc r.0, r.1, r.2, r.3))
  go (Some z) n zero e rest = (let same : z ≡ y = cc in (0, x, refl, n ∙ ap (λ v. Some v) same))
  go (Some z) n (suc i) e rest = (let r = rest i e in (suc r.0, r.1, r.2, r.3))

pub interface_is : (classes : List ClassInfo) (c i s : ℕ) → slice_get (superinterfaces_of classes c) i ≡ Some s → IsInterface classes c s
interface_is classes c i s e = go (slice_get classes c) refl e where
  go : (o : Option ClassInfo) → slice_get classes c ≡ o → slice_get (option_map_or (λ (k : ClassInfo). filter_map (class_of classes) k.interfaces) o []) i ≡ Some s → IsInterface classes c s
  go None n e = absurd (empty i s e) where
    empty : (i s : ℕ) → slice_get {X = ℕ} [] i ≡ Some s → ⊥
    empty i s e = cc
  go (Some k) n e = (let r = filtered (class_of classes) k.interfaces i s e in record { class = k; there = n; place = r.0; name = r.1; named = r.2; number = r.3 })

-- ---- the kinds of what stands above

pub kind_of_name : (classes : List ClassInfo) → IsAscending (names_of classes) → (interface : Bool) (name : List ℕ) (s : ℕ) → Names classes interface name → class_of classes name ≡ Some s → Found classes interface name s
kind_of_name classes up interface name s n e =
    let number = subst (λ m. class_of classes m ≡ Some n.place) n.named (class_is classes n.place n.class up n.there) in
    subst (λ p. Found classes interface name p) (some_is (sym number ∙ e)) (found_from_names classes interface name n) where
      some_is : {x y : ℕ} → Some x ≡ Some y → x ≡ y
      some_is e = cc

kind_found : (classes : List ClassInfo) (interface : Bool) (name : List ℕ) (s : ℕ) → Found classes interface name s → kind_at classes s ≡ Some interface
kind_found classes interface name s f = ap (option_map (λ (k : ClassInfo). is_interface k.flags)) f.there ∙ ap (λ b. Some b) f.kind

pub super_kind : (classes : List ClassInfo) → IsClosedWorld classes → (c : ℕ) (o : Option ClassId) → number_in o ≡ superclass_of classes c → IfSome o (λ s. kind_at classes (number s) ≡ Some false)
super_kind classes w c None e = tt
super_kind classes w c (Some s) e =
    let v = super_is classes c (number s) (sym e) in
    kind_found classes false v.name (number s) (kind_of_name classes w.ascending false v.name (number s) ((under_world classes w c v.class v.there).superclass v.name v.named) v.number)

pub super_none : (classes : List ClassInfo) → IsClosedWorld classes → (c : ℕ) → c < length classes → (o : Option ClassId) → number_in o ≡ superclass_of classes c → IfNone o (name_at classes c ≡ Some object_name)
super_none classes w c l (Some s) e = tt
super_none classes w c l None e =
    let k = some_place classes c l in
    let u = under_world classes w c k.0 k.1 in
    let none : option_and_then (class_of classes) k.0.superclass ≡ None = sym (ap (option_and_then (λ (k : ClassInfo). option_and_then (class_of classes) k.superclass)) k.1) ∙ sym e in
    ap (option_map (λ (k : ClassInfo). k.name)) k.1 ∙ ap (λ n. Some n) (go k.0 u k.0.superclass refl none) where
      clash : (p : ℕ) (o : Option ℕ) → o ≡ Some p → o ≡ None → ⊥
      clash p o e f = cc

      go : (k : ClassInfo) → IsUnder classes k → (o : Option (List ℕ)) → k.superclass ≡ o → option_and_then (class_of classes) o ≡ None → k.name ≡ object_name
      go k u None n f = u.root n
      go k u (Some name) n f =
          let m = u.superclass name n in
          absurd (clash m.place (class_of classes name) (subst (λ x. class_of classes x ≡ Some m.place) m.named (class_is classes m.place m.class w.ascending m.there)) f)

filter_full : (f : List ℕ → Option ℕ) (xs : List (List ℕ)) → ((i : ℕ) (x : List ℕ) → slice_get xs i ≡ Some x → (y : ℕ) × (f x ≡ Some y)) → length (filter_map f xs) ≡ length xs
filter_full f [] h = refl
filter_full f (x ∷ xs) h =
    let y = h 0 x refl in
    ap (λ o. length (cons_option o (filter_map f xs))) y.1 ∙ ap (λ n. suc n) (filter_full f xs (λ i z e. h (suc i) z e))

pub interfaces_full : (classes : List ClassInfo) → IsClosedWorld classes → (c : ℕ) (numbers : List ClassId) → map number numbers ≡ superinterfaces_of classes c → (k : ClassInfo) → slice_get classes c ≡ Some k → length numbers ≡ length k.interfaces
interfaces_full classes w c numbers e k f =
    let u = under_world classes w c k f in
    sym (length-map numbers number) ∙ ap length e ∙ ap (λ (o : Option ClassInfo). length (option_map_or (λ (k : ClassInfo). filter_map (class_of classes) k.interfaces) o [])) f
    ∙ filter_full (class_of classes) k.interfaces (λ i n g. (let m = u.interfaces i n g in (m.place, subst (λ x. class_of classes x ≡ Some m.place) m.named (class_is classes m.place m.class w.ascending m.there))))

pub interface_kinds : (classes : List ClassInfo) → IsClosedWorld classes → (c : ℕ) (numbers : List ClassId) → map number numbers ≡ superinterfaces_of classes c → All (λ s. kind_at classes (number s) ≡ Some true) numbers
interface_kinds classes w c numbers e i d l =
    let s = get_or numbers i d in
    let at : slice_get (superinterfaces_of classes c) i ≡ Some (number s) = ap (λ (xs : List ℕ). slice_get xs i) (sym e) ∙ slice_get-map number numbers i ∙ ap (option_map number) (slice_get-get_or numbers i d l) in
    let v = interface_is classes c i (number s) at in
    kind_found classes true v.name (number s) (kind_of_name classes w.ascending true v.name (number s) ((under_world classes w c v.class v.there).interfaces v.place v.name v.named) v.number)

-- ---- heights

all_zero : (waiting : List ℕ) → ((i : ℕ) → i < length waiting → get_or waiting i 0 ≡ 0) → count_by (λ w. eqb w 0) waiting ≡ length waiting
all_zero [] h = refl
all_zero (w ∷ waiting) h =
    let one : cond {A = ℕ} (eqb w 0) 1 0 ≡ 1 = ap (λ b. cond {A = ℕ} b 1 0) (eq-eqb w 0 (h 0 (omega arith))) in
    omega (arith, sum_by-cons (λ w. cond (eqb w 0) 1 0) w waiting, one, all_zero waiting (λ i l. h (suc i) (omega arith)))

-- the order has all classes of a closed world
pub order_count : (classes : List ClassInfo) (waiting order : List ℕ) → IsClosedWorld classes → Closes classes waiting order → length order ≡ length classes
order_count classes waiting order w h =
    let size = waiting_size classes waiting order h in
    let zeros : count_by (λ w. eqb w 0) waiting ≡ length waiting = all_zero waiting (λ i l.
    (let k = some_place classes i (omega (arith, size)) in loadable_is_zero classes waiting order w.ascending h i k.0 k.1 (w.loadable i k.0 k.1))) in
    h.released.zeros.count ∙ ap (count_by (λ w. eqb w 0)) (take_all (length waiting) waiting (omega arith)) ∙ zeros ∙ size

pub order_inside : (classes : List ClassInfo) (waiting order : List ℕ) → IsClosedWorld classes → Closes classes waiting order → (p : ℕ) → p < length order → get_or order p 0 < length order
order_inside classes waiting order w h p l =
    omega (arith, h.released.zeros.inside p l, waiting_size classes waiting order h, order_count classes waiting order w h)

heights_back : (classes : List ClassInfo) (waiting order heights : List ℕ) → IsClosedWorld classes → Closes classes waiting order → length heights ≡ length order → ((p : ℕ) → p < length order → get_or heights (get_or order p 0) 0 ≡ p) → (c : ℕ) (k : ClassInfo) → slice_get classes c ≡ Some k → (p : ℕ) × (p < length order) × (get_or order p 0 ≡ c) × (get_or heights c 0 ≡ p)
heights_back classes waiting order heights w h size each c k e =
    let p = place_of order c (loadable_is_in_order classes h.start h.waits waiting order w.ascending h.are h.released k.name (w.loadable c k e) c k e refl) in
    (p.place, p.within, p.is, ap (λ x. get_or heights x 0) (sym p.is) ∙ each p.place p.within)

-- a class for which another waits is lower
lower : (classes : List ClassInfo) (waiting order heights : List ℕ) → IsClosedWorld classes → (z : Closes classes waiting order) → length heights ≡ length order → ((p : ℕ) → p < length order → get_or heights (get_or order p 0) 0 ≡ p) → (c s h : ℕ) (k : ClassInfo) → slice_get classes c ≡ Some k → IsAt z.waits (wait s c) → slice_get heights c ≡ Some h → (l : ℕ) × (slice_get heights s ≡ Some l) × (l < h)
lower classes waiting order heights w z size each c s h k e x f =
    let b = heights_back classes waiting order heights w z size each c k e in
    let height : b.0 ≡ h = sym b.3 ∙ get_or_from_slice_get heights c h 0 f in
    let q = place_of (take b.0 order) s (z.released.behind b.0 x.place (wait s c) b.1 x.is (sym b.2)) in
    let short : q.place < b.0 = omega (arith, q.within, length-take b.0 order) in
    let inside : q.place < length order = omega (arith, b.1) in
    let is : get_or order q.place 0 ≡ s = sym (get_or-take b.0 order q.place 0 short) ∙ q.is in
    let low : get_or heights s 0 ≡ q.place = ap (λ y. get_or heights y 0) (sym is) ∙ each q.place inside in
    let there : s < length heights = omega (arith, size, is, order_inside classes waiting order w z q.place inside) in
    (q.place, slice_get-get_or heights s 0 there ∙ ap (λ y. Some y) low, omega (arith, short, height))

pub heights_are : (classes : List ClassInfo) (waiting order heights : List ℕ) → IsClosedWorld classes → Closes classes waiting order → length heights ≡ length order → ((p : ℕ) → p < length order → get_or heights (get_or order p 0) 0 ≡ p) → AreHeights classes order heights
heights_are classes waiting order heights w z size each =
    let count = order_count classes waiting order w z in
    record {
      count = count;
      counted = size ∙ count;
      ordered = λ h c e.
          (let l = slice_get_within order h c e in
          let is : get_or order h 0 ≡ c = get_or_from_slice_get order h c 0 e in
          slice_get-get_or heights c 0 (omega (arith, size, is, order_inside classes waiting order w z h l)) ∙ ap (λ y. Some y) (ap (λ x. get_or heights x 0) (sym is) ∙ each h l));
      placed = λ c h e.
          (let k = some_place classes c (omega (arith, slice_get_within heights c h e, size, count)) in
          let b = heights_back classes waiting order heights w z size each c k.0 k.1 in
          let same : b.0 ≡ h = sym b.3 ∙ get_or_from_slice_get heights c h 0 e in
          subst (λ p. slice_get order p ≡ Some c) same (slice_get-get_or order b.0 0 b.1 ∙ ap (λ y. Some y) b.2));
      superclass = λ c s h e f.
          (let v = super_is classes c s e in
          let names = (under_world classes w c v.class v.there).superclass v.name v.named in
          let found = is_found classes false v.name s w.ascending (kind_of_name classes w.ascending false v.name s names v.number) in
          lower classes waiting order heights w z size each c s h v.class v.there (there_is_wait classes z.start z.waits z.are c v.class (wait s c) v.there (has_superclass classes c v.class v.name s v.named found)) f);
      superinterface = λ c i s h e f.
          (let v = interface_is classes c i s e in
          let names = (under_world classes w c v.class v.there).interfaces v.place v.name v.named in
          let found = is_found classes true v.name s w.ascending (kind_of_name classes w.ascending true v.name s names v.number) in
          lower classes waiting order heights w z size each c s h v.class v.there (there_is_wait classes z.start z.waits z.are c v.class (wait s c) v.there (has_interface classes c v.class v.place v.name s v.named found)) f);
    }
