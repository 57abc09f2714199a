-- What the tasks that are left give, and how they go on.
use Rattle.std.proofs.Common.{◌≡◌, ℕ, suc, zero, ◌+◌, ◌<◌, Bool, true, false, List, [], ◌∷◌, ◌++◌, length, get_or, set, filter, refl, sym, ap, subst, ◌∙◌, append_assoc, arith, replicate, Option, Some, None}
use Rattle.std.specs.Prelude.{map, reverse, ◌==◌, All, option_to_list, option_map, slice_get}
use Rattle.std.proofs.Common.{inl, inr}
use Rattle.std.proofs.lemmas.Bool.{cases_eq, cases_lt, eq-eqb, ne_eqb}
use Rattle.std.proofs.lemmas.List.{append-nil, reverse-append, reverse-reverse, length-reverse, length-append, length-map, map-append, get_or-replicate, length-replicate, get_or-set_other, length-set}
use Rattle.std.proofs.lemmas.Grind.{get_or-set_at}
use Rattle.std.proofs.lemmas.List.Elements.{filter-append, All-map, All-weaker, All-same, All-push, All-append, All-head, All-tail, All-pop, All-nil, All-cons}
use Rattle.wf_base.specs.declared.ids.ClassId.{ClassId}
use Rattle.wf_init.specs.declared.Task.{Task}
use Rattle.wf_init.specs.declared.Task.TheVariants.{Begin, Give}
use Rattle.std.proofs.lemmas.Option.{slice_get_past, slice_get_read}
use Rattle.wf_data.specs.Flags.{is_interface}
use Rattle.wf_data.specs.declared.class_info.ClassInfo.{ClassInfo}
use Rattle.wf_classes.specs.World.{number, number_in, kind_at, superclass_of, superinterfaces_of}
use Rattle.wf_init.specs.Order.{has_default, is_in, Enumerates, IsInitOrder}
use Rattle.wf_init.specs.Order as order

-- interfaces that are gone through from here, and then something else: what both give
pub record Through (classes : List ClassInfo) (interfaces begun : List ℕ) (Then : List ℕ → List ℕ → Type 0) (given : List ℕ) : Type 0 where
  pub order : List ℕ
  pub after : List ℕ
  pub left : List ℕ
  pub enumerated : Enumerates classes interfaces begun order after
  pub rest : Then after left
  pub is : given ≡ filter (has_default classes) order ++ left

-- what tasks give, where some interfaces are begun
abbrev pub Finishes : List ClassInfo → List Task → List ℕ → List ℕ → Type 0
Finishes classes [] begun given = given ≡ []
Finishes classes (Begin i ∷ tasks) begun given = Through classes (i.0 ∷ []) begun (Finishes classes tasks) given
Finishes classes (Give i ∷ tasks) begun given = (left : List ℕ) × (given ≡ filter (has_default classes) (i.0 ∷ []) ++ left) × Finishes classes tasks begun left

both : (p : ℕ → Bool) (front back given middle left : List ℕ) → given ≡ filter p front ++ middle → middle ≡ filter p back ++ left → given ≡ filter p (front ++ back) ++ left
both p front back given middle left d e = rw (d, e, filter-append, append_assoc) refl

joined : (classes : List ClassInfo) (i : ℕ) (is begun o middle order after : List ℕ) → Enumerates classes (i ∷ []) begun o middle → Enumerates classes is middle order after → Enumerates classes (i ∷ is) begun (o ++ order) after
joined classes i is begun o middle rest last (order.Enumerates.again _ _ _ _ _ h (order.Enumerates.none _)) e = order.Enumerates.again i is begun rest last h e
joined classes i is begun o middle rest last (order.Enumerates.first _ _ _ above _ between _ h up (order.Enumerates.none _)) e =
    subst (λ (xs : List ℕ). Enumerates classes (i ∷ is) begun xs last) (sym (append_assoc above (i ∷ []) rest)) (order.Enumerates.first i is begun above rest middle last h up e)

pub walked : (classes : List ClassInfo) (ids : List ClassId) (tasks : List Task) (begun given : List ℕ) → Finishes classes (map Begin ids ++ tasks) begun given → Through classes (map number ids) begun (Finishes classes tasks) given
walked classes [] tasks begun given h = record { order = []; after = begun; left = given; enumerated = order.Enumerates.none begun; rest = h; is = refl }
walked classes (i ∷ ids) tasks begun given h =
    let more = walked classes ids tasks h.after h.left h.rest in
    record {
      order = h.order ++ more.order;
      after = more.after;
      left = more.left;
      enumerated = joined classes i.0 (map number ids) begun h.order h.after more.order more.after h.enumerated more.enumerated;
      rest = more.rest;
      is = both (has_default classes) h.order more.order given h.left more.left h.is more.is;
    }

-- an interface that was begun gives nothing
pub stays : (classes : List ClassInfo) (i : ClassId) (tasks : List Task) (begun given : List ℕ) → is_in begun i.0 ≡ true → Finishes classes tasks begun given → Finishes classes (Begin i ∷ tasks) begun given
stays classes i tasks begun given was h = record { order = []; after = begun; left = given; enumerated = order.Enumerates.again i.0 [] begun [] begun was (order.Enumerates.none begun); rest = h; is = refl }

-- another gives what its superinterfaces give, and then itself
pub begins : (classes : List ClassInfo) (i : ClassId) (ids : List ClassId) (tasks : List Task) (begun given : List ℕ) → is_in begun i.0 ≡ false → map number ids ≡ superinterfaces_of classes i.0 → Finishes classes (map Begin ids ++ Give i ∷ tasks) (i.0 ∷ begun) given → Finishes classes (Begin i ∷ tasks) begun given
begins classes i ids tasks begun given was same h =
    let up = walked classes ids (Give i ∷ tasks) (i.0 ∷ begun) given h in
    record {
      order = up.order ++ i.0 ∷ [];
      after = up.after;
      left = up.rest.0;
      enumerated = order.Enumerates.first i.0 [] begun up.order [] up.after up.after was (subst (λ (is : List ℕ). Enumerates classes is (i.0 ∷ begun) up.order up.after) same up.enumerated) (order.Enumerates.none up.after);
      rest = up.rest.2;
      is = both (has_default classes) up.order (i.0 ∷ []) given up.left up.rest.0 up.is up.rest.1;
    }

pub gives : (classes : List ClassInfo) (i : ClassId) (tasks : List Task) (begun given : List ℕ) → has_default classes i.0 ≡ true → Finishes classes tasks begun given → Finishes classes (Give i ∷ tasks) begun (i.0 ∷ given)
gives classes i tasks begun given has h = (given, rw has refl, h)

pub passes : (classes : List ClassInfo) (i : ClassId) (tasks : List Task) (begun given : List ℕ) → has_default classes i.0 ≡ false → Finishes classes tasks begun given → Finishes classes (Give i ∷ tasks) begun given
passes classes i tasks begun given has h = (given, rw has refl, h)

-- ---- flags

-- the classes whose flags are set are those of a list
pub record Marks (flags : List Bool) (seen : List ℕ) : Type 0 where
  pub each : (c : ℕ) (d : Bool) → c < length flags → get_or flags c d ≡ is_in seen c

pub marks_none : (n : ℕ) → Marks (replicate n false) []
marks_none n = record { each = λ c d h. get_or-replicate n c false d (omega (arith, length-replicate n false)) }

pub marks_more : (flags : List Bool) (seen : List ℕ) (c : ℕ) → c < length flags → Marks flags seen → Marks (set flags c true) (c ∷ seen)
marks_more flags seen c inside m = record {
  each = λ e d h. elim (cases_eq c e) [
    | inl same ↦ (let yes : (c == e) ≡ true = eq-eqb c e same in rw yes (get_or-set_at flags c e true d (sym same) inside))
    | inr other ↦ (let no : (c == e) ≡ false = ne_eqb c e other in rw no (get_or-set_other flags c e true d (λ s. other (sym s)) ∙ m.each e d (omega (arith, length-set flags c true))))
  ];
}

-- ---- the measure

-- what is left to do with the classes whose flags aren't set, numbered from k
pub left_of : List ClassInfo → ℕ → List Bool → ℕ
left_of classes k [] = 0
left_of classes k (true ∷ flags) = left_of classes (suc k) flags
left_of classes k (false ∷ flags) = suc (length (superinterfaces_of classes k)) + left_of classes (suc k) flags

pub falls : (classes : List ClassInfo) (k : ℕ) (flags : List Bool) (c i : ℕ) (d : Bool) → k + c ≡ i → c < length flags → get_or flags c d ≡ false → left_of classes k (set flags c true) + suc (length (superinterfaces_of classes i)) ≡ left_of classes k flags
unfolding left_of
falls classes k [] c i d at inside was = absurd (omega arith)
falls classes k (true ∷ flags) zero i d at inside was = absurd cc
falls classes k (false ∷ flags) zero i d at inside was = let e : k ≡ i = omega arith in rw e (omega arith)
falls classes k (true ∷ flags) (suc c) i d at inside was = falls classes (suc k) flags c i d (omega arith) (omega arith) was
falls classes k (false ∷ flags) (suc c) i d at inside was = omega (arith, falls classes (suc k) flags c i d (omega arith) (omega arith) was)

-- ---- what the loop keeps

abbrev pub class_of_task : Task → ℕ
class_of_task (Begin i) = i.0
class_of_task (Give i) = i.0

all_given : (p : ℕ → Bool) (super given order left rest : List ℕ) → given ≡ super → left ≡ filter p order ++ rest → rest ≡ [] → given ++ left ≡ super ++ filter p order
all_given p super given order left rest same is none = rw (same, is, none, append-nil) refl

one_more : (given : List ClassId) (i : ClassId) (left : List ℕ) → map number (given ++ i ∷ []) ++ left ≡ map number given ++ i.0 ∷ left
one_more given i left = rw (map-append, append_assoc) refl

none_is_some : (b : Bool) → None ≡ Some b → ⊥
none_is_some b e = absurd cc

kind_inside : (classes : List ClassInfo) (c : ℕ) (b : Bool) → kind_at classes c ≡ Some b → c < length classes
kind_inside classes c b e = elim (cases_lt c (length classes)) [ inl l ↦ l | inr past ↦ absurd (none_is_some b (sym (ap (option_map (λ (k : ClassInfo). is_interface k.flags)) (slice_get_past classes c past)) ∙ e)) ]

-- what is left to do, the first first, and what was given make the order of a class
pub record Keeps (classes : List ClassInfo) (c : ℕ) (stack : List Task) (flags : List Bool) (given : List ClassId) : Type 0 where
  pub seen : List ℕ
  pub marked : Marks flags seen
  pub ends : (left : List ℕ) → Finishes classes stack seen left → IsInitOrder classes c (map number given ++ left)

pub keeps_first : (classes : List ClassInfo) (c : ℕ) (ids given : List ClassId) (n : ℕ) → kind_at classes c ≡ Some false → map number given ≡ option_to_list (superclass_of classes c) → map number ids ≡ superinterfaces_of classes c → Keeps classes c (map Begin ids ++ []) (replicate n false) given
keeps_first classes c ids given n kind super same = record {
  seen = [];
  marked = marks_none n;
  ends = λ left h.
      let w = walked classes ids [] [] left h in
      let e : Enumerates classes (superinterfaces_of classes c) [] w.order w.after = subst (λ (is : List ℕ). Enumerates classes is [] w.order w.after) same w.enumerated in
      subst (IsInitOrder classes c) (sym (all_given (has_default classes) (option_to_list (superclass_of classes c)) (map number given) w.order left w.left super w.is w.rest)) (order.IsInitOrder.class w.order w.after kind e);
}

pub keeps_passed : (classes : List ClassInfo) (c : ℕ) (stack : List Task) (i : ClassId) (flags : List Bool) (given : List ClassId) (d : Bool) → i.0 < length flags → get_or flags i.0 d ≡ true → Keeps classes c (Begin i ∷ stack) flags given → Keeps classes c stack flags given
keeps_passed classes c stack i flags given d inside was k = record {
  seen = k.seen;
  marked = k.marked;
  ends = λ left h. k.ends left (stays classes i stack k.seen left (sym (k.marked.each i.0 d inside) ∙ was) h);
}

pub keeps_begun : (classes : List ClassInfo) (c : ℕ) (stack : List Task) (i : ClassId) (ids : List ClassId) (flags : List Bool) (given : List ClassId) (d : Bool) → i.0 < length flags → get_or flags i.0 d ≡ false → map number ids ≡ superinterfaces_of classes i.0 → Keeps classes c (Begin i ∷ stack) flags given → Keeps classes c (map Begin ids ++ Give i ∷ stack) (set flags i.0 true) given
keeps_begun classes c stack i ids flags given d inside was same k = record {
  seen = i.0 ∷ k.seen;
  marked = marks_more flags k.seen i.0 inside k.marked;
  ends = λ left h. k.ends left (begins classes i ids stack k.seen left (sym (k.marked.each i.0 d inside) ∙ was) same h);
}

pub keeps_given : (classes : List ClassInfo) (c : ℕ) (stack : List Task) (i : ClassId) (flags : List Bool) (given : List ClassId) → has_default classes i.0 ≡ true → Keeps classes c (Give i ∷ stack) flags given → Keeps classes c stack flags (given ++ i ∷ [])
keeps_given classes c stack i flags given has k = record {
  seen = k.seen;
  marked = k.marked;
  ends = λ left h. subst (IsInitOrder classes c) (sym (one_more given i left)) (k.ends (i.0 ∷ left) (gives classes i stack k.seen left has h));
}

pub keeps_silent : (classes : List ClassInfo) (c : ℕ) (stack : List Task) (i : ClassId) (flags : List Bool) (given : List ClassId) → has_default classes i.0 ≡ false → Keeps classes c (Give i ∷ stack) flags given → Keeps classes c stack flags given
keeps_silent classes c stack i flags given has k = record {
  seen = k.seen;
  marked = k.marked;
  ends = λ left h. k.ends left (passes classes i stack k.seen left has h);
}

-- nothing is left to do
pub keeps_end : (classes : List ClassInfo) (c : ℕ) (flags : List Bool) (given : List ClassId) → Keeps classes c [] flags given → IsInitOrder classes c (map number given)
keeps_end classes c flags given k = subst (IsInitOrder classes c) (append-nil (map number given)) (k.ends [] refl)

-- ---- the stack, the first first

pub popped : (tasks after : List Task) (t u : Task) → tasks ≡ after ++ t ∷ [] → t ≡ u → reverse tasks ≡ u ∷ reverse after
popped tasks after t u e same = rw (e, same) (reverse-append after (u ∷ []))

pub one_task : (t : Task) (i j : ClassId) → t ≡ Begin i → t ≡ Begin j → i ≡ j
one_task t i j a b = cc

many_tasks : (ids : List ClassId) (i : ClassId) (rest : List Task) → length (map Begin ids) + length (Give i ∷ reverse rest) ≡ length ids + suc (length rest)
many_tasks ids i rest = omega (arith, length-map ids Begin, length-reverse rest)

pub no_tasks : (tasks : List Task) → length tasks ≡ 0 → tasks ≡ []
no_tasks [] e = refl
no_tasks (t ∷ tasks) e = absurd (omega arith)

pub smaller : (classes : List ClassInfo) (flags : List Bool) (i : ClassId) (d : Bool) (ids : List ClassId) (tasks rest after : List Task) (t : Task) → tasks ≡ rest ++ t ∷ [] → reverse after ≡ map Begin ids ++ Give i ∷ reverse rest → map number ids ≡ superinterfaces_of classes i.0 → i.0 < length flags → get_or flags i.0 d ≡ false → left_of classes 0 (set flags i.0 true) + length after < left_of classes 0 flags + length tasks
smaller classes flags i d ids tasks rest after t e stack same inside was =
    let fall = falls classes 0 flags i.0 i.0 d (omega arith) inside was in
    let behind : length after ≡ length ids + suc (length rest) = sym (length-reverse after) ∙ ap length stack ∙ length-append (map Begin ids) (Give i ∷ reverse rest) ∙ many_tasks ids i rest in
    let before : length tasks ≡ length rest + 1 = ap length e ∙ length-append rest (t ∷ []) in
    let many : length ids ≡ length (superinterfaces_of classes i.0) = sym (length-map ids number) ∙ ap length same in
    omega arith

pub is_at : (xs classes : List ClassInfo) (c : ℕ) (k : ClassInfo) → xs ≡ classes → c < length classes → k ≡ get_or xs c k → slice_get classes c ≡ Some k
is_at xs classes c k same inside is = slice_get_read classes (length classes) c k refl inside (is ∙ ap (λ (ks : List ClassInfo). get_or ks c k) same)

-- whether the classes of tasks are there
abbrev pub AreInside : ℕ → List Task → Type 0
AreInside n tasks = All (λ t. class_of_task t < n) tasks

all_reverse : {X : Type 0} (P : X → Type 0) (xs : List X) → All P xs → All P (reverse xs)
all_reverse P [] h = h
all_reverse P (x ∷ xs) h = All-same P _ _ (reverse-append (x ∷ []) xs) (All-push P (reverse xs) x (all_reverse P xs (All-tail P x xs h)) (All-head P x xs h))

all_back : {X : Type 0} (P : X → Type 0) (xs : List X) → All P (reverse xs) → All P xs
all_back P xs h = All-same P _ _ (sym (reverse-reverse xs)) (all_reverse P (reverse xs) h)

pub first_inside : (classes : List ClassInfo) (ids : List ClassId) (after : List Task) → reverse after ≡ map Begin ids ++ [] → All (λ s. kind_at classes s.0 ≡ Some true) ids → AreInside (length classes) after
first_inside classes ids after e h =
    let P = λ (t : Task). class_of_task t < length classes in
    let front = All-map P Begin ids (All-weaker (λ (s : ClassId). kind_at classes s.0 ≡ Some true) (λ s. s.0 < length classes) (λ s e. kind_inside classes s.0 true e) ids h) in
    all_back P after (All-same P _ _ e (All-append P (map Begin ids) [] front (All-nil P)))

pub begun_inside : (classes : List ClassInfo) (ids : List ClassId) (i : ClassId) (rest after : List Task) → reverse after ≡ map Begin ids ++ Give i ∷ reverse rest → All (λ s. kind_at classes s.0 ≡ Some true) ids → i.0 < length classes → AreInside (length classes) rest → AreInside (length classes) after
begun_inside classes ids i rest after e h here inside =
    let P = λ (t : Task). class_of_task t < length classes in
    let front = All-map P Begin ids (All-weaker (λ (s : ClassId). kind_at classes s.0 ≡ Some true) (λ s. s.0 < length classes) (λ s e. kind_inside classes s.0 true e) ids h) in
    all_back P after (All-same P _ _ e (All-append P (map Begin ids) (Give i ∷ reverse rest) front (All-cons P (Give i) (reverse rest) here (all_reverse P rest inside))))

pub front_inside : (n : ℕ) (tasks after : List Task) (t : Task) → tasks ≡ after ++ t ∷ [] → AreInside n tasks → AreInside n after
front_inside n tasks after t e inside = (All-pop (λ (t : Task). class_of_task t < n) tasks after (Some t) e inside).0

pub last_inside : (n : ℕ) (tasks after : List Task) (t u : Task) → tasks ≡ after ++ t ∷ [] → t ≡ u → AreInside n tasks → class_of_task u < n
last_inside n tasks after t u e same inside = subst (λ (t : Task). class_of_task t < n) same ((All-pop (λ (t : Task). class_of_task t < n) tasks after (Some t) e inside).1)

pub kind_by : (classes : List ClassInfo) (c : ℕ) (k : ClassInfo) (b : Bool) → slice_get classes c ≡ Some k → is_interface k.flags ≡ b → kind_at classes c ≡ Some b
kind_by classes c k b there is = ap (option_map (λ (k : ClassInfo). is_interface k.flags)) there ∙ ap Some is

pub an_interface : (classes : List ClassInfo) (c : ℕ) (given : List ClassId) → kind_at classes c ≡ Some true → given ≡ [] → IsInitOrder classes c (map number given)
an_interface classes c given kind none = subst (IsInitOrder classes c) (sym (ap (map number) none)) (order.IsInitOrder.interface kind)

-- the superclass comes first
pub one_first : (o : Option ClassId) (s : ClassId) (n : Option ℕ) (given front : List ClassId) → o ≡ Some s → number_in o ≡ n → given ≡ front ++ s ∷ [] → front ≡ [] → map number given ≡ option_to_list n
one_first o s n given front some same e none = rw (e, none, sym same, some) refl

pub none_first : (o : Option ClassId) (n : Option ℕ) (given : List ClassId) → o ≡ None → number_in o ≡ n → given ≡ [] → map number given ≡ option_to_list n
none_first o n given empty same none = rw (none, sym same, empty) refl
