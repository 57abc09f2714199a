-- What closing keeps is a closed world.
use Rattle.std.proofs.Common.{◌≡◌, ℕ, zero, suc, ◌+◌, ◌<◌, ◌≤◌, cond, List, [], ◌∷◌, ◌++◌, length, get_or, take, sum_by, Some, None, refl, sym, ap, subst, ◌∙◌, add-one, arith, inl, inr, ◌⊎◌, IsPermutation}
use Rattle.std.specs.Prelude.{slice_get, option_to_list, AllPairs}
use Rattle.std.specs.Cmp.Lexicographic.{slice_cmp}
use Rattle.std.specs.Ordering.{nat_cmp}
use Rattle.std.specs.declared.cmp.Ordering.TheVariants.{Less}
use Rattle.std.proofs.lemmas.Bool.{cases_lt, cases_eq, eq-eqb}
use Rattle.std.proofs.lemmas.Cmp.{nat_list_cmp_total}
use Rattle.std.proofs.lemmas.List.{get_or-map, length-map, length-append, take_all, append-nil}
use Rattle.std.proofs.lemmas.List.Quantifiers.{all_pairs_push}
use Rattle.std.proofs.lemmas.List.Sorted.{sum_by-IsPermutation, Contains-permutation, IsPermutation-sym, length_permutation}
use Rattle.std.proofs.lemmas.List.Sums.{sum_by-append, sum_by-cons}
use Rattle.std.proofs.lemmas.Map.Keys.{Less-from_sorted, sorted_from_all_adjacent}
use Rattle.std.proofs.lemmas.Option.{slice_get_within, slice_get-get_or, get_or_from_slice_get, slice_get_past}
use Rattle.wf_data.specs.declared.class_info.ClassInfo.{ClassInfo}
use Rattle.wf_names.specs.Names.{object_name}
use Rattle.wf_classes.specs.World.{Loadable, object, below, IsAscending, names_of, class_of, HaveSpellings, AreWithinLimits, code_bytes, text_bytes, IsClosingOf}
use Rattle.wf_classes.specs.Closing.{Closes, wanted, kept_upto, kept_of}
use Rattle.wf_classes.proofs.Bridge.{order_is_loadable, loadable_is_in_order, loadable_in}
use Rattle.wf_classes.proofs.KeyLists.{get_push}
use Rattle.wf_classes.proofs.Search.{sorted_from_none}
use Rattle.wf_classes.proofs.WaitFacts.{IsAt, contains_from_get, at_from_contains, some_place, class_found, class_is}
use Rattle.wf_classes.proofs.WaitLists.{kept_same, kept_more}
use Rattle.wf_classes.proofs.Worklist.{place_of}

-- ---- which classes wait for nothing

pub waiting_size : (files : List ClassInfo) (waiting order : List ℕ) → Closes files waiting order → length waiting ≡ length files
waiting_size files waiting order h = h.released.size ∙ ap length h.are.starts ∙ length-map files wanted

pub zero_is_loadable : (files : List ClassInfo) (waiting order : List ℕ) → Closes files waiting order → (i : ℕ) (k : ClassInfo) → slice_get files i ≡ Some k → get_or waiting i 0 ≡ 0 → Loadable files k.name
zero_is_loadable files waiting order h i k e z =
    order_is_loadable files h.start h.waits waiting order h.are h.released i k e
    (h.released.zeros.listed i (omega (arith, slice_get_within files i k e, waiting_size files waiting order h)) z)

pub loadable_is_zero : (files : List ClassInfo) (waiting order : List ℕ) → IsAscending (names_of files) → Closes files waiting order → (i : ℕ) (k : ClassInfo) → slice_get files i ≡ Some k → Loadable files k.name → get_or waiting i 0 ≡ 0
loadable_is_zero files waiting order up h i k e l =
    let p = place_of order i (loadable_is_in_order files h.start h.waits waiting order up h.are h.released k.name l i k e refl) in
    subst (λ j. get_or waiting j 0 ≡ 0) p.is (h.released.zeros.zero p.place p.within)

-- ---- the classes that are kept

-- one more class is kept or not
kept_step : (waiting : List ℕ) (files : List ClassInfo) (n : ℕ) → (kept_upto waiting files (suc n) ≡ kept_upto waiting files n) ⊎ ((k : ClassInfo) × (slice_get files n ≡ Some k) × (get_or waiting n 0 ≡ 0) × (kept_upto waiting files (suc n) ≡ kept_upto waiting files n ++ k ∷ []))
kept_step waiting files n =
    elim (cases_eq (get_or waiting n 0) 0) [
      | inl z ↦ elim (cases_lt n (length files)) [
        | inl l ↦ (let k = some_place files n l in inr (k.0, k.1, z, ap (kept_upto waiting files) (sym (add-one n)) ∙ kept_more waiting files n k.0 k.1 z))
        | inr o ↦ inl (ap (λ t. kept_upto waiting files n ++ cond t (option_to_list (slice_get files n)) []) (eq-eqb (get_or waiting n 0) 0 z)
            ∙ ap (λ o. kept_upto waiting files n ++ option_to_list o) (slice_get_past files n o) ∙ append-nil (kept_upto waiting files n))
      ]
      | inr m ↦ inl (ap (kept_upto waiting files) (sym (add-one n)) ∙ kept_same waiting files n m)
    ]

pub record WasKept (waiting : List ℕ) (files : List ClassInfo) (n : ℕ) (k : ClassInfo) : Type 0 where
  pub place : ℕ
  pub within : place < n
  pub is : slice_get files place ≡ Some k
  pub free : get_or waiting place 0 ≡ 0

pub kept_from : (waiting : List ℕ) (files : List ClassInfo) (n c : ℕ) (k : ClassInfo) → slice_get (kept_upto waiting files n) c ≡ Some k → WasKept waiting files n k
kept_from waiting files zero c k e = absurd cc
kept_from waiting files (suc n) c k e =
    elim (kept_step waiting files n) [
      | inl s ↦ (let r = kept_from waiting files n c k (sym (ap (λ (xs : List ClassInfo). slice_get xs c) s) ∙ e) in record { place = r.place; within = (let w = r.within in omega arith); is = r.is; free = r.free })
      | inr m ↦ elim (get_push (kept_upto waiting files n) m.0 c k (sym (ap (λ (xs : List ClassInfo). slice_get xs c) m.3) ∙ e)) [
        | inl a ↦ (let r = kept_from waiting files n c k a in record { place = r.place; within = (let w = r.within in omega arith); is = r.is; free = r.free })
        | inr b ↦ record { place = n; within = omega arith; is = m.1 ∙ ap (λ x. Some x) b.1; free = m.2 }
      ]
    ]

get_left : (xs : List ClassInfo) (y k : ClassInfo) (c : ℕ) → slice_get xs c ≡ Some k → slice_get (xs ++ y ∷ []) c ≡ Some k
get_left [] y k c e = absurd cc
get_left (x ∷ xs) y k zero e = e
get_left (x ∷ xs) y k (suc c) e = get_left xs y k c e

get_last : (xs : List ClassInfo) (y : ClassInfo) → slice_get (xs ++ y ∷ []) (length xs) ≡ Some y
get_last [] y = refl
get_last (x ∷ xs) y = get_last xs y

pub kept_has : (waiting : List ℕ) (files : List ClassInfo) (n i : ℕ) (k : ClassInfo) → i < n → slice_get files i ≡ Some k → get_or waiting i 0 ≡ 0 → IsAt (kept_upto waiting files n) k
kept_has waiting files zero i k l e z = absurd (omega arith)
kept_has waiting files (suc n) i k l e z =
    elim (cases_lt i n) [
      | inl m ↦ (let r = kept_has waiting files n i k m e z in
          elim (kept_step waiting files n) [
            | inl s ↦ record { place = r.place; is = ap (λ (xs : List ClassInfo). slice_get xs r.place) s ∙ r.is }
            | inr t ↦ record { place = r.place; is = ap (λ (xs : List ClassInfo). slice_get xs r.place) t.3 ∙ get_left (kept_upto waiting files n) t.0 k r.place r.is }
          ])
      | inr o ↦
          (let same : i ≡ n = omega arith in
          let here : kept_upto waiting files (suc n) ≡ kept_upto waiting files n ++ k ∷ [] =
          ap (kept_upto waiting files) (sym (add-one n)) ∙ kept_more waiting files n k (subst (λ j. slice_get files j ≡ Some k) same e) (subst (λ j. get_or waiting j 0 ≡ 0) same z) in
          record { place = length (kept_upto waiting files n); is = ap (λ (xs : List ClassInfo). slice_get xs (length (kept_upto waiting files n))) here ∙ get_last (kept_upto waiting files n) k })
    ]

pub kept_sum : (f : ClassInfo → ℕ) (waiting : List ℕ) (files : List ClassInfo) (n : ℕ) → sum_by f (kept_upto waiting files n) ≤ sum_by f (take n files)
kept_sum f waiting files zero = omega arith
kept_sum f waiting files (suc n) =
    let before = kept_sum f waiting files n in
    elim (kept_step waiting files n) [
      | inl s ↦ omega (arith, ap (sum_by f) s, before, front_le f files n)
      | inr t ↦ (let more : sum_by f (take (suc n) files) ≡ sum_by f (take n files) + f t.0 = front_more f files n t.0 t.1 in
          omega (arith, ap (sum_by f) t.3, sum_by-append f (kept_upto waiting files n) (t.0 ∷ []), one f t.0, before, more))
    ] where
      one : (f : ClassInfo → ℕ) (k : ClassInfo) → sum_by f (k ∷ []) ≡ f k
      one f k = sum_by-cons f k [] ∙ omega arith

      front_more : (f : ClassInfo → ℕ) (files : List ClassInfo) (n : ℕ) (k : ClassInfo) → slice_get files n ≡ Some k → sum_by f (take (suc n) files) ≡ sum_by f (take n files) + f k
      front_more f [] n k e = absurd cc
      front_more f (x ∷ files) zero k e = (let same : x ≡ k = cc in omega (arith, sum_by-cons f x [], ap f same))
      front_more f (x ∷ files) (suc n) k e = sum_by-cons f x (take (suc n) files) ∙ omega (arith, front_more f files n k e, sum_by-cons f x (take n files))

      front_le : (f : ClassInfo → ℕ) (files : List ClassInfo) (n : ℕ) → sum_by f (take n files) ≤ sum_by f (take (suc n) files)
      front_le f [] zero = omega arith
      front_le f [] (suc n) = omega arith
      front_le f (x ∷ files) zero = omega (arith, sum_by-cons f x [])
      front_le f (x ∷ files) (suc n) = omega (arith, front_le f files n, sum_by-cons f x (take n files), sum_by-cons f x (take (suc n) files))

pub kept_sum_of : (f : ClassInfo → ℕ) (waiting : List ℕ) (files : List ClassInfo) → sum_by f (kept_of waiting files) ≤ sum_by f files
kept_sum_of f waiting files = omega (arith, kept_sum f waiting files (length files), ap (sum_by f) (take_all (length files) files (omega arith)))

kept_length : (waiting : List ℕ) (files : List ClassInfo) (n : ℕ) → length (kept_upto waiting files n) ≤ n
kept_length waiting files zero = omega arith
kept_length waiting files (suc n) =
    elim (kept_step waiting files n) [
      | inl s ↦ omega (arith, ap length s, kept_length waiting files n)
      | inr t ↦ omega (arith, ap length t.3, length-append (kept_upto waiting files n) (t.0 ∷ []), kept_length waiting files n)
    ]

pub kept_count : (waiting : List ℕ) (files : List ClassInfo) → length (kept_of waiting files) ≤ length files
kept_count waiting files = kept_length waiting files (length files)

-- ---- the order of what is kept

abbrev NameLess : ClassInfo → ClassInfo → Type 0
NameLess a b = slice_cmp nat_cmp a.name b.name ≡ Less

files_less : (files : List ClassInfo) (i j : ℕ) (a b : ClassInfo) → IsAscending (names_of files) → i < j → slice_get files i ≡ Some a → slice_get files j ≡ Some b → NameLess a b
files_less files i j a b up l e f =
    let low = slice_get_within files i a e in
    let high = slice_get_within files j b f in
    let size = length-map files (λ (k : ClassInfo). k.name) in
    let name = λ (k : ClassInfo). k.name in
    ap (λ x. slice_cmp nat_cmp x b.name) (sym (get_or-map name files i a a.name low ∙ ap name (get_or_from_slice_get files i a a e)))
    ∙ ap (slice_cmp nat_cmp (get_or (names_of files) i a.name)) (sym (get_or-map name files j b a.name high ∙ ap name (get_or_from_slice_get files j b b f)))
    ∙ Less-from_sorted (slice_cmp nat_cmp) (names_of files) i j a.name up l (omega (arith, size))

kept_pairs : (waiting : List ℕ) (files : List ClassInfo) (n : ℕ) → IsAscending (names_of files) → AllPairs NameLess (kept_upto waiting files n)
kept_pairs waiting files zero up = λ i j d l m. absurd (omega arith)
kept_pairs waiting files (suc n) up =
    elim (kept_step waiting files n) [
      | inl s ↦ subst (λ (xs : List ClassInfo). AllPairs NameLess xs) (sym s) (kept_pairs waiting files n up)
      | inr t ↦ subst (λ (xs : List ClassInfo). AllPairs NameLess xs) (sym t.3) (all_pairs_push NameLess (kept_upto waiting files n) t.0 (kept_pairs waiting files n up)
          (λ k d l. (let r = kept_from waiting files n k (get_or (kept_upto waiting files n) k d) (slice_get-get_or (kept_upto waiting files n) k d l) in
          files_less files r.place n (get_or (kept_upto waiting files n) k d) t.0 up r.within r.is t.1)))
    ]

sorted_pairs : (classes : List ClassInfo) → AllPairs NameLess classes → IsAscending (names_of classes)
sorted_pairs [] h = sorted_from_none (slice_cmp nat_cmp)
sorted_pairs (k ∷ ks) h =
    let classes = k ∷ ks in
    let name = λ (k : ClassInfo). k.name in
    let size = length-map classes name in
    sorted_from_all_adjacent nat_list_cmp_total (names_of classes) k.name (λ i l.
    ap (λ x. slice_cmp nat_cmp x (get_or (names_of classes) (i + 1) k.name)) (get_or-map name classes i k k.name (omega (arith, size)))
    ∙ ap (slice_cmp nat_cmp (get_or classes i k).name) (get_or-map name classes (i + 1) k k.name (omega (arith, size)))
    ∙ h i (i + 1) k (omega arith) (omega (arith, size)))

pub kept_ascends : (waiting : List ℕ) (files : List ClassInfo) → IsAscending (names_of files) → IsAscending (names_of (kept_of waiting files))
kept_ascends waiting files up = sorted_pairs (kept_of waiting files) (kept_pairs waiting files (length files) up)

-- ---- what closing gives

moved_to : {X : Type 0} (xs ys : List X) → IsPermutation xs ys → (i : ℕ) (x : X) → slice_get xs i ≡ Some x → IsAt ys x
moved_to xs ys moved i x e = at_from_contains ys x (Contains-permutation xs ys x moved (contains_from_get xs i x e))

pub record Closing (given files : List ClassInfo) (waiting order : List ℕ) : Type 0 where
  pub moved : IsPermutation given files
  pub ascending : IsAscending (names_of files)
  pub closes : Closes files waiting order

-- a class is loadable among the files as they were given, and sorted
sorted_is_loadable : (given files : List ClassInfo) → IsPermutation given files → (name : List ℕ) → Loadable given name → Loadable files name
sorted_is_loadable given files moved = loadable_in given files (λ i k e l. moved_to given files moved i k e)

pub kept_loadable : (given files : List ClassInfo) (waiting order : List ℕ) → Closing given files waiting order → (i : ℕ) (k : ClassInfo) → slice_get given i ≡ Some k → Loadable given k.name → IsAt (kept_of waiting files) k
kept_loadable given files waiting order h i k e l =
    let there = moved_to given files h.moved i k e in
    kept_has waiting files (length files) there.place k (slice_get_within files there.place k there.is) there.is
    (loadable_is_zero files waiting order h.ascending h.closes there.place k there.is (sorted_is_loadable given files h.moved k.name l))

only_loadable : (given files : List ClassInfo) (waiting order : List ℕ) → Closing given files waiting order → (c : ℕ) (k : ClassInfo) → slice_get (kept_of waiting files) c ≡ Some k → Loadable files k.name
only_loadable given files waiting order h c k e =
    let r = kept_from waiting files (length files) c k e in
    zero_is_loadable files waiting order h.closes r.place k r.is r.free

-- no object among what is kept: it isn't loadable
pub no_object : (given files : List ClassInfo) (waiting order : List ℕ) → Closing given files waiting order → class_of (kept_of waiting files) object_name ≡ None → Loadable given object_name → ⊥
no_object given files waiting order h none l = go object_name refl l where
  at_place : (classes : List ClassInfo) (c : ℕ) (k : ClassInfo) → IsAscending (names_of classes) → slice_get classes c ≡ Some k → k.name ≡ object_name → class_of classes object_name ≡ None → ⊥
  at_place classes c k up e n none = (let found = subst (λ m. class_of classes m ≡ Some c) n (class_is classes c k up e) in clash (sym found ∙ none)) where
    clash : Some c ≡ None → ⊥
    clash e = cc

  go : (name : List ℕ) → name ≡ object_name → Loadable given name → ⊥
  go name n (object place k e named super kind interfaces) =
      let a = kept_loadable given files waiting order h place k e (object place k e named super kind interfaces) in
      at_place (kept_of waiting files) a.place k (kept_ascends waiting files h.ascending) a.is n none
  go name n (below place k super e is names above all each) =
      let a = kept_loadable given files waiting order h place k e (below place k super e is names above all each) in
      at_place (kept_of waiting files) a.place k (kept_ascends waiting files h.ascending) a.is n none

pub closed_world : (given files : List ClassInfo) (waiting order : List ℕ) (o : ℕ) → Closing given files waiting order → HaveSpellings given → AreWithinLimits given → class_of (kept_of waiting files) object_name ≡ Some o → IsClosingOf given (kept_of waiting files)
closed_world given files waiting order o h spelled limits found =
    let classes = kept_of waiting files in
    let back = IsPermutation-sym given files h.moved in
    let here : (c : ℕ) (k : ClassInfo) → slice_get classes c ≡ Some k → IsAt given k = λ c k e.
    (let r = kept_from waiting files (length files) c k e in moved_to files given back r.place k r.is) in
    let sum : (f : ClassInfo → ℕ) → sum_by f classes ≤ sum_by f given = λ f. omega (arith, kept_sum_of f waiting files, sum_by-IsPermutation f given files h.moved) in
    let loadable : (c : ℕ) (k : ClassInfo) → slice_get classes c ≡ Some k → Loadable classes k.name = λ c k e.
    loadable_in files classes (λ i a f l. kept_has waiting files (length files) i a (slice_get_within files i a f) f (loadable_is_zero files waiting order h.ascending h.closes i a f l)) k.name (only_loadable given files waiting order h c k e) in
    let object = class_found classes object_name o found in
    record {
      world = record {
        ascending = kept_ascends waiting files h.ascending;
        loadable = loadable;
        object = subst (Loadable classes) object.2 (loadable o object.0 object.1);
        spelled = record { each = λ c k e. (let a = here c k e in spelled.each a.place k a.is) };
        limits = record {
          count = omega (arith, kept_length waiting files (length files), length_permutation given files h.moved, limits.count);
          methods = omega (arith, sum (λ (k : ClassInfo). length k.methods), limits.methods);
          fields = omega (arith, sum (λ (k : ClassInfo). length k.fields), limits.fields);
          code = omega (arith, sum code_bytes, limits.code);
          text = omega (arith, sum text_bytes, limits.text);
          codes = λ c i k m code e f g. (let a = here c k e in limits.codes a.place i k m code a.is f g);
        };
      };
      kept = λ i k e l. (let a = kept_loadable given files waiting order h i k e l in (a.place, a.is));
      only = λ c k e. (let a = here c k e in (a.place, a.is, loadable_in files given (λ i b f l. moved_to files given back i b f) k.name (only_loadable given files waiting order h c k e)));
    }
