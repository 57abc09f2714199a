-- The functions that read the constant pool are exact for its grammar.
use Rattle.std.proofs.Common.{◌≡◌, ℕ, zero, suc, ◌-◌, ◌<◌, Bool, true, false, not, ◌||◌, ◌⊎◌, cond, eqb, List, [], ◌∷◌, ◌++◌, Ok, refl, sym, ap, subst, ◌∙◌, arith, inl, inr}
use Rattle.std.specs.Prelude.{nat_lt}
use Rattle.std.specs.Int.{w32, w64, cast_signed}
use Rattle.std.specs.List.{list_all}
use Rattle.std.proofs.lemmas.Bool.{eqb-true, ltb-true, lt-ltb}
use Rattle.std.proofs.lemmas.List.{append-nil}
use Rattle.wf_data.specs.declared.class_info.PoolEntry.{PoolEntry}
use Rattle.wf_data.specs.declared.class_info.PoolEntry.TheVariants as entry
use Rattle.wf_bytes.specs.declared.fault.Why.TheVariants as why
use Rattle.wf_bytes.specs.Place.{Place}
use Rattle.wf_bytes.specs.Grammar.{U1, U2, U4, U8, Is, Then, Where, Choice, ManyOn, Never}
use Rattle.wf_bytes.specs.Exactness.{Took}
use Rattle.wf_grammar.specs.ClassFile.{TextOf, TwoPlaces, NarrowAs, WideAs, Entries, no_more, narrow, wide, is_text_byte, PoolIs}
use Rattle.wf_bytes.specs.Reading.{bad, Reader, ◌>>=◌, many_on}
use Rattle.wf_grammar.specs.Reading.{bad_byte_from, text_of, text_entry, integer_entry, float_entry, long_entry, double_entry, one_place, two_places, handle_entry, narrow_as, is_wide_tag, wide_as, entry_as, pool_entry, PoolState, pool_place, pool_entries, wrong_from, pool_at}
use Rattle.wf_bytes.proofs.Exact.{Exact, bind_ok, ok_is, exact_u1, exact_u2, exact_u4, exact_u8, exact_run, exact_is, exact_then, exact_where, exact_choice, exact_never, exact_many_on}

-- ---- constants

exact_text_of : (n : ℕ) → Exact (TextOf n) (text_of n)
unfolding text_of
exact_text_of n = exact_then (exact_run n) (λ text place. exact_where (list_all is_text_byte text) (bad_byte_from place text) why.Utf8 (exact_is text))

exact_text_entry : Exact (Then U2 (λ n. Then (TextOf n) (λ text. Is (entry.Utf8 text)))) text_entry
unfolding text_entry
exact_text_entry = exact_then exact_u2 (λ n _. exact_then (exact_text_of n) (λ text _. exact_is (entry.Utf8 text)))

exact_integer_entry : Exact (Then U4 (λ n. Is (entry.Integer (cast_signed w32 n)))) integer_entry
unfolding integer_entry
exact_integer_entry = exact_then exact_u4 (λ n _. exact_is (entry.Integer (cast_signed w32 n)))

exact_float_entry : Exact (Then U4 (λ bits. Is (entry.Float bits))) float_entry
unfolding float_entry
exact_float_entry = exact_then exact_u4 (λ bits _. exact_is (entry.Float bits))

exact_long_entry : Exact (Then U8 (λ n. Is (entry.Long (cast_signed w64 n)))) long_entry
unfolding long_entry
exact_long_entry = exact_then exact_u8 (λ n _. exact_is (entry.Long (cast_signed w64 n)))

exact_double_entry : Exact (Then U8 (λ bits. Is (entry.Double bits))) double_entry
unfolding double_entry
exact_double_entry = exact_then exact_u8 (λ bits _. exact_is (entry.Double bits))

exact_one_place : (made : ℕ → PoolEntry) → Exact (Then U2 (λ first. Is (made first))) (one_place made)
unfolding one_place
exact_one_place made = exact_then exact_u2 (λ first _. exact_is (made first))

exact_two_places : (made : ℕ → ℕ → PoolEntry) → Exact (TwoPlaces made) (two_places made)
unfolding two_places
exact_two_places made = exact_then exact_u2 (λ first _. exact_then exact_u2 (λ second _. exact_is (made first second)))

exact_handle_entry : Exact (Then U1 (λ kind. Then U2 (λ member. Is (entry.Handle kind member)))) handle_entry
unfolding handle_entry
exact_handle_entry = exact_then exact_u1 (λ kind _. exact_then exact_u2 (λ member _. exact_is (entry.Handle kind member)))

exact_narrow_as : (tag at : ℕ) → Exact (NarrowAs tag) (narrow_as tag at)
unfolding narrow_as
exact_narrow_as tag at =
    exact_choice (eqb tag 1) exact_text_entry (
    exact_choice (eqb tag 3) exact_integer_entry (
    exact_choice (eqb tag 4) exact_float_entry (
    exact_choice (eqb tag 7) (exact_one_place entry.Class) (
    exact_choice (eqb tag 8) (exact_one_place entry.Str) (
    exact_choice (eqb tag 9) (exact_two_places entry.Field) (
    exact_choice (eqb tag 10) (exact_two_places entry.Method) (
    exact_choice (eqb tag 11) (exact_two_places entry.InterfaceMethod) (
    exact_choice (eqb tag 12) (exact_two_places entry.NameType) (
    exact_choice (eqb tag 15) exact_handle_entry (
    exact_choice (eqb tag 16) (exact_one_place entry.MethodKind) (
    exact_choice (eqb tag 18) (exact_two_places entry.Dynamic) (exact_never (bad at why.Tag)))))))))))))

-- ---- constants of two places

-- a piece that is exact where its test holds
exact_if : {B : Type 0} {G H : List ℕ → B → Type 0} {r s : Reader B} (b : Bool) → (b ≡ true → Exact G r) → Exact H s → Exact (Choice b G H) (λ p. cond b (r p) (s p))
exact_if true one two = one refl
exact_if false one two = two

exact_either : {B : Type 0} {G H : List ℕ → B → Type 0} {r s : Reader B} (a b : Bool) → (a || b) ≡ true → Exact G r → Exact H s → Exact (Choice a G (Choice b H Never)) (λ p. cond a (r p) (s p))
exact_either true b is one two = one
exact_either false true is one two = two
exact_either false false is one two = absurd cc

exact_wide_as : (tag : ℕ) → is_wide_tag tag ≡ true → Exact (WideAs tag) (wide_as tag)
unfolding wide_as
exact_wide_as tag is = exact_either (eqb tag 5) (eqb tag 6) is exact_long_entry exact_double_entry

either_holds : {B : Type 0} (G H : List ℕ → B → Type 0) (a b : Bool) (text : List ℕ) (x : B) → Choice a G (Choice b H Never) text x → (a || b) ≡ true
either_holds G H true b text x g = refl
either_holds G H false true text x g = refl
either_holds G H false false text x g = absurd g

wide_tag : (tag : ℕ) (text : List ℕ) (e : PoolEntry) → WideAs tag text e → is_wide_tag tag ≡ true
wide_tag tag text e g = either_holds _ _ (eqb tag 5) (eqb tag 6) text e g

-- one of two tests, or neither
which : (a b : Bool) → ((a || b) ≡ false) ⊎ ((a ≡ true) ⊎ (b ≡ true))
which true b = inr (inl refl)
which false true = inr (inr refl)
which false false = inl refl

narrow_tag : (tag : ℕ) (text : List ℕ) (e : PoolEntry) → NarrowAs tag text e → is_wide_tag tag ≡ false
narrow_tag tag text e g =
    elim (which (eqb tag 5) (eqb tag 6)) [
      | inl neither ↦ neither
      | inr (inl five) ↦ absurd (subst (λ (n : ℕ). NarrowAs n text e) (eqb-true tag 5 five) g)
      | inr (inr six) ↦ absurd (subst (λ (n : ℕ). NarrowAs n text e) (eqb-true tag 6 six) g)
    ]

-- ---- places, one after another

-- what stands at a place, as the places are counted down
abbrev EntryAs : ℕ → ℕ → List ℕ → PoolEntry × PoolState → Type 0
EntryAs left tag =
    Choice (is_wide_tag tag) (Where (nat_lt 1 left) (Then (WideAs tag) (λ e. Is (e, (left - 1, true))))) (Then (NarrowAs tag) (λ e. Is (e, (left - 1, false))))

abbrev EntryIs : ℕ → List ℕ → PoolEntry × PoolState → Type 0
EntryIs left = Then U1 (EntryAs left)

abbrev PlaceIs : PoolState → List ℕ → PoolEntry × PoolState → Type 0
PlaceIs state = Choice state.1 (Is (entry.Unusable, (state.0 - 1, false))) (EntryIs state.0)

exact_entry_as : (left tag at : ℕ) → Exact (EntryAs left tag) (entry_as tag left at)
unfolding entry_as
exact_entry_as left tag at =
    exact_if (is_wide_tag tag) (λ is. exact_where (nat_lt 1 left) at why.Tag (exact_then (exact_wide_as tag is) (λ e _. exact_is (e, (left - 1, true)))))
    (exact_then (exact_narrow_as tag at) (λ e _. exact_is (e, (left - 1, false))))

exact_entry : (left : ℕ) → Exact (EntryIs left) (pool_entry left)
unfolding pool_entry
exact_entry left = exact_then exact_u1 (λ tag at. exact_entry_as left tag at)

exact_place : (state : PoolState) → Exact (PlaceIs state) (pool_place state)
unfolding pool_place
exact_place state = exact_choice state.1 (exact_is (entry.Unusable, (state.0 - 1, false))) (exact_entry state.0)

-- ---- the places are the constants

-- a piece, and a value made of what it spells
made_of : {A B : Type 0} (G : List ℕ → A → Type 0) (f : A → B) (text : List ℕ) (x : B) → Then G (λ e. Is (f e)) text x → (e : A) × G text e × (x ≡ f e)
made_of G f text x g =
    let same : text ≡ g.first = g.parts ∙ ap (λ (t : List ℕ). g.first ++ t) g.back.nothing ∙ append-nil g.first in
    (g.value, subst (λ (t : List ℕ). G t g.value) (sym same) g.front, g.back.same)

making : {A B : Type 0} (G : List ℕ → A → Type 0) (f : A → B) (text : List ℕ) (e : A) → G text e → Then G (λ x. Is (f x)) text (f e)
making G f text e g = record { first = text; second = []; value = e; parts = sym (append-nil text); front = g; back = record { nothing = refl; same = refl } }

-- a constant of one place, or of two
record NarrowThere (left : ℕ) (text : List ℕ) (x : PoolEntry × PoolState) : Type 0 where
  e : PoolEntry
  spelled : Then U1 NarrowAs text e
  is : x ≡ (e, (left - 1, false))

record WideThere (left : ℕ) (text : List ℕ) (x : PoolEntry × PoolState) : Type 0 where
  e : PoolEntry
  spelled : Then U1 WideAs text e
  is : x ≡ (e, (left - 1, true))
  fits : 1 < left

entry_there : (left : ℕ) (text : List ℕ) (x : PoolEntry × PoolState) → EntryIs left text x → NarrowThere left text x ⊎ WideThere left text x
entry_there left text x g =
    by_tag (is_wide_tag g.value) g.back
  where
    by_tag : (b : Bool) → Choice b (Where (nat_lt 1 left) (Then (WideAs g.value) (λ e. Is (e, (left - 1, true))))) (Then (NarrowAs g.value) (λ e. Is (e, (left - 1, false)))) g.second x → NarrowThere left text x ⊎ WideThere left text x
    by_tag true h =
        let m = made_of (WideAs g.value) (λ (e : PoolEntry). (e, (left - 1, true))) g.second x h.rest in
        inr (record { e = m.0; spelled = record { first = g.first; second = g.second; value = g.value; parts = g.parts; front = g.front; back = m.1 }; is = m.2; fits = ltb-true _ _ h.holds })
    by_tag false h =
        let m = made_of (NarrowAs g.value) (λ (e : PoolEntry). (e, (left - 1, false))) g.second x h in
        inl (record { e = m.0; spelled = record { first = g.first; second = g.second; value = g.value; parts = g.parts; front = g.front; back = m.1 }; is = m.2 })

narrow_there : (left : ℕ) (text : List ℕ) (e : PoolEntry) → Then U1 NarrowAs text e → EntryIs left text (e, (left - 1, false))
narrow_there left text e g = record {
  first = g.first;
  second = g.second;
  value = g.value;
  parts = g.parts;
  front = g.front;
  back = rw (narrow_tag g.value g.second e g.back) (making (NarrowAs g.value) (λ (x : PoolEntry). (x, (left - 1, false))) g.second e g.back);
}

wide_there : (left : ℕ) (text : List ℕ) (e : PoolEntry) → 1 < left → Then U1 WideAs text e → EntryIs left text (e, (left - 1, true))
wide_there left text e fits g = record {
  first = g.first;
  second = g.second;
  value = g.value;
  parts = g.parts;
  front = g.front;
  back = rw (wide_tag g.value g.second e g.back) (record { holds = lt-ltb _ _ fits; rest = making (WideAs g.value) (λ (x : PoolEntry). (x, (left - 1, true))) g.second e g.back });
}

-- the second place of a wide constant, and the constants behind it
record Opened (n : ℕ) (text : List ℕ) (es : List PoolEntry) : Type 0 where
  left : ℕ
  one : n ≡ suc left
  behind : List PoolEntry
  parts : es ≡ entry.Unusable ∷ behind
  spelled : Entries left text behind

abbrev On : Bool → ℕ → List ℕ → List PoolEntry → Type 0
On false n text es = Entries n text es
On true n text es = Opened n text es

one_less : (n : ℕ) → suc n - 1 ≡ n
one_less n = omega arith

abbrev Behind : ℕ → PoolEntry × PoolState → List ℕ → List PoolEntry × PoolState → Type 0
Behind n x = Then (ManyOn PlaceIs n x.1) (λ xs. Is (x.0 ∷ xs.0, xs.1))

two_places_on : (n left : ℕ) (first rest : List ℕ) (e : PoolEntry) (es : List PoolEntry) → n ≡ suc left → Then U1 WideAs first e → Entries left rest es → Entries (suc n) (first ++ rest) (e ∷ entry.Unusable ∷ es)
two_places_on n left first rest e es one g h = subst (λ (m : ℕ). Entries (suc m) (first ++ rest) (e ∷ entry.Unusable ∷ es)) (sym one) (wide left first rest e es g h)

constants_there : (n : ℕ) (second : Bool) (text : List ℕ) (es : List PoolEntry) (k : PoolState) → (second ≡ true → 0 < n) → ManyOn PlaceIs n (n, second) text (es, k) → On second n text es
constants_there zero true text es k some g = absurd (omega (arith, some refl))
constants_there zero false text es k some g = rw (g.nothing, ap (λ (x : List PoolEntry × PoolState). x.0) g.same) no_more
constants_there (suc n) true text es k some g =
    let h : Behind n (entry.Unusable, (n, false)) g.second (es, k) = subst (λ (x : PoolEntry × PoolState). Behind n x g.second (es, k)) (g.front.same ∙ ap (λ (m : ℕ). (entry.Unusable, (m, false))) (one_less n)) g.back in
    let m = made_of (ManyOn PlaceIs n (n, false)) (λ (xs : List PoolEntry × PoolState). (entry.Unusable ∷ xs.0, xs.1)) g.second (es, k) h in
    let same : text ≡ g.second = g.parts ∙ ap (λ (t : List ℕ). t ++ g.second) g.front.nothing in
    record { left = n; one = refl; behind = m.0.0; parts = ap (λ (x : List PoolEntry × PoolState). x.0) m.2; spelled = rw same (constants_there n false g.second m.0.0 m.0.1 (λ e. absurd cc) m.1) }
constants_there (suc n) false text es k some g =
    elim (entry_there (suc n) g.first g.value g.front) [
      | inl t ↦
          let h : Behind n (t.e, (n, false)) g.second (es, k) = subst (λ (x : PoolEntry × PoolState). Behind n x g.second (es, k)) (t.is ∙ ap (λ (m : ℕ). (t.e, (m, false))) (one_less n)) g.back in
          let m = made_of (ManyOn PlaceIs n (n, false)) (λ (xs : List PoolEntry × PoolState). (t.e ∷ xs.0, xs.1)) g.second (es, k) h in
          let parts : es ≡ t.e ∷ m.0.0 = ap (λ (x : List PoolEntry × PoolState). x.0) m.2 in
          rw (g.parts, parts) (narrow n g.first g.second t.e m.0.0 t.spelled (constants_there n false g.second m.0.0 m.0.1 (λ e. absurd cc) m.1))
      | inr t ↦
          let h : Behind n (t.e, (n, true)) g.second (es, k) = subst (λ (x : PoolEntry × PoolState). Behind n x g.second (es, k)) (t.is ∙ ap (λ (m : ℕ). (t.e, (m, true))) (one_less n)) g.back in
          let m = made_of (ManyOn PlaceIs n (n, true)) (λ (xs : List PoolEntry × PoolState). (t.e ∷ xs.0, xs.1)) g.second (es, k) h in
          let u = constants_there n true g.second m.0.0 m.0.1 (λ e. omega (arith, t.fits)) m.1 in
          let parts : es ≡ t.e ∷ entry.Unusable ∷ u.behind = ap (λ (x : List PoolEntry × PoolState). x.0) m.2 ∙ ap (λ (xs : List PoolEntry). t.e ∷ xs) u.parts in
          rw (g.parts, parts) (two_places_on n u.left g.first g.second t.e u.behind u.one t.spelled u.spelled)
    ]

second_place : (n : ℕ) (text : List ℕ) (es : List PoolEntry) → ManyOn PlaceIs n (n, false) text (es, (0, false)) → ManyOn PlaceIs (suc n) (suc n, true) text (entry.Unusable ∷ es, (0, false))
second_place n text es g = record {
  first = [];
  second = text;
  value = (entry.Unusable, (n, false));
  parts = refl;
  front = record { nothing = refl; same = ap (λ (m : ℕ). (entry.Unusable, (m, false))) (sym (one_less n)) };
  back = making (ManyOn PlaceIs n (n, false)) (λ (xs : List PoolEntry × PoolState). (entry.Unusable ∷ xs.0, xs.1)) text (es, (0, false)) g;
}

places_there : (n : ℕ) (text : List ℕ) (es : List PoolEntry) → Entries n text es → ManyOn PlaceIs n (n, false) text (es, (0, false))
places_there _ _ _ no_more = record { nothing = refl; same = refl }
places_there _ _ _ (narrow n first rest e es g more) = record {
  first = first;
  second = rest;
  value = (e, (n, false));
  parts = refl;
  front = subst (λ (m : ℕ). EntryIs (suc n) first (e, (m, false))) (one_less n) (narrow_there (suc n) first e g);
  back = making (ManyOn PlaceIs n (n, false)) (λ (xs : List PoolEntry × PoolState). (e ∷ xs.0, xs.1)) rest (es, (0, false)) (places_there n rest es more);
}
places_there _ _ _ (wide n first rest e es g more) = record {
  first = first;
  second = rest;
  value = (e, (suc n, true));
  parts = refl;
  front = subst (λ (m : ℕ). EntryIs (suc (suc n)) first (e, (m, true))) (one_less (suc n)) (wide_there (suc (suc n)) first e (omega arith) g);
  back = making (ManyOn PlaceIs (suc n) (suc n, true)) (λ (xs : List PoolEntry × PoolState). (e ∷ xs.0, xs.1)) rest (entry.Unusable ∷ es, (0, false)) (second_place n rest es (places_there n rest es more));
}

exact_places : (n : ℕ) → Exact (ManyOn PlaceIs n (n, false)) (many_on pool_place n (n, false))
exact_places n = exact_many_on exact_place n (n, false)

exact_entries : (n : ℕ) → Exact (Entries n) (pool_entries n)
unfolding pool_entries
exact_entries n = record {
  found = λ p q es fits e.
      let one = bind_ok (many_on pool_place n (n, false) p) (λ x. Ok (x.0.0, x.1)) (es, q) e in
      let t = (exact_places n).found p one.0.1 one.0.0 fits one.1 in
      let taken : Took (Entries n) p one.0.1 one.0.0.0 = record { text = t.text; left = t.left; at = t.at; spelled = constants_there n false t.text one.0.0.0 one.0.0.1 (λ e. absurd cc) t.spelled } in
      subst (λ (z : List PoolEntry × Place). Took (Entries n) p z.1 z.0) (ok_is (one.0.0.0, one.0.1) (es, q) one.2) taken;
  again = λ at text rest es g. ap (λ z. z >>= λ x. Ok (x.0.0, x.1)) ((exact_places n).again at text rest (es, (0, false)) (places_there n text es g));
}

pub exact_pool : Exact PoolIs pool_at
unfolding pool_at
exact_pool =
    exact_then exact_u2 (λ count at. exact_where (not (eqb count 0)) at why.Index (
    exact_then (exact_entries (count - 1)) (λ entries at_entries. exact_where _ (wrong_from (entry.Unusable ∷ entries) at_entries entries) why.Index (
    exact_is (entry.Unusable ∷ entries)))))
