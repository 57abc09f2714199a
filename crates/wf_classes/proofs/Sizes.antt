-- A class that is spelled has no more members than bytes, and no more bytes of codes and texts.
use Rattle.std.proofs.Common.{◌≡◌, ℕ, zero, suc, ◌+◌, ◌<◌, ◌≤◌, Bool, true, false, ◌==◌, List, [], ◌∷◌, length, sum_by, Option, Some, None, refl, sym, ap, subst, ◌∙◌, arith, ltb-true}
use Rattle.std.specs.Prelude.{slice_get}
use Rattle.std.specs.List.{filter_map}
use Rattle.std.specs.Option.{option_map_or}
use Rattle.std.proofs.lemmas.Bool.{and_parts}
use Rattle.std.proofs.lemmas.List.{length-append}
use Rattle.std.proofs.lemmas.Option.{same_Some}
use Rattle.std.proofs.lemmas.List.Sums.{sum_by-cons}
use Rattle.wf_bytes.specs.Grammar.{Then, Is, Choice, Never, U1, U2, U4, U8, Many, ManyOn}
use Rattle.wf_bytes.proofs.Exact.{wide16}
use Rattle.wf_data.specs.Flags.{is_native_or_abstract}
use Rattle.wf_data.specs.Pool.{text_in}
use Rattle.wf_data.specs.declared.class_info.ClassInfo.{ClassInfo}
use Rattle.wf_data.specs.declared.class_info.CodeInfo.{CodeInfo}
use Rattle.wf_data.specs.declared.class_info.MethodInfo.{MethodInfo}
use Rattle.wf_data.specs.declared.class_info.PoolEntry.{PoolEntry}
use Rattle.wf_data.specs.declared.class_info.PoolEntry.TheVariants as entry
use Rattle.wf_grammar.specs.ClassFile.{Key, NarrowAs, WideAs, TwoPlaces, Entries, no_more, narrow, wide, PoolIs, FieldIs, CodeIs, MethodAttribute, MethodAttributeAs, MethodIs, TextOf, only_code, Spells}
use Rattle.wf_classes.specs.Sizes.{IsWithinBytes}
use Rattle.wf_classes.specs.World.{code_bytes, text_bytes}

-- ---- lengths of pieces

both_lengths : {A B : Type 0} {G : List ℕ → A → Type 0} {H : A → List ℕ → B → Type 0} {bytes : List ℕ} {y : B} → (t : Then G H bytes y) → length bytes ≡ length t.first + length t.second
both_lengths t = ap (λ (b : List ℕ). length b) t.parts ∙ length-append t.first t.second

first_le : {A B : Type 0} {G : List ℕ → A → Type 0} {H : A → List ℕ → B → Type 0} {bytes : List ℕ} {y : B} → (t : Then G H bytes y) → length t.first ≤ length bytes
first_le t = omega (arith, both_lengths t)

second_le : {A B : Type 0} {G : List ℕ → A → Type 0} {H : A → List ℕ → B → Type 0} {bytes : List ℕ} {y : B} → (t : Then G H bytes y) → length t.second ≤ length bytes
second_le t = omega (arith, both_lengths t)

-- what is spelled measures no more than its bytes
record IsMeasured {B : Type 0} (m : B → ℕ) (G : List ℕ → B → Type 0) : Type 0 where
  pub each : (bytes : List ℕ) (y : B) → G bytes y → m y ≤ length bytes

measured_then : {A B : Type 0} (m : B → ℕ) (G : List ℕ → A → Type 0) (H : A → List ℕ → B → Type 0) → ((a : A) → IsMeasured m (H a)) → IsMeasured m (Then G H)
measured_then m G H h = record { each = λ bytes y t. omega (arith, second_le t, (h t.value).each t.second y t.back) }

measured_is : {B : Type 0} (m : B → ℕ) (x : B) → m x ≡ 0 → IsMeasured m (Is x)
measured_is m x e = record { each = λ bytes y s. omega (arith, ap m s.same, e) }

measured_choice : {B : Type 0} (m : B → ℕ) (b : Bool) (G H : List ℕ → B → Type 0) → IsMeasured m G → IsMeasured m H → IsMeasured m (Choice b G H)
measured_choice m true G H g h = g
measured_choice m false G H g h = h

measured_never : {B : Type 0} (m : B → ℕ) → IsMeasured m Never
measured_never m = record { each = λ bytes y n. absurd n }

-- ---- lists of pieces

many_sum : {X K : Type 0} (m : X → ℕ) (G : K → List ℕ → X × K → Type 0) → ((k : K) (bytes : List ℕ) (x : X × K) → G k bytes x → m x.0 ≤ length bytes) → (n : ℕ) (k : K) (bytes : List ℕ) (r : List X × K) → ManyOn G n k bytes r → sum_by m r.0 ≤ length bytes
many_sum {X} {K} m G each zero k bytes r h = let none : sum_by m r.0 ≡ 0 = ap (λ (p : List X × K). sum_by m p.0) h.same in omega (arith, none)
many_sum {X} {K} m G each (suc n) k bytes r h =
    let x = h.value in
    let xs = h.back.value in
    let all : sum_by m r.0 ≡ m x.0 + sum_by m xs.0 = ap (λ (p : List X × K). sum_by m p.0) h.back.back.same ∙ sum_by-cons m x.0 xs.0 in
    omega (arith, all, both_lengths h, both_lengths h.back, each k h.first x h.front, many_sum m G each n x.1 h.back.first xs h.back.front)

many_length : {X K : Type 0} (G : K → List ℕ → X × K → Type 0) → ((k : K) (bytes : List ℕ) (x : X × K) → G k bytes x → 1 ≤ length bytes) → (n : ℕ) (k : K) (bytes : List ℕ) (r : List X × K) → ManyOn G n k bytes r → length r.0 ≤ length bytes
many_length {X} {K} G each zero k bytes r h = let none : length r.0 ≡ 0 = ap (λ (p : List X × K). length p.0) h.same in omega (arith, none)
many_length {X} {K} G each (suc n) k bytes r h =
    let x = h.value in
    let xs = h.back.value in
    let all : length r.0 ≡ suc (length xs.0) = ap (λ (p : List X × K). length p.0) h.back.back.same in
    omega (arith, all, both_lengths h, both_lengths h.back, each k h.first x h.front, many_length G each n x.1 h.back.first xs h.back.front)

in_all : {X : Type 0} (P : X → Type 0) (x : X) (xs : List X) → P x → ((i : ℕ) (y : X) → slice_get xs i ≡ Some y → P y) → (i : ℕ) (y : X) → slice_get (x ∷ xs) i ≡ Some y → P y
in_all P x xs first rest zero y e = (let same : x ≡ y = cc in subst P same first)
in_all P x xs first rest (suc i) y e = rest i y e

many_all : {X K : Type 0} (P : X → Type 0) (G : K → List ℕ → X × K → Type 0) → ((k : K) (bytes : List ℕ) (x : X × K) → G k bytes x → P x.0) → (n : ℕ) (k : K) (bytes : List ℕ) (r : List X × K) → ManyOn G n k bytes r → (i : ℕ) (y : X) → slice_get r.0 i ≡ Some y → P y
many_all {X} {K} P G each zero k bytes r h i y e = absurd (none i y (ap (λ (p : List X × K). slice_get p.0 i) (sym h.same) ∙ e)) where
  none : (i : ℕ) (y : X) → slice_get {X = X} [] i ≡ Some y → ⊥
  none i y e = cc
many_all {X} {K} P G each (suc n) k bytes r h i y e =
    in_all P h.value.0 h.back.value.0 (each k h.first h.value h.front) (many_all P G each n h.value.1 h.back.first h.back.value h.back.front)
    i y (ap (λ (p : List X × K). slice_get p.0 i) (sym h.back.back.same) ∙ e)

-- ---- the pool

abbrev text_length : PoolEntry → ℕ
text_length e = option_map_or (λ (t : List ℕ). length t) (text_in e) 0

pair_measured : (make : ℕ → ℕ → PoolEntry) → ((a b : ℕ) → text_length (make a b) ≡ 0) → IsMeasured text_length (TwoPlaces make)
pair_measured make z = measured_then text_length U2 _ (λ a. measured_then text_length U2 _ (λ b. measured_is text_length (make a b) (z a b)))

text_le : (n : ℕ) (bytes text : List ℕ) → TextOf n bytes text → length text ≤ length bytes
text_le n bytes text t =
    let same : length text ≡ length t.first = ap (λ (b : List ℕ). length b) (t.back.rest.same ∙ t.front.same) in
    omega (arith, same, first_le t)

utf8_measured : IsMeasured text_length (Then U2 (λ n. Then (TextOf n) (λ text. Is (entry.Utf8 text))))
utf8_measured = measured_then text_length U2 (λ n. Then (TextOf n) (λ text. Is (entry.Utf8 text))) (λ n. record {
  each = λ bytes e t.
      let is : text_length e ≡ length t.value = ap text_length t.back.same in
      omega (arith, is, text_le n t.first t.value t.front, first_le t);
})

narrow_measured : (tag : ℕ) → IsMeasured text_length (NarrowAs tag)
narrow_measured tag =
    measured_choice text_length (tag == 1) _ _ utf8_measured (
    measured_choice text_length (tag == 3) _ _ (measured_then text_length U4 _ (λ n. measured_is text_length _ refl)) (
    measured_choice text_length (tag == 4) _ _ (measured_then text_length U4 _ (λ n. measured_is text_length _ refl)) (
    measured_choice text_length (tag == 7) _ _ (measured_then text_length U2 _ (λ n. measured_is text_length _ refl)) (
    measured_choice text_length (tag == 8) _ _ (measured_then text_length U2 _ (λ n. measured_is text_length _ refl)) (
    measured_choice text_length (tag == 9) _ _ (pair_measured entry.Field (λ a b. refl)) (
    measured_choice text_length (tag == 10) _ _ (pair_measured entry.Method (λ a b. refl)) (
    measured_choice text_length (tag == 11) _ _ (pair_measured entry.InterfaceMethod (λ a b. refl)) (
    measured_choice text_length (tag == 12) _ _ (pair_measured entry.NameType (λ a b. refl)) (
    measured_choice text_length (tag == 15) _ _ (measured_then text_length U1 _ (λ a. measured_then text_length U2 _ (λ b. measured_is text_length _ refl))) (
    measured_choice text_length (tag == 16) _ _ (measured_then text_length U2 _ (λ n. measured_is text_length _ refl)) (
    measured_choice text_length (tag == 18) _ _ (pair_measured entry.Dynamic (λ a b. refl)) (measured_never text_length))))))))))))

wide_measured : (tag : ℕ) → IsMeasured text_length (WideAs tag)
wide_measured tag =
    measured_choice text_length (tag == 5) _ _ (measured_then text_length U8 _ (λ n. measured_is text_length _ refl)) (
    measured_choice text_length (tag == 6) _ _ (measured_then text_length U8 _ (λ n. measured_is text_length _ refl)) (measured_never text_length))

entries_sum : (n : ℕ) (bytes : List ℕ) (es : List PoolEntry) → Entries n bytes es → sum_by text_length es ≤ length bytes
entries_sum _ _ _ no_more = omega arith
entries_sum _ _ _ (narrow n first rest e es t more) =
    omega (arith, length-append first rest, sum_by-cons text_length e es, (measured_then text_length U1 NarrowAs narrow_measured).each first e t, entries_sum n rest es more)
entries_sum _ _ _ (wide n first rest e es t more) =
    omega (arith, length-append first rest, sum_by-cons text_length e (entry.Unusable ∷ es), sum_by-cons text_length entry.Unusable es, (measured_then text_length U1 WideAs wide_measured).each first e t, entries_sum n rest es more)

pool_sum : (bytes : List ℕ) (pool : List PoolEntry) → PoolIs bytes pool → sum_by text_length pool ≤ length bytes
pool_sum bytes pool h =
    let entries = h.back.rest in
    let all : sum_by text_length pool ≡ sum_by text_length (entry.Unusable ∷ entries.value) = ap (λ (es : List PoolEntry). sum_by text_length es) entries.back.rest.same in
    omega (arith, all, sum_by-cons text_length entry.Unusable entries.value, entries_sum _ entries.first entries.value entries.front, first_le entries, second_le h)

-- ---- codes

abbrev code_length : CodeInfo → ℕ
code_length c = length c.code

abbrev length_in : Option CodeInfo → ℕ
length_in o = option_map_or code_length o 0

abbrev IsCodeSize : Option CodeInfo → Type 0
IsCodeSize o = (c : CodeInfo) → o ≡ Some c → length c.code ≤ 65535

none_some : (c : CodeInfo) → None ≡ Some c → ⊥
none_some c e = cc

code_le : (pool : List PoolEntry) (bytes : List ℕ) (c : CodeInfo) → CodeIs pool bytes c → (length c.code ≤ length bytes) × (length c.code ≤ 65535)
code_le pool bytes c h =
    let sized = h.back.back.back in
    let run = sized.rest in
    let code : length c.code ≡ length run.first = ap (λ (k : CodeInfo). length k.code) run.back.back.back.same ∙ ap (λ (b : List ℕ). length b) run.front.same in
    let small : length run.first < 65536 = omega (arith, run.front.count, ltb-true h.back.back.value 65536 (and_parts _ _ sized.holds).1) in
    (omega (arith, code, first_le run, second_le h.back.back, second_le h.back, second_le h), omega (arith, code, small))

inside_le : (pool : List PoolEntry) (inside : List ℕ) (size : ℕ) (is_code : Bool) (o : Option CodeInfo) → length inside ≤ size → MethodAttributeAs pool is_code inside o → (length_in o ≤ size) × IsCodeSize o
inside_le pool inside size true None within s = absurd s
inside_le pool inside size true (Some c) within s =
    (omega (arith, (code_le pool inside c s).0, within), λ d f. subst (λ (k : CodeInfo). length k.code ≤ 65535) (same_Some c d f) (code_le pool inside c s).1)
inside_le pool inside size false o within s = (omega (arith, ap length_in s), λ d f. absurd (none_some d (sym s ∙ f)))

attribute_le : (pool : List PoolEntry) (bytes : List ℕ) (o : Option CodeInfo) → MethodAttribute pool bytes o → (length_in o ≤ length bytes) × IsCodeSize o
attribute_le pool bytes o h =
    let run = h.back.rest.back in
    let within : length run.value ≤ length bytes = omega (arith, ap (λ (b : List ℕ). length b) run.front.same, first_le run, second_le h.back.rest, second_le h) in
    inside_le pool run.value (length bytes) _ o within run.back.spelled

-- codes with no more bytes than so many, each of at most 65535
record AreCodes (codes : List CodeInfo) (size : ℕ) : Type 0 where
  pub sum : sum_by code_length codes ≤ size
  pub each : (i : ℕ) (c : CodeInfo) → slice_get codes i ≡ Some c → length c.code ≤ 65535

no_code : (i : ℕ) (c : CodeInfo) → slice_get {X = CodeInfo} [] i ≡ Some c → ⊥
no_code i c e = cc

with_code : (c : CodeInfo) (codes : List CodeInfo) (m n : ℕ) → length c.code ≤ m → length c.code ≤ 65535 → AreCodes codes n → AreCodes (c ∷ codes) (m + n)
with_code c codes m n le small r = record {
  sum = omega (arith, sum_by-cons code_length c codes, le, r.sum);
  each = go;
} where
  go : (i : ℕ) (d : CodeInfo) → slice_get (c ∷ codes) i ≡ Some d → length d.code ≤ 65535
  go zero d e = (let same : c ≡ d = cc in subst (λ (k : CodeInfo). length k.code ≤ 65535) same small)
  go (suc i) d e = r.each i d e

within_more : (codes : List CodeInfo) (m n : ℕ) → m ≤ n → AreCodes codes m → AreCodes codes n
within_more codes m n le r = record { sum = omega (arith, r.sum, le); each = r.each }

attributes_codes : (pool : List PoolEntry) (n : ℕ) (bytes : List ℕ) (os : List (Option CodeInfo)) → Many (MethodAttribute pool) n bytes os → AreCodes (filter_map (λ a. a) os) (length bytes)
attributes_codes pool zero bytes os h =
    subst (λ (xs : List (Option CodeInfo)). AreCodes (filter_map (λ a. a) xs) (length bytes)) (sym h.same) (record { sum = omega arith; each = λ i c e. absurd (no_code i c e) })
attributes_codes pool (suc n) bytes os h =
    subst (λ (xs : List (Option CodeInfo)). AreCodes (filter_map (λ a. a) xs) (length bytes)) (sym h.back.back.same)
    (go h.value (attribute_le pool h.first h.value h.front) (attributes_codes pool n h.back.first h.back.value h.back.front)) where
      go : (x : Option CodeInfo) → (length_in x ≤ length h.first) × IsCodeSize x → AreCodes (filter_map (λ a. a) h.back.value) (length h.back.first) → AreCodes (filter_map (λ a. a) (x ∷ h.back.value)) (length bytes)
      go None own rest = within_more (filter_map (λ a. a) h.back.value) (length h.back.first) (length bytes) (omega (arith, both_lengths h, first_le h.back)) rest
      go (Some c) own rest =
          within_more (c ∷ filter_map (λ a. a) h.back.value) (length h.first + length h.back.first) (length bytes) (omega (arith, both_lengths h, first_le h.back))
          (with_code c (filter_map (λ a. a) h.back.value) (length h.first) (length h.back.first) own.0 (own.1 c refl) rest)

only_le : (none : Bool) (codes : List CodeInfo) (size : ℕ) (o : Option CodeInfo) → AreCodes codes size → only_code none codes ≡ Some o → (length_in o ≤ size) × IsCodeSize o
only_le true [] size o r e = (let same : o ≡ None = cc in (omega (arith, ap length_in same), λ c f. absurd (none_some c (sym same ∙ f))))
only_le true (c ∷ codes) size o r e = absurd cc
only_le false [] size o r e = absurd cc
only_le false (c ∷ []) size o r e =
    let same : o ≡ Some c = cc in
    (omega (arith, ap length_in same, sum_by-cons code_length c [], r.sum), λ d f. subst (λ (k : CodeInfo). length k.code ≤ 65535) (same_Some c d (sym same ∙ f)) (r.each 0 c refl))
only_le false (c ∷ d ∷ codes) size o r e = absurd cc

method_le : (pool : List PoolEntry) (met : List Key) (bytes : List ℕ) (x : MethodInfo × List Key) → MethodIs pool met bytes x → (length_in x.0.code ≤ length bytes) × IsCodeSize x.0.code
method_le pool met bytes x h =
    let named = h.back.back.rest.rest in
    let body = named.back.rest.rest.rest in
    let codes = attributes_codes pool body.front.value body.front.second body.value body.front.back in
    let within : length body.front.second ≤ length bytes = omega (arith, second_le body.front, first_le body, second_le named, second_le h.back, second_le h) in
    let own = only_le (is_native_or_abstract h.value) (filter_map (λ a. a) body.value) (length bytes) body.back.value (within_more (filter_map (λ a. a) body.value) (length body.front.second) (length bytes) within codes) body.back.found in
    let is : x.0.code ≡ body.back.value = ap (λ (r : MethodInfo × List Key). r.0.code) body.back.rest.same in
    (omega (arith, ap length_in is, own.0), λ c f. own.1 c (sym is ∙ f))

two_bytes : {B : Type 0} {H : ℕ → List ℕ → B → Type 0} {bytes : List ℕ} {y : B} → Then U2 H bytes y → 1 ≤ length bytes
two_bytes t = omega (arith, both_lengths t, ap (λ (b : List ℕ). length b) t.front.spelled, wide16.len t.value)

-- ---- the class

pub within_bytes : (bytes : List ℕ) (k : ClassInfo) → Spells bytes k → IsWithinBytes k (length bytes)
within_bytes bytes k h =
    let whole = h.back.rest.back.back.rest in
    let behind : length whole.second ≤ length bytes = omega (arith, second_le whole, second_le h.back.rest.back, second_le h.back.rest, second_le h) in
    let front : length whole.first ≤ length bytes = omega (arith, first_le whole, second_le h.back.rest.back, second_le h.back.rest, second_le h) in
    let body = whole.back in
    let counted = body.back.back.rest.back in
    let fields = counted.back.back in
    let methods = fields.back.back in
    let same = methods.back.back.same in
    let before : length counted.second ≤ length bytes = omega (arith, behind, second_le body, second_le body.back, second_le body.back.back.rest, second_le counted) in
    let fields_in : length fields.first ≤ length bytes = omega (arith, before, second_le counted.back, first_le fields) in
    let methods_in : length methods.first ≤ length bytes = omega (arith, before, second_le counted.back, second_le fields, second_le fields.back, first_le methods) in
    record {
      methods = omega (arith, ap (λ (c : ClassInfo). length c.methods) same, methods_in, many_length (MethodIs whole.value) (λ met b x g. two_bytes g) _ [] methods.first methods.value methods.front);
      fields = omega (arith, ap (λ (c : ClassInfo). length c.fields) same, fields_in, many_length (FieldIs whole.value) (λ met b x g. two_bytes g) _ [] fields.first fields.value fields.front);
      code = omega (arith, ap (λ (c : ClassInfo). code_bytes c) same, methods_in, many_sum (λ (m : MethodInfo). length_in m.code) (MethodIs whole.value) (λ met b x g. (method_le whole.value met b x g).0) _ [] methods.first methods.value methods.front);
      text = omega (arith, ap (λ (c : ClassInfo). text_bytes c) same, front, pool_sum whole.first whole.value whole.front);
      codes = λ i m code e f.
          many_all (λ (n : MethodInfo). IsCodeSize n.code) (MethodIs whole.value) (λ met b x g. (method_le whole.value met b x g).1) _ [] methods.first methods.value methods.front i m (sym (ap (λ (c : ClassInfo). slice_get c.methods i) same) ∙ e) code f;
    }
