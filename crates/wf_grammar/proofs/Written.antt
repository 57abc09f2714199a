-- Writers and the grammar: what a writer puts behind the bytes that are there, where it puts something, and
-- how many bytes it puts.
use Rattle.std.proofs.Common.{◌≡◌, ℕ, ◌+◌, ◌^◌, ◌<◌, ◌≤◌, Bool, true, false, cond, ltb, List, [], ◌∷◌, ◌++◌, length, get_or, Option, Some, None, refl, sym, ap, subst, ◌∙◌, append_assoc, append-nil, length-append, arith, inl, inr}
use Rattle.std.specs.Prelude.{option_and_then, slice_get, position}
use Rattle.std.specs.Int.{Width, w16, byte_len, to_be_bytes}
use Rattle.std.specs.List.{position_or_len}
use Rattle.std.specs.Option.{option_map_or}
use Rattle.std.specs.Str.{bytes_eq}
use Rattle.std.proofs.lemmas.Bool.{cases_lt, ltb-true, lt-ltb}
use Rattle.std.proofs.lemmas.List.Quantifiers.{position-Some}
use Rattle.std.proofs.lemmas.List.Sums.{fails_before_first}
use Rattle.std.proofs.lemmas.Option.{get_or_from_slice_get, slice_get-get_or, slice_get_within}
use Rattle.std.proofs.lemmas.Slice.Eq.{bytes_eq-Decides}
use Rattle.wf_bytes.specs.Grammar.{Number, Run, Then, Where, That, Given, Choice, Inside}
use Rattle.wf_grammar.specs.Writing.{Writer, ◌>>=◌, asked, put, put_number, put_place}
use Rattle.wf_bytes.proofs.Exact.{IsWide}

-- a value that is there
pub record Has {A : Type 0} (o : Option A) : Type 0 where
  pub value : A
  pub is : o ≡ Some value

-- bytes behind others, and what they spell
pub record Appended {X : Type 0} (G : List ℕ → X → Type 0) (x : X) (out new : List ℕ) : Type 0 where
  pub text : List ℕ
  pub is : new ≡ out ++ text
  pub spelled : G text x

pub record Writes {X : Type 0} (G : List ℕ → X → Type 0) (x : X) (w : Writer) : Type 0 where
  pub appends : (out new : List ℕ) → w out ≡ Some new → Appended G x out new

pub record Writable (w : Writer) : Type 0 where
  pub has : (out : List ℕ) → Has (w out)

pub record Sized (n : ℕ) (w : Writer) : Type 0 where
  pub more : (out new : List ℕ) → w out ≡ Some new → length new ≡ length out + n

-- one writer, and then another
abbrev pub behind : Writer → Writer → Writer
behind w v out = w out >>= v

-- a writer under a test
abbrev pub under : Bool → Writer → Writer
under b w out = asked b >>= λ u. w out

pub bind_some : {A B : Type 0} (o : Option A) (f : A → Option B) (y : B) → (o >>= f) ≡ Some y → (x : A) × (o ≡ Some x) × (f x ≡ Some y)
bind_some (Some x) f y e = (x, refl, e)
bind_some None f y e = absurd cc

pub asked_some : (b : Bool) (u : Unit {0}) → asked b ≡ Some u → b ≡ true
asked_some true u e = refl
asked_some false u e = absurd cc

pub some_is : {A : Type 0} (x y : A) → Some x ≡ Some y → x ≡ y
some_is x y e = cc

-- a branch that gave a value
taken : {A : Type 0} (b : Bool) (x y : A) → cond b (Some x) None ≡ Some y → (b ≡ true) × (x ≡ y)
taken true x y e = (refl, cc)
taken false x y e = absurd cc

-- ---- what is written

pub writes_nothing : {X : Type 0} {G : List ℕ → X → Type 0} {x : X} → G [] x → Writes G x (λ out. Some out)
writes_nothing g = record { appends = λ out new e. record { text = []; is = sym (some_is out new e) ∙ sym (append-nil out); spelled = g } }

-- what writes nothing at all
pub writes_never : {X : Type 0} {G : List ℕ → X → Type 0} {x : X} (w : Writer) → ((out new : List ℕ) → w out ≡ Some new → ⊥) → Writes G x w
writes_never w never = record { appends = λ out new e. absurd (never out new e) }

pub writes_number : (w : Width) (n : ℕ) → Writes (Number w) n (put_number w n)
unfolding put_number
writes_number w n = record {
  appends = λ out new e.
      let t = taken _ (out ++ to_be_bytes w n) new e in
      record { text = to_be_bytes w n; is = sym t.1; spelled = record { spelled = refl; small = ltb-true _ _ t.0 } };
}

pub writes_run : (bytes : List ℕ) → Writes (Run (length bytes)) bytes (put bytes)
writes_run bytes = record { appends = λ out new e. record { text = bytes; is = sym (some_is _ new e); spelled = record { same = refl; count = refl } } }

pub writes_under : {X : Type 0} {G : List ℕ → X → Type 0} {x : X} {w : Writer} (b : Bool) → (b ≡ true → Writes G x w) → Writes G x (under b w)
writes_under true one = one refl
writes_under false one = record { appends = λ out new e. absurd cc }

-- one and then another, which may rest on what the first has put
pub writes_on : {A B : Type 0} {G : List ℕ → A → Type 0} {H : A → List ℕ → B → Type 0} {x : A} {y : B} {w v : Writer} → Writes G x w → ((out mid : List ℕ) → w out ≡ Some mid → Writes (H x) y v) → Writes (Then G H) y (behind w v)
writes_on {x = x} {w = w} {v = v} first second = record {
  appends = λ out new e.
      let m = bind_some (w out) v new e in
      let a = first.appends out m.0 m.1 in
      let b = (second out m.0 m.1).appends m.0 new m.2 in
      record {
        text = a.text ++ b.text;
        is = b.is ∙ ap (λ (t : List ℕ). t ++ b.text) a.is ∙ append_assoc out a.text b.text;
        spelled = record { first = a.text; second = b.text; value = x; parts = refl; front = a.spelled; back = b.spelled };
      };
}

pub writes_then : {A B : Type 0} {G : List ℕ → A → Type 0} {H : A → List ℕ → B → Type 0} {x : A} {y : B} {w v : Writer} → Writes G x w → Writes (H x) y v → Writes (Then G H) y (behind w v)
writes_then first second = writes_on first (λ out mid e. second)

-- one, behind which nothing more comes
pub writes_last : {A B : Type 0} {G : List ℕ → A → Type 0} {H : A → List ℕ → B → Type 0} {x : A} {y : B} {w : Writer} → Writes G x w → H x [] y → Writes (Then G H) y w
writes_last {x = x} first last = record {
  appends = λ out new e.
      let a = first.appends out new e in
      record { text = a.text; is = a.is; spelled = record { first = a.text; second = []; value = x; parts = sym (append-nil a.text); front = a.spelled; back = last } };
}

-- the same bytes as a spelling of something else
pub writes_as : {A B : Type 0} {G : List ℕ → A → Type 0} {H : List ℕ → B → Type 0} {x : A} {y : B} {w : Writer} → ((text : List ℕ) → G text x → H text y) → Writes G x w → Writes H y w
writes_as other one = record { appends = λ out new e. let a = one.appends out new e in record { text = a.text; is = a.is; spelled = other a.text a.spelled } }

pub writes_where : {B : Type 0} {G : List ℕ → B → Type 0} {y : B} {w : Writer} {test : Bool} → test ≡ true → Writes G y w → Writes (Where test G) y w
writes_where holds one = writes_as (λ text g. record { holds = holds; rest = g }) one

pub writes_chosen : {B : Type 0} {G : List ℕ → B → Type 0} {y : B} {w : Writer} (b : Bool) (H : List ℕ → B → Type 0) → b ≡ true → Writes G y w → Writes (Choice b G H) y w
writes_chosen {G = G} {y = y} {w = w} b H is one = subst (λ (a : Bool). Writes (Choice a G H) y w) (sym is) one

pub writes_that : {P : Type 0} {B : Type 0} {G : List ℕ → B → Type 0} {y : B} {w : Writer} → P → Writes G y w → Writes (That P G) y w
writes_that holds one = writes_as (λ text g. record { holds = holds; rest = g }) one

pub writes_given : {A B : Type 0} {o : Option A} {H : A → List ℕ → B → Type 0} {y : B} {w : Writer} (x : A) → o ≡ Some x → Writes (H x) y w → Writes (Given o H) y w
writes_given x found one = writes_as (λ text g. record { value = x; found = found; rest = g }) one

-- the same writers in other groups
bind_assoc : {A B C : Type 0} (o : Option A) (f : A → Option B) (g : B → Option C) → ((o >>= f) >>= g) ≡ (o >>= λ x. f x >>= g)
bind_assoc (Some x) f g = refl
bind_assoc None f g = refl

pub writes_regrouped : {X : Type 0} {G : List ℕ → X → Type 0} {x : X} (a b c : Writer) → Writes G x (behind a (behind b c)) → Writes G x (behind (behind a b) c)
writes_regrouped a b c one = record { appends = λ out new e. one.appends out new (sym (bind_assoc (a out) b c) ∙ e) }

pub writes_ungrouped : {X : Type 0} {G : List ℕ → X → Type 0} {x : X} (a b c : Writer) → Writes G x (behind (behind a b) c) → Writes G x (behind a (behind b c))
writes_ungrouped a b c one = record { appends = λ out new e. one.appends out new (bind_assoc (a out) b c ∙ e) }

pub writes_under_regrouped : {X : Type 0} {G : List ℕ → X → Type 0} {x : X} (b : Bool) (w v : Writer) → (b ≡ true → Writes G x (behind w v)) → Writes G x (behind (under b w) v)
writes_under_regrouped true w v one = one refl
writes_under_regrouped false w v one = record { appends = λ out new e. absurd cc }

-- a place that has to be there
pub writes_place : {X : Type 0} {G : List ℕ → X → Type 0} {x : X} (o : Option ℕ) → ((i : ℕ) → o ≡ Some i → Writes G x (put_number w16 i)) → Writes G x (put_place o)
unfolding put_place
writes_place (Some i) one = record { appends = λ out new e. (one i refl).appends out new e }
writes_place None one = record { appends = λ out new e. absurd cc }

pub writes_place_then : {X : Type 0} {G : List ℕ → X → Type 0} {x : X} (o : Option ℕ) (v : Writer) → ((i : ℕ) → o ≡ Some i → Writes G x (behind (put_number w16 i) v)) → Writes G x (behind (put_place o) v)
unfolding put_place
writes_place_then (Some i) v one = record { appends = λ out new e. (one i refl).appends out new e }
writes_place_then None v one = record { appends = λ out new e. absurd cc }

-- so many bytes, of which the inside is spelled
pub writes_inside : {X : Type 0} {G : List ℕ → X → Type 0} {x : X} {w : Writer} (n : ℕ) → Sized n w → Writes G x w → Writes (Then (Run n) (Inside G)) x w
writes_inside n sized one = record {
  appends = λ out new e.
      let a = one.appends out new e in
      let count : length a.text ≡ n = omega (arith, sized.more out new e, ap length a.is, length-append out a.text) in
      record {
        text = a.text;
        is = a.is;
        spelled = record { first = a.text; second = []; value = a.text; parts = sym (append-nil a.text); front = record { same = refl; count = count }; back = record { nothing = refl; spelled = a.spelled } };
      };
}

-- ---- where something is written

pub writable_nothing : Writable (λ out. Some out)
writable_nothing = record { has = λ out. record { value = out; is = refl } }

pub writable_number : (w : Width) (n : ℕ) → n < 256 ^ byte_len w → Writable (put_number w n)
unfolding put_number
writable_number w n small = record { has = λ out. rw (lt-ltb _ _ small) (record { value = out ++ to_be_bytes w n; is = refl }) }

pub writable_run : (bytes : List ℕ) → Writable (put bytes)
writable_run bytes = record { has = λ out. record { value = out ++ bytes; is = refl } }

pub writable_under : {w : Writer} (b : Bool) → b ≡ true → Writable w → Writable (under b w)
writable_under {w = w} b holds one = subst (λ (x : Bool). Writable (under x w)) (sym holds) (record { has = λ out. one.has out })

pub writable_then : {w v : Writer} → Writable w → Writable v → Writable (behind w v)
writable_then {v = v} first second = record {
  has = λ out.
      let a = first.has out in
      let b = second.has a.value in
      record { value = b.value; is = ap (λ o. o >>= v) a.is ∙ b.is };
}

pub writable_place : (o : Option ℕ) (i : ℕ) → o ≡ Some i → i < 65536 → Writable (put_place o)
unfolding put_place
writable_place o i is small = subst (λ (p : Option ℕ). Writable (put_place p)) (sym is) (record { has = λ out. (writable_number w16 i small).has out })

-- ---- how many bytes are written

pub sized_nothing : Sized 0 (λ out. Some out)
sized_nothing = record { more = λ out new e. omega (arith, ap length (some_is out new e)) }

pub sized_number : (w : Width) (n : ℕ) → IsWide w → Sized (byte_len w) (put_number w n)
unfolding put_number
sized_number w n wide = record {
  more = λ out new e.
      let t = taken _ (out ++ to_be_bytes w n) new e in
      sym (ap length t.1) ∙ length-append out (to_be_bytes w n) ∙ ap (λ (k : ℕ). length out + k) (wide.len n);
}

pub sized_run : (bytes : List ℕ) → Sized (length bytes) (put bytes)
sized_run bytes = record { more = λ out new e. sym (ap length (some_is _ new e)) ∙ length-append out bytes }

pub sized_under : {w : Writer} {n : ℕ} (b : Bool) → Sized n w → Sized n (under b w)
sized_under true one = record { more = λ out new e. one.more out new e }
sized_under false one = record { more = λ out new e. absurd cc }

pub sized_then : {w v : Writer} {m n : ℕ} → Sized m w → Sized n v → Sized (m + n) (behind w v)
sized_then {w = w} {v = v} first second = record {
  more = λ out new e.
      let s = bind_some (w out) v new e in
      omega (arith, first.more out s.0 s.1, second.more s.0 new s.2);
}

pub sized_as : {w : Writer} {m n : ℕ} → m ≡ n → Sized m w → Sized n w
sized_as {w = w} same one = subst (λ (k : ℕ). Sized k w) same one

-- ---- places of a list

-- what a function finds at a place
abbrev pub found_at : {A : Type 0} → (A → Option (List ℕ)) → List A → ℕ → Option (List ℕ)
found_at f xs i = option_and_then f (slice_get xs i)

-- whether it finds this text
abbrev pub finds : {A : Type 0} → (A → Option (List ℕ)) → List ℕ → A → Bool
finds f text x = option_map_or (bytes_eq text) (f x) false

finds_some : (o : Option (List ℕ)) (text : List ℕ) → option_map_or (bytes_eq text) o false ≡ true → o ≡ Some text
finds_some None text e = absurd cc
finds_some (Some t) text e = ap Some (sym ((bytes_eq-Decides text t).0 e))

bind_and : {A : Type 0} (o : Option A) (f : A → Option (List ℕ)) (text : List ℕ) → option_and_then f o ≡ Some text → (x : A) × (o ≡ Some x) × (f x ≡ Some text)
bind_and (Some x) f text e = (x, refl, e)
bind_and None f text e = absurd cc

differ : true ≡ false → ⊥
differ e = cc

-- the least place holds the text
pub place_holds : {A : Type 0} (xs : List A) (f : A → Option (List ℕ)) (text : List ℕ) (i : ℕ) → position (finds f text) xs ≡ Some i → found_at f xs i ≡ Some text
place_holds [] f text i e = absurd cc
place_holds (d ∷ xs) f text i e =
    let s = position-Some (finds f text) (d ∷ xs) i d e in
    ap (option_and_then f) (slice_get-get_or (d ∷ xs) i d s.0) ∙ finds_some (f (get_or (d ∷ xs) i d)) text s.1

-- where a place holds the text, there is a least one
pub place_there : {A : Type 0} (xs : List A) (f : A → Option (List ℕ)) (text : List ℕ) (n : ℕ) → found_at f xs n ≡ Some text → (i : ℕ) × (position (finds f text) xs ≡ Some i) × (i ≤ n)
place_there xs f text n e =
    let m = bind_and (slice_get xs n) f text e in
    let inside : n < length xs = slice_get_within xs n m.0 m.1 in
    let here : finds f text (get_or xs n m.0) ≡ true = ap (finds f text) (get_or_from_slice_get xs n m.0 m.0 m.1) ∙ ap (λ o. option_map_or (bytes_eq text) o false) m.2 ∙ (bytes_eq-Decides text text).1 refl in
    let early : position_or_len (finds f text) xs ≤ n =
    elim (cases_lt n (position_or_len (finds f text) xs)) [
      | inl lt ↦ absurd (differ (sym here ∙ fails_before_first (finds f text) xs n m.0 lt))
      | inr le ↦ le
    ] in
    let there : ltb (position_or_len (finds f text) xs) (length xs) ≡ true = lt-ltb _ _ (omega arith) in
    (position_or_len (finds f text) xs, rw there refl, early)
