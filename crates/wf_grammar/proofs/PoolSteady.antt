-- The functions that read the constant pool are steady.
use Rattle.std.proofs.Common.{◌≡◌, ℕ, zero, suc, ◌+◌, ◌-◌, ◌≤◌, Bool, true, false, not, cond, eqb, List, [], ◌∷◌, length, Ok, Err, refl, sym, ap, subst, ◌∙◌, arith}
use Rattle.std.specs.Prelude.{nat_lt}
use Rattle.std.specs.Int.{Width, w8, w16, w32, w64, byte_len, cast_signed}
use Rattle.std.specs.List.{list_all}
use Rattle.wf_data.specs.declared.class_info.PoolEntry.{PoolEntry}
use Rattle.wf_data.specs.declared.class_info.PoolEntry.TheVariants as entry
use Rattle.wf_bytes.specs.declared.fault.Why.{Why}
use Rattle.wf_bytes.specs.declared.fault.Why.TheVariants as why
use Rattle.wf_bytes.specs.Place.{Place, spot}
use Rattle.wf_grammar.specs.ClassFile.{is_text_byte, is_sound}
use Rattle.wf_data.specs.Pool.{has_text, has_class}
use Rattle.wf_bytes.specs.Reading.{Fault, bad, ◌>>=◌, Reader, wanted, number, run, many_on}
use Rattle.wf_grammar.specs.Reading.{bad_byte_from, text_of, text_entry, integer_entry, float_entry, long_entry, double_entry, one_place, two_places, handle_entry, narrow_as, is_wide_tag, wide_as, entry_as, pool_entry, PoolState, pool_place, pool_entries, size_of, wrong_in, wrong_from, pool_at}
use Rattle.wf_bytes.proofs.Exact.{next, bind_ok, ok_is}
use Rattle.wf_bytes.proofs.Steady.{Steady, steady_next, steady_then, steady_number, number_goes, run_goes, steady_run_then, steady_is, steady_where, steady_choice, steady_never, steady_many_on}

-- ---- constants

bad_byte_within : (at : ℕ) (text : List ℕ) → bad_byte_from at text ≤ at + length text
bad_byte_within at [] = omega arith
bad_byte_within at (b ∷ bytes) =
    elim (is_text_byte b) as (λ v. cond v (bad_byte_from (suc at) bytes) at ≤ at + length (b ∷ bytes)) [ true ↦ omega (arith, bad_byte_within (suc at) bytes) | false ↦ omega arith ]

steady_text_of : (n at : ℕ) → Steady at (text_of n)
unfolding text_of
steady_text_of n at =
    steady_run_then n at (λ text place o is goes. steady_where (list_all is_text_byte text) (bad_byte_from place text) why.Utf8 (omega (arith, bad_byte_within place text)) (steady_is text o))

steady_text_entry : (at : ℕ) → Steady at text_entry
unfolding text_entry
steady_text_entry at = steady_then (steady_number w16 at) (λ n _ o _ _. steady_then (steady_text_of n o) (λ text _ end _ _. steady_is (entry.Utf8 text) end))

steady_integer_entry : (at : ℕ) → Steady at integer_entry
unfolding integer_entry
steady_integer_entry at = steady_then (steady_number w32 at) (λ n _ o _ _. steady_is (entry.Integer (cast_signed w32 n)) o)

steady_float_entry : (at : ℕ) → Steady at float_entry
unfolding float_entry
steady_float_entry at = steady_then (steady_number w32 at) (λ bits _ o _ _. steady_is (entry.Float bits) o)

steady_long_entry : (at : ℕ) → Steady at long_entry
unfolding long_entry
steady_long_entry at = steady_then (steady_number w64 at) (λ n _ o _ _. steady_is (entry.Long (cast_signed w64 n)) o)

steady_double_entry : (at : ℕ) → Steady at double_entry
unfolding double_entry
steady_double_entry at = steady_then (steady_number w64 at) (λ bits _ o _ _. steady_is (entry.Double bits) o)

steady_one_place : (made : ℕ → PoolEntry) (at : ℕ) → Steady at (one_place made)
unfolding one_place
steady_one_place made at = steady_then (steady_number w16 at) (λ first _ o _ _. steady_is (made first) o)

steady_two_places : (made : ℕ → ℕ → PoolEntry) (at : ℕ) → Steady at (two_places made)
unfolding two_places
steady_two_places made at = steady_then (steady_number w16 at) (λ first _ o _ _. steady_then (steady_number w16 o) (λ second _ end _ _. steady_is (made first second) end))

steady_handle_entry : (at : ℕ) → Steady at handle_entry
unfolding handle_entry
steady_handle_entry at = steady_then (steady_number w8 at) (λ kind _ o _ _. steady_then (steady_number w16 o) (λ member _ end _ _. steady_is (entry.Handle kind member) end))

steady_narrow_as : (tag place at : ℕ) → place ≤ at → Steady at (narrow_as tag place)
unfolding narrow_as
steady_narrow_as tag place at low =
    steady_choice (eqb tag 1) (steady_text_entry at) (
    steady_choice (eqb tag 3) (steady_integer_entry at) (
    steady_choice (eqb tag 4) (steady_float_entry at) (
    steady_choice (eqb tag 7) (steady_one_place entry.Class at) (
    steady_choice (eqb tag 8) (steady_one_place entry.Str at) (
    steady_choice (eqb tag 9) (steady_two_places entry.Field at) (
    steady_choice (eqb tag 10) (steady_two_places entry.Method at) (
    steady_choice (eqb tag 11) (steady_two_places entry.InterfaceMethod at) (
    steady_choice (eqb tag 12) (steady_two_places entry.NameType at) (
    steady_choice (eqb tag 15) (steady_handle_entry at) (
    steady_choice (eqb tag 16) (steady_one_place entry.MethodKind at) (
    steady_choice (eqb tag 18) (steady_two_places entry.Dynamic at) (steady_never place why.Tag low))))))))))))

steady_wide_as : (tag at : ℕ) → Steady at (wide_as tag)
unfolding wide_as
steady_wide_as tag at = steady_choice (eqb tag 5) (steady_long_entry at) (steady_double_entry at)

steady_entry_as : (tag left place at : ℕ) → place ≤ at → Steady at (entry_as tag left place)
unfolding entry_as
steady_entry_as tag left place at low =
    steady_choice (is_wide_tag tag) (steady_where (nat_lt 1 left) place why.Tag low (steady_then (steady_wide_as tag at) (λ e _ o _ _. steady_is (e, (left - 1, true)) o)))
    (steady_then (steady_narrow_as tag place at low) (λ e _ o _ _. steady_is (e, (left - 1, false)) o))

steady_entry : (left at : ℕ) → Steady at (pool_entry left)
unfolding pool_entry
steady_entry left at = steady_then (steady_number w8 at) (λ tag place o is low. steady_entry_as tag left place o (omega arith))

steady_place : (state : PoolState) (at : ℕ) → Steady at (pool_place state)
unfolding pool_place
steady_place state at = steady_choice state.1 (steady_is (entry.Unusable, (state.0 - 1, false)) at) (steady_entry state.0 at)

steady_entries : (n at : ℕ) → Steady at (pool_entries n)
unfolding pool_entries
steady_entries n at = steady_then (steady_many_on steady_place n (n, false) at) (λ entries _ o _ _. steady_is entries.0 o)

-- ---- how far a constant goes

-- A reader that begins k bytes behind a start ends behind as many as the size of what it read.
abbrev Reaches : {X : Type 0} → ℕ → ℕ → (X → ℕ) → Reader X → Type 0
Reaches {X = X} start k size r = (p q : Place) (x : X) → p.at ≡ start + k → r p ≡ Ok (x, q) → q.at ≡ start + size x

reaches_is : {X : Type 0} (start k : ℕ) (size : X → ℕ) (x : X) → size x ≡ k → Reaches start k size (λ p. Ok (x, p))
reaches_is {X = X} start k size x same p q y begins e =
    let both = ok_is (x, p) (y, q) e in
    subst (λ (z : X × Place). z.1.at ≡ start + size z.0) both (begins ∙ ap (λ (m : ℕ). start + m) (sym same))

reaches_number : {X : Type 0} (start k : ℕ) (size : X → ℕ) (w : Width) (s : ℕ → ℕ → Reader X) → ((n o : ℕ) → Reaches start (k + byte_len w) size (s n o)) → Reaches start k size (next (number w) s)
reaches_number start k size w s rest p q y begins e =
    let one = bind_ok (number w p) (λ x. s x.0 p.at x.1) (y, q) e in
    rest one.0.0 p.at one.0.1 q y (omega (arith, begins, number_goes w p one.0.1 one.0.0 one.1)) one.2

reaches_choice : {X : Type 0} (start k : ℕ) (size : X → ℕ) (r s : Reader X) (b : Bool) → Reaches start k size r → Reaches start k size s → Reaches start k size (λ p. cond b (r p) (s p))
reaches_choice start k size r s true one two = one
reaches_choice start k size r s false one two = two

text_goes : (n : ℕ) (p q : Place) (x : List ℕ) → text_of n p ≡ Ok (x, q) → q.at ≡ p.at + length x
unfolding text_of
text_goes n p q x e =
    let one = bind_ok (run n p) (λ t. wanted (list_all is_text_byte t.0) (bad_byte_from p.at t.0) why.Utf8 >>= λ u. Ok t) (x, q) e in
    let two = bind_ok (wanted (list_all is_text_byte one.0.0) (bad_byte_from p.at one.0.0) why.Utf8) (λ u. Ok one.0) (x, q) one.2 in
    subst (λ (z : List ℕ × Place). z.1.at ≡ p.at + length z.0) (ok_is one.0 (x, q) two.2) (run_goes n p one.0.1 one.0.0 one.1)

text_reaches : (start n : ℕ) → Reaches start 3 size_of (λ p. text_of n p >>= λ t. Ok (entry.Utf8 t.0, t.1))
text_reaches start n p q y begins e =
    let one = bind_ok (text_of n p) (λ t. Ok (entry.Utf8 t.0, t.1)) (y, q) e in
    let both = ok_is (entry.Utf8 one.0.0, one.0.1) (y, q) one.2 in
    subst (λ (z : PoolEntry × Place). z.1.at ≡ start + size_of z.0) both (omega (arith, begins, text_goes n p one.0.1 one.0.0 one.1))

reaches_text : (start : ℕ) → Reaches start 1 size_of text_entry
unfolding text_entry
reaches_text start = reaches_number start 1 size_of w16 _ (λ n _. text_reaches start n)

reaches_integer : (start : ℕ) → Reaches start 1 size_of integer_entry
unfolding integer_entry
reaches_integer start = reaches_number start 1 size_of w32 _ (λ n _. reaches_is start 5 size_of (entry.Integer (cast_signed w32 n)) refl)

reaches_float : (start : ℕ) → Reaches start 1 size_of float_entry
unfolding float_entry
reaches_float start = reaches_number start 1 size_of w32 _ (λ bits _. reaches_is start 5 size_of (entry.Float bits) refl)

reaches_long : (start : ℕ) → Reaches start 1 size_of long_entry
unfolding long_entry
reaches_long start = reaches_number start 1 size_of w64 _ (λ n _. reaches_is start 9 size_of (entry.Long (cast_signed w64 n)) refl)

reaches_double : (start : ℕ) → Reaches start 1 size_of double_entry
unfolding double_entry
reaches_double start = reaches_number start 1 size_of w64 _ (λ bits _. reaches_is start 9 size_of (entry.Double bits) refl)

reaches_handle : (start : ℕ) → Reaches start 1 size_of handle_entry
unfolding handle_entry
reaches_handle start = reaches_number start 1 size_of w8 _ (λ kind _. reaches_number start 2 size_of w16 _ (λ member _. reaches_is start 4 size_of (entry.Handle kind member) refl))

reaches_one_place : (start : ℕ) (made : ℕ → PoolEntry) → ((n : ℕ) → size_of (made n) ≡ 3) → Reaches start 1 size_of (one_place made)
unfolding one_place
reaches_one_place start made size = reaches_number start 1 size_of w16 _ (λ n _. reaches_is start 3 size_of (made n) (size n))

reaches_two_places : (start : ℕ) (made : ℕ → ℕ → PoolEntry) → ((m n : ℕ) → size_of (made m n) ≡ 5) → Reaches start 1 size_of (two_places made)
unfolding two_places
reaches_two_places start made size = reaches_number start 1 size_of w16 _ (λ m _. reaches_number start 3 size_of w16 _ (λ n _. reaches_is start 5 size_of (made m n) (size m n)))

reaches_never : {X : Type 0} (start k : ℕ) (size : X → ℕ) (fault : Fault) → Reaches start k size (λ p. Err fault)
reaches_never start k size fault p q x begins e = absurd cc

reaches_narrow : (start tag at : ℕ) → Reaches start 1 size_of (narrow_as tag at)
unfolding narrow_as
reaches_narrow start tag at =
    reaches_choice start 1 size_of _ _ (eqb tag 1) (reaches_text start) (
    reaches_choice start 1 size_of _ _ (eqb tag 3) (reaches_integer start) (
    reaches_choice start 1 size_of _ _ (eqb tag 4) (reaches_float start) (
    reaches_choice start 1 size_of _ _ (eqb tag 7) (reaches_one_place start entry.Class (λ n. refl)) (
    reaches_choice start 1 size_of _ _ (eqb tag 8) (reaches_one_place start entry.Str (λ n. refl)) (
    reaches_choice start 1 size_of _ _ (eqb tag 9) (reaches_two_places start entry.Field (λ m n. refl)) (
    reaches_choice start 1 size_of _ _ (eqb tag 10) (reaches_two_places start entry.Method (λ m n. refl)) (
    reaches_choice start 1 size_of _ _ (eqb tag 11) (reaches_two_places start entry.InterfaceMethod (λ m n. refl)) (
    reaches_choice start 1 size_of _ _ (eqb tag 12) (reaches_two_places start entry.NameType (λ m n. refl)) (
    reaches_choice start 1 size_of _ _ (eqb tag 15) (reaches_handle start) (
    reaches_choice start 1 size_of _ _ (eqb tag 16) (reaches_one_place start entry.MethodKind (λ n. refl)) (
    reaches_choice start 1 size_of _ _ (eqb tag 18) (reaches_two_places start entry.Dynamic (λ m n. refl)) (reaches_never start 1 size_of (bad at why.Tag)))))))))))))

reaches_wide : (start tag : ℕ) → Reaches start 1 size_of (wide_as tag)
unfolding wide_as
reaches_wide start tag = reaches_choice start 1 size_of _ _ (eqb tag 5) (reaches_long start) (reaches_double start)

abbrev first_size : PoolEntry × PoolState → ℕ
first_size x = size_of x.0

reaches_made : (start k : ℕ) (r : Reader PoolEntry) (state : PoolState) → Reaches start k size_of r → Reaches start k first_size (λ p. r p >>= λ e. Ok ((e.0, state), e.1))
reaches_made start k r state first p q y begins e =
    let one = bind_ok (r p) (λ x. Ok ((x.0, state), x.1)) (y, q) e in
    let both = ok_is ((one.0.0, state), one.0.1) (y, q) one.2 in
    subst (λ (z : (PoolEntry × PoolState) × Place). z.1.at ≡ start + first_size z.0) both (first p one.0.1 one.0.0 begins one.1)

reaches_where : {X : Type 0} (start k : ℕ) (size : X → ℕ) (s : Reader X) (test : Bool) (at : ℕ) (fault : Why) → Reaches start k size s → Reaches start k size (λ p. wanted test at fault >>= λ u. s p)
reaches_where start k size s test at fault rest p q y begins e = rest p q y begins (bind_ok (wanted test at fault) (λ u. s p) (y, q) e).2

reaches_entry_as : (start tag left at : ℕ) → Reaches start 1 first_size (entry_as tag left at)
unfolding entry_as
reaches_entry_as start tag left at =
    reaches_choice start 1 first_size _ _ (is_wide_tag tag) (reaches_where start 1 first_size _ (nat_lt 1 left) at why.Tag (reaches_made start 1 (wide_as tag) (left - 1, true) (reaches_wide start tag)))
    (reaches_made start 1 (narrow_as tag at) (left - 1, false) (reaches_narrow start tag at))

reaches_entry : (start left : ℕ) → Reaches start 0 first_size (pool_entry left)
unfolding pool_entry
reaches_entry start left = reaches_number start 0 first_size w8 (λ tag at. entry_as tag left at) (λ tag at. reaches_entry_as start tag left at)

reaches_place : (start : ℕ) (state : PoolState) → Reaches start 0 first_size (pool_place state)
unfolding pool_place
reaches_place start state = reaches_choice start 0 first_size _ _ state.1 (reaches_is start 0 first_size (entry.Unusable, (state.0 - 1, false)) refl) (reaches_entry start state.0)

-- the bytes of several constants
abbrev sizes : List PoolEntry → ℕ
sizes [] = 0
sizes (e ∷ es) = size_of e + sizes es

places_go : (n : ℕ) (state : PoolState) (p q : Place) (xs : List PoolEntry × PoolState) → many_on pool_place n state p ≡ Ok (xs, q) → q.at ≡ p.at + sizes xs.0
unfolding many_on
places_go zero state p q xs e = subst (λ (z : (List PoolEntry × PoolState) × Place). z.1.at ≡ p.at + sizes z.0.0) (ok_is (([], state), p) (xs, q) e) (omega arith)
places_go (suc n) state p q xs e =
    let one = bind_ok (pool_place state p) (λ x. many_on pool_place n x.0.1 x.1 >>= λ ys. Ok ((x.0.0 ∷ ys.0.0, ys.0.1), ys.1)) (xs, q) e in
    let two = bind_ok (many_on pool_place n one.0.0.1 one.0.1) (λ ys. Ok ((one.0.0.0 ∷ ys.0.0, ys.0.1), ys.1)) (xs, q) one.2 in
    let first = reaches_place p.at state p one.0.1 one.0.0 (omega arith) one.1 in
    let rest = places_go n one.0.0.1 one.0.1 two.0.1 two.0.0 two.1 in
    let entries : List PoolEntry × PoolState = (one.0.0.0 ∷ two.0.0.0, two.0.0.1) in
    subst (λ (z : (List PoolEntry × PoolState) × Place). z.1.at ≡ p.at + sizes z.0.0) {x = (entries, two.0.1)} (ok_is (entries, two.0.1) (xs, q) two.2) (omega (arith, first, rest))

entries_go : (n : ℕ) (p q : Place) (es : List PoolEntry) → pool_entries n p ≡ Ok (es, q) → q.at ≡ p.at + sizes es
unfolding pool_entries
entries_go n p q es e =
    let one = bind_ok (many_on pool_place n (n, false) p) (λ x. Ok (x.0.0, x.1)) (es, q) e in
    subst (λ (z : List PoolEntry × Place). z.1.at ≡ p.at + sizes z.0) (ok_is (one.0.0.0, one.0.1) (es, q) one.2) (places_go n (n, false) p one.0.1 one.0.0 one.1)

-- ---- a wrong place lies in its constant

one_or_three : (b : Bool) → cond b 3 1 ≤ 5
one_or_three true = omega arith
one_or_three false = omega arith

wrong_in_within : (pool : List PoolEntry) (e : PoolEntry) → is_sound pool e ≡ false → wrong_in pool e ≤ size_of e
wrong_in_within pool entry.Unusable h = absurd cc
wrong_in_within pool (entry.Field class member) h = one_or_three (has_class pool class)
wrong_in_within pool (entry.Method class member) h = one_or_three (has_class pool class)
wrong_in_within pool (entry.InterfaceMethod class member) h = one_or_three (has_class pool class)
wrong_in_within pool (entry.NameType name desc) h = one_or_three (has_text pool name)
wrong_in_within pool e h = omega arith

wrong_within : (pool : List PoolEntry) (at : ℕ) (es : List PoolEntry) → wrong_from pool at es ≤ at + sizes es
wrong_within pool at [] = omega arith
wrong_within pool at (e ∷ es) = by_soundness (is_sound pool e) refl (wrong_within pool (at + size_of e) es)
  where
    by_soundness : (b : Bool) → is_sound pool e ≡ b → wrong_from pool (at + size_of e) es ≤ (at + size_of e) + sizes es → cond b (wrong_from pool (at + size_of e) es) (at + wrong_in pool e) ≤ at + sizes (e ∷ es)
    by_soundness true h rest = omega (arith, rest)
    by_soundness false h rest = omega (arith, wrong_in_within pool e h)

pub steady_pool : (at : ℕ) → Steady at pool_at
unfolding pool_at
steady_pool at =
    steady_then (steady_number w16 at) (λ count place o is low. steady_where (not (eqb count 0)) place why.Index (omega arith) (
    steady_next o (λ es end. end ≡ o + sizes es) (steady_entries (count - 1) o) (λ left es q e. entries_go (count - 1) (spot o left) q es e) (λ es start end begins goes.
    steady_where _ (wrong_from (entry.Unusable ∷ es) start es) why.Index (omega (arith, wrong_within (entry.Unusable ∷ es) start es)) (
    steady_is (entry.Unusable ∷ es) end))))
