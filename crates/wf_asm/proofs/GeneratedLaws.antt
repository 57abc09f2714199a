-- Each generated class is one: it has few constants, and each body has code.
use Rattle.std.proofs.Common.{◌≡◌, ℕ, suc, ◌+◌, ◌-◌, ◌<◌, ◌≤◌, ◌%◌, ◌==◌, Bool, true, false, if◌then◌else◌, nat_lt, nat_le, List, [], ◌∷◌, ◌++◌, length, Some, Result, Ok, Err, is_ok, refl, sym, ap, ◌∙◌, arith, length-append, append-nil, le-leb, leb-true, true≢false}
use Rattle.std.specs.Prelude.{codes}
use Rattle.std.specs.List.{list_any}
use Rattle.wf_data.specs.declared.class_info.ClassInfo.{ClassInfo}
use Rattle.wf_data.specs.declared.class_info.CodeInfo.{CodeInfo}
use Rattle.wf_data.specs.declared.class_info.MethodInfo.{MethodInfo}
use Rattle.wf_names.specs.Names.{constructor_name}
use Rattle.wf_listing.specs.declared.listing.Constant.{Constant}
use Rattle.wf_listing.specs.declared.listing.Listed.{Listed}
use Rattle.wf_listing.specs.declared.listing.ListedMethod.{ListedMethod}
use Rattle.wf_listing.specs.declared.listing.Statement.{Statement}
use Rattle.wf_asm.specs.Constants.{same, with_constant, with_constants, uses_of, constants_of}
use Rattle.wf_asm.specs.Building.{◌>>=◌, labels_on, onto, joined, signed_bytes, step_bytes, body_on, code_of, method_of, methods_of, method_with, class_with, class_of, classes_of}
use Rattle.wf_asm.specs.Generating.{returns, makes, branches, method, class_name, super_of, class_listed, generated_class, object_class, class_at, state_behind, next_state, number_of, generated_from, generated}
use Rattle.wf_asm.proofs.ClassLaws.{with_front, first_then, one_more}

-- ---- few constants

grown_by_one : (cs : List Constant) (d : Constant) → length (with_constant cs d) ≤ length cs + 1
grown_by_one cs d = go (list_any (same d) cs)
  where
    go : (b : Bool) → length (if b then cs else cs ++ d ∷ []) ≤ length cs + 1
    go true = omega arith
    go false = omega (arith, length-append cs (d ∷ []))

grown : (cs ds : List Constant) → length (with_constants cs ds) ≤ length cs + length ds
grown cs [] = omega arith
grown cs (d ∷ ds) = omega (arith, grown (with_constant cs d) ds, grown_by_one cs d)

few : (c : Listed) (n : ℕ) → length (uses_of c) ≤ n → length (constants_of c) ≤ n
unfolding constants_of
few c n le = omega (arith, grown [] (uses_of c))

-- ---- each body has code

returns_code : (cs : List Constant) → is_ok (code_of cs (returns ∷ [])) ≡ true
unfolding code_of labels_on body_on step_bytes onto
returns_code cs = refl

main_code : (cs : List Constant) → is_ok (code_of cs (makes 0 ++ returns ∷ [])) ≡ true
unfolding code_of labels_on body_on step_bytes onto
main_code cs = refl

-- the body of a method m, by whether it makes an object
abbrev pub m_body : Bool → ℕ → ℕ → ℕ → List Statement
m_body b k constant c = (if b then makes k else []) ++ branches constant c

m_code : (cs : List Constant) (b : Bool) (k constant c : ℕ) → is_ok (code_of cs (m_body b k constant c)) ≡ true
unfolding code_of labels_on body_on step_bytes onto joined signed_bytes
m_code cs true k constant c = refl
m_code cs false k constant c = refl

-- ---- each class is one

method_ok : (cs : List Constant) (static : Bool) (name : List ℕ) (body : List Statement) → is_ok (code_of cs body) ≡ true → is_ok (method_of cs (method static name body)) ≡ true
method_ok cs static name body ok = go (code_of cs body) ok
  where
    go : (r : Result CodeInfo ℕ) → is_ok r ≡ true → is_ok ((r >>= λ code. Ok (Some code)) >>= λ code. Ok (method_with (method static name body) code)) ≡ true
    go (Ok code) h = refl
    go (Err line) h = h

methods_ok : (cs : List Constant) (m : ListedMethod) (ms : List ListedMethod) → is_ok (method_of cs m) ≡ true → is_ok (methods_of cs ms) ≡ true → is_ok (methods_of cs (m ∷ ms)) ≡ true
unfolding methods_of
methods_ok cs m ms one rest = go (method_of cs m) (methods_of cs ms) one rest
  where
    go : (r : Result MethodInfo ℕ) (q : Result (List MethodInfo) ℕ) → is_ok r ≡ true → is_ok q ≡ true → is_ok (r >>= λ x. q >>= λ xs. Ok (x ∷ xs)) ≡ true
    go (Ok x) (Ok xs) h k = refl
    go (Ok x) (Err line) h k = k
    go (Err line) q h k = h

no_methods_ok : (cs : List Constant) → is_ok (methods_of cs []) ≡ true
unfolding methods_of
no_methods_ok cs = refl

class_ok : (c : Listed) → nat_le (length (constants_of c)) 65534 ≡ true → is_ok (methods_of (constants_of c) c.methods) ≡ true → is_ok (class_of c) ≡ true
unfolding class_of
class_ok c fits ok = go (nat_le (length (constants_of c)) 65534) (methods_of (constants_of c) c.methods) fits ok
  where
    go : (b : Bool) (r : Result (List MethodInfo) ℕ) → b ≡ true → is_ok r ≡ true → is_ok (if b then (r >>= λ methods. Ok (class_with c (constants_of c) methods)) else Err c.line) ≡ true
    go true (Ok ms) h k = refl
    go true (Err line) h k = k
    go false r h k = absurd (true≢false (sym h))

abbrev pub main_methods : Bool → List ListedMethod
main_methods b = if b then method true (codes "main") (makes 0 ++ returns ∷ []) ∷ [] else []

-- a generated class, by whether it is the first, and whether it makes an object
abbrev pub shape : Bool → Bool → List ℕ → List ℕ → ℕ → ℕ → ℕ → Listed
shape first making name super k constant c = class_listed name (Some super) (method true (codes "s") (returns ∷ []) ∷ method false (codes "m") (m_body making k constant c) ∷ main_methods first)

shape_few : (first making : Bool) (name super : List ℕ) (k constant c : ℕ) → nat_le (length (constants_of (shape first making name super k constant c))) 65534 ≡ true
shape_few true true name super k constant c = le-leb _ _ (few (shape true true name super k constant c) 65534 (leb-true _ _ refl))
shape_few true false name super k constant c = le-leb _ _ (few (shape true false name super k constant c) 65534 (leb-true _ _ refl))
shape_few false true name super k constant c = le-leb _ _ (few (shape false true name super k constant c) 65534 (leb-true _ _ refl))
shape_few false false name super k constant c = le-leb _ _ (few (shape false false name super k constant c) 65534 (leb-true _ _ refl))

main_methods_ok : (cs : List Constant) (first : Bool) → is_ok (methods_of cs (main_methods first)) ≡ true
main_methods_ok cs false = no_methods_ok cs
main_methods_ok cs true = methods_ok cs (method true (codes "main") (makes 0 ++ returns ∷ [])) [] (method_ok cs true (codes "main") (makes 0 ++ returns ∷ []) (main_code cs)) (no_methods_ok cs)

shape_ok : (first making : Bool) (name super : List ℕ) (k constant c : ℕ) → is_ok (class_of (shape first making name super k constant c)) ≡ true
shape_ok first making name super k constant c =
    let listed = shape first making name super k constant c in
    let cs = constants_of listed in
    class_ok listed (shape_few first making name super k constant c)
    (methods_ok cs (method true (codes "s") (returns ∷ [])) (method false (codes "m") (m_body making k constant c) ∷ main_methods first) (method_ok cs true (codes "s") (returns ∷ []) (returns_code cs))
    (methods_ok cs (method false (codes "m") (m_body making k constant c)) (main_methods first) (method_ok cs false (codes "m") (m_body making k constant c) (m_code cs making k constant c))
    (main_methods_ok cs first)))

pub generated_ok : (size i x y z : ℕ) → is_ok (class_of (generated_class size i x y z)) ≡ true
unfolding generated_class
generated_ok size i x y z = shape_ok (i == 0) (nat_lt i (size - 1)) (class_name i) (super_of i x) (i + 1 + y % (size - i - 1)) (z % 2) (z % size)

pub class_at_ok : (size i s : ℕ) → is_ok (class_of (class_at size i s)) ≡ true
unfolding class_at
class_at_ok size i s = generated_ok size i (number_of (next_state s)) (number_of (next_state (next_state s))) (number_of (next_state (next_state (next_state s))))

pub object_ok : is_ok (class_of object_class) ≡ true
unfolding object_class
object_ok =
    let cs = constants_of object_class in
    class_ok object_class (le-leb _ _ (few object_class 65534 (leb-true _ _ refl)))
    (methods_ok cs (method false constructor_name (returns ∷ [])) [] (method_ok cs false constructor_name (returns ∷ []) (returns_code cs)) (no_methods_ok cs))

-- ---- one class after another

pub program_begins : (seed size : ℕ) (one : ClassInfo) (front : List ClassInfo) → class_of object_class ≡ Ok one → front ≡ one ∷ [] → with_front front (classes_of (generated_from size 0 (size - 0) seed)) ≡ classes_of (generated seed size)
unfolding generated classes_of with_front
program_begins seed size one front made is =
    let rest = generated_from size 0 size seed in
    let all : size - 0 ≡ size = omega arith in
    ap (λ (n : ℕ). with_front front (classes_of (generated_from size 0 n seed))) all ∙ ap (λ (fs : List ClassInfo). with_front fs (classes_of rest)) is
    ∙ go (classes_of rest) ∙ sym (ap (λ (r : Result ClassInfo ℕ). first_then r (classes_of rest)) made)
  where
    go : (r : Result (List ClassInfo) ℕ) → with_front (one ∷ []) r ≡ first_then (Ok one) r
    go (Ok xs) = refl
    go (Err line) = refl

pub program_next : (size i s : ℕ) (one : ClassInfo) (front new : List ClassInfo) (total : Result (List ClassInfo) ℕ) → i < size → class_of (class_at size i s) ≡ Ok one
    → with_front front (classes_of (generated_from size i (size - i) s)) ≡ total → new ≡ front ++ one ∷ [] → with_front new (classes_of (generated_from size (i + 1) (size - (i + 1)) (state_behind s))) ≡ total
unfolding generated_from classes_of
program_next size i s one front new total lt made so_far grown =
    let rest = classes_of (generated_from size (i + 1) (size - (i + 1)) (state_behind s)) in
    let n : size - i ≡ suc (size - (i + 1)) = omega arith in
    ap (λ (xs : List ClassInfo). with_front xs rest) grown ∙ sym (one_more front one rest) ∙ sym (ap (λ (r : Result ClassInfo ℕ). with_front front (first_then r rest)) made)
    ∙ sym (ap (λ (k : ℕ). with_front front (classes_of (generated_from size i k s))) n) ∙ so_far

pub program_done : (size i s : ℕ) (front : List ClassInfo) (total : Result (List ClassInfo) ℕ) → size ≤ i → with_front front (classes_of (generated_from size i (size - i) s)) ≡ total → total ≡ Ok front
unfolding generated_from classes_of with_front
program_done size i s front total le so_far =
    let n : size - i ≡ 0 = omega arith in
    sym so_far ∙ ap (λ (k : ℕ). with_front front (classes_of (generated_from size i k s))) n ∙ ap (λ (xs : List ClassInfo). Ok xs) (append-nil front)

pub ruleset program = (class_at_ok, object_ok, program_begins, program_next, program_done)
