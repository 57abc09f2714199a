-- Each generated class is spelled by some bytes.
use Rattle.std.proofs.Common.{◌≡◌, ℕ, zero, suc, ◌+◌, ◌-◌, ◌<◌, ◌≤◌, ◌^◌, ◌%◌, ◌==◌, Bool, true, false, not, ◌&&◌, if◌then◌else◌, nat_lt, List, [], ◌∷◌, length, All, Option, Some, None, Ok, refl, sym, ap, subst, ◌∙◌, arith, leb-true, mod-lt}
use Rattle.std.specs.Prelude.{codes}
use Rattle.std.specs.Int.{w16, w32}
use Rattle.std.specs.List.{AllByRecursion, flat_map}
use Rattle.std.specs.Str.{bytes_eq}
use Rattle.std.proofs.lemmas.Bool.{and_from, eqb-false, ltb-true}
use Rattle.std.proofs.lemmas.List.Elements.{All-from_recursion}
use Rattle.wf_names.specs.NameForm.{member_of}
use Rattle.wf_names.specs.Names.{object_name, constructor_name, is_class_name}
use Rattle.wf_grammar.specs.Writing.{HasSpelling, put_place, class_place, put_superclass, put_interfaces, put_classes, put_fields, put_members, put_class}
use Rattle.wf_data.specs.declared.class_info.ClassInfo.{ClassInfo}
use Rattle.wf_data.specs.declared.class_info.MethodInfo.{MethodInfo}
use Rattle.wf_grammar.proofs.WritableLaws.{class_writable}
use Rattle.wf_grammar.proofs.WritingLaws.{spelling_spells}
use Rattle.wf_grammar.proofs.Written.{Writable, writable_nothing, writable_number, writable_under, writable_then}
use Rattle.wf_listing.specs.declared.listing.Constant.{Constant}
use Rattle.wf_listing.specs.declared.listing.Constant.TheVariants as constant
use Rattle.wf_listing.specs.declared.listing.Listed.{Listed}
use Rattle.wf_listing.specs.declared.listing.ListedMethod.{ListedMethod}
use Rattle.wf_asm.specs.Constants.{parts_of, with_constants, place_of, uses_of, constants_of, pool_of}
use Rattle.wf_asm.specs.Building.{labels_on, onto, joined, signed_bytes, step_bytes, body_on, code_of, methods_of, class_with, class_of, classes_of}
use Rattle.wf_asm.specs.Generating.{returns, void_desc, method, class_name, super_of, class_listed, generated_class, object_class, class_at, state_behind, next_state, number_of, generated_from, generated, IsProgramOf}
use Rattle.wf_asm.proofs.GeneratedLaws.{m_body, main_methods}
use Rattle.wf_asm.proofs.HeldLaws.{IsHeld, all_held, class_found, place_small}
use Rattle.wf_asm.proofs.NameLaws.{class_made, parts, no_parts}
use Rattle.wf_asm.proofs.SpelledMembers.{all_fit, methods_fit}
use Rattle.wf_asm.proofs.SpelledNames.{name_has_room, is_name, has_room}
use Rattle.wf_asm.proofs.SpelledPool.{IsPoolText, HasRoom, IsFine, all_fine, pool_written}

-- ---- classes with methods alone

-- none for java/lang/Object, and one for every other class
abbrev fits_superclass : List ℕ → Option (List ℕ) → Bool
fits_superclass name None = bytes_eq name object_name
fits_superclass name (Some super) = not (bytes_eq name object_name)

-- A class that can be written: what it uses, which a pool has room for, and tests of its names and methods.
record IsWritable (name : List ℕ) (super : Option (List ℕ)) (ms : List ListedMethod) : Type 0 where
  used : List Constant
  uses : uses_of (class_listed name super ms) ≡ flat_map parts_of used
  room : AllByRecursion HasRoom used
  named : is_class_name name ≡ true
  below : fits_superclass name super ≡ true
  fits : (cs : List Constant) → all_fit used (methods_of cs ms) ≡ true

abbrev AreHeld : List Constant → List Constant → Type 0
AreHeld cs ds = AllByRecursion (IsHeld cs) ds

class_put : (cs : List Constant) (name : List ℕ) → length cs ≤ 65534 → IsHeld cs (constant.Class name) → IsHeld cs (constant.Text name) → Writable (put_place (class_place (pool_of cs) name))
class_put cs name few class text = class_writable (pool_of cs) name (place_of cs (constant.Class name)) (place_small cs (constant.Class name) few) (class_found cs name class text)

superclass_put : (cs : List Constant) (name : List ℕ) (super : Option (List ℕ)) (ms : List ListedMethod) (methods : List MethodInfo) → length cs ≤ 65534
    → AreHeld cs (uses_of (class_listed name super ms)) → fits_superclass name super ≡ true → Writable (put_superclass (class_with (class_listed name super ms) cs methods) super)
unfolding put_superclass class_with
superclass_put cs name None ms methods few held fits = writable_under (bytes_eq name object_name && true) (and_from _ _ fits refl) (writable_number w16 0 (omega arith))
superclass_put cs name (Some super) ms methods few held fits = writable_under (not (bytes_eq name object_name) && true) (and_from _ _ fits refl) (class_put cs super few held.1.1.0 held.1.1.1.0)

class_written : (cs : List Constant) (name : List ℕ) (super : Option (List ℕ)) (ms : List ListedMethod) (methods : List MethodInfo) → (w : IsWritable name super ms) → cs ≡ with_constants [] (flat_map parts_of w.used) → length cs ≤ 65534
    → methods_of cs ms ≡ Ok methods → Writable (put_class (class_with (class_listed name super ms) cs methods))
unfolding put_class put_classes put_members put_fields put_interfaces class_with
class_written cs name super ms methods w is few made =
    let ds = flat_map parts_of w.used in
    let held : AreHeld cs ds = subst (λ (es : List Constant). AreHeld es ds) (sym is) (all_held [] ds) in
    let uses : AreHeld cs (uses_of (class_listed name super ms)) = subst (λ (es : List Constant). AreHeld cs es) (sym w.uses) held in
    let pool = pool_written cs few (subst (λ (es : List Constant). AllByRecursion (IsFine es) es) (sym is) (all_fine w.used w.room)) in
    let fit = methods_fit cs w.used methods few held (sym (ap (all_fit w.used) made) ∙ w.fits cs) in
    let class = class_with (class_listed name super ms) cs methods in
    let classes : Writable (put_classes class) =
    writable_under (is_class_name name) w.named (writable_then (writable_number w16 0x0021 (omega arith)) (writable_then (class_put cs name few uses.0 uses.1.0) (
    writable_then (superclass_put cs name super ms methods few uses w.below) (writable_then (writable_number w16 0 (omega arith)) writable_nothing)))) in
    let members : Writable (put_members class) =
    writable_then (writable_number w16 0 (omega arith)) (writable_then writable_nothing (
    writable_then (writable_number w16 (length methods) (omega (arith, fit.small))) (writable_then fit.writable (writable_number w16 0 (omega arith))))) in
    writable_then (writable_number w32 0xCAFEBABE (omega arith)) (writable_then (writable_number w16 0 (omega arith)) (
    writable_then (writable_number w16 52 (omega arith)) (writable_then pool (writable_then classes members))))

constants_are : (c : Listed) → constants_of c ≡ with_constants [] (uses_of c)
unfolding constants_of
constants_are c = refl

class_spelled : (name : List ℕ) (super : Option (List ℕ)) (ms : List ListedMethod) (k : ClassInfo) → IsWritable name super ms → class_of (class_listed name super ms) ≡ Ok k → HasSpelling k
class_spelled name super ms k w h =
    let c = class_listed name super ms in
    let made = class_made c k h in
    let is : constants_of c ≡ with_constants [] (flat_map parts_of w.used) = constants_are c ∙ ap (with_constants []) w.uses in
    let one = class_written (constants_of c) name super ms made.methods w is (leb-true _ _ made.few) made.made in
    let all : Writable (put_class k) = subst (λ (x : ClassInfo). Writable (put_class x)) (sym made.is) one in
    let bytes = all.has [] in
    record { bytes = bytes.value; spelled = spelling_spells k bytes.value bytes.is }

-- ---- the generated classes

-- what a generated class uses, in the order of its lines: a method, the head of a method with a body and what
-- follows it, what makes an object, and where the program begins
abbrev method_of_class : ℕ → List ℕ → Constant
method_of_class i name = constant.Method (member_of (class_name i) name void_desc)

abbrev head_uses : List ℕ → List Constant → List Constant
head_uses name rest = constant.Text name ∷ constant.Text void_desc ∷ constant.Text (codes "Code") ∷ rest

abbrev makes_uses : Bool → ℕ → List Constant → List Constant
makes_uses b k rest = if b then constant.Class (class_name k) ∷ method_of_class 0 (codes "m") ∷ rest else rest

abbrev main_uses : Bool → List Constant
main_uses b = if b then head_uses (codes "main") (makes_uses true 0 []) else []

abbrev shape_uses : Bool → Bool → List ℕ → List ℕ → ℕ → ℕ → List Constant
shape_uses first making name super k c =
    constant.Class name ∷ constant.Class super ∷ head_uses (codes "s") (head_uses (codes "m") (makes_uses making k (method_of_class c (codes "s") ∷ main_uses first)))

abbrev shape_methods : Bool → Bool → ℕ → ℕ → ℕ → List ListedMethod
shape_methods first making k constant c = method true (codes "s") (returns ∷ []) ∷ method false (codes "m") (m_body making k constant c) ∷ main_methods first

shape_uses_are : (first making : Bool) (name super : List ℕ) (k constant c : ℕ) → uses_of (class_listed name (Some super) (shape_methods first making k constant c)) ≡ flat_map parts_of (shape_uses first making name super k c)
shape_uses_are true true name super k constant c = refl
shape_uses_are true false name super k constant c = refl
shape_uses_are false true name super k constant c = refl
shape_uses_are false false name super k constant c = refl

shape_fits : (first making : Bool) (name super : List ℕ) (k constant c : ℕ) (cs : List Constant) → all_fit (shape_uses first making name super k c) (methods_of cs (shape_methods first making k constant c)) ≡ true
unfolding methods_of code_of labels_on body_on step_bytes onto joined signed_bytes
shape_fits true true name super k constant c cs = refl
shape_fits true false name super k constant c cs = refl
shape_fits false true name super k constant c cs = refl
shape_fits false false name super k constant c cs = refl

object_fits : (cs : List Constant) → all_fit (constant.Class object_name ∷ head_uses constructor_name []) (methods_of cs (method false constructor_name (returns ∷ []) ∷ [])) ≡ true
unfolding methods_of code_of labels_on body_on step_bytes onto
object_fits cs = refl

-- ---- their constants have room

void_has_room : IsPoolText void_desc
void_has_room = has_room void_desc refl

head_room : (name : List ℕ) (rest : List Constant) → IsPoolText name → AllByRecursion HasRoom rest → AllByRecursion HasRoom (head_uses name rest)
head_room name rest one more = (one, (void_has_room, (has_room (codes "Code") refl, more)))

makes_room : (b : Bool) (k : ℕ) (rest : List Constant) → (b ≡ true → IsPoolText (class_name k)) → AllByRecursion HasRoom rest → AllByRecursion HasRoom (makes_uses b k rest)
makes_room true k rest made more = (made refl, ((name_has_room 0 (omega arith), has_room (codes "m") refl, void_has_room), more))
makes_room false k rest made more = more

main_room : (b : Bool) → AllByRecursion HasRoom (main_uses b)
main_room true = head_room (codes "main") (makes_uses true 0 []) (has_room (codes "main") refl) (makes_room true 0 [] (λ e. name_has_room 0 (omega arith)) tt)
main_room false = tt

shape_room : (first making : Bool) (name super : List ℕ) (k c : ℕ) → IsPoolText name → IsPoolText super → (making ≡ true → IsPoolText (class_name k)) → IsPoolText (class_name c) → AllByRecursion HasRoom (shape_uses first making name super k c)
shape_room first making name super k c one below made called =
    let calls = method_of_class c (codes "s") ∷ main_uses first in
    let rest : AllByRecursion HasRoom calls = ((called, has_room (codes "s") refl, void_has_room), main_room first) in (
      one,
      (
        below,
        head_room (codes "s") (head_uses (codes "m") (makes_uses making k calls)) (has_room (codes "s") refl) (
            head_room (codes "m") (makes_uses making k calls) (has_room (codes "m") refl) (makes_room making k calls made rest)),
      ),
    )

super_room : (i x : ℕ) → i < 2 ^ 32 → IsPoolText (super_of i x)
super_room i x fits = go (i == 0) refl
  where
    go : (b : Bool) → (i == 0) ≡ b → IsPoolText (if b then object_name else class_name (x % i))
    go true e = has_room object_name refl
    go false e =
        let some : i ≡ 0 → ⊥ = eqb-false i 0 e in
        let less : x % i < i = mod-lt x (omega arith) in
        name_has_room (x % i) (omega arith)

made_small : (size i y : ℕ) → i < size - 1 → size < 2 ^ 32 → i + 1 + y % (size - i - 1) < 2 ^ 32
made_small size i y lt fits =
    let less : y % (size - i - 1) < size - i - 1 = mod-lt y (omega arith) in
    omega arith

-- ---- each generated class

object_writable : IsWritable object_name None (method false constructor_name (returns ∷ []) ∷ [])
object_writable = record {
  used = constant.Class object_name ∷ head_uses constructor_name [];
  uses = refl;
  room = (has_room object_name refl, head_room constructor_name [] (has_room constructor_name refl) tt);
  named = refl;
  below = refl;
  fits = object_fits;
}

generated_writable : (size i x y z : ℕ) → i < size → size < 2 ^ 32 → IsWritable (class_name i) (Some (super_of i x)) (shape_methods (i == 0) (nat_lt i (size - 1)) (i + 1 + y % (size - i - 1)) (z % 2) (z % size))
generated_writable size i x y z lt fits =
    let first = i == 0 in
    let making = nat_lt i (size - 1) in
    let k = i + 1 + y % (size - i - 1) in
    let c = z % size in
    let called : z % size < size = mod-lt z (omega arith) in
    record {
      used = shape_uses first making (class_name i) (super_of i x) k c;
      uses = shape_uses_are first making (class_name i) (super_of i x) k (z % 2) c;
      room = shape_room first making (class_name i) (super_of i x) k c (name_has_room i (omega arith)) (super_room i x (omega arith)) (λ e. name_has_room k (made_small size i y (ltb-true i (size - 1) e) fits)) (name_has_room c (omega arith));
      named = is_name i (omega arith);
      below = refl;
      fits = λ cs. shape_fits first making (class_name i) (super_of i x) k (z % 2) c cs;
    }

object_spelled : (k : ClassInfo) → class_of object_class ≡ Ok k → HasSpelling k
unfolding object_class
object_spelled k h = class_spelled object_name None (method false constructor_name (returns ∷ []) ∷ []) k object_writable h

generated_spelled : (size i x y z : ℕ) (k : ClassInfo) → i < size → size < 2 ^ 32 → class_of (generated_class size i x y z) ≡ Ok k → HasSpelling k
unfolding generated_class
generated_spelled size i x y z k lt fits h = class_spelled (class_name i) (Some (super_of i x)) (shape_methods (i == 0) (nat_lt i (size - 1)) (i + 1 + y % (size - i - 1)) (z % 2) (z % size)) k (generated_writable size i x y z lt fits) h

class_at_spelled : (size i s : ℕ) (k : ClassInfo) → i < size → size < 2 ^ 32 → class_of (class_at size i s) ≡ Ok k → HasSpelling k
unfolding class_at
class_at_spelled size i s k lt fits h = generated_spelled size i (number_of (next_state s)) (number_of (next_state (next_state s))) (number_of (next_state (next_state (next_state s)))) k lt fits h

each_spelled : (size i left s : ℕ) (ks : List ClassInfo) → i + left ≤ size → size < 2 ^ 32 → classes_of (generated_from size i left s) ≡ Ok ks → AllByRecursion HasSpelling ks
unfolding generated_from
each_spelled size i zero s ks le fits h =
    let nil : ks ≡ [] = no_parts ks h in
    rw nil tt
each_spelled size i (suc left) s ks le fits h =
    let p = parts (class_at size i s) (generated_from size (i + 1) left (state_behind s)) ks h in
    rw p.is (class_at_spelled size i s p.first (omega arith) fits p.here, each_spelled size (i + 1) left (state_behind s) p.others (omega arith) fits p.behind)

pub all_spelled : (seed size : ℕ) (ks : List ClassInfo) → size < 2 ^ 32 → IsProgramOf seed size ks → All HasSpelling ks
unfolding generated
all_spelled seed size ks fits h =
    let p = parts object_class (generated_from size 0 size seed) ks h in
    All-from_recursion HasSpelling ks (rw p.is (object_spelled p.first p.here, each_spelled size 0 size seed p.others (omega arith) fits p.behind))
