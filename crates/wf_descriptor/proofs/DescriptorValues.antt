-- Bytes spell at most one descriptor, and that is the one that is read.
use Rattle.std.proofs.Common.{◌≡◌, ℕ, suc, ◌+◌, ◌<◌, Bool, true, false, not, ◌&&◌, cond, eqb, List, [], ◌∷◌, ◌++◌, length, take, drop, get_or, Option, Some, refl, sym, ap, subst, ◌∙◌, append_assoc, arith}
use Rattle.std.proofs.lemmas.Bool.{eqb-true}
use Rattle.std.proofs.lemmas.List.{append-nil, take_at, drop_at, length-append}
use Rattle.wf_descriptor.specs.declared.descriptor.FieldDesc.{FieldDesc}
use Rattle.wf_descriptor.specs.declared.descriptor.MethodDesc.{MethodDesc}
use Rattle.wf_names.specs.Names.{is_forbidden, are_parts}
use Rattle.wf_descriptor.specs.Descriptors.{is_letter, FieldType, letter, class_type, array, IsFieldDesc, SpellsField, texts_of, AreFieldDescs, no_more, one_more, SpellsReturn, nothing, a_value, SpellsParams, SpellsMethod, IsMethodDescriptor, name_length, type_length, field_desc, return_desc, ReadUpTo}
use Rattle.wf_descriptor.proofs.DescriptorLaws.{branch, both_true, not_true, no_semicolon, begins_type, type_not, type_some, desc_is, spelled_is}

-- ---- lengths

name_length_is : (begun : Bool) (name rest : List ℕ) → are_parts begun name ≡ true → name_length (name ++ 59 ∷ rest) ≡ 1 + length name
name_length_is begun [] rest named = refl
name_length_is begun (c ∷ name) rest named =
    branch (λ (t : Bool). t ≡ true) (eqb c 47) (begun && are_parts false name) (not (is_forbidden c) && are_parts true name) (slash (name_length_is false name rest)) (other (name_length_is true name rest)) named
  where
    slash : (are_parts false name ≡ true → name_length (name ++ 59 ∷ rest) ≡ 1 + length name) → eqb c 47 ≡ true → (begun && are_parts false name) ≡ true → name_length (c ∷ (name ++ 59 ∷ rest)) ≡ 1 + length (c ∷ name)
    slash again is both =
        let two = both_true begun (are_parts false name) both in
        let tail = again two.1 in
        let first : c ≡ 47 = eqb-true _ _ is in
        rw first (omega (arith, tail))

    other : (are_parts true name ≡ true → name_length (name ++ 59 ∷ rest) ≡ 1 + length name) → eqb c 47 ≡ false → (not (is_forbidden c) && are_parts true name) ≡ true → name_length (c ∷ (name ++ 59 ∷ rest)) ≡ 1 + length (c ∷ name)
    other again no_slash both =
        let two = both_true (not (is_forbidden c)) (are_parts true name) both in
        let tail = again two.1 in
        let no_end : eqb c 59 ≡ false = no_semicolon c (not_true (is_forbidden c) two.0) in
        rw no_end (omega (arith, tail))

not_letter : (k c : ℕ) → is_letter k ≡ false → is_letter c ≡ true → (v : Bool) → eqb c k ≡ v → v ≡ false
not_letter k c none some true e =
    let same : c ≡ k = eqb-true _ _ e in
    let other : is_letter k ≡ true = rw (← same) some in
    absurd (cc)
not_letter k c none some false e = refl

type_length_is : (dims : ℕ) (text rest : List ℕ) → FieldType dims text → type_length (text ++ rest) ≡ length text
type_length_is dims _ rest (letter _ c is) =
    let no_array : eqb c 91 ≡ false = not_letter 91 c refl is (eqb c 91) refl in
    let no_class : eqb c 76 ≡ false = not_letter 76 c refl is (eqb c 76) refl in
    rw (no_array, no_class) refl
type_length_is dims _ rest (class_type _ name named) =
    let inner : name_length ((name ++ 59 ∷ []) ++ rest) ≡ 1 + length name = ap name_length (append_assoc name (59 ∷ []) rest) ∙ name_length_is false name rest named in
    let long : length (name ++ 59 ∷ []) ≡ length name + 1 = length-append name (59 ∷ []) in
    omega (arith, inner, long)
type_length_is dims _ rest (array less inner t) = let h = type_length_is less inner rest t in omega (arith, h)

head_not : (k dims : ℕ) (text : List ℕ) → begins_type k ≡ false → FieldType dims text → eqb (get_or text 0 0) k ≡ false
head_not k dims _ none (letter _ c is) = type_not k dims c [] (c ∷ []) [] none refl (letter dims c is)
head_not k dims _ none (class_type _ name named) = type_not k dims 76 (name ++ 59 ∷ []) (76 ∷ (name ++ 59 ∷ [])) [] none (sym (append-nil _)) (class_type dims name named)
head_not k _ _ none (array less inner t) = type_not k (suc less) 91 inner (91 ∷ inner) [] none (sym (append-nil _)) (array less inner t)

-- ---- one descriptor

-- two types at the front of the same bytes
front_type : (text rest bytes : List ℕ) → FieldType 255 text → bytes ≡ text ++ rest → (text ≡ take (type_length bytes) bytes) × (rest ≡ drop (type_length bytes) bytes)
front_type text rest bytes t e =
    let long : type_length (text ++ rest) ≡ length text = type_length_is 255 text rest t in
    rw (e, long) (sym (take_at text rest (length text) refl), sym (drop_at text rest (length text) refl))

return_is : (bytes : List ℕ) (value : Option FieldDesc) → SpellsReturn bytes value → value ≡ return_desc bytes
return_is _ _ nothing = refl
return_is bytes _ (a_value _ d s) =
    let typed : eqb (get_or bytes 0 0) 86 ≡ false = rw s.text (head_not 86 255 d.text refl s.is_desc.spelled) in
    rw typed (ap (λ x. Some x) (spelled_is bytes d s))

first_same : (p q : FieldDesc) (x y : List ℕ) → IsFieldDesc p → IsFieldDesc q → p.text ++ x ≡ q.text ++ y → (p ≡ q) × (x ≡ y)
first_same p q x y is_p is_q e =
    let of_p = front_type p.text x (p.text ++ x) is_p.spelled refl in
    let of_q = front_type q.text y (p.text ++ x) is_q.spelled e in
    let same : p.text ≡ q.text = of_p.0 ∙ sym of_q.0 in
    (desc_is p is_p ∙ ap field_desc same ∙ sym (desc_is q is_q), of_p.1 ∙ sym of_q.1)

-- a closing parenthesis begins no type
no_type : (p : FieldDesc) (x rest : List ℕ) → IsFieldDesc p → 41 ∷ x ≡ p.text ++ rest → ⊥
no_type p x rest is e = let no_match = type_not 41 255 41 x p.text rest refl e is.spelled in cc

params_same : (ps qs : List FieldDesc) (x y : List ℕ) → AreFieldDescs ps → AreFieldDescs qs → texts_of ps ++ 41 ∷ x ≡ texts_of qs ++ 41 ∷ y → (ps ≡ qs) × (x ≡ y)
params_same _ _ x y no_more no_more e = let same : x ≡ y = cc in (refl, same)
params_same _ _ x y no_more (one_more q qs is_q more_q) e = absurd (no_type q x (texts_of qs ++ 41 ∷ y) is_q (e ∙ append_assoc q.text (texts_of qs) (41 ∷ y)))
params_same _ _ x y (one_more p ps is_p more_p) no_more e = absurd (no_type p y (texts_of ps ++ 41 ∷ x) is_p (sym e ∙ append_assoc p.text (texts_of ps) (41 ∷ x)))
params_same _ _ x y (one_more p ps is_p more_p) (one_more q qs is_q more_q) e =
    let first = first_same p q (texts_of ps ++ 41 ∷ x) (texts_of qs ++ 41 ∷ y) is_p is_q (sym (append_assoc p.text (texts_of ps) (41 ∷ x)) ∙ e ∙ append_assoc q.text (texts_of qs) (41 ∷ y)) in
    let rest = params_same ps qs x y more_p more_q first.1 in
    (ap (λ d. d ∷ ps) first.0 ∙ ap (λ ds. q ∷ ds) rest.0, rest.1)

abbrev method_of : List FieldDesc → Option FieldDesc → MethodDesc
method_of params ret = record { params = params; ret = ret }

pub one_field : (bytes : List ℕ) (a b : FieldDesc) → SpellsField bytes a → SpellsField bytes b → a ≡ b
one_field bytes a b one two = spelled_is bytes a one ∙ sym (spelled_is bytes b two)

pub one_method : (m n : ℕ) (bytes : List ℕ) (a b : MethodDesc) → SpellsMethod m bytes a → SpellsMethod n bytes b → a ≡ b
one_method m n bytes a b one two =
    let p = one.params in
    let q = two.params in
    let opened : 40 ∷ one.behind ≡ 40 ∷ two.behind = sym one.parts ∙ two.parts in
    let behind : one.behind ≡ two.behind = ap (drop 1) opened in
    let same = params_same a.params b.params p.ret q.ret p.each q.each (sym p.parts ∙ behind ∙ q.parts) in
    let ret : a.ret ≡ b.ret = return_is p.ret a.ret p.returned ∙ ap return_desc same.1 ∙ sym (return_is q.ret b.ret q.returned) in
    ap (λ ps. method_of ps a.ret) same.0 ∙ ap (method_of b.params) ret

-- ---- reading

behind_open : (bytes behind : List ℕ) → bytes ≡ 40 ∷ behind → behind ≡ drop 1 bytes
behind_open bytes behind e = sym (ap (drop 1) e)

pub read_begin : (slots : ℕ) (bytes : List ℕ) → IsMethodDescriptor slots bytes → ReadUpTo slots (drop 1 bytes) [] (drop 1 bytes)
read_begin slots bytes d =
    subst (λ (x : List ℕ). ReadUpTo slots x [] x) (behind_open bytes d.spelled.behind d.spelled.parts)
    (record { desc = d.desc; spelled = d.spelled.params; coming = d.desc.params; all = refl; each = d.spelled.params.each; left = d.spelled.params.parts })

pub read_some : (slots : ℕ) (bytes : List ℕ) (found : List FieldDesc) (rest : List ℕ) → ReadUpTo slots bytes found rest → 0 < length rest
read_some slots bytes found rest r =
    let long : length rest ≡ length (texts_of r.coming) + length (41 ∷ r.spelled.ret) = ap length r.left ∙ length-append (texts_of r.coming) (41 ∷ r.spelled.ret) in
    omega (arith, long)

pub type_length_some : (bytes : List ℕ) → 0 < length bytes → 0 < type_length bytes
type_length_some [] some = absurd (omega (arith, some))
type_length_some (b ∷ bytes) some =
    branch (λ (n : ℕ). n ≡ type_length (b ∷ bytes)) (eqb b 91) (1 + type_length bytes) (cond (eqb b 76) (1 + name_length bytes) 1) (λ _ e. omega (arith, e))
    (λ _. branch (λ (n : ℕ). n ≡ type_length (b ∷ bytes)) (eqb b 76) (1 + name_length bytes) 1 (λ _ e. omega (arith, e)) (λ _ e. omega (arith, e))) refl

pub read_next : (slots : ℕ) (bytes : List ℕ) (found : List FieldDesc) (rest : List ℕ) → ReadUpTo slots bytes found rest → (get_or rest 0 0 ≡ 41 → ⊥)
    → ReadUpTo slots bytes (found ++ field_desc (take (type_length rest) rest) ∷ []) (drop (type_length rest) rest)
read_next slots bytes found rest r open_yet = next r.coming r.all r.each r.left
  where
    next : (coming : List FieldDesc) → r.desc.params ≡ found ++ coming → AreFieldDescs coming → rest ≡ texts_of coming ++ 41 ∷ r.spelled.ret
        → ReadUpTo slots bytes (found ++ field_desc (take (type_length rest) rest) ∷ []) (drop (type_length rest) rest)
    next _ all no_more left = absurd (open_yet (ap (λ (x : List ℕ). get_or x 0 0) left))
    next _ all (one_more p ps is_p more) left =
        let front = front_type p.text (texts_of ps ++ 41 ∷ r.spelled.ret) rest is_p.spelled (left ∙ append_assoc p.text (texts_of ps) (41 ∷ r.spelled.ret)) in
        let same : p ≡ field_desc (take (type_length rest) rest) = desc_is p is_p ∙ ap field_desc front.0 in
        record {
          desc = r.desc;
          spelled = r.spelled;
          coming = ps;
          all = all ∙ ap (λ d. found ++ d ∷ ps) same ∙ sym (append_assoc found (field_desc (take (type_length rest) rest) ∷ []) ps);
          each = more;
          left = sym front.1;
        }

not_closed : (p : FieldDesc) (rest more : List ℕ) → IsFieldDesc p → rest ≡ p.text ++ more → get_or rest 0 0 ≡ 41 → ⊥
not_closed p [] more is e closed = cc
not_closed p (b ∷ rest) more is e closed = no_type p rest more is (ap (λ (c : ℕ). c ∷ rest) (sym closed) ∙ e)

return_some : (bytes : List ℕ) (value : Option FieldDesc) → SpellsReturn bytes value → 0 < length bytes
return_some [] value s = absurd (none [] value refl s)
  where
    none : (bytes : List ℕ) (value : Option FieldDesc) → bytes ≡ [] → SpellsReturn bytes value → ⊥
    none _ _ e nothing = cc
    none _ _ e (a_value bytes d s) = type_some 255 d.text [] (sym e ∙ s.text ∙ sym (append-nil d.text)) s.is_desc.spelled
return_some (b ∷ bytes) value s = omega arith

-- what was read at the closing parenthesis
read_end : (slots : ℕ) (bytes : List ℕ) (found : List FieldDesc) (rest : List ℕ) → IsMethodDescriptor slots bytes → ReadUpTo slots (drop 1 bytes) found rest → get_or rest 0 0 ≡ 41
    → (0 < length (drop 1 rest)) × SpellsMethod slots bytes (method_of found (return_desc (drop 1 rest)))
read_end slots bytes found rest d r closed = last r.coming r.all r.each r.left
  where
    front : bytes ≡ 40 ∷ drop 1 bytes
    front = d.spelled.parts ∙ ap (λ (x : List ℕ). 40 ∷ x) (behind_open bytes d.spelled.behind d.spelled.parts)

    last : (coming : List FieldDesc) → r.desc.params ≡ found ++ coming → AreFieldDescs coming → rest ≡ texts_of coming ++ 41 ∷ r.spelled.ret
        → (0 < length (drop 1 rest)) × SpellsMethod slots bytes (method_of found (return_desc (drop 1 rest)))
    last _ all no_more left =
        let ret : r.spelled.ret ≡ drop 1 rest = sym (ap (drop 1) left) in
        let value : r.desc.ret ≡ return_desc (drop 1 rest) = return_is r.spelled.ret r.desc.ret r.spelled.returned ∙ ap return_desc ret in
        let whole : r.desc ≡ method_of found (return_desc (drop 1 rest)) = ap (λ ps. method_of ps r.desc.ret) (all ∙ append-nil found) ∙ ap (method_of found) value in
        let params : SpellsParams slots (drop 1 bytes) (method_of found (return_desc (drop 1 rest))) = subst (λ (m : MethodDesc). SpellsParams slots (drop 1 bytes) m) whole r.spelled in
        (subst (λ (x : List ℕ). 0 < length x) ret (return_some r.spelled.ret r.desc.ret r.spelled.returned), record { behind = drop 1 bytes; parts = front; params = params })
    last _ all (one_more p ps is_p more) left = absurd (not_closed p rest (texts_of ps ++ 41 ∷ r.spelled.ret) is_p (left ∙ append_assoc p.text (texts_of ps) (41 ∷ r.spelled.ret)) closed)

-- the same in parts
pub opened : (slots : ℕ) (bytes : List ℕ) → IsMethodDescriptor slots bytes → 0 < length bytes
opened slots bytes d = omega (arith, ap length d.spelled.parts)

pub closed_some : (slots : ℕ) (bytes : List ℕ) (found : List FieldDesc) (rest : List ℕ) → IsMethodDescriptor slots bytes → ReadUpTo slots (drop 1 bytes) found rest → get_or rest 0 0 ≡ 41 → 0 < length (drop 1 rest)
closed_some slots bytes found rest d r at_end = (read_end slots bytes found rest d r at_end).0

pub closed : (slots : ℕ) (bytes : List ℕ) (found : List FieldDesc) (rest : List ℕ) (ret : Option FieldDesc) → IsMethodDescriptor slots bytes → ReadUpTo slots (drop 1 bytes) found rest → get_or rest 0 0 ≡ 41
    → ret ≡ return_desc (drop 1 rest) → SpellsMethod slots bytes (method_of found ret)
closed slots bytes found rest ret d r at_end is = rw is ((read_end slots bytes found rest d r at_end).1)
