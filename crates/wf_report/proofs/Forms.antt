-- The lines of the lists of a report: what they are printed as, and what they are read as.
use Rattle.std.proofs.Common.{◌≡◌, ℕ, ◌-◌, ◌^◌, ◌<◌, ◌≤◌, Bool, true, false, not, ◌&&◌, ◌||◌, cond, eqb, leb, List, [], ◌∷◌, ◌++◌, length, Option, Some, None, refl, sym, ap, subst, ◌∙◌, append_assoc, arith}
use Rattle.std.proofs.lemmas.Bool.{and_parts, leb-true, le-leb}
use Rattle.std.proofs.lemmas.Bool.Decides.{nat_tests}
use Rattle.std.proofs.lemmas.List.{append-nil}
use Rattle.std.proofs.lemmas.Option.{option_and_then_some, cond_some, same_Some}
use Rattle.std.proofs.lemmas.Slice.Eq.{bytes_eq-Decides}
use Rattle.std.specs.declared.cmp.Ordering.{Ordering}
use Rattle.std.specs.Cmp.{IsTotalOrder}
use Rattle.std.specs.Fmt.{decimal}
use Rattle.std.specs.List.{list_any}
use Rattle.std.specs.Prelude.{option_and_then}
use Rattle.std.specs.Str.{bytes_eq}
use Rattle.wf_base.specs.Bytes.{IsBytes}
use Rattle.wf_names.specs.declared.member.MemberName.{MemberName}
use Rattle.wf_names.specs.declared.world.LinkError.{LinkError}
use Rattle.wf_names.specs.declared.world.LinkError.TheVariants.{NoClassDefFound, NoSuchField, NoSuchMethod, IncompatibleClassChange, Instantiation}
use Rattle.wf_names.specs.declared.world.Unresolved.{Unresolved}
use Rattle.wf_names.specs.Names.{is_forbidden, are_parts, is_class_name, is_field_name, is_method_name}
use Rattle.wf_names.specs.NameForm.{escaped, member_text, name_of}
use Rattle.wf_names.specs.Words.{link_error_word}
use Rattle.wf_descriptor.specs.Descriptors.{is_field_descriptor, is_method_descriptor}
use Rattle.wf_lines.specs.Decimals.{natural_of, natural_in, at_most}
use Rattle.wf_lines.specs.Lines.{words_of, joined, is_word, are_words, is_line}
use Rattle.wf_lines.specs.Members.{◌>>=◌, member_said, member_words, IsPrintedName, IsPrintedMember}
use Rattle.wf_report.specs.Reading.{given, is_behind, last_of, entry, member_of_words, keyed, error_of, place_of_words, type_said, method_said, field_said, place_said, count_of_words, count_said}
use Rattle.wf_report.specs.Report.{unresolved_text}
use Rattle.wf_report.specs.Worlds.{is_type_name, is_method, is_field, is_place, name_cmp, member_cmp, place_cmp, IsMemberOfBytes, IsPlaceOfBytes}
use Rattle.wf_report.proofs.Orders.{name_total, member_total, place_total}

-- what the laws of names, members, decimals and words say
pub record Laws : Type 0 where
  pub name_read : (word name : List ℕ) → name_of word ≡ Some name → escaped name ≡ word
  pub name_written : (name : List ℕ) → IsBytes name → 0 < length name → name_of (escaped name) ≡ Some name
  pub name_word : (word name : List ℕ) → name_of word ≡ Some name → is_word word ≡ true
  pub member_read : (word desc : List ℕ) (m : MemberName) → member_said word desc ≡ Some m → member_words m ≡ word ∷ desc ∷ []
  pub members_are : (word desc : List ℕ) (m : MemberName) → member_said word desc ≡ Some m → are_words (word ∷ desc ∷ []) ≡ true
  pub member_written : (m : MemberName) (word desc : List ℕ) → IsPrintedMember m → member_words m ≡ word ∷ desc ∷ [] → member_said word desc ≡ Some m
  pub decimal_read : (word : List ℕ) (n : ℕ) → natural_of word ≡ Some n → n < 2 ^ 64 → decimal n ≡ word
  pub decimal_written : (n : ℕ) → n < 2 ^ 64 → natural_of (decimal n) ≡ Some n
  pub decimal_word : (word : List ℕ) (n : ℕ) → natural_of word ≡ Some n → is_word word ≡ true
  pub words_read : (text : List ℕ) → joined (words_of text) ≡ text
  pub words_written : (first : List ℕ) (rest : List (List ℕ)) → are_words (first ∷ rest) ≡ true → words_of (joined (first ∷ rest)) ≡ first ∷ rest
  pub words_line : (words : List (List ℕ)) → are_words words ≡ true → is_line (joined words) ≡ true

-- one list: which entries are allowed, how they are ordered, what is printed of one, and what a line says behind others
pub record Form {X : Type 0} (is : X → Bool) (cmp : X → X → Ordering) (text : X → List ℕ) (ok : X → Type 0) (said : List X → List ℕ → Option X) : Type 0 where
  pub total : IsTotalOrder cmp
  pub reads : (before : List X) (t : List ℕ) (x : X) → said before t ≡ Some x → (text x ≡ t) × (is x ≡ true) × (is_behind cmp (last_of before) x ≡ true)
  pub writes : (before : List X) (x : X) → ok x → is x ≡ true → is_behind cmp (last_of before) x ≡ true → said before (text x) ≡ Some x
  pub lines : (x : X) → ok x → is x ≡ true → is_line (text x) ≡ true

chained : {X Y P : Type 0} (f : X → Option Y) (o : Option X) (y : Y) → (o >>= f) ≡ Some y → ((x : X) → o ≡ Some x → f x ≡ Some y → P) → P
chained f None y h go = absurd cc
chained f (Some x) y h go = go x refl h

-- ---- an entry

given_some : {X : Type 0} (b : Bool) (x y : X) → given b x ≡ Some y → (b ≡ true) × (x ≡ y)
given_some true x y h = (refl, same_Some x y h)
given_some false x y h = absurd cc

entry_read : {X : Type 0} (is : X → Bool) (cmp : X → X → Ordering) (before : List X) (x y : X) → entry is cmp before x ≡ Some y → (x ≡ y) × (is y ≡ true) × (is_behind cmp (last_of before) y ≡ true)
entry_read {X} is cmp before x y h =
    chained (λ z. given (is_behind cmp (last_of before) z) z) (given (is x) x) y h (λ z e k.
    let a = given_some (is x) x z e in
    let b = given_some (is_behind cmp (last_of before) z) z y k in
    let P : X → Type 0 = λ w. is w ≡ true in
    let Q : X → Type 0 = λ w. is_behind cmp (last_of before) w ≡ true in
    (a.1 ∙ b.1, subst P (a.1 ∙ b.1) a.0, subst Q b.1 b.0))

entry_written : {X : Type 0} (is : X → Bool) (cmp : X → X → Ordering) (before : List X) (x : X) → is x ≡ true → is_behind cmp (last_of before) x ≡ true → entry is cmp before x ≡ Some x
entry_written {X} is cmp before x a b =
    ap (λ (v : Bool). given v x >>= λ y. given (is_behind cmp (last_of before) y) y) a ∙ ap (λ (v : Bool). given v x) b

-- ---- types

not_empty : (name : List ℕ) → is_type_name name ≡ true → 0 < length name
not_empty [] h = absurd cc
not_empty (b ∷ name) h = omega arith

pub type_form : Laws → Form is_type_name name_cmp escaped IsBytes type_said
type_form laws = record {
  total = name_total;
  reads = λ before t x h. chained (λ name. entry is_type_name name_cmp before name) (name_of t) x h (λ name e k.
      let r = entry_read is_type_name name_cmp before name x k in
      (ap escaped (sym r.0) ∙ laws.name_read t name e, r.1, r.2));
  writes = λ before x ok is behind.
      ap (λ (o : Option (List ℕ)). o >>= λ name. entry is_type_name name_cmp before name) (laws.name_written x ok (not_empty x is)) ∙ entry_written is_type_name name_cmp before x is behind;
  lines = λ x ok is.
      let word : is_word (escaped x) ≡ true = laws.name_word (escaped x) x (laws.name_written x ok (not_empty x is)) in
      let are : are_words (escaped x ∷ []) ≡ true = rw word refl in
      ap is_line (sym (append-nil (escaped x))) ∙ laws.words_line (escaped x ∷ []) are;
}

-- ---- members

member_joined : (m : MemberName) → joined (member_words m) ≡ member_text m
member_joined m = simp (append_assoc, append-nil)

no_dot : (begun : Bool) (name : List ℕ) → are_parts begun name ≡ true → list_any (λ b. eqb b 46) name ≡ false
no_dot begun [] h = refl
no_dot begun (b ∷ name) h = go (eqb b 47) refl (λ k. no_dot false name k) (λ k. no_dot true name k) h
  where
    go : (v : Bool) → eqb b 47 ≡ v → (are_parts false name ≡ true → list_any (λ x. eqb x 46) name ≡ false) → (are_parts true name ≡ true → list_any (λ x. eqb x 46) name ≡ false)
        → cond v (begun && are_parts false name) (not (is_forbidden b) && are_parts true name) ≡ true → (eqb b 46 || list_any (λ x. eqb x 46) name) ≡ false
    go true e part more k =
        let other : eqb b 46 ≡ false = grind (arith, nat_tests) in
        rw (other, part (and_parts begun (are_parts false name) k).1) refl
    go false e part more k =
        let parts = and_parts (not (is_forbidden b)) (are_parts true name) k in
        let other : eqb b 46 ≡ false = allowed (eqb b 46) (eqb b 59) (eqb b 91) parts.0 in
        rw (other, more parts.1) refl
      where
        allowed : (x y z : Bool) → not (x || y || z) ≡ true → x ≡ false
        allowed true true true h = absurd cc
        allowed true true false h = absurd cc
        allowed true false true h = absurd cc
        allowed true false false h = absurd cc
        allowed false y z h = refl

class_printed : (name : List ℕ) → IsBytes name → is_class_name name ≡ true → IsPrintedName name
class_printed [] bytes h = absurd cc
class_printed (b ∷ name) bytes h = record { bytes = bytes; some = omega arith }

method_name_printed : (name : List ℕ) → IsBytes name → is_method_name name ≡ true → IsPrintedName name
method_name_printed [] bytes h = absurd cc
method_name_printed (b ∷ name) bytes h = record { bytes = bytes; some = omega arith }

field_name_printed : (name : List ℕ) → IsBytes name → is_field_name name ≡ true → IsPrintedName name
field_name_printed [] bytes h = absurd cc
field_name_printed (b ∷ name) bytes h = record { bytes = bytes; some = omega arith }

method_desc_printed : (desc : List ℕ) → IsBytes desc → is_method_descriptor 255 desc ≡ true → IsPrintedName desc
method_desc_printed [] bytes h = absurd cc
method_desc_printed (b ∷ desc) bytes h = record { bytes = bytes; some = omega arith }

field_desc_printed : (desc : List ℕ) → IsBytes desc → is_field_descriptor desc ≡ true → IsPrintedName desc
field_desc_printed [] bytes h = absurd cc
field_desc_printed (b ∷ desc) bytes h = record { bytes = bytes; some = omega arith }

method_printed : (m : MemberName) → IsMemberOfBytes m → is_method m ≡ true → IsPrintedMember m
method_printed m ok h =
    let a = and_parts (is_class_name m.class) (is_method_name m.name && is_method_descriptor 255 m.desc) h in
    let b = and_parts (is_method_name m.name) (is_method_descriptor 255 m.desc) a.1 in
    record { class = class_printed m.class ok.class a.0; name = method_name_printed m.name ok.name b.0; desc = method_desc_printed m.desc ok.desc b.1; undotted = no_dot false m.class a.0 }

field_printed : (m : MemberName) → IsMemberOfBytes m → is_field m ≡ true → IsPrintedMember m
field_printed m ok h =
    let a = and_parts (is_class_name m.class) (is_field_name m.name && is_field_descriptor m.desc) h in
    let b = and_parts (is_field_name m.name) (is_field_descriptor m.desc) a.1 in
    record { class = class_printed m.class ok.class a.0; name = field_name_printed m.name ok.name b.0; desc = field_desc_printed m.desc ok.desc b.1; undotted = no_dot false m.class a.0 }

-- two words that are read as a member
words_member : Laws → (ws : List (List ℕ)) (m : MemberName) → member_of_words ws ≡ Some m → member_words m ≡ ws
words_member laws [] m h = absurd cc
words_member laws (w ∷ []) m h = absurd cc
words_member laws (w ∷ d ∷ []) m h = laws.member_read w d m h
words_member laws (w ∷ d ∷ v ∷ ws) m h = absurd cc

text_member : Laws → (t : List ℕ) (m : MemberName) → member_of_words (words_of t) ≡ Some m → member_text m ≡ t
text_member laws t m h = sym (member_joined m) ∙ ap joined (words_member laws (words_of t) m h) ∙ laws.words_read t

abbrev first_word : MemberName → List ℕ
first_word m = escaped m.class ++ 46 ∷ escaped m.name

written_said : Laws → (m : MemberName) → IsPrintedMember m → member_said (first_word m) (escaped m.desc) ≡ Some m
written_said laws m p = laws.member_written m (first_word m) (escaped m.desc) p refl

written_are : Laws → (m : MemberName) → IsPrintedMember m → are_words (member_words m) ≡ true
written_are laws m p = laws.members_are (first_word m) (escaped m.desc) m (written_said laws m p)

written_member : Laws → (m : MemberName) → IsPrintedMember m → member_of_words (words_of (member_text m)) ≡ Some m
written_member laws m p =
    ap (λ (t : List ℕ). member_of_words (words_of t)) (sym (member_joined m)) ∙ ap member_of_words (laws.words_written (first_word m) (escaped m.desc ∷ []) (written_are laws m p)) ∙ written_said laws m p

member_line : Laws → (m : MemberName) → IsPrintedMember m → is_line (member_text m) ≡ true
member_line laws m p = ap is_line (sym (member_joined m)) ∙ laws.words_line (member_words m) (written_are laws m p)

pub method_form : Laws → Form is_method member_cmp member_text IsMemberOfBytes method_said
method_form laws = record {
  total = member_total;
  reads = λ before t x h. chained (λ m. entry is_method member_cmp before m) (member_of_words (words_of t)) x h (λ m e k.
      let r = entry_read is_method member_cmp before m x k in
      (ap member_text (sym r.0) ∙ text_member laws t m e, r.1, r.2));
  writes = λ before x ok is behind.
      ap (λ (o : Option MemberName). o >>= λ m. entry is_method member_cmp before m) (written_member laws x (method_printed x ok is)) ∙ entry_written is_method member_cmp before x is behind;
  lines = λ x ok is. member_line laws x (method_printed x ok is);
}

pub field_form : Laws → Form is_field member_cmp member_text IsMemberOfBytes field_said
field_form laws = record {
  total = member_total;
  reads = λ before t x h. chained (λ m. entry is_field member_cmp before m) (member_of_words (words_of t)) x h (λ m e k.
      let r = entry_read is_field member_cmp before m x k in
      (ap member_text (sym r.0) ∙ text_member laws t m e, r.1, r.2));
  writes = λ before x ok is behind.
      ap (λ (o : Option MemberName). o >>= λ m. entry is_field member_cmp before m) (written_member laws x (field_printed x ok is)) ∙ entry_written is_field member_cmp before x is behind;
  lines = λ x ok is. member_line laws x (field_printed x ok is);
}

-- ---- numbers

pub natural_read : Laws → (most : ℕ) (word : List ℕ) (n : ℕ) → most < 2 ^ 64 → natural_in most word ≡ Some n → (decimal n ≡ word) × (n ≤ most)
natural_read laws most word n lt h =
    option_and_then_some (at_most most) (natural_of word) n h (λ m e k.
    let p = cond_some (leb m most) m n k in
    let le : m ≤ most = leb-true m most p.0 in
    let same : n ≤ most = omega (arith, p.1) in
    (ap decimal (sym p.1) ∙ laws.decimal_read word m e (omega arith), same))

pub natural_written : Laws → (most n : ℕ) → most < 2 ^ 64 → n ≤ most → natural_in most (decimal n) ≡ Some n
natural_written laws most n lt le =
    ap (λ (o : Option ℕ). option_and_then (at_most most) o) (laws.decimal_written n (omega arith)) ∙ ap (λ (v : Bool). cond v (Some n) None) (le-leb n most le)

-- ---- errors

by_key : {P : Type 0} (word key : List ℕ) (x : LinkError) (o : Option LinkError) (e : LinkError) → keyed word key x o ≡ Some e → (word ≡ key → x ≡ e → P) → (o ≡ Some e → P) → P
by_key {P} word key x o e h when other = go (bytes_eq word key) refl h
  where
    go : (t : Bool) → bytes_eq word key ≡ t → cond t (Some x) o ≡ Some e → P
    go true s k = when ((bytes_eq-Decides word key).0 s) (same_Some x e k)
    go false s k = other k

error_read : (word : List ℕ) (e : LinkError) → error_of word ≡ Some e → link_error_word e ≡ word
error_read word e h =
    by_key word (link_error_word NoClassDefFound) NoClassDefFound _ e h (λ w s. ap link_error_word (sym s) ∙ sym w)
    (λ h2. by_key word (link_error_word NoSuchField) NoSuchField _ e h2 (λ w s. ap link_error_word (sym s) ∙ sym w)
    (λ h3. by_key word (link_error_word NoSuchMethod) NoSuchMethod _ e h3 (λ w s. ap link_error_word (sym s) ∙ sym w)
    (λ h4. by_key word (link_error_word IncompatibleClassChange) IncompatibleClassChange _ e h4 (λ w s. ap link_error_word (sym s) ∙ sym w)
    (λ h5. by_key word (link_error_word Instantiation) Instantiation None e h5 (λ w s. ap link_error_word (sym s) ∙ sym w) (λ h6. absurd cc)))))

error_written : (e : LinkError) → error_of (link_error_word e) ≡ Some e
error_written NoClassDefFound = refl
error_written NoSuchField = refl
error_written NoSuchMethod = refl
error_written IncompatibleClassChange = refl
error_written Instantiation = refl

error_word : (e : LinkError) → is_word (link_error_word e) ≡ true
error_word NoClassDefFound = refl
error_word NoSuchField = refl
error_word NoSuchMethod = refl
error_word IncompatibleClassChange = refl
error_word Instantiation = refl

-- ---- places

abbrev place_words : Unresolved → List (List ℕ)
place_words u = first_word u.method ∷ escaped u.method.desc ∷ decimal u.pc ∷ link_error_word u.error ∷ []

place_joined : (u : Unresolved) → joined (place_words u) ≡ unresolved_text u
place_joined u = simp (append_assoc, append-nil)

words_place : Laws → (ws : List (List ℕ)) (u : Unresolved) → place_of_words ws ≡ Some u → place_words u ≡ ws
words_place laws [] u h = absurd cc
words_place laws (w ∷ []) u h = absurd cc
words_place laws (w ∷ d ∷ []) u h = absurd cc
words_place laws (w ∷ d ∷ n ∷ []) u h = absurd cc
words_place laws (w ∷ d ∷ n ∷ e ∷ []) u h =
    chained (λ m. natural_in 65535 n >>= λ k. error_of e >>= λ x. Some (record { method = m; pc = k; error = x })) (member_said w d) u h
    (λ m a h2. chained (λ k. error_of e >>= λ x. Some (record { method = m; pc = k; error = x })) (natural_in 65535 n) u h2
    (λ k b h3. chained (λ x. Some (record { method = m; pc = k; error = x })) (error_of e) u h3
    (λ x c h4.
    let is : record { method = m; pc = k; error = x } ≡ u = same_Some (record { method = m; pc = k; error = x }) u h4 in
    ap place_words (sym is)
    ∙ ap (λ (ws : List (List ℕ)). ws ++ decimal k ∷ link_error_word x ∷ []) (laws.member_read w d m a)
    ∙ ap (λ (t : List ℕ). w ∷ d ∷ t ∷ link_error_word x ∷ []) (natural_read laws 65535 n k (omega arith) b).0
    ∙ ap (λ (t : List ℕ). w ∷ d ∷ n ∷ t ∷ []) (error_read e x c))))
words_place laws (w ∷ d ∷ n ∷ e ∷ v ∷ ws) u h = absurd cc

place_are : Laws → (u : Unresolved) → IsPrintedMember u.method → u.pc < 2 ^ 16 → are_words (place_words u) ≡ true
place_are laws u p lt =
    let m = written_are laws u.method p in
    let a = and_parts (is_word (first_word u.method)) (are_words (escaped u.method.desc ∷ [])) m in
    let b = and_parts (is_word (escaped u.method.desc)) true a.1 in
    let c : is_word (decimal u.pc) ≡ true = laws.decimal_word (decimal u.pc) u.pc (laws.decimal_written u.pc (omega arith)) in
    rw (a.0, b.0, c, error_word u.error) refl

place_again : Laws → (u : Unresolved) → IsPrintedMember u.method → u.pc < 2 ^ 16 → place_of_words (place_words u) ≡ Some u
place_again laws u p lt =
    ap (λ (o : Option MemberName). o >>= λ m. natural_in 65535 (decimal u.pc) >>= λ n. error_of (link_error_word u.error) >>= λ e. Some (record { method = m; pc = n; error = e })) (written_said laws u.method p)
    ∙ ap (λ (o : Option ℕ). o >>= λ n. error_of (link_error_word u.error) >>= λ e. Some (record { method = u.method; pc = n; error = e })) (natural_written laws 65535 u.pc (omega arith) (omega arith))
    ∙ ap (λ (o : Option LinkError). o >>= λ e. Some (record { method = u.method; pc = u.pc; error = e })) (error_written u.error)

written_place : Laws → (u : Unresolved) → IsPrintedMember u.method → u.pc < 2 ^ 16 → place_of_words (words_of (unresolved_text u)) ≡ Some u
written_place laws u p lt =
    ap (λ (t : List ℕ). place_of_words (words_of t)) (sym (place_joined u))
    ∙ ap place_of_words (laws.words_written (first_word u.method) (escaped u.method.desc ∷ decimal u.pc ∷ link_error_word u.error ∷ []) (place_are laws u p lt)) ∙ place_again laws u p lt

pub place_form : Laws → Form is_place place_cmp unresolved_text IsPlaceOfBytes place_said
place_form laws = record {
  total = place_total;
  reads = λ before t x h. chained (λ u. entry is_place place_cmp before u) (place_of_words (words_of t)) x h (λ u e k.
      let r = entry_read is_place place_cmp before u x k in
      (ap unresolved_text (sym r.0) ∙ sym (place_joined u) ∙ ap joined (words_place laws (words_of t) u e) ∙ laws.words_read t, r.1, r.2));
  writes = λ before x ok is behind.
      ap (λ (o : Option Unresolved). o >>= λ u. entry is_place place_cmp before u) (written_place laws x (method_printed x.method ok.method is) ok.pc) ∙ entry_written is_place place_cmp before x is behind;
  lines = λ x ok is. ap is_line (sym (place_joined x)) ∙ laws.words_line (place_words x) (place_are laws x (method_printed x.method ok.method is) ok.pc);
}

-- ---- counts

count_joined : (title : List ℕ) (n : ℕ) → joined (title ∷ decimal n ∷ []) ≡ title ++ 32 ∷ [] ++ decimal n
count_joined title n = simp (append_assoc, append-nil)

words_count : Laws → (title : List ℕ) (ws : List (List ℕ)) (n : ℕ) → count_of_words title ws ≡ Some n → title ∷ decimal n ∷ [] ≡ ws
words_count laws title [] n h = absurd cc
words_count laws title (w ∷ []) n h = absurd cc
words_count laws title (w ∷ c ∷ []) n h = go (bytes_eq w title) refl h
  where
    go : (v : Bool) → bytes_eq w title ≡ v → cond v (natural_in (2 ^ 64 - 1) c) None ≡ Some n → title ∷ decimal n ∷ [] ≡ w ∷ c ∷ []
    go true e k =
        ap (λ (t : List ℕ). t ∷ decimal n ∷ []) (sym ((bytes_eq-Decides w title).0 e)) ∙ ap (λ (t : List ℕ). w ∷ t ∷ []) (natural_read laws (2 ^ 64 - 1) c n (omega arith) k).0
    go false e k = absurd cc
words_count laws title (w ∷ c ∷ v ∷ ws) n h = absurd cc

pub count_read : Laws → (title t : List ℕ) (n : ℕ) → count_said title t ≡ Some n → title ++ 32 ∷ [] ++ decimal n ≡ t
count_read laws title t n h = sym (count_joined title n) ∙ ap joined (words_count laws title (words_of t) n h) ∙ laws.words_read t

count_are : Laws → (title : List ℕ) (n : ℕ) → is_word title ≡ true → n < 2 ^ 64 → are_words (title ∷ decimal n ∷ []) ≡ true
count_are laws title n is lt =
    let c : is_word (decimal n) ≡ true = laws.decimal_word (decimal n) n (laws.decimal_written n lt) in
    rw (is, c) refl

pub count_written : Laws → (title : List ℕ) (n : ℕ) → is_word title ≡ true → n < 2 ^ 64 → count_said title (title ++ 32 ∷ [] ++ decimal n) ≡ Some n
count_written laws title n is lt =
    let same : bytes_eq title title ≡ true = (bytes_eq-Decides title title).1 refl in
    ap (λ (t : List ℕ). count_of_words title (words_of t)) (sym (count_joined title n)) ∙ ap (count_of_words title) (laws.words_written title (decimal n ∷ []) (count_are laws title n is lt))
    ∙ ap (λ (v : Bool). cond v (natural_in (2 ^ 64 - 1) (decimal n)) None) same ∙ natural_written laws (2 ^ 64 - 1) n (omega arith) (omega arith)

pub count_line_is : Laws → (title : List ℕ) (n : ℕ) → is_word title ≡ true → n < 2 ^ 64 → is_line (title ++ 32 ∷ [] ++ decimal n) ≡ true
count_line_is laws title n is lt = ap is_line (sym (count_joined title n)) ∙ laws.words_line (title ∷ decimal n ∷ []) (count_are laws title n is lt)
