-- The tests of descriptors are the grammar, and where they stop is the longest beginning.
use Rattle.std.proofs.Common.{◌≡◌, ℕ, suc, ◌+◌, ◌-◌, ◌<◌, ◌≤◌, Bool, true, false, not, ◌&&◌, ◌||◌, cond, eqb, ltb, List, [], ◌∷◌, ◌++◌, take, get_or, Option, Some, None, refl, sym, ap, subst, ◌∙◌, append_assoc, arith}
use Rattle.std.proofs.lemmas.Bool.{eqb-true, ltb-true, lt-ltb, ltb-false, le-ltb}
use Rattle.std.proofs.lemmas.List.{append-nil}
use Rattle.std.specs.Option.{option_map_or}
use Rattle.std.specs.Prelude.{◌↔◌, is_none}
use Rattle.wf_base.specs.declared.kind.Kind.{Kind}
use Rattle.wf_descriptor.specs.declared.descriptor.FieldDesc.{FieldDesc}
use Rattle.wf_descriptor.specs.declared.descriptor.MethodDesc.{MethodDesc}
use Rattle.wf_descriptor.specs.declared.machine.Follow.{Follow}
use Rattle.wf_descriptor.specs.declared.machine.Follow.TheVariants.{Params, End}
use Rattle.wf_descriptor.specs.declared.machine.State.{State}
use Rattle.wf_descriptor.specs.declared.machine.State.TheVariants.{Open, Behind, Return, Start, Name}
use Rattle.wf_names.specs.Names.{is_forbidden, are_parts}
use Rattle.wf_descriptor.specs.Descriptors.{is_letter, FieldType, letter, class_type, array, kind_of, IsFieldDesc, SpellsField, slots_of, slots_taken, texts_of, AreFieldDescs, no_more, one_more, SpellsReturn, nothing, a_value, SpellsParams, IsFieldDescriptor, IsMethodDescriptor, LongestBeginning, type_step, name_step, param_step, step, stop, field_desc}

-- ---- what ends the bytes in each state

record IsReturn (bytes : List ℕ) : Type 0 where
  value : Option FieldDesc
  spelled : SpellsReturn bytes value

record ParamsIn (slots : ℕ) (bytes : List ℕ) : Type 0 where
  desc : MethodDesc
  spelled : SpellsParams slots bytes desc

abbrev Follows : Follow → List ℕ → Type 0
Follows (Params slots) bytes = ParamsIn slots bytes
Follows End bytes = bytes ≡ []

record TypeThen (dims : ℕ) (f : Follow) (bytes : List ℕ) : Type 0 where
  text : List ℕ
  rest : List ℕ
  parts : bytes ≡ text ++ rest
  is_type : FieldType dims text
  behind : Follows f rest

record NameThen (begun : Bool) (f : Follow) (bytes : List ℕ) : Type 0 where
  name : List ℕ
  rest : List ℕ
  parts : bytes ≡ name ++ 59 ∷ rest
  named : are_parts begun name ≡ true
  behind : Follows f rest

abbrev Ends : State → List ℕ → Type 0
Ends (Open slots) bytes = IsMethodDescriptor slots bytes
Ends (Behind f) bytes = Follows f bytes
Ends Return bytes = IsReturn bytes
Ends (Start dims f) bytes = TypeThen dims f bytes
Ends (Name begun f) bytes = NameThen begun f bytes

-- the same behind a step
abbrev After : Option State → List ℕ → Type 0
After None bytes = ⊥
After (Some s) bytes = Ends s bytes

-- ---- tests

pub branch : {A C : Type 0} (P : A → Type 0) (v : Bool) (x y : A) → (v ≡ true → P x → C) → (v ≡ false → P y → C) → P (cond v x y) → C
branch P true x y on_true on_false h = on_true refl h
branch P false x y on_true on_false h = on_false refl h

into_true : {A : Type 0} (P : A → Type 0) (v : Bool) (x y : A) → v ≡ true → P x → P (cond v x y)
into_true P v x y e h = rw e h

into_false : {A : Type 0} (P : A → Type 0) (v : Bool) (x y : A) → v ≡ false → P y → P (cond v x y)
into_false P v x y e h = rw e h

-- a byte by its test
byte_is : (b k : ℕ) → eqb b k ≡ true → b ≡ k
byte_is b k e = eqb-true _ _ e

pub both_true : (x y : Bool) → (x && y) ≡ true → (x ≡ true) × (y ≡ true)
both_true true y e = (refl, e)
both_true false y e = absurd cc

pub not_true : (x : Bool) → not x ≡ true → x ≡ false
not_true true e = absurd cc
not_true false e = refl

pub no_semicolon : (c : ℕ) → is_forbidden c ≡ false → eqb c 59 ≡ false
no_semicolon c fine = or_false (eqb c 46) (eqb c 59) (eqb c 91) fine
  where
    or_false : (x y z : Bool) → (x || y || z) ≡ false → y ≡ false
    or_false true y z e = absurd cc
    or_false false true z e = absurd cc
    or_false false false z e = refl

-- ---- names of classes

name_back : (begun : Bool) (f : Follow) (b : ℕ) (bytes : List ℕ) → After (name_step begun f b) bytes → NameThen begun f (b ∷ bytes)
name_back begun f b bytes =
    branch P (eqb b 47) _ _ (slash begun) (λ no_slash. branch P (eqb b 59) _ _ (semicolon begun) (λ no_end. branch P (is_forbidden b) _ _ (λ bad h. absurd h) (other no_slash)))
  where
    P : Option State → Type 0
    P o = After o bytes

    slash : (begun : Bool) → eqb b 47 ≡ true → After (cond begun (Some (Name false f)) None) bytes → NameThen begun f (b ∷ bytes)
    slash true is n = record { name = b ∷ n.name; rest = n.rest; parts = ap (λ (t : List ℕ). b ∷ t) n.parts; named = rw is n.named; behind = n.behind }
    slash false is n = absurd n

    semicolon : (begun : Bool) → eqb b 59 ≡ true → After (cond begun (Some (Behind f)) None) bytes → NameThen begun f (b ∷ bytes)
    semicolon true is h = record { name = []; rest = bytes; parts = ap (λ (c : ℕ). c ∷ bytes) (byte_is b 59 is); named = refl; behind = h }
    semicolon false is h = absurd h

    other : eqb b 47 ≡ false → is_forbidden b ≡ false → NameThen true f bytes → NameThen begun f (b ∷ bytes)
    other no_slash fine n = record { name = b ∷ n.name; rest = n.rest; parts = ap (λ (t : List ℕ). b ∷ t) n.parts; named = rw (no_slash, fine) n.named; behind = n.behind }

name_as : (begun : Bool) (f : Follow) (bytes name rest : List ℕ) → bytes ≡ name ++ 59 ∷ rest → are_parts begun name ≡ true → Follows f rest → NameThen begun f bytes
name_as begun f bytes name rest same named h = record { name = name; rest = rest; parts = same; named = named; behind = h }

name_into : (begun : Bool) (f : Follow) (c : ℕ) (bytes name rest : List ℕ) → bytes ≡ name ++ 59 ∷ rest → are_parts begun (c ∷ name) ≡ true → Follows f rest → After (name_step begun f c) bytes
name_into begun f c bytes name rest same named h =
    branch (λ (t : Bool). t ≡ true) (eqb c 47) (begun && are_parts false name) (not (is_forbidden c) && are_parts true name) slash other named
  where
    P : Option State → Type 0
    P o = After o bytes

    slash : eqb c 47 ≡ true → (begun && are_parts false name) ≡ true → After (name_step begun f c) bytes
    slash is both =
        let two = both_true begun (are_parts false name) both in
        rw (is, two.0) (name_as false f bytes name rest same two.1 h)

    other : eqb c 47 ≡ false → (not (is_forbidden c) && are_parts true name) ≡ true → After (name_step begun f c) bytes
    other no_slash both =
        let two = both_true (not (is_forbidden c)) (are_parts true name) both in
        let fine : is_forbidden c ≡ false = not_true (is_forbidden c) two.0 in
        let no_end : eqb c 59 ≡ false = no_semicolon c fine in
        rw (no_slash, fine, no_end) (name_as true f bytes name rest same two.1 h)

name_on : (begun : Bool) (f : Follow) (b : ℕ) (bytes name rest : List ℕ) → b ∷ bytes ≡ name ++ 59 ∷ rest → are_parts begun name ≡ true → Follows f rest → After (name_step begun f b) bytes
name_on begun f b bytes [] rest e named h =
    let is : b ≡ 59 = cc in
    let same : bytes ≡ rest = cc in
    rw (is, named, same) h
name_on begun f b bytes (c ∷ name) rest e named h =
    let is : b ≡ c = cc in
    let same : bytes ≡ name ++ 59 ∷ rest = cc in
    rw is (name_into begun f c bytes name rest same named h)

-- ---- types

type_back : (dims : ℕ) (f : Follow) (b : ℕ) (bytes : List ℕ) → After (type_step dims f b) bytes → TypeThen dims f (b ∷ bytes)
type_back dims f b bytes =
    branch P (is_letter b) _ _ one_letter (λ _. branch P (eqb b 76) _ _ class (λ _. branch P (eqb b 91 && ltb 0 dims) _ _ in_array (λ _ h. absurd h)))
  where
    P : Option State → Type 0
    P o = After o bytes

    one_letter : is_letter b ≡ true → Follows f bytes → TypeThen dims f (b ∷ bytes)
    one_letter is h = record { text = b ∷ []; rest = bytes; parts = refl; is_type = letter dims b is; behind = h }

    class : eqb b 76 ≡ true → NameThen false f bytes → TypeThen dims f (b ∷ bytes)
    class is n = record {
      text = 76 ∷ (n.name ++ 59 ∷ []);
      rest = n.rest;
      parts = let first : b ≡ 76 = byte_is b 76 is in rw (first, n.parts) (ap (λ (t : List ℕ). 76 ∷ t) (sym (append_assoc n.name (59 ∷ []) n.rest)));
      is_type = class_type dims n.name n.named;
      behind = n.behind;
    }

    in_array : (eqb b 91 && ltb 0 dims) ≡ true → TypeThen (dims - 1) f bytes → TypeThen dims f (b ∷ bytes)
    in_array both t =
        let two = both_true (eqb b 91) (ltb 0 dims) both in
        let first : b ≡ 91 = byte_is b 91 two.0 in
        let some : 0 < dims = ltb-true _ _ two.1 in
        let same : suc (dims - 1) ≡ dims = omega arith in
        record {
          text = 91 ∷ t.text;
          rest = t.rest;
          parts = rw (first, t.parts) refl;
          is_type = subst (λ (n : ℕ). FieldType n (91 ∷ t.text)) same (array (dims - 1) t.text t.is_type);
          behind = t.behind;
        }

type_as : (dims : ℕ) (f : Follow) (bytes text rest : List ℕ) → bytes ≡ text ++ rest → FieldType dims text → Follows f rest → TypeThen dims f bytes
type_as dims f bytes text rest same t h = record { text = text; rest = rest; parts = same; is_type = t; behind = h }

type_on : (dims : ℕ) (f : Follow) (b : ℕ) (bytes text rest : List ℕ) → b ∷ bytes ≡ text ++ rest → FieldType dims text → Follows f rest → After (type_step dims f b) bytes
type_on dims f b bytes text rest e (letter _ c is) h =
    let first : b ≡ c = cc in
    let same : bytes ≡ rest = cc in
    rw (first, is, same) h
type_on dims f b bytes text rest e (class_type _ name named) h =
    let first : b ≡ 76 = cc in
    let same : bytes ≡ (name ++ 59 ∷ []) ++ rest = cc in
    rw first (name_as false f bytes name rest (same ∙ append_assoc name (59 ∷ []) rest) named h)
type_on dims f b bytes text rest e (array less inner t) h =
    let first : b ≡ 91 = cc in
    let same : bytes ≡ inner ++ rest = cc in
    let one : suc less - 1 ≡ less = omega arith in
    let some : ltb 0 (suc less) ≡ true = lt-ltb _ _ (omega arith) in
    rw first (into_true (λ (o : Option State). After o bytes) (ltb 0 (suc less)) (Some (Start (suc less - 1) f)) None some (rw one (type_as less f bytes inner rest same t h)))

-- the first byte of a type
abbrev pub begins_type : ℕ → Bool
begins_type b = is_letter b || eqb b 76 || eqb b 91

type_begins : (dims b : ℕ) (bytes text rest : List ℕ) → b ∷ bytes ≡ text ++ rest → FieldType dims text → begins_type b ≡ true
type_begins dims b bytes text rest e (letter _ c is) = let first : b ≡ c = cc in rw (first, is) refl
type_begins dims b bytes text rest e (class_type _ name named) = let first : b ≡ 76 = cc in rw first refl
type_begins dims b bytes text rest e (array less inner t) = let first : b ≡ 91 = cc in rw first refl

not_both : (k b : ℕ) → begins_type k ≡ false → begins_type b ≡ true → (v : Bool) → eqb b k ≡ v → v ≡ false
not_both k b none some true e =
    let same : b ≡ k = byte_is b k e in
    let other : begins_type k ≡ true = rw (← same) some in
    absurd (cc)
not_both k b none some false e = refl

-- a type does not begin with another byte
pub type_not : (k dims b : ℕ) (bytes text rest : List ℕ) → begins_type k ≡ false → b ∷ bytes ≡ text ++ rest → FieldType dims text → eqb b k ≡ false
type_not k dims b bytes text rest none e t = not_both k b none (type_begins dims b bytes text rest e t) (eqb b k) refl

pub type_first : (dims b : ℕ) (bytes text rest : List ℕ) → b ∷ bytes ≡ text ++ rest → FieldType dims text → get_or text 0 0 ≡ b
type_first dims b bytes text rest e (letter _ c is) = cc
type_first dims b bytes text rest e (class_type _ name named) = cc
type_first dims b bytes text rest e (array less inner t) = cc

pub type_some : (dims : ℕ) (text rest : List ℕ) → [] ≡ text ++ rest → FieldType dims text → ⊥
type_some dims text rest e (letter _ c is) = cc
type_some dims text rest e (class_type _ name named) = cc
type_some dims text rest e (array less inner t) = cc

desc_of : (text : List ℕ) → FieldType 255 text → IsFieldDesc (field_desc text)
desc_of text t = record { spelled = t; kind = refl }

-- ---- results

return_back : (b : ℕ) (bytes : List ℕ) → After (step Return b) bytes → IsReturn (b ∷ bytes)
return_back b bytes = branch (λ (o : Option State). After o bytes) (eqb b 86) (Some (Behind End)) (type_step 255 End b) void (λ _ h. typed (type_back 255 End b bytes h))
  where
    void : eqb b 86 ≡ true → bytes ≡ [] → IsReturn (b ∷ bytes)
    void is none = let first : b ≡ 86 = byte_is b 86 is in rw (first, none) (record { value = None; spelled = nothing })

    typed : TypeThen 255 End (b ∷ bytes) → IsReturn (b ∷ bytes)
    typed t =
        let whole : b ∷ bytes ≡ t.text = t.parts ∙ ap (λ (r : List ℕ). t.text ++ r) t.behind ∙ append-nil t.text in
        record { value = Some (field_desc t.text); spelled = a_value (b ∷ bytes) (field_desc t.text) (record { text = whole; is_desc = desc_of t.text t.is_type }) }

return_on : (b : ℕ) (bytes ret : List ℕ) (value : Option FieldDesc) → b ∷ bytes ≡ ret → SpellsReturn ret value → After (step Return b) bytes
return_on b bytes ret value e nothing =
    let first : b ≡ 86 = cc in
    let none : bytes ≡ [] = cc in
    rw (first, none) refl
return_on b bytes ret value e (a_value _ d s) =
    let whole : b ∷ bytes ≡ d.text ++ [] = e ∙ s.text ∙ sym (append-nil d.text) in
    into_false (λ (o : Option State). After o bytes) (eqb b 86) (Some (Behind End)) (type_step 255 End b)
    (type_not 86 255 b bytes d.text [] refl whole s.is_desc.spelled) (type_on 255 End b bytes d.text [] whole s.is_desc.spelled refl)

-- ---- parameters

params_back : (slots b : ℕ) (bytes : List ℕ) → After (param_step slots b) bytes → ParamsIn slots (b ∷ bytes)
params_back slots b bytes =
    branch P (eqb b 41) _ _ close (λ _. branch P (ltb slots (slots_of (kind_of b))) _ _ (λ _ h. absurd h) (λ enough h. typed enough (type_back 255 (Params (slots - slots_of (kind_of b))) b bytes h)))
  where
    P : Option State → Type 0
    P o = After o bytes

    close : eqb b 41 ≡ true → IsReturn bytes → ParamsIn slots (b ∷ bytes)
    close is r = record {
      desc = record { params = []; ret = r.value };
      spelled = record { ret = bytes; parts = ap (λ (c : ℕ). c ∷ bytes) (byte_is b 41 is); each = no_more; fits = omega arith; returned = r.spelled };
    }

    typed : ltb slots (slots_of (kind_of b)) ≡ false → TypeThen 255 (Params (slots - slots_of (kind_of b))) (b ∷ bytes) → ParamsIn slots (b ∷ bytes)
    typed enough t =
        let more : ParamsIn (slots - slots_of (kind_of b)) t.rest = t.behind in
        let fits : slots_of (kind_of b) ≤ slots = ltb-false _ _ enough in
        let first : get_or t.text 0 0 ≡ b = type_first 255 b bytes t.text t.rest t.parts t.is_type in
        let rest_fits : slots_taken more.desc.params ≤ slots - slots_of (kind_of b) = more.spelled.fits in
        let all_fits : slots_of (kind_of b) + slots_taken more.desc.params ≤ slots = omega arith in
        record {
          desc = record { params = field_desc t.text ∷ more.desc.params; ret = more.desc.ret };
          spelled = record {
            ret = more.spelled.ret;
            parts = t.parts ∙ ap (λ (r : List ℕ). t.text ++ r) more.spelled.parts ∙ sym (append_assoc t.text (texts_of more.desc.params) (41 ∷ more.spelled.ret));
            each = one_more (field_desc t.text) more.desc.params (desc_of t.text t.is_type) more.spelled.each;
            fits = subst (λ (c : ℕ). slots_of (kind_of c) + slots_taken more.desc.params ≤ slots) (sym first) all_fits;
            returned = more.spelled.returned;
          };
        }

params_on : (slots b : ℕ) (bytes ret : List ℕ) (params : List FieldDesc) (value : Option FieldDesc) → b ∷ bytes ≡ texts_of params ++ 41 ∷ ret → AreFieldDescs params
    → slots_taken params ≤ slots → SpellsReturn ret value → After (param_step slots b) bytes
params_on slots b bytes ret _ value e no_more fits returned =
    let first : b ≡ 41 = cc in
    let same : bytes ≡ ret = cc in
    rw (first, same) (record { value = value; spelled = returned })
params_on slots b bytes ret _ value e (one_more p ps desc more) fits returned =
    let parts : b ∷ bytes ≡ p.text ++ (texts_of ps ++ 41 ∷ ret) = e ∙ append_assoc p.text (texts_of ps) (41 ∷ ret) in
    let no_close : eqb b 41 ≡ false = type_not 41 255 b bytes p.text _ refl parts desc.spelled in
    let kind : p.kind ≡ kind_of b = desc.kind ∙ ap kind_of (type_first 255 b bytes p.text _ parts desc.spelled) in
    let taken : slots_of (kind_of b) + slots_taken ps ≤ slots = subst (λ k. slots_of k + slots_taken ps ≤ slots) kind fits in
    let enough : ltb slots (slots_of (kind_of b)) ≡ false = le-ltb _ _ (omega arith) in
    let rest_fits : slots_taken ps ≤ slots - slots_of (kind_of b) = omega arith in
    let behind : ParamsIn (slots - slots_of (kind_of b)) (texts_of ps ++ 41 ∷ ret) = record { desc = record { params = ps; ret = value }; spelled = record { ret = ret; parts = refl; each = more; fits = rest_fits; returned = returned } } in
    rw (no_close, enough) (type_on 255 (Params (slots - slots_of (kind_of b))) b bytes p.text _ parts desc.spelled behind)

-- ---- the machine

-- what is behind a step and what is in front of it
backs : (s : State) (b : ℕ) (bytes : List ℕ) → After (step s b) bytes → Ends s (b ∷ bytes)
backs (Open slots) b bytes = branch (λ (o : Option State). After o bytes) (eqb b 40) (Some (Behind (Params slots))) None opened (λ _ h. absurd h)
  where
    opened : eqb b 40 ≡ true → ParamsIn slots bytes → IsMethodDescriptor slots (b ∷ bytes)
    opened is p = record { desc = p.desc; spelled = record { behind = bytes; parts = ap (λ (c : ℕ). c ∷ bytes) (byte_is b 40 is); params = p.spelled } }
backs (Behind (Params slots)) b bytes = params_back slots b bytes
backs (Behind End) b bytes = λ h. absurd h
backs Return b bytes = return_back b bytes
backs (Start dims f) b bytes = type_back dims f b bytes
backs (Name begun f) b bytes = name_back begun f b bytes

steps : (s : State) (b : ℕ) (bytes : List ℕ) → Ends s (b ∷ bytes) → After (step s b) bytes
steps (Open slots) b bytes d = opened d.spelled.behind d.spelled.parts d.spelled.params
  where
    opened : (behind : List ℕ) → b ∷ bytes ≡ 40 ∷ behind → SpellsParams slots behind d.desc → After (step (Open slots) b) bytes
    opened behind e p =
        let first : b ≡ 40 = cc in
        let same : bytes ≡ behind = cc in
        rw (first, same) (record { desc = d.desc; spelled = p })
steps (Behind (Params slots)) b bytes p = params_on slots b bytes p.spelled.ret p.desc.params p.desc.ret p.spelled.parts p.spelled.each p.spelled.fits p.spelled.returned
steps (Behind End) b bytes e = cc
steps Return b bytes r = return_on b bytes (b ∷ bytes) r.value refl r.spelled
steps (Start dims f) b bytes t = type_on dims f b bytes t.text t.rest t.parts t.is_type t.behind
steps (Name begun f) b bytes n = name_on begun f b bytes n.name n.rest n.parts n.named n.behind

-- each state has an end
record HasEnd (s : State) : Type 0 where
  end : List ℕ
  ends : Ends s end

behind_end : (f : Follow) → HasEnd (Behind f)
behind_end (Params slots) = record { end = 41 ∷ 86 ∷ []; ends = backs (Behind (Params slots)) 41 (86 ∷ []) (backs Return 86 [] refl) }
behind_end End = record { end = []; ends = refl }

has_end : (s : State) → HasEnd s
has_end (Open slots) = let e = behind_end (Params slots) in record { end = 40 ∷ e.end; ends = backs (Open slots) 40 e.end e.ends }
has_end (Behind f) = behind_end f
has_end Return = record { end = 86 ∷ []; ends = backs Return 86 [] refl }
has_end (Start dims f) = let e = behind_end f in record { end = 66 ∷ e.end; ends = backs (Start dims f) 66 e.end e.ends }
has_end (Name true f) = let e = behind_end f in record { end = 59 ∷ e.end; ends = backs (Name true f) 59 e.end e.ends }
has_end (Name false f) = let e = behind_end f in record { end = 65 ∷ 59 ∷ e.end; ends = backs (Name false f) 65 (59 ∷ e.end) (backs (Name true f) 59 e.end e.ends) }

-- no bytes are the end of one state only
nil_none : (s : State) (at k : ℕ) → stop s at [] ≡ Some k → Ends s [] → ⊥
nil_none (Open slots) at k e d = let h = d.spelled.parts in cc
nil_none (Behind (Params slots)) at k e p = params_some p.desc.params p.spelled.parts p.spelled.each
  where
    params_some : (params : List FieldDesc) → [] ≡ texts_of params ++ 41 ∷ p.spelled.ret → AreFieldDescs params → ⊥
    params_some _ e no_more = cc
    params_some _ e (one_more q qs desc more) = type_some 255 q.text _ (e ∙ append_assoc q.text (texts_of qs) (41 ∷ p.spelled.ret)) desc.spelled
nil_none (Behind End) at k e h = cc
nil_none Return at k e r = return_some r.value r.spelled
  where
    return_some : (value : Option FieldDesc) → SpellsReturn [] value → ⊥
    return_some _ s = some [] _ refl s
      where
        some : (bytes : List ℕ) (value : Option FieldDesc) → bytes ≡ [] → SpellsReturn bytes value → ⊥
        some _ _ e nothing = cc
        some _ _ e (a_value bytes d s) = type_some 255 d.text [] (sym e ∙ s.text ∙ sym (append-nil d.text)) s.is_desc.spelled
nil_none (Start dims f) at k e t = type_some dims t.text t.rest t.parts t.is_type
nil_none (Name begun f) at k e n = name_some n.name n.parts
  where
    name_some : (name : List ℕ) → [] ≡ name ++ 59 ∷ n.rest → ⊥
    name_some [] e = cc
    name_some (c ∷ name) e = cc

nil_ends : (s : State) (at : ℕ) → stop s at [] ≡ None → Ends s []
nil_ends (Open slots) at e = absurd cc
nil_ends (Behind (Params slots)) at e = absurd cc
nil_ends (Behind End) at e = refl
nil_ends Return at e = absurd cc
nil_ends (Start dims f) at e = absurd cc
nil_ends (Name begun f) at e = absurd cc

-- the state that comes next, and how its reading goes on
abbrev goes : ℕ → List ℕ → Option State → Option ℕ
goes at bytes o = option_map_or (λ t. stop t (at + 1) bytes) o (Some at)

-- what passes is a descriptor
passed : (s : State) (at : ℕ) (bytes : List ℕ) → stop s at bytes ≡ None → Ends s bytes
passed s at [] e = nil_ends s at e
passed s at (b ∷ bytes) e = backs s b bytes (next (step s b) e (λ t h. passed t (at + 1) bytes h))
  where
    next : (o : Option State) → goes at bytes o ≡ None → ((t : State) → stop t (at + 1) bytes ≡ None → Ends t bytes) → After o bytes
    next None e again = absurd cc
    next (Some t) e again = again t e

nil_stop : (s : State) (at : ℕ) → Ends s [] → stop s at [] ≡ None
nil_stop s at h = by_fault (stop s at []) refl
  where
    by_fault : (o : Option ℕ) → stop s at [] ≡ o → stop s at [] ≡ None
    by_fault None e = e
    by_fault (Some k) e = absurd (nil_none s at k e h)

-- a descriptor passes
passes : (s : State) (at : ℕ) (bytes : List ℕ) → Ends s bytes → stop s at bytes ≡ None
passes s at [] h = nil_stop s at h
passes s at (b ∷ bytes) h = next (step s b) (steps s b bytes h) (λ t g. passes t (at + 1) bytes g)
  where
    next : (o : Option State) → After o bytes → ((t : State) → Ends t bytes → stop t (at + 1) bytes ≡ None) → goes at bytes o ≡ None
    next None h again = absurd h
    next (Some t) h again = again t h

-- where bytes stop, counted from here
record Stops (s : State) (at : ℕ) (bytes : List ℕ) (k : ℕ) : Type 0 where
  count : ℕ
  is : k ≡ at + count
  longest : LongestBeginning (Ends s) bytes count

some_is : (x y : ℕ) → Some x ≡ Some y → x ≡ y
some_is x y e = cc

nil_stops : (s : State) (at k : ℕ) → stop s at [] ≡ Some k → Stops s at [] k
nil_stops s at k e =
    let way = has_end s in
    record { count = 0; is = at_end s e; longest = record { within = omega arith; rest = way.end; begins = way.ends; longer = λ more lt _. absurd (omega (arith, lt)); none = nil_none s at k e } }
  where
    at_end : (s : State) → stop s at [] ≡ Some k → k ≡ at + 0
    at_end (Open slots) e = let same = some_is at k e in omega arith
    at_end (Behind (Params slots)) e = let same = some_is at k e in omega arith
    at_end (Behind End) e = absurd cc
    at_end Return e = let same = some_is at k e in omega arith
    at_end (Start dims f) e = let same = some_is at k e in omega arith
    at_end (Name begun f) e = let same = some_is at k e in omega arith

stuck : (s : State) (at k b : ℕ) (bytes : List ℕ) → step s b ≡ None → k ≡ at → Stops s at (b ∷ bytes) k
stuck s at k b bytes none same =
    let way = has_end s in
    record {
      count = 0;
      is = omega arith;
      longest = record { within = omega arith; rest = way.end; begins = way.ends; longer = λ more _ h. never (take 0 bytes ++ more) h; none = never bytes };
    }
  where
    never : (more : List ℕ) → Ends s (b ∷ more) → ⊥
    never more h = rw none at (steps s b more h)

stops : (s : State) (at : ℕ) (bytes : List ℕ) (k : ℕ) → stop s at bytes ≡ Some k → Stops s at bytes k
stops s at [] k e = nil_stops s at k e
stops s at (b ∷ bytes) k e = next (step s b) refl e (λ t h. stops t (at + 1) bytes k h)
  where
    next : (o : Option State) → step s b ≡ o → goes at bytes o ≡ Some k → ((t : State) → stop t (at + 1) bytes ≡ Some k → Stops t (at + 1) bytes k) → Stops s at (b ∷ bytes) k
    next None is e again = stuck s at k b bytes is (sym (some_is at k e))
    next (Some t) is e again =
        let tail = again t e in
        let long = tail.longest in
        record {
          count = suc tail.count;
          is = let h = tail.is in omega arith;
          longest = record {
            within = let h = long.within in omega arith;
            rest = long.rest;
            begins = backs s b (take tail.count bytes ++ long.rest) (rw is long.begins);
            longer = λ more lt h.
                let same : suc tail.count + 1 ≡ suc (tail.count + 1) = omega arith in
                let one : Ends s (b ∷ (take (tail.count + 1) bytes ++ more)) = subst (λ (n : ℕ). Ends s (take n (b ∷ bytes) ++ more)) same h in
                long.longer more (omega (arith, lt)) (rw is at (steps s b (take (tail.count + 1) bytes ++ more) one));
            none = λ h. long.none (rw is at (steps s b bytes h));
          };
        }

-- ---- the laws

field_ends : (bytes : List ℕ) → Ends (Start 255 End) bytes → IsFieldDescriptor bytes
field_ends bytes t =
    record { desc = field_desc t.text; spelled = record { text = t.parts ∙ ap (λ (r : List ℕ). t.text ++ r) t.behind ∙ append-nil t.text; is_desc = desc_of t.text t.is_type } }

ends_field : (bytes : List ℕ) → IsFieldDescriptor bytes → Ends (Start 255 End) bytes
ends_field bytes d = record { text = d.desc.text; rest = []; parts = d.spelled.text ∙ sym (append-nil d.desc.text); is_type = d.spelled.is_desc.spelled; behind = refl }

pub field_fault : (bytes : List ℕ) (at : ℕ) → stop (Start 255 End) 0 bytes ≡ Some at → LongestBeginning IsFieldDescriptor bytes at
field_fault bytes at e =
    let s = stops (Start 255 End) 0 bytes at e in
    let same : s.count ≡ at = let h = s.is in omega arith in
    let long = s.longest in
    subst (λ (n : ℕ). LongestBeginning IsFieldDescriptor bytes n) same (record {
      within = long.within;
      rest = long.rest;
      begins = field_ends (take s.count bytes ++ long.rest) long.begins;
      longer = λ more lt h. long.longer more lt (ends_field (take (s.count + 1) bytes ++ more) h);
      none = λ h. long.none (ends_field bytes h);
    })

pub method_fault : (slots : ℕ) (bytes : List ℕ) (at : ℕ) → stop (Open slots) 0 bytes ≡ Some at → LongestBeginning (IsMethodDescriptor slots) bytes at
method_fault slots bytes at e =
    let s = stops (Open slots) 0 bytes at e in
    let same : s.count ≡ at = let h = s.is in omega arith in
    subst (λ (n : ℕ). LongestBeginning (IsMethodDescriptor slots) bytes n) same s.longest

pub method_passed : (slots : ℕ) (bytes : List ℕ) → stop (Open slots) 0 bytes ≡ None → IsMethodDescriptor slots bytes
method_passed slots bytes e = passed (Open slots) 0 bytes e

-- a descriptor of a field is the value of its text
pub desc_is : (d : FieldDesc) → IsFieldDesc d → d ≡ field_desc d.text
desc_is d is = let make : Kind → FieldDesc = λ k. record { kind = k; text = d.text } in ap make is.kind

pub spelled_is : (bytes : List ℕ) (d : FieldDesc) → SpellsField bytes d → d ≡ field_desc bytes
spelled_is bytes d s = desc_is d s.is_desc ∙ ap field_desc (sym s.text)

pub field_passed : (bytes : List ℕ) → stop (Start 255 End) 0 bytes ≡ None → SpellsField bytes (field_desc bytes)
field_passed bytes e =
    let d = field_ends bytes (passed (Start 255 End) 0 bytes e) in
    subst (λ (x : FieldDesc). SpellsField bytes x) (spelled_is bytes d.desc d.spelled) d.spelled

no_fault : {X : Type 0} (o : Option X) → is_none o ≡ true → o ≡ None
no_fault None e = refl
no_fault (Some x) e = absurd cc

pub field_tests : (bytes : List ℕ) → (is_none (stop (Start 255 End) 0 bytes) ≡ true) ↔ IsFieldDescriptor bytes
field_tests bytes = (λ e. field_ends bytes (passed (Start 255 End) 0 bytes (no_fault _ e)), λ d. ap is_none (passes (Start 255 End) 0 bytes (ends_field bytes d)))

pub method_tests : (slots : ℕ) (bytes : List ℕ) → (is_none (stop (Open slots) 0 bytes) ≡ true) ↔ IsMethodDescriptor slots bytes
method_tests slots bytes = (λ e. passed (Open slots) 0 bytes (no_fault _ e), λ d. ap is_none (passes (Open slots) 0 bytes d))
