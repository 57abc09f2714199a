-- A method that is there has a descriptor, which is short.
use Rattle.std.proofs.Common.{◌≡◌, ℕ, zero, suc, ◌<◌, ◌≤◌, ◌^◌, Bool, true, false, cond, List, [], ◌∷◌, length, sum_by, get_or, Option, Some, None, refl, sym, ap, subst, ◌∙◌, arith, inl, inr}
use Rattle.std.specs.Prelude.{slice_get, option_map, option_and_then}
use Rattle.std.specs.List.{find}
use Rattle.std.specs.Option.{option_map_or}
use Rattle.std.specs.Ordering.{is_eq}
use Rattle.std.proofs.lemmas.Bool.{cases_Bool}
use Rattle.std.proofs.lemmas.List.Sums.{get_or-le-sum_by}
use Rattle.std.proofs.lemmas.Option.{slice_get_within, get_or_from_slice_get, same_Some}
use Rattle.wf_bytes.specs.Grammar.{ManyOn}
use Rattle.wf_data.specs.Flags.{is_static}
use Rattle.wf_data.specs.Pool.{text_in, text_at}
use Rattle.wf_data.specs.declared.class_info.ClassInfo.{ClassInfo}
use Rattle.wf_data.specs.declared.class_info.MethodInfo.{MethodInfo}
use Rattle.wf_data.specs.declared.class_info.PoolEntry.{PoolEntry}
use Rattle.wf_descriptor.specs.Descriptors.{IsMethodDescriptor}
use Rattle.wf_grammar.specs.ClassFile.{Key, MethodIs, parameter_slots}
use Rattle.wf_grammar.specs.Writing.{HasSpelling}
use Rattle.wf_classes.specs.Members.{key_cmp, method_key}
use Rattle.wf_classes.specs.Own.{methods_at, is_method_of, method_flags}
use Rattle.wf_classes.specs.World.{IsClosedWorld, class_of, text_bytes}
use Rattle.wf_classes.proofs.OneMember.{is_equal}
use Rattle.wf_classes.proofs.Tables.{same_key}
use Rattle.wf_names.specs.declared.member.MemberName.{MemberName}
use Rattle.wf_binding.specs.Named.{flags_of_method}

-- the descriptor of a method of a class with this pool
record IsDescribed (pool : List PoolEntry) (m : MethodInfo) : Type 0 where
  pub place : ℕ
  pub text : text_at pool place ≡ Some m.desc
  pub desc : IsMethodDescriptor 255 m.desc

-- what is read of a descriptor
pub record IsShort (desc : List ℕ) : Type 0 where
  pub is : IsMethodDescriptor 255 desc
  pub short : length desc < 2 ^ 32

slots_are_few : (flags : ℕ) → parameter_slots flags ≤ 255
slots_are_few flags = go (is_static flags) where
  go : (b : Bool) → cond b 255 254 ≤ 255
  go true = omega arith
  go false = omega arith

more_slots : (n : ℕ) (desc : List ℕ) → n ≤ 255 → IsMethodDescriptor n desc → IsMethodDescriptor 255 desc
more_slots n desc l h =
    let p = h.spelled.params in
    record {
      desc = h.desc;
      spelled = record {
        behind = h.spelled.behind;
        parts = h.spelled.parts;
        params = record { ret = p.ret; parts = p.parts; each = p.each; fits = omega (arith, p.fits); returned = p.returned };
      };
    }

one_described : (pool : List PoolEntry) (met : List Key) (bytes : List ℕ) (x : MethodInfo × List Key) → MethodIs pool met bytes x → IsDescribed pool x.0
one_described pool met bytes x h =
    let g = h.back.back.rest.rest.back in
    subst (λ (y : MethodInfo × List Key). IsDescribed pool y.0) (sym g.rest.rest.rest.back.rest.same) (record {
      place = h.back.back.rest.rest.value;
      text = g.found;
      desc = more_slots (parameter_slots h.value) g.value (slots_are_few h.value) g.rest.holds;
    })

all_described : (pool : List PoolEntry) (n : ℕ) (met : List Key) (bytes : List ℕ) (r : List MethodInfo × List Key) → ManyOn (MethodIs pool) n met bytes r → (i : ℕ) (m : MethodInfo) → slice_get r.0 i ≡ Some m → IsDescribed pool m
all_described pool zero met bytes r h i m e = absurd (none i (sym (ap (λ (p : List MethodInfo × List Key). slice_get p.0 i) h.same) ∙ e)) where
  none : (i : ℕ) → slice_get {X = MethodInfo} [] i ≡ Some m → ⊥
  none i e = cc
all_described pool (suc n) met bytes r h i m e =
    go i (sym (ap (λ (p : List MethodInfo × List Key). slice_get p.0 i) h.back.back.same) ∙ e) (λ j f. all_described pool n h.value.1 h.back.first h.back.value h.back.front j m f) where
      go : (i : ℕ) → slice_get (h.value.0 ∷ h.back.value.0) i ≡ Some m → ((j : ℕ) → slice_get h.back.value.0 j ≡ Some m → IsDescribed pool m) → IsDescribed pool m
      go zero e rest = subst (IsDescribed pool) (same_Some _ _ e) (one_described pool met h.first h.value h.front)
      go (suc i) e rest = rest i e

class_described : (k : ClassInfo) → HasSpelling k → (i : ℕ) (m : MethodInfo) → slice_get k.methods i ≡ Some m → IsDescribed k.pool m
class_described k h =
    let pool = h.spelled.back.rest.back.back.rest.value in
    let body = h.spelled.back.rest.back.back.rest.back in
    let members = body.back.back.rest.back.back.back.back.back in
    subst (λ (c : ClassInfo). (i : ℕ) (m : MethodInfo) → slice_get c.methods i ≡ Some m → IsDescribed c.pool m) (sym members.back.back.same)
    (all_described pool _ [] members.first members.value members.front)

text_is_short : (pool : List PoolEntry) (place : ℕ) (text : List ℕ) → text_at pool place ≡ Some text → length text ≤ sum_by (λ (e : PoolEntry). option_map_or length (text_in e) 0) pool
text_is_short pool place text e = go (slice_get pool place) refl e where
  go : (o : Option PoolEntry) → slice_get pool place ≡ o → option_and_then text_in o ≡ Some text → length text ≤ sum_by (λ (e : PoolEntry). option_map_or length (text_in e) 0) pool
  go None is f = absurd cc
  go (Some x) is f =
      let at = get_or_from_slice_get pool place x x is in
      let le = get_or-le-sum_by (λ (e : PoolEntry). option_map_or length (text_in e) 0) pool place x (slice_get_within pool place x is) in
      let same : option_map_or length (text_in (get_or pool place x)) 0 ≡ length text = ap (λ (y : PoolEntry). option_map_or length (text_in y) 0) at ∙ ap (λ o. option_map_or length o 0) f in
      omega (arith, le, same)

pub class_is_short : (classes : List ClassInfo) (c i : ℕ) (k : ClassInfo) (m : MethodInfo) → IsClosedWorld classes → slice_get classes c ≡ Some k → slice_get k.methods i ≡ Some m → IsShort m.desc
class_is_short classes c i k m w e f =
    let d = class_described k (w.spelled.each c k e) i m f in
    let at = get_or_from_slice_get classes c k k e in
    let le = get_or-le-sum_by text_bytes classes c k (slice_get_within classes c k e) in
    let same : text_bytes (get_or classes c k) ≡ text_bytes k = ap text_bytes at in
    let short = text_is_short k.pool d.place m.desc d.text in
    record { is = d.desc; short = omega (arith, le, same, short, w.limits.text) }

-- what is found stands somewhere
record IsFound {X : Type 0} (p : X → Bool) (xs : List X) (x : X) : Type 0 where
  pub place : ℕ
  pub there : slice_get xs place ≡ Some x
  pub passes : p x ≡ true

found_there : {X : Type 0} (p : X → Bool) (xs : List X) (x : X) → find p xs ≡ Some x → IsFound p xs x
found_there p [] x e = absurd cc
found_there {X} p (y ∷ xs) x e = elim (cases_Bool (p y)) [
  | inl t ↦ (let same : y ≡ x = same_Some _ _ (sym (ap (λ b. cond b (Some y) (find p xs)) t) ∙ e) in record { place = 0; there = ap (λ z. Some z) same; passes = ap p (sym same) ∙ t })
  | inr f ↦ (let r = found_there p xs x (sym (ap (λ b. cond b (Some y) (find p xs)) f) ∙ e) in record { place = suc r.place; there = r.there; passes = r.passes })
]

pub is_short : (classes : List ClassInfo) (m : MemberName) (flags : ℕ) → IsClosedWorld classes → flags_of_method classes m ≡ Some flags → IsShort m.desc
is_short classes m flags w e = class (class_of classes m.class) e where
  method : (c : ℕ) (k : ClassInfo) (o : Option MethodInfo) → slice_get classes c ≡ Some k → find (is_method_of (m.name, m.desc)) k.methods ≡ o → option_map (λ (x : MethodInfo). x.flags) o ≡ Some flags → IsShort m.desc
  method c k None there is e = absurd cc
  method c k (Some x) there is e =
      let f = found_there (is_method_of (m.name, m.desc)) k.methods x is in
      let key : method_key x ≡ (m.name, m.desc) = same_key (method_key x) (m.name, m.desc) (is_equal _ f.passes) in
      subst IsShort (ap (λ (q : Key). q.1) key) (class_is_short classes c f.place k x w there f.there)

  place : (c : ℕ) (o : Option ClassInfo) → slice_get classes c ≡ o → option_map (λ (x : MethodInfo). x.flags) (find (is_method_of (m.name, m.desc)) (option_map_or (λ (k : ClassInfo). k.methods) o [])) ≡ Some flags → IsShort m.desc
  place c None is e = absurd cc
  place c (Some k) is e = method c k (find (is_method_of (m.name, m.desc)) k.methods) is refl e

  class : (o : Option ℕ) → option_and_then (method_flags classes (m.name, m.desc)) o ≡ Some flags → IsShort m.desc
  class None e = absurd cc
  class (Some c) e = place c (slice_get classes c) refl e
