-- Where bytes spell a class, something is written for it, piece by piece.
use Rattle.std.proofs.Common.{◌≡◌, ℕ, zero, suc, ◌<◌, Bool, true, false, not, eqb, ◌&&◌, ◌||◌, List, [], ◌∷◌, ◌++◌, length, Option, Some, None, refl, sym, ap, subst, ◌∙◌, arith}
use Rattle.std.specs.Prelude.{codes, nat_lt, nat_le}
use Rattle.std.specs.Int.{w16, w32}
use Rattle.std.specs.List.{list_any, filter_map}
use Rattle.std.specs.Str.{bytes_eq}
use Rattle.std.proofs.lemmas.Bool.{ltb-true}
use Rattle.std.proofs.lemmas.Slice.Eq.{bytes_eq-Decides}
use Rattle.wf_data.specs.declared.class_info.ClassInfo.{ClassInfo}
use Rattle.wf_data.specs.declared.class_info.CodeInfo.{CodeInfo}
use Rattle.wf_data.specs.declared.class_info.FieldInfo.{FieldInfo}
use Rattle.wf_data.specs.declared.class_info.Handler.{Handler}
use Rattle.wf_data.specs.declared.class_info.MethodInfo.{MethodInfo}
use Rattle.wf_data.specs.declared.class_info.PoolEntry.{PoolEntry}
use Rattle.wf_descriptor.specs.Descriptors.{is_field_descriptor, is_method_descriptor}
use Rattle.wf_names.specs.Names.{object_name, is_class_name, is_field_name, is_method_name}
use Rattle.wf_bytes.specs.Grammar.{Many, ManyOn, Times}
use Rattle.wf_data.specs.Pool.{text_in, text_at, class_at}
use Rattle.wf_grammar.specs.ClassFile.{Key, is_key, has_constant_of, FieldAttribute, FieldIs, HandlerIs, CodeIs, MethodAttributeAs, MethodAttribute, only_code, parameter_slots, MethodIs, SuperIs, ClassNamed, ClassBehind, Spells}
use Rattle.wf_data.specs.Flags.{is_static, is_native_or_abstract, is_interface}
use Rattle.wf_grammar.specs.Writing.{HasSpelling, put_place, text_place, class_place, put_pool, put_constant, put_field_attributes, put_member, put_field, put_fields, put_handler, put_handlers, put_code, code_size, put_code_attribute, put_method_attributes, put_method, put_methods, put_superclass, put_interfaces, put_classes, put_members, put_class, spelling}
use Rattle.wf_descriptor.proofs.DescriptorLaws.{both_true, field_tests, method_tests}
use Rattle.wf_grammar.proofs.Written.{Writable, some_is, writable_nothing, writable_number, writable_run, writable_under, writable_then, writable_place, place_there}
use Rattle.wf_grammar.proofs.WritablePool.{either, pool_writable}
use Rattle.wf_grammar.proofs.WritingLaws.{Headed, class_of_entry, class_at_is}

-- ---- members

pub text_writable : (pool : List PoolEntry) (text : List ℕ) (n : ℕ) → n < 65536 → text_at pool n ≡ Some text → Writable (put_place (text_place pool text))
text_writable pool text n small e =
    let p = place_there pool text_in text n e in
    writable_place (text_place pool text) p.0 p.1 (omega (arith, p.2))

-- the flags, the name and the descriptor of a member, and what follows them
record Head {B : Type 0} (pool : List PoolEntry) (named : List ℕ → Bool) (H : ℕ → List ℕ → List ℕ → List ℕ → B → Type 0) (y : B) : Type 0 where
  flags : ℕ
  name : List ℕ
  desc : List ℕ
  holds : named name ≡ true
  writable : (met : List Key) → not (list_any (is_key name desc) met) ≡ true → Writable (put_member pool met flags name desc)
  behind : List ℕ
  rest : H flags name desc behind y

head_of : {B : Type 0} {H : ℕ → List ℕ → List ℕ → List ℕ → B → Type 0} {y : B} {text : List ℕ} (pool : List PoolEntry) (named : List ℕ → Bool) → Headed pool named H text y → Head pool named H y
unfolding put_member
head_of pool named g =
    let a = g.back.back in
    let b = a.rest.rest in
    record {
      flags = g.value;
      name = a.value;
      desc = b.back.value;
      holds = a.rest.holds;
      writable = λ met once.
          writable_under (not (list_any (is_key a.value b.back.value) met)) once (writable_then (writable_number w16 g.value g.front.small) (
          writable_then (text_writable pool a.value g.back.value g.back.front.small a.found) (text_writable pool b.back.value b.value b.front.small b.back.found)));
      behind = b.second;
      rest = b.back.rest;
    }

both : (a b : Bool) → a ≡ true → b ≡ true → (a && b) ≡ true
both a b p q = rw (p, q) refl

-- a member that can be written, and the keys that were met behind it
record Member {M : Type 0} (put : M → List ℕ → Option (List ℕ)) (key : M → Key) (met : List Key) (x : M × List Key) : Type 0 where
  writable : Writable (put x.0)
  keys : x.1 ≡ met ++ key x.0 ∷ []

-- ---- fields

-- where a field has a constant
record ConstantThere (pool : List PoolEntry) (static : Bool) (desc : List ℕ) (i : ℕ) : Type 0 where
  is_static : static ≡ true
  fits : has_constant_of pool desc i ≡ true
  small : i < 65536
  place : ℕ
  place_small : place < 65536
  named : text_at pool place ≡ Some (codes "ConstantValue")

abbrev Fine : List PoolEntry → Bool → List ℕ → Option ℕ → Type 0
Fine pool static desc None = Unit {0}
Fine pool static desc (Some i) = ConstantThere pool static desc i

attribute_fine : (pool : List PoolEntry) (static : Bool) (desc : List ℕ) (k l : Option ℕ) (text : List ℕ) → Fine pool static desc k → FieldAttribute pool static desc k text l → Fine pool static desc l
attribute_fine pool static desc k l text fine g =
    let name = g.back.value in
    either (static && bytes_eq name (codes "ConstantValue")) _ _ g.second l g.back.rest
    (λ is h.
    let two = both_true static (bytes_eq name (codes "ConstantValue")) is in
    let named : name ≡ codes "ConstantValue" = (bytes_eq-Decides name (codes "ConstantValue")).0 two.1 in
    let r = h.rest.back.rest in
    subst (Fine pool static desc) (sym r.back.rest.same) (record { is_static = two.0; fits = r.back.holds; small = r.front.small; place = g.value; place_small = g.front.small; named = g.back.found ∙ ap Some named }))
    (λ h. subst (Fine pool static desc) (sym h.back.back.same) fine)

attributes_fine : (pool : List PoolEntry) (static : Bool) (desc : List ℕ) (n : ℕ) (k l : Option ℕ) (text : List ℕ) → Fine pool static desc k → Times (FieldAttribute pool static desc) n k text l → Fine pool static desc l
attributes_fine pool static desc zero k l text fine g = subst (Fine pool static desc) (sym g.same) fine
attributes_fine pool static desc (suc n) k l text fine g = attributes_fine pool static desc n g.value l g.second (attribute_fine pool static desc k g.value g.first fine g.front) g.back

field_attributes_writable : (pool : List PoolEntry) (f : FieldInfo) (constant : Option ℕ) → Fine pool (is_static f.flags) f.desc constant → Writable (put_field_attributes pool f constant)
unfolding put_field_attributes put_constant
field_attributes_writable pool f None fine = writable_number w16 0 (omega arith)
field_attributes_writable pool f (Some i) fine =
    writable_under (is_static f.flags && has_constant_of pool f.desc i) (both _ _ fine.is_static fine.fits) (writable_then (writable_number w16 1 (omega arith)) (
    writable_then (text_writable pool (codes "ConstantValue") fine.place fine.place_small fine.named) (writable_then (writable_number w32 2 (omega arith)) (writable_number w16 i fine.small))))

abbrev field_key : FieldInfo → Key
field_key f = (f.name, f.desc)

field_writable : (pool : List PoolEntry) (met : List Key) (text : List ℕ) (x : FieldInfo × List Key) → FieldIs pool met text x → Member (put_field pool met) field_key met x
unfolding put_field
field_writable pool met text x g =
    let h = head_of pool is_field_name g in
    let t = h.rest in
    let z = t.rest.rest in
    let fine = attributes_fine pool (is_static h.flags) h.desc z.front.value None z.value z.front.second tt z.front.back in
    let f : FieldInfo = record { name = h.name; desc = h.desc; flags = h.flags; constant = z.value } in
    subst (Member (put_field pool met) field_key met) (sym z.back.same) (record {
      writable = writable_under (is_field_name h.name && is_field_descriptor h.desc) (both _ _ h.holds ((field_tests h.desc).1 t.holds)) (
          writable_then (h.writable met t.rest.holds) (field_attributes_writable pool f z.value fine));
      keys = refl;
    })

fields_writable : (pool : List PoolEntry) (n : ℕ) (met : List Key) (text : List ℕ) (fs : List FieldInfo) (k : List Key) → ManyOn (FieldIs pool) n met text (fs, k) → Writable (put_fields pool met fs)
unfolding put_fields
fields_writable pool zero met text fs k g = let none : fs ≡ [] = ap (λ (x : List FieldInfo × List Key). x.0) g.same in subst (λ (l : List FieldInfo). Writable (put_fields pool met l)) (sym none) writable_nothing
fields_writable pool (suc n) met text fs k g =
    let m = field_writable pool met g.first g.value g.front in
    let more = subst (λ (l : List Key). Writable (put_fields pool l g.back.value.0)) m.keys (fields_writable pool n g.value.1 g.back.first g.back.value.0 g.back.value.1 g.back.front) in
    let some : fs ≡ g.value.0 ∷ g.back.value.0 = ap (λ (x : List FieldInfo × List Key). x.0) g.back.back.same in
    subst (λ (l : List FieldInfo). Writable (put_fields pool met l)) (sym some) (writable_then m.writable more)

-- ---- methods

many_length : {X : Type 0} (G : List ℕ → X → Type 0) (n : ℕ) (text : List ℕ) (xs : List X) → Many G n text xs → length xs ≡ n
many_length G zero text xs g = ap length g.same
many_length G (suc n) text xs g = ap length g.back.back.same ∙ ap suc (many_length G n g.back.first g.back.value g.back.front)

many_on_length : {X K : Type 0} (G : K → List ℕ → X × K → Type 0) (n : ℕ) (k : K) (text : List ℕ) (y : List X × K) → ManyOn G n k text y → length y.0 ≡ n
many_on_length {X = X} {K = K} G zero k text y g = ap (λ (z : List X × K). length z.0) g.same
many_on_length {X = X} {K = K} G (suc n) k text y g = ap (λ (z : List X × K). length z.0) g.back.back.same ∙ ap suc (many_on_length G n g.value.1 g.back.first g.back.value g.back.front)

handler_writable : (text : List ℕ) (h : Handler) → HandlerIs text h → Writable (put_handler h)
unfolding put_handler
handler_writable text h g =
    let a = g.back in
    let b = a.back in
    let c = b.back in
    subst (λ (x : Handler). Writable (put_handler x)) (sym c.back.same) (
    writable_then (writable_number w16 g.value g.front.small) (writable_then (writable_number w16 a.value a.front.small) (
    writable_then (writable_number w16 b.value b.front.small) (writable_number w16 c.value c.front.small))))

handlers_writable : (n : ℕ) (text : List ℕ) (hs : List Handler) → Many HandlerIs n text hs → Writable (put_handlers hs)
unfolding put_handlers
handlers_writable zero text hs g = subst (λ (l : List Handler). Writable (put_handlers l)) (sym g.same) writable_nothing
handlers_writable (suc n) text hs g =
    subst (λ (l : List Handler). Writable (put_handlers l)) (sym g.back.back.same) (writable_then (handler_writable g.first g.value g.front) (handlers_writable n g.back.first g.back.value g.back.front))

-- a code that can be written, and its size in four bytes
pub record CodeFits (c : CodeInfo) : Type 0 where
  pub writable : Writable (put_code c)
  pub small : code_size c < 4294967296

code_fits : (pool : List PoolEntry) (text : List ℕ) (c : CodeInfo) → CodeIs pool text c → CodeFits c
unfolding put_code
code_fits pool text c g =
    let a = g.back in
    let size = a.back in
    let w = size.back in
    let code = w.rest in
    let table = code.back in
    let count : length code.value ≡ size.value = ap length code.front.same ∙ code.front.count in
    let handlers : length table.value ≡ table.front.value = many_length HandlerIs _ _ _ table.front.back in
    let fits : (not (eqb (length code.value) 0) && nat_lt (length code.value) 65536) ≡ true = ap (λ (n : ℕ). not (eqb n 0) && nat_lt n 65536) count ∙ w.holds in
    let short : length code.value < 65536 = ltb-true (length code.value) 65536 (both_true (not (eqb (length code.value) 0)) (nat_lt (length code.value) 65536) fits).1 in
    subst CodeFits (sym table.back.back.same) (record {
      writable = writable_under (not (eqb (length code.value) 0) && nat_lt (length code.value) 65536) fits (
          writable_then (writable_number w16 g.value g.front.small) (writable_then (writable_number w16 a.value a.front.small) (
          writable_then (writable_number w32 (length code.value) (omega arith)) (writable_then (writable_run code.value) (
          writable_then (writable_number w16 (length table.value) (omega (arith, table.front.front.small))) (
          writable_then (handlers_writable _ _ table.value table.front.back) (writable_number w16 0 (omega arith))))))));
      small = omega (arith, table.front.front.small);
    })

-- where a method has a code
pub record CodeThere (pool : List PoolEntry) (c : CodeInfo) : Type 0 where
  pub fits : CodeFits c
  pub place : ℕ
  pub place_small : place < 65536
  pub named : text_at pool place ≡ Some (codes "Code")

abbrev pub Codes : List PoolEntry → List CodeInfo → Type 0
Codes pool [] = Unit {0}
Codes pool (c ∷ cs) = CodeThere pool c × Codes pool cs

-- the codes of one more attribute
attribute_code : (pool : List PoolEntry) (name : List ℕ) (n : ℕ) → n < 65536 → text_at pool n ≡ Some name → (b : Bool) → (b ≡ true → name ≡ codes "Code") → (inside : List ℕ) (x : Option CodeInfo) (xs : List (Option CodeInfo))
    → MethodAttributeAs pool b inside x → Codes pool (filter_map (λ a. a) xs) → Codes pool (filter_map (λ a. a) (x ∷ xs))
attribute_code pool name n small found true is inside (Some c) xs g more = (record { fits = code_fits pool inside c g; place = n; place_small = small; named = found ∙ ap Some (is refl) }, more)
attribute_code pool name n small found true is inside None xs g more = more
attribute_code pool name n small found false is inside None xs g more = more
attribute_code pool name n small found false is inside (Some c) xs g more = absurd cc

attributes_codes : (pool : List PoolEntry) (n : ℕ) (text : List ℕ) (xs : List (Option CodeInfo)) → Many (MethodAttribute pool) n text xs → Codes pool (filter_map (λ a. a) xs)
attributes_codes pool zero text xs g = subst (λ (l : List (Option CodeInfo)). Codes pool (filter_map (λ a. a) l)) (sym g.same) tt
attributes_codes pool (suc n) text xs g =
    let a = g.front in
    let r = a.back.rest in
    subst (λ (l : List (Option CodeInfo)). Codes pool (filter_map (λ a. a) l)) (sym g.back.back.same) (
    attribute_code pool a.back.value a.value a.front.small a.back.found (bytes_eq a.back.value (codes "Code")) (λ e. (bytes_eq-Decides a.back.value (codes "Code")).0 e) r.back.value g.value g.back.value r.back.back.spelled
    (attributes_codes pool n g.back.first g.back.value g.back.front))

pub method_attributes_writable : (pool : List PoolEntry) (without : Bool) (cs : List CodeInfo) (code : Option CodeInfo) → Codes pool cs → only_code without cs ≡ Some code → Writable (put_method_attributes pool without code)
unfolding put_method_attributes put_code_attribute
method_attributes_writable pool true [] code there e = subst (λ (o : Option CodeInfo). Writable (put_method_attributes pool true o)) (some_is None code e) (record { has = λ out. (writable_number w16 0 (omega arith)).has out })
method_attributes_writable pool true (c ∷ cs) code there e = absurd cc
method_attributes_writable pool false [] code there e = absurd cc
method_attributes_writable pool false (c ∷ []) code there e =
    let t = there.0 in
    let one : Writable (put_code_attribute pool c) =
    writable_then (writable_number w16 1 (omega arith)) (writable_then (text_writable pool (codes "Code") t.place t.place_small t.named) (writable_then (writable_number w32 (code_size c) t.fits.small) t.fits.writable)) in
    subst (λ (o : Option CodeInfo). Writable (put_method_attributes pool false o)) (some_is (Some c) code e) (record { has = λ out. one.has out })
method_attributes_writable pool false (c ∷ d ∷ cs) code there e = absurd cc

abbrev method_key : MethodInfo → Key
method_key m = (m.name, m.desc)

method_writable : (pool : List PoolEntry) (met : List Key) (text : List ℕ) (x : MethodInfo × List Key) → MethodIs pool met text x → Member (put_method pool met) method_key met x
unfolding put_method
method_writable pool met text x g =
    let h = head_of pool is_method_name g in
    let t = h.rest in
    let z = t.rest.rest in
    let there = attributes_codes pool z.front.value z.front.second z.value z.front.back in
    subst (Member (put_method pool met) method_key met) (sym z.back.rest.same) (record {
      writable = writable_under (is_method_name h.name && is_method_descriptor (parameter_slots h.flags) h.desc) (both _ _ h.holds ((method_tests (parameter_slots h.flags) h.desc).1 t.holds)) (
          writable_then (h.writable met t.rest.holds) (method_attributes_writable pool (is_native_or_abstract h.flags) _ z.back.value there z.back.found));
      keys = refl;
    })

methods_writable : (pool : List PoolEntry) (n : ℕ) (met : List Key) (text : List ℕ) (ms : List MethodInfo) (k : List Key) → ManyOn (MethodIs pool) n met text (ms, k) → Writable (put_methods pool met ms)
unfolding put_methods
methods_writable pool zero met text ms k g = let none : ms ≡ [] = ap (λ (x : List MethodInfo × List Key). x.0) g.same in subst (λ (l : List MethodInfo). Writable (put_methods pool met l)) (sym none) writable_nothing
methods_writable pool (suc n) met text ms k g =
    let m = method_writable pool met g.first g.value g.front in
    let more = subst (λ (l : List Key). Writable (put_methods pool l g.back.value.0)) m.keys (methods_writable pool n g.value.1 g.back.first g.back.value.0 g.back.value.1 g.back.front) in
    let some : ms ≡ g.value.0 ∷ g.back.value.0 = ap (λ (x : List MethodInfo × List Key). x.0) g.back.back.same in
    subst (λ (l : List MethodInfo). Writable (put_methods pool met l)) (sym some) (writable_then m.writable more)

-- ---- the class

pub class_writable : (pool : List PoolEntry) (name : List ℕ) (n : ℕ) → n < 65536 → class_at pool n ≡ Some name → Writable (put_place (class_place pool name))
class_writable pool name n small e =
    let p = place_there pool (class_of_entry pool) name n (sym (class_at_is pool n) ∙ e) in
    writable_place (class_place pool name) p.0 p.1 (omega (arith, p.2))

class_named_writable : (pool : List PoolEntry) (text name : List ℕ) → ClassNamed pool text name → Writable (put_place (class_place pool name))
class_named_writable pool text name g = class_writable pool name g.value g.front.small (g.back.found ∙ ap Some (sym g.back.rest.same))

interfaces_writable : (pool : List PoolEntry) (n : ℕ) (text : List ℕ) (names : List (List ℕ)) → Many (ClassNamed pool) n text names → Writable (put_interfaces pool names)
unfolding put_interfaces
interfaces_writable pool zero text names g = subst (λ (l : List (List ℕ)). Writable (put_interfaces pool l)) (sym g.same) writable_nothing
interfaces_writable pool (suc n) text names g =
    subst (λ (l : List (List ℕ)). Writable (put_interfaces pool l)) (sym g.back.back.same) (
    writable_then (class_named_writable pool g.first g.value g.front) (interfaces_writable pool n g.back.first g.back.value g.back.front))

super_writable : (c : ClassInfo) (text : List ℕ) (super : Option (List ℕ)) → SuperIs c.pool c.flags c.name text super → Writable (put_superclass c super)
unfolding put_superclass
super_writable c text super g =
    either (eqb g.value 0) _ _ g.second super g.back
    (λ is h.
    let none : Writable (put_superclass c None) = writable_under (bytes_eq c.name object_name && not (is_interface c.flags)) h.holds (writable_number w16 0 (omega arith)) in
    subst (λ (s : Option (List ℕ)). Writable (put_superclass c s)) (sym h.rest.same) none)
    (λ h.
    let some : Writable (put_superclass c (Some h.value)) =
    writable_under (not (bytes_eq c.name object_name) && (not (is_interface c.flags) || bytes_eq h.value object_name)) h.rest.holds (class_writable c.pool h.value g.value g.front.small h.found) in
    subst (λ (s : Option (List ℕ)). Writable (put_superclass c s)) (sym h.rest.rest.same) some)

-- what follows the pool can be written
record BehindFits (major : ℕ) (pool : List PoolEntry) (c : ClassInfo) : Type 0 where
  major_is : c.major ≡ major
  pool_is : c.pool ≡ pool
  classes : Writable (put_classes c)
  members : Writable (put_members c)

behind_fits : (major : ℕ) (pool : List PoolEntry) (text : List ℕ) (c : ClassInfo) → ClassBehind major pool text c → BehindFits major pool c
unfolding put_classes put_members
behind_fits major pool text c g =
    let a = g.back in
    let b = a.back.rest in
    let i = b.back in
    let n = i.back in
    let fs = n.back in
    let m = fs.back in
    let ms = m.back in
    let made : ClassInfo = record { name = a.value; superclass = b.value; interfaces = i.value; flags = g.value; major = major; pool = pool; fields = fs.value.0; methods = ms.value.0 } in
    let interfaces : length i.value ≡ i.front.value = many_length (ClassNamed pool) _ _ _ i.front.back in
    let fields : length fs.value.0 ≡ n.value = many_on_length (FieldIs pool) _ _ _ _ fs.front in
    let methods : length ms.value.0 ≡ m.value = many_on_length (MethodIs pool) _ _ _ _ ms.front in
    subst (BehindFits major pool) (sym ms.back.back.same) (record {
      major_is = refl;
      pool_is = refl;
      classes = writable_under (is_class_name a.value) a.back.holds (writable_then (writable_number w16 g.value g.front.small) (
          writable_then (class_named_writable pool a.first a.value a.front) (writable_then (super_writable made b.first b.value b.front) (
          writable_then (writable_number w16 (length i.value) (omega (arith, interfaces, i.front.front.small))) (interfaces_writable pool _ _ i.value i.front.back)))));
      members = writable_then (writable_number w16 (length fs.value.0) (omega (arith, fields, n.front.small))) (
          writable_then (fields_writable pool n.value [] fs.first fs.value.0 fs.value.1 fs.front) (
          writable_then (writable_number w16 (length ms.value.0) (omega (arith, methods, m.front.small))) (
          writable_then (methods_writable pool m.value [] ms.first ms.value.0 ms.value.1 ms.front) (writable_number w16 0 (omega arith)))));
    })

put_class_writable : (bytes : List ℕ) (c : ClassInfo) → Spells bytes c → Writable (put_class c)
unfolding put_class
put_class_writable bytes c g =
    let b = g.back.rest.back in
    let p = b.back.rest in
    let h = behind_fits b.value p.value p.second c p.back in
    let fine : (nat_le 45 c.major && nat_le c.major 52) ≡ true = ap (λ (n : ℕ). nat_le 45 n && nat_le n 52) h.major_is ∙ b.back.holds in
    let pool = subst (λ (l : List PoolEntry). Writable (put_pool l)) (sym h.pool_is) (pool_writable p.first p.value p.front) in
    writable_under (nat_le 45 c.major && nat_le c.major 52) fine (writable_then (writable_number w32 0xCAFEBABE (omega arith)) (
    writable_then (writable_number w16 0 (omega arith)) (writable_then (writable_number w16 c.major (omega (arith, h.major_is, b.front.small))) (
    writable_then pool (writable_then h.classes h.members)))))

-- a class that bytes spell has its canonical spelling
pub spelling_there : (c : ClassInfo) → spelling c ≡ None → HasSpelling c → ⊥
spelling_there c e h =
    let w = (put_class_writable h.bytes c h.spelled).has [] in
    apart w.value (sym e ∙ w.is)
  where
    apart : (bytes : List ℕ) → None ≡ Some bytes → ⊥
    apart bytes e = cc
