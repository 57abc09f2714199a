-- What is written for a class spells it, piece by piece.
use Rattle.std.proofs.Common.{◌≡◌, ℕ, suc, ◌-◌, ◌*◌, Bool, true, false, not, eqb, ◌&&◌, ◌||◌, List, [], ◌∷◌, ◌++◌, length, Option, Some, None, refl, sym, ap, subst, ◌∙◌, append_assoc, ne_eqb, arith}
use Rattle.std.specs.Prelude.{codes, nat_lt, nat_le, option_and_then, slice_get}
use Rattle.std.specs.Int.{w8, w16, w32, w64, cast_signed, cast_unsigned}
use Rattle.std.specs.List.{list_all, list_any, filter_map}
use Rattle.std.specs.Ordering.{int_eq}
use Rattle.std.specs.Str.{bytes_eq}
use Rattle.std.proofs.lemmas.Bool.Decides.{Decides-int_eq}
use Rattle.wf_data.specs.declared.class_info.ClassInfo.{ClassInfo}
use Rattle.wf_data.specs.declared.class_info.CodeInfo.{CodeInfo}
use Rattle.wf_data.specs.declared.class_info.FieldInfo.{FieldInfo}
use Rattle.wf_data.specs.declared.class_info.Handler.{Handler}
use Rattle.wf_data.specs.declared.class_info.MethodInfo.{MethodInfo}
use Rattle.wf_data.specs.declared.class_info.PoolEntry.{PoolEntry}
use Rattle.wf_data.specs.declared.class_info.PoolEntry.TheVariants as entry
use Rattle.wf_descriptor.specs.Descriptors.{is_field_descriptor, is_method_descriptor}
use Rattle.wf_names.specs.Names.{object_name, is_class_name, is_field_name, is_method_name}
use Rattle.wf_bytes.specs.Grammar.{U1, U2, Is, Then, Where, Given, Many, Counted, ManyOn, CountedOn}
use Rattle.wf_grammar.specs.ClassFile.{TextOf, NarrowAs, WideAs, Entries, no_more, narrow, wide, is_text_byte, is_sound, PoolIs, Skipped, Key, is_key, has_constant_of, FieldAttribute, FieldIs, HandlerIs, CodeIs, MethodAttributeAs, MethodAttribute, only_code, parameter_slots, MethodIs, SuperIs, ClassNamed, ClassBehind, Spells}
use Rattle.wf_data.specs.Pool.{text_in, class_in, text_at, class_at}
use Rattle.wf_data.specs.Flags.{is_static, is_native_or_abstract, is_interface}
use Rattle.wf_grammar.specs.Writing.{Writer, ◌>>=◌, asked, put_number, put_signed, put_place, text_place, class_place, put_text, put_two_places, put_handle, put_behind_tag, put_entry, is_wide, is_unusable, put_pool_place, put_places, put_entries, put_pool, put_constant, put_field_attributes, put_member, put_field, put_fields, put_handler, put_handlers, put_code, code_size, put_code_attribute, put_method_attributes, put_method, put_methods, put_superclass, put_interfaces, put_classes, put_members, put_class, spelling}
use Rattle.wf_bytes.proofs.Exact.{wide16, wide32}
use Rattle.wf_descriptor.proofs.DescriptorLaws.{both_true, field_tests, method_tests}
use Rattle.wf_grammar.proofs.Written.{Appended, Writes, Sized, behind, bind_some, asked_some, some_is, writes_nothing, writes_never, writes_number, writes_run, writes_under, writes_on, writes_then, writes_last, writes_as, writes_chosen, writes_where, writes_that, writes_given, writes_regrouped, writes_ungrouped, writes_place, writes_place_then, writes_under_regrouped, writes_inside, sized_nothing, sized_number, sized_run, sized_under, sized_then, sized_as, found_at, place_holds}

-- ---- the constant pool

abbrev Sort : Bool → ℕ → List ℕ → PoolEntry → Type 0
Sort false = NarrowAs
Sort true = WideAs

text_written : (text : List ℕ) → Writes (Then U2 (λ n. Then (TextOf n) (λ t. Is (entry.Utf8 t)))) (entry.Utf8 text) (put_text text)
unfolding put_text
text_written text =
    writes_under (list_all is_text_byte text) (λ fine. writes_then (writes_number w16 (length text)) (
    writes_last {x = text} (writes_last (writes_run text) (record { holds = fine; rest = record { nothing = refl; same = refl } })) (record { nothing = refl; same = refl })))

two_written : (made : ℕ → ℕ → PoolEntry) (first second : ℕ) → Writes (Then U2 (λ a. Then U2 (λ b. Is (made a b)))) (made first second) (put_two_places first second)
unfolding put_two_places
two_written made first second = writes_then (writes_number w16 first) (writes_last (writes_number w16 second) (record { nothing = refl; same = refl }))

one_written : (made : ℕ → PoolEntry) (first : ℕ) → Writes (Then U2 (λ a. Is (made a))) (made first) (put_number w16 first)
one_written made first = writes_last (writes_number w16 first) (record { nothing = refl; same = refl })

handle_written : (kind member : ℕ) → Writes (Then U1 (λ k. Then U2 (λ m. Is (entry.Handle k m)))) (entry.Handle kind member) (put_handle kind member)
unfolding put_handle
handle_written kind member = writes_then (writes_number w8 kind) (writes_last (writes_number w16 member) (record { nothing = refl; same = refl }))

entry_written : (e : PoolEntry) → Writes (Then U1 (Sort (is_wide e))) e (put_entry e)
unfolding put_entry put_behind_tag put_signed
entry_written entry.Unusable = writes_never (put_entry entry.Unusable) (λ out new e. no_entry (put_number w8 0 out) new e)
  where
    no_entry : (o : Option (List ℕ)) (new : List ℕ) → (o >>= λ x. None) ≡ Some new → ⊥
    no_entry (Some x) new e = cc
    no_entry None new e = cc
entry_written (entry.Utf8 text) = writes_then (writes_number w8 1) (text_written text)
entry_written (entry.Integer n) =
    writes_then (writes_number w8 3) (writes_under (int_eq (cast_signed w32 (cast_unsigned w32 n)) n) (λ fits.
    writes_last (writes_number w32 (cast_unsigned w32 n)) (record { nothing = refl; same = ap entry.Integer (sym ((Decides-int_eq _ _).0 fits)) })))
entry_written (entry.Float bits) = writes_then (writes_number w8 4) (writes_last (writes_number w32 bits) (record { nothing = refl; same = refl }))
entry_written (entry.Long n) =
    writes_then (writes_number w8 5) (writes_under (int_eq (cast_signed w64 (cast_unsigned w64 n)) n) (λ fits.
    writes_last (writes_number w64 (cast_unsigned w64 n)) (record { nothing = refl; same = ap entry.Long (sym ((Decides-int_eq _ _).0 fits)) })))
entry_written (entry.Double bits) = writes_then (writes_number w8 6) (writes_last (writes_number w64 bits) (record { nothing = refl; same = refl }))
entry_written (entry.Class name) = writes_then (writes_number w8 7) (one_written entry.Class name)
entry_written (entry.Str text) = writes_then (writes_number w8 8) (one_written entry.Str text)
entry_written (entry.Field class member) = writes_then (writes_number w8 9) (two_written entry.Field class member)
entry_written (entry.Method class member) = writes_then (writes_number w8 10) (two_written entry.Method class member)
entry_written (entry.InterfaceMethod class member) = writes_then (writes_number w8 11) (two_written entry.InterfaceMethod class member)
entry_written (entry.NameType name desc) = writes_then (writes_number w8 12) (two_written entry.NameType name desc)
entry_written (entry.Handle kind member) = writes_then (writes_number w8 15) (handle_written kind member)
entry_written (entry.MethodKind desc) = writes_then (writes_number w8 16) (one_written entry.MethodKind desc)
entry_written (entry.Dynamic bootstrap member) = writes_then (writes_number w8 18) (two_written entry.Dynamic bootstrap member)

unusable : (e : PoolEntry) → is_unusable e ≡ true → e ≡ entry.Unusable
unusable entry.Unusable h = refl
unusable (entry.Utf8 text) h = absurd cc
unusable (entry.Integer n) h = absurd cc
unusable (entry.Float bits) h = absurd cc
unusable (entry.Long n) h = absurd cc
unusable (entry.Double bits) h = absurd cc
unusable (entry.Class name) h = absurd cc
unusable (entry.Str text) h = absurd cc
unusable (entry.Field class member) h = absurd cc
unusable (entry.Method class member) h = absurd cc
unusable (entry.InterfaceMethod class member) h = absurd cc
unusable (entry.NameType name desc) h = absurd cc
unusable (entry.Handle kind member) h = absurd cc
unusable (entry.MethodKind desc) h = absurd cc
unusable (entry.Dynamic bootstrap member) h = absurd cc

-- the second place of a wide constant, and what stands behind it
record SecondPlace (es : List PoolEntry) (out new : List ℕ) : Type 0 where
  rest : List PoolEntry
  is : es ≡ entry.Unusable ∷ rest
  appended : Appended (Entries (length rest)) rest out new

abbrev Places : Bool → List PoolEntry → Type 0
Places false es = Writes (Entries (length es)) es (put_places false es)
Places true es = (out new : List ℕ) → put_places true es out ≡ Some new → SecondPlace es out new

places_from : (b : Bool) (e : PoolEntry) (es : List PoolEntry) → Writes (Then U1 (Sort b)) e (put_entry e) → Places b es → Writes (Entries (suc (length es))) (e ∷ es) (behind (put_entry e) (put_places b es))
places_from false e es one more = record {
  appends = λ out new h.
      let m = bind_some (put_entry e out) (put_places false es) new h in
      let a = one.appends out m.0 m.1 in
      let b = more.appends m.0 new m.2 in
      record { text = a.text ++ b.text; is = b.is ∙ ap (λ (t : List ℕ). t ++ b.text) a.is ∙ append_assoc out a.text b.text; spelled = narrow (length es) a.text b.text e es a.spelled b.spelled };
}
places_from true e es one more = record {
  appends = λ out new h.
      let m = bind_some (put_entry e out) (put_places true es) new h in
      let a = one.appends out m.0 m.1 in
      let s = more m.0 new m.2 in
      let b = s.appended in
      record {
        text = a.text ++ b.text;
        is = b.is ∙ ap (λ (t : List ℕ). t ++ b.text) a.is ∙ append_assoc out a.text b.text;
        spelled = subst (λ (xs : List PoolEntry). Entries (suc (length xs)) (a.text ++ b.text) (e ∷ xs)) (sym s.is) (wide (length s.rest) a.text b.text e s.rest a.spelled b.spelled);
      };
}

places_written : (second : Bool) (es : List PoolEntry) → Places second es
unfolding put_places put_pool_place
places_written false [] = writes_nothing no_more
places_written true [] = λ out new e. absurd cc
places_written false (e ∷ es) = places_from (is_wide e) e es (entry_written e) (places_written (is_wide e) es)
places_written true (e ∷ es) = λ out new h.
    let m = bind_some (asked (is_unusable e) >>= λ fine. Some out) (put_places false es) new h in
    let u = bind_some (asked (is_unusable e)) (λ fine. Some out) m.0 m.1 in
    record {
      rest = es;
      is = ap (λ (x : PoolEntry). x ∷ es) (unusable e (asked_some (is_unusable e) u.0 u.1));
      appended = subst (λ (x : List ℕ). Appended (Entries (length es)) es x new) (sym (some_is out m.0 u.2)) ((places_written false es).appends m.0 new m.2);
    }

not_zero : (n : ℕ) → not (eqb (suc n) 0) ≡ true
not_zero n = ap not (ne_eqb (suc n) 0 (λ e. omega (arith, e)))

one_less : (n : ℕ) → n ≡ suc n - 1
one_less n = omega arith

entries_written : (entries : List PoolEntry) → Writes PoolIs (entry.Unusable ∷ entries) (put_entries (entry.Unusable ∷ entries) entries)
unfolding put_entries
entries_written entries =
    writes_under (list_all (is_sound (entry.Unusable ∷ entries)) entries) (λ sound.
    writes_then (writes_number w16 (suc (length entries))) (writes_where (not_zero (length entries)) (
    writes_last {x = entries} (subst (λ (n : ℕ). Writes (Entries n) entries (put_places false entries)) (one_less (length entries)) (places_written false entries))
    (record { holds = sound; rest = record { nothing = refl; same = refl } }))))

pool_written : (pool : List PoolEntry) → Writes PoolIs pool (put_pool pool)
unfolding put_pool
pool_written [] = record { appends = λ out new e. absurd cc }
pool_written (e ∷ es) =
    writes_under (is_unusable e) (λ is. subst (λ (x : PoolEntry). Writes PoolIs (x ∷ es) (put_entries (x ∷ es) es)) (sym (unusable e is)) (entries_written es))

-- no class stands at place 0 of a pool that is written
no_class_first : (pool : List PoolEntry) (out new : List ℕ) → put_pool pool out ≡ Some new → class_at pool 0 ≡ None
unfolding put_pool
no_class_first [] out new e = absurd cc
no_class_first (e ∷ es) out new h =
    let u = bind_some (asked (is_unusable e)) (λ fine. put_entries (e ∷ es) es out) new h in
    subst (λ (x : PoolEntry). class_at (x ∷ es) 0 ≡ None) (sym (unusable e (asked_some (is_unusable e) u.0 u.1))) refl

-- ---- members

-- a text by its least place, and what follows
text_then : {B : Type 0} {H : List ℕ → List ℕ → B → Type 0} {y : B} (pool : List PoolEntry) (text : List ℕ) (v : Writer) → Writes (H text) y v → Writes (Then U2 (λ n. Given (text_at pool n) H)) y (behind (put_place (text_place pool text)) v)
text_then pool text v one =
    writes_place_then (text_place pool text) v (λ i at. writes_then (writes_number w16 i) (writes_given text (place_holds pool text_in text i at) one))

-- the flags, the name and the descriptor, and what follows
abbrev pub Headed : {B : Type 0} → List PoolEntry → (List ℕ → Bool) → (ℕ → List ℕ → List ℕ → List ℕ → B → Type 0) → List ℕ → B → Type 0
Headed pool named H = Then U2 (λ flags. Then U2 (λ n. Given (text_at pool n) (λ name. Where (named name) (Then U2 (λ d. Given (text_at pool d) (λ desc. H flags name desc))))))

head_then : {B : Type 0} {H : ℕ → List ℕ → List ℕ → List ℕ → B → Type 0} {y : B} (named : List ℕ → Bool) (pool : List PoolEntry) (met : List Key) (flags : ℕ) (name desc : List ℕ) (v : Writer)
    → named name ≡ true → (not (list_any (is_key name desc) met) ≡ true → Writes (H flags name desc) y v) → Writes (Headed pool named H) y (behind (put_member pool met flags name desc) v)
unfolding put_member
head_then named pool met flags name desc v holds one =
    let at_name : Writer = put_place (text_place pool name) in
    let at_desc : Writer = put_place (text_place pool desc) in
    writes_under_regrouped (not (list_any (is_key name desc) met)) (behind (put_number w16 flags) (behind at_name at_desc)) v (λ once.
    writes_regrouped (put_number w16 flags) (behind at_name at_desc) v (writes_then (writes_number w16 flags) (
    writes_regrouped at_name at_desc v (text_then pool name (behind at_desc v) (writes_where holds (text_then pool desc v (one once)))))))

-- ---- fields

constant_written : (pool : List PoolEntry) (f : FieldInfo) (i : ℕ) → Writes (CountedOn (FieldAttribute pool (is_static f.flags) f.desc) None) (Some i) (put_constant pool f i)
unfolding put_constant
constant_written pool f i =
    writes_under (is_static f.flags && has_constant_of pool f.desc i) (λ fits.
    let both = both_true (is_static f.flags) (has_constant_of pool f.desc i) fits in
    let chosen : (is_static f.flags && bytes_eq (codes "ConstantValue") (codes "ConstantValue")) ≡ true = ap (λ b. b && true) both.0 in
    let sized : Writer = behind (put_number w32 2) (put_number w16 i) in
    let attribute : Writes (FieldAttribute pool (is_static f.flags) f.desc None) (Some i) (behind (put_place (text_place pool (codes "ConstantValue"))) sized) =
    text_then pool (codes "ConstantValue") sized (writes_chosen _ _ chosen (writes_where refl (
    writes_then (writes_number w32 2) (writes_where refl (writes_last (writes_number w16 i) (record { holds = both.1; rest = record { nothing = refl; same = refl } })))))) in
    writes_then (writes_number w16 1) (writes_last attribute (record { nothing = refl; same = refl })))

field_attributes_written : (pool : List PoolEntry) (f : FieldInfo) (constant : Option ℕ) → Writes (CountedOn (FieldAttribute pool (is_static f.flags) f.desc) None) constant (put_field_attributes pool f constant)
unfolding put_field_attributes
field_attributes_written pool f None = writes_last (writes_number w16 0) (record { nothing = refl; same = refl })
field_attributes_written pool f (Some i) = constant_written pool f i

field_written : (pool : List PoolEntry) (met : List Key) (f : FieldInfo) → Writes (FieldIs pool met) (f, met ++ (f.name, f.desc) ∷ []) (put_field pool met f)
unfolding put_field
field_written pool met f =
    writes_under (is_field_name f.name && is_field_descriptor f.desc) (λ fine.
    let both = both_true (is_field_name f.name) (is_field_descriptor f.desc) fine in
    head_then is_field_name pool met f.flags f.name f.desc (put_field_attributes pool f f.constant) both.0 (λ once.
    writes_that ((field_tests f.desc).0 both.1) (writes_where once (
    writes_last (field_attributes_written pool f f.constant) (record { nothing = refl; same = refl })))))

-- the keys that were met behind these
abbrev fields_met : List Key → List FieldInfo → List Key
fields_met met [] = met
fields_met met (f ∷ fs) = fields_met (met ++ (f.name, f.desc) ∷ []) fs

fields_written : (pool : List PoolEntry) (met : List Key) (fs : List FieldInfo) → Writes (ManyOn (FieldIs pool) (length fs) met) (fs, fields_met met fs) (put_fields pool met fs)
unfolding put_fields
fields_written pool met [] = writes_nothing (record { nothing = refl; same = refl })
fields_written pool met (f ∷ fs) =
    writes_then (field_written pool met f) (writes_last (fields_written pool (met ++ (f.name, f.desc) ∷ []) fs) (record { nothing = refl; same = refl }))

-- ---- methods

handler_written : (h : Handler) → Writes HandlerIs h (put_handler h)
unfolding put_handler
handler_written h =
    writes_then (writes_number w16 h.start) (writes_then (writes_number w16 h.end) (writes_then (writes_number w16 h.target) (
    writes_last (writes_number w16 h.catch_class) (record { nothing = refl; same = refl }))))

handlers_written : (hs : List Handler) → Writes (Many HandlerIs (length hs)) hs (put_handlers hs)
unfolding put_handlers
handlers_written [] = writes_nothing (record { nothing = refl; same = refl })
handlers_written (h ∷ hs) = writes_then (handler_written h) (writes_last (handlers_written hs) (record { nothing = refl; same = refl }))

handler_sized : (h : Handler) → Sized 8 (put_handler h)
unfolding put_handler
handler_sized h =
    sized_then (sized_number w16 h.start wide16) (sized_then (sized_number w16 h.end wide16) (sized_then (sized_number w16 h.target wide16) (sized_number w16 h.catch_class wide16)))

handlers_sized : (hs : List Handler) → Sized (8 * length hs) (put_handlers hs)
unfolding put_handlers
handlers_sized [] = sized_nothing
handlers_sized (h ∷ hs) = sized_as (omega arith) (sized_then (handler_sized h) (handlers_sized hs))

no_attributes : (pool : List PoolEntry) → Writes (CountedOn (Skipped pool) tt) tt (put_number w16 0)
no_attributes pool = writes_last (writes_number w16 0) (record { nothing = refl; same = refl })

code_written : (pool : List PoolEntry) (c : CodeInfo) → Writes (CodeIs pool) c (put_code c)
unfolding put_code
code_written pool c =
    writes_under (not (eqb (length c.code) 0) && nat_lt (length c.code) 65536) (λ fits.
    writes_then (writes_number w16 c.max_stack) (writes_then (writes_number w16 c.max_locals) (writes_then (writes_number w32 (length c.code)) (writes_where fits (
    writes_then (writes_run c.code) (writes_ungrouped (put_number w16 (length c.table)) (put_handlers c.table) (put_number w16 0) (
    writes_then (writes_then (writes_number w16 (length c.table)) (handlers_written c.table)) (
    writes_last (no_attributes pool) (record { nothing = refl; same = refl })))))))))

code_sized : (c : CodeInfo) → Sized (code_size c) (put_code c)
unfolding put_code
code_sized c =
    sized_under (not (eqb (length c.code) 0) && nat_lt (length c.code) 65536) (sized_as (omega arith) (
    sized_then (sized_number w16 c.max_stack wide16) (sized_then (sized_number w16 c.max_locals wide16) (sized_then (sized_number w32 (length c.code) wide32) (
    sized_then (sized_run c.code) (sized_then (sized_number w16 (length c.table) wide16) (sized_then (handlers_sized c.table) (sized_number w16 0 wide16))))))))

code_attribute_written : (pool : List PoolEntry) (c : CodeInfo) → Writes (MethodAttribute pool) (Some c) (behind (put_place (text_place pool (codes "Code"))) (behind (put_number w32 (code_size c)) (put_code c)))
code_attribute_written pool c =
    let inside : Writes (MethodAttributeAs pool true) (Some c) (put_code c) = writes_as (λ text g. g) (code_written pool c) in
    text_then pool (codes "Code") (behind (put_number w32 (code_size c)) (put_code c)) (
    writes_then (writes_number w32 (code_size c)) (writes_inside (code_size c) (code_sized c) inside))

-- the attributes of a method, and the code that they leave
abbrev Attributes : {B : Type 0} → List PoolEntry → Bool → (Option CodeInfo → List ℕ → B → Type 0) → List ℕ → B → Type 0
Attributes pool without H = Then (Counted (MethodAttribute pool)) (λ attributes. Given (only_code without (filter_map (λ a. a) attributes)) H)

method_attributes_written : {B : Type 0} {H : Option CodeInfo → List ℕ → B → Type 0} {y : B} (pool : List PoolEntry) (without : Bool) (code : Option CodeInfo) → H code [] y → Writes (Attributes pool without H) y (put_method_attributes pool without code)
unfolding put_method_attributes put_code_attribute
method_attributes_written pool true None rest =
    let none : Writes (Counted (MethodAttribute pool)) [] (put_number w16 0) = writes_last (writes_number w16 0) (record { nothing = refl; same = refl }) in
    writes_last none (record { value = None; found = refl; rest = rest })
method_attributes_written pool false None rest = record { appends = λ out new e. absurd cc }
method_attributes_written pool false (Some c) rest =
    let one : Writes (Counted (MethodAttribute pool)) (Some c ∷ []) (put_code_attribute pool c) =
    writes_then (writes_number w16 1) (writes_last (code_attribute_written pool c) (record { first = []; second = []; value = []; parts = refl; front = record { nothing = refl; same = refl }; back = record { nothing = refl; same = refl } })) in
    writes_last one (record { value = Some c; found = refl; rest = rest })
method_attributes_written pool true (Some c) rest = record { appends = λ out new e. absurd cc }

method_written : (pool : List PoolEntry) (met : List Key) (m : MethodInfo) → Writes (MethodIs pool met) (m, met ++ (m.name, m.desc) ∷ []) (put_method pool met m)
unfolding put_method
method_written pool met m =
    writes_under (is_method_name m.name && is_method_descriptor (parameter_slots m.flags) m.desc) (λ fine.
    let both = both_true (is_method_name m.name) (is_method_descriptor (parameter_slots m.flags) m.desc) fine in
    head_then is_method_name pool met m.flags m.name m.desc (put_method_attributes pool (is_native_or_abstract m.flags) m.code) both.0 (λ once.
    writes_that ((method_tests (parameter_slots m.flags) m.desc).0 both.1) (writes_where once (
    method_attributes_written pool (is_native_or_abstract m.flags) m.code (record { nothing = refl; same = refl })))))

abbrev methods_met : List Key → List MethodInfo → List Key
methods_met met [] = met
methods_met met (m ∷ ms) = methods_met (met ++ (m.name, m.desc) ∷ []) ms

methods_written : (pool : List PoolEntry) (met : List Key) (ms : List MethodInfo) → Writes (ManyOn (MethodIs pool) (length ms) met) (ms, methods_met met ms) (put_methods pool met ms)
unfolding put_methods
methods_written pool met [] = writes_nothing (record { nothing = refl; same = refl })
methods_written pool met (m ∷ ms) =
    writes_then (method_written pool met m) (writes_last (methods_written pool (met ++ (m.name, m.desc) ∷ []) ms) (record { nothing = refl; same = refl }))

-- ---- the class

-- the name of the class that a constant is
abbrev pub class_of_entry : List PoolEntry → PoolEntry → Option (List ℕ)
class_of_entry pool e = option_and_then (text_at pool) (class_in e)

pub class_at_is : (pool : List PoolEntry) (i : ℕ) → class_at pool i ≡ found_at (class_of_entry pool) pool i
class_at_is pool i = grouped (slice_get pool i)
  where
    grouped : (o : Option PoolEntry) → option_and_then (text_at pool) (option_and_then class_in o) ≡ option_and_then (class_of_entry pool) o
    grouped None = refl
    grouped (Some e) = refl

class_holds : (pool : List PoolEntry) (name : List ℕ) (i : ℕ) → class_place pool name ≡ Some i → class_at pool i ≡ Some name
class_holds pool name i e = class_at_is pool i ∙ place_holds pool (class_of_entry pool) name i e

class_named_written : (pool : List PoolEntry) (name : List ℕ) → Writes (ClassNamed pool) name (put_place (class_place pool name))
class_named_written pool name =
    writes_place (class_place pool name) (λ i at. writes_last (writes_number w16 i) (record { value = name; found = class_holds pool name i at; rest = record { nothing = refl; same = refl } }))

interfaces_written : (pool : List PoolEntry) (names : List (List ℕ)) → Writes (Many (ClassNamed pool) (length names)) names (put_interfaces pool names)
unfolding put_interfaces
interfaces_written pool [] = writes_nothing (record { nothing = refl; same = refl })
interfaces_written pool (name ∷ names) = writes_then (class_named_written pool name) (writes_last (interfaces_written pool names) (record { nothing = refl; same = refl }))

super_written : (c : ClassInfo) (super : Option (List ℕ)) → class_at c.pool 0 ≡ None → Writes (SuperIs c.pool c.flags c.name) super (put_superclass c super)
unfolding put_superclass
super_written c None first =
    writes_under (bytes_eq c.name object_name && not (is_interface c.flags)) (λ fits. writes_last (writes_number w16 0) (record { holds = fits; rest = record { nothing = refl; same = refl } }))
super_written c (Some super) first =
    writes_under (not (bytes_eq c.name object_name) && (not (is_interface c.flags) || bytes_eq super object_name)) (λ fits. writes_place (class_place c.pool super) (λ i at.
    let there = class_holds c.pool super i at in
    let not_first : eqb i 0 ≡ false = ne_eqb i 0 (λ e. apart super (sym first ∙ ap (class_at c.pool) (sym e) ∙ there)) in
    writes_last (writes_number w16 i) (rw not_first (record { value = super; found = there; rest = record { holds = fits; rest = record { nothing = refl; same = refl } } }))))
  where
    apart : (x : List ℕ) → None ≡ Some x → ⊥
    apart x e = cc

-- what follows the interfaces
abbrev MembersAre : ClassInfo → List ℕ → ClassInfo → Type 0
MembersAre c =
    Then U2 (λ n. Then (ManyOn (FieldIs c.pool) n []) (λ fields. Then U2 (λ m. Then (ManyOn (MethodIs c.pool) m []) (λ methods. Then (CountedOn (Skipped c.pool) tt) (λ u.
    Is (record { name = c.name; superclass = c.superclass; interfaces = c.interfaces; flags = c.flags; major = c.major; pool = c.pool; fields = fields.0; methods = methods.0 }))))))

members_written : (c : ClassInfo) → Writes (MembersAre c) c (put_members c)
unfolding put_members
members_written c =
    writes_then (writes_number w16 (length c.fields)) (writes_then (fields_written c.pool [] c.fields) (
    writes_then (writes_number w16 (length c.methods)) (writes_then (methods_written c.pool [] c.methods) (
    writes_last (no_attributes c.pool) (record { nothing = refl; same = refl })))))

behind_pool_written : (c : ClassInfo) → class_at c.pool 0 ≡ None → Writes (ClassBehind c.major c.pool) c (behind (put_classes c) (put_members c))
unfolding put_classes
behind_pool_written c first =
    let interfaces : Writer = behind (put_number w16 (length c.interfaces)) (put_interfaces c.pool c.interfaces) in
    let super : Writer = behind (put_superclass c c.superclass) interfaces in
    let named : Writer = behind (put_place (class_place c.pool c.name)) super in
    writes_under_regrouped (is_class_name c.name) (behind (put_number w16 c.flags) named) (put_members c) (λ fine.
    writes_regrouped (put_number w16 c.flags) named (put_members c) (writes_then (writes_number w16 c.flags) (
    writes_regrouped (put_place (class_place c.pool c.name)) super (put_members c) (writes_then (class_named_written c.pool c.name) (writes_where fine (
    writes_regrouped (put_superclass c c.superclass) interfaces (put_members c) (writes_then (super_written c c.superclass first) (
    writes_then (writes_then (writes_number w16 (length c.interfaces)) (interfaces_written c.pool c.interfaces)) (members_written c)))))))))

class_written : (c : ClassInfo) → Writes Spells c (put_class c)
unfolding put_class
class_written c =
    writes_under (nat_le 45 c.major && nat_le c.major 52) (λ fine. writes_then (writes_number w32 0xCAFEBABE) (writes_where refl (
    writes_then (writes_number w16 0) (writes_then (writes_number w16 c.major) (writes_where fine (
    writes_on (pool_written c.pool) (λ out mid e. behind_pool_written c (no_class_first c.pool out mid e))))))))

-- the canonical spelling spells the class
pub spelling_spells : (c : ClassInfo) (bytes : List ℕ) → spelling c ≡ Some bytes → Spells bytes c
spelling_spells c bytes e =
    let a = (class_written c).appends [] bytes e in
    subst (λ (t : List ℕ). Spells t c) (sym a.is) a.spelled
