-- The methods of a class can be written where a test of them holds. It computes for the generated methods,
-- whatever the places in their code are.
use Rattle.std.proofs.Common.{◌≡◌, ℕ, ◌<◌, ◌≤◌, ◌==◌, Bool, true, false, not, ◌&&◌, nat_lt, List, [], ◌∷◌, ◌++◌, length, Option, Some, None, Result, Ok, Err, refl, sym, subst, arith, inl, inr}
use Rattle.std.specs.Prelude.{codes}
use Rattle.std.specs.Int.{w16, w32}
use Rattle.std.specs.List.{AllByRecursion, flat_map, list_any}
use Rattle.std.specs.Str.{bytes_eq}
use Rattle.std.proofs.lemmas.Bool.{and_parts, eqb-true, ltb-true, not-true, or_cases}
use Rattle.std.proofs.lemmas.Slice.Eq.{bytes_eq-Decides}
use Rattle.wf_grammar.specs.ClassFile.{Key, is_key, parameter_slots}
use Rattle.wf_data.specs.Flags.{is_native_or_abstract}
use Rattle.wf_data.specs.Pool.{text_at}
use Rattle.wf_descriptor.specs.Descriptors.{is_method_descriptor}
use Rattle.wf_names.specs.Names.{is_method_name}
use Rattle.wf_grammar.specs.Writing.{put_place, text_place, put_member, put_handlers, put_code, put_method_attributes, put_method, put_methods}
use Rattle.wf_data.specs.declared.class_info.CodeInfo.{CodeInfo}
use Rattle.wf_data.specs.declared.class_info.Handler.{Handler}
use Rattle.wf_data.specs.declared.class_info.MethodInfo.{MethodInfo}
use Rattle.wf_data.specs.declared.class_info.PoolEntry.{PoolEntry}
use Rattle.wf_grammar.proofs.WritableLaws.{CodeFits, method_attributes_writable, text_writable}
use Rattle.wf_grammar.proofs.Written.{Writable, writable_nothing, writable_number, writable_run, writable_under, writable_then}
use Rattle.wf_listing.specs.declared.listing.Constant.{Constant}
use Rattle.wf_listing.specs.declared.listing.Constant.TheVariants as constant
use Rattle.wf_asm.specs.Constants.{parts_of, place_of, pool_of}
use Rattle.wf_asm.proofs.HeldLaws.{IsHeld, text_found, place_small}

-- ---- texts among what is used

-- whether a constant that is used is this text, and whether one of them is
abbrev is_this_text : List ℕ → Constant → Bool
is_this_text text (constant.Text other) = bytes_eq text other
is_this_text text c = false

abbrev is_among : List Constant → List ℕ → Bool
is_among us text = list_any (is_this_text text) us

first_held : (cs rest : List Constant) (text : List ℕ) (u : Constant) → is_this_text text u ≡ true → AllByRecursion (IsHeld cs) (parts_of u ++ rest) → IsHeld cs (constant.Text text)
first_held cs rest text (constant.Text other) is h = subst (λ (t : List ℕ). IsHeld cs (constant.Text t)) (sym ((bytes_eq-Decides text other).0 is)) h.0
first_held cs rest text u is h = cc

each_behind : (P : Constant → Type 0) (xs ys : List Constant) → AllByRecursion P (xs ++ ys) → AllByRecursion P ys
each_behind P [] ys h = h
each_behind P (x ∷ xs) ys h = each_behind P xs ys h.1

among_held : (cs us : List Constant) (text : List ℕ) → AllByRecursion (IsHeld cs) (flat_map parts_of us) → is_among us text ≡ true → IsHeld cs (constant.Text text)
among_held cs [] text h is = cc
among_held cs (u ∷ us) text h is =
    elim (or_cases (is_this_text text u) (is_among us text) is) [
      | inl here ↦ first_held cs (flat_map parts_of us) text u here h
      | inr later ↦ among_held cs us text (each_behind (IsHeld cs) (parts_of u) (flat_map parts_of us) h) later
    ]

-- ---- the test

-- a code with bytes, but not too many, that catches nothing
abbrev is_sized : CodeInfo → Bool
is_sized c = not (length c.code == 0) && nat_lt (length c.code) 65536

abbrev has_small_limits : CodeInfo → Bool
has_small_limits c = nat_lt c.max_stack 65536 && nat_lt c.max_locals 65536

abbrev is_short : CodeInfo → Bool
is_short c = is_sized c && (length c.table == 0 && has_small_limits c)

abbrev has_short_code : Option CodeInfo → Bool
has_short_code None = false
has_short_code (Some c) = is_short c

-- The texts of a method are used. Its name and descriptor are of the form, and none before it has both. It has
-- code.
abbrev has_texts : List Constant → MethodInfo → Bool
has_texts us m = is_among us m.name && (is_among us m.desc && is_among us (codes "Code"))

abbrev is_named : MethodInfo → Bool
is_named m = is_method_name m.name && is_method_descriptor (parameter_slots m.flags) m.desc

abbrev is_new : List Key → MethodInfo → Bool
is_new met m = not (list_any (is_key m.name m.desc) met)

abbrev has_body : MethodInfo → Bool
has_body m = nat_lt m.flags 65536 && (not (is_native_or_abstract m.flags) && has_short_code m.code)

abbrev fits : List Constant → List Key → MethodInfo → Bool
fits us met m = has_texts us m && (is_named m && (is_new met m && has_body m))

abbrev each_fits : List Constant → List Key → List MethodInfo → Bool
each_fits us met [] = true
each_fits us met (m ∷ ms) = fits us met m && each_fits us (met ++ (m.name, m.desc) ∷ []) ms

-- whether methods were made that can be written, where these constants are used
abbrev pub all_fit : List Constant → Result (List MethodInfo) ℕ → Bool
all_fit us (Ok ms) = nat_lt (length ms) 65536 && each_fits us [] ms
all_fit us (Err line) = false

-- ---- what is written

no_handlers : (hs : List Handler) → (length hs == 0) ≡ true → Writable (put_handlers hs)
unfolding put_handlers
no_handlers [] none = writable_nothing
no_handlers (h ∷ hs) none = absurd (omega (arith, eqb-true (length (h ∷ hs)) 0 none))

code_fits : (c : CodeInfo) → is_short c ≡ true → CodeFits c
unfolding put_code
code_fits c is =
    let a = and_parts (is_sized c) (length c.table == 0 && has_small_limits c) is in
    let b = and_parts (length c.table == 0) (has_small_limits c) a.1 in
    let limits = and_parts (nat_lt c.max_stack 65536) (nat_lt c.max_locals 65536) b.1 in
    let short : length c.code < 65536 = ltb-true _ _ (and_parts (not (length c.code == 0)) (nat_lt (length c.code) 65536) a.0).1 in
    let none : length c.table ≡ 0 = eqb-true _ _ b.0 in
    record {
      writable = writable_under (is_sized c) a.0 (
          writable_then (writable_number w16 c.max_stack (ltb-true _ _ limits.0)) (writable_then (writable_number w16 c.max_locals (ltb-true _ _ limits.1)) (
          writable_then (writable_number w32 (length c.code) (omega arith)) (writable_then (writable_run c.code) (
          writable_then (writable_number w16 (length c.table) (omega arith)) (
          writable_then (no_handlers c.table b.0) (writable_number w16 0 (omega arith))))))));
      small = omega arith;
    }

attributes_written : (pool : List PoolEntry) (n : ℕ) (without : Bool) (code : Option CodeInfo) → n < 65536 → text_at pool n ≡ Some (codes "Code") → without ≡ false → has_short_code code ≡ true → Writable (put_method_attributes pool without code)
attributes_written pool n true code small named with is = cc
attributes_written pool n false None small named with is = cc
attributes_written pool n false (Some c) small named with is =
    method_attributes_writable pool false (c ∷ []) (Some c) (record { fits = code_fits c is; place = n; place_small = small; named = named }, tt) refl

method_written : (cs us : List Constant) (met : List Key) (m : MethodInfo) → length cs ≤ 65534 → AllByRecursion (IsHeld cs) (flat_map parts_of us) → fits us met m ≡ true → Writable (put_method (pool_of cs) met m)
unfolding put_method put_member
method_written cs us met m few held is =
    let a = and_parts (has_texts us m) (is_named m && (is_new met m && has_body m)) is in
    let b = and_parts (is_named m) (is_new met m && has_body m) a.1 in
    let c = and_parts (is_new met m) (has_body m) b.1 in
    let d = and_parts (nat_lt m.flags 65536) (not (is_native_or_abstract m.flags) && has_short_code m.code) c.1 in
    let e = and_parts (not (is_native_or_abstract m.flags)) (has_short_code m.code) d.1 in
    let t = and_parts (is_among us m.name) (is_among us m.desc && is_among us (codes "Code")) a.0 in
    let u = and_parts (is_among us m.desc) (is_among us (codes "Code")) t.1 in
    writable_under (is_named m) b.0 (
    writable_then (writable_under (is_new met m) c.0 (writable_then (writable_number w16 m.flags (ltb-true _ _ d.0)) (writable_then (text m.name t.0) (text m.desc u.0))))
    (attributes_written (pool_of cs) (place (codes "Code")) (is_native_or_abstract m.flags) m.code (small (codes "Code")) (found (codes "Code") u.1) (not-true _ e.0) e.1))
  where
    place : List ℕ → ℕ
    place t = place_of cs (constant.Text t)

    small : (t : List ℕ) → place t < 65536
    small t = place_small cs (constant.Text t) few

    found : (t : List ℕ) → is_among us t ≡ true → text_at (pool_of cs) (place t) ≡ Some t
    found t is = text_found cs t (among_held cs us t held is)

    text : (t : List ℕ) → is_among us t ≡ true → Writable (put_place (text_place (pool_of cs) t))
    text t is = text_writable (pool_of cs) t (place t) (small t) (found t is)

methods_written : (cs us : List Constant) (met : List Key) (ms : List MethodInfo) → length cs ≤ 65534 → AllByRecursion (IsHeld cs) (flat_map parts_of us) → each_fits us met ms ≡ true → Writable (put_methods (pool_of cs) met ms)
unfolding put_methods
methods_written cs us met [] few held is = writable_nothing
methods_written cs us met (m ∷ ms) few held is =
    let a = and_parts (fits us met m) (each_fits us (met ++ (m.name, m.desc) ∷ []) ms) is in
    writable_then (method_written cs us met m few held a.0) (methods_written cs us (met ++ (m.name, m.desc) ∷ []) ms few held a.1)

-- methods that can be written, and their number in two bytes
pub record MethodsFit (cs : List Constant) (ms : List MethodInfo) : Type 0 where
  pub writable : Writable (put_methods (pool_of cs) [] ms)
  pub small : length ms < 65536

pub methods_fit : (cs us : List Constant) (ms : List MethodInfo) → length cs ≤ 65534 → AllByRecursion (IsHeld cs) (flat_map parts_of us) → all_fit us (Ok ms) ≡ true → MethodsFit cs ms
methods_fit cs us ms few held is =
    let a = and_parts (nat_lt (length ms) 65536) (each_fits us [] ms) is in
    record { writable = methods_written cs us [] ms few held a.1; small = ltb-true _ _ a.0 }
