-- The functions that read class files are steady, and so what lies behind a first fault doesn't change it.
use Rattle.std.proofs.Common.{◌≡◌, ℕ, ◌+◌, ◌≤◌, Bool, true, false, not, ◌&&◌, cond, eqb, List, [], ◌∷◌, ◌++◌, length, Option, Some, None, Result, Ok, Err, refl, ap, arith}
use Rattle.std.specs.Prelude.{codes, nat_le, is_some}
use Rattle.std.specs.Int.{w16, w32}
use Rattle.std.specs.List.{list_any, filter_map}
use Rattle.std.specs.Str.{bytes_eq}
use Rattle.std.proofs.Math.Dec.{eqb-suc-zero}
use Rattle.wf_data.specs.declared.class_info.ClassInfo.{ClassInfo}
use Rattle.wf_data.specs.declared.class_info.PoolEntry.{PoolEntry}
use Rattle.wf_bytes.specs.declared.fault.Why.TheVariants as why
use Rattle.wf_bytes.specs.Place.{Place, spot}
use Rattle.wf_descriptor.specs.Descriptors.{is_field_descriptor, is_method_descriptor}
use Rattle.wf_names.specs.Names.{is_class_name, is_field_name, is_method_name}
use Rattle.wf_data.specs.Pool.{text_at, class_at}
use Rattle.wf_grammar.specs.ClassFile.{Key, is_key, has_constant_of, only_code, parameter_slots}
use Rattle.wf_data.specs.Flags.{is_static, is_native_or_abstract}
use Rattle.wf_bytes.specs.Reading.{Fault, bad, ◌>>=◌, wanted, is_cut, whole}
use Rattle.wf_grammar.specs.Reading.{skipped, constant_value, other_attribute, field_attribute, field, handler, code, method_attribute_as, method_attribute, method, super_class, class_named, class_behind, class_file, class_of}
use Rattle.wf_bytes.proofs.Steady.{Stays, Lies, Steady, steady_then, steady_number, steady_run, steady_run_then, steady_is, steady_where, steady_given, steady_choice, steady_value, steady_counted, steady_many_on, steady_counted_on}
use Rattle.wf_grammar.proofs.PoolSteady.{steady_pool}

-- ---- attributes and fields

steady_skipped : (pool : List PoolEntry) (u : Unit {0}) (at : ℕ) → Steady at (skipped pool u)
unfolding skipped
steady_skipped pool u at =
    steady_then (steady_number w16 at) (λ n place o is low. steady_given (text_at pool n) place why.Index (omega arith) (λ name.
    steady_then (steady_number w32 o) (λ size _ inside _ _. steady_then (steady_run size inside) (λ bytes _ end _ _. steady_is tt end))))

steady_constant_value : (pool : List PoolEntry) (desc : List ℕ) (constant : Option ℕ) (place at : ℕ) → place ≤ at → Steady at (constant_value pool desc constant place)
unfolding constant_value
steady_constant_value pool desc constant place at low =
    steady_where (not (is_some constant)) place why.Twice low (steady_then (steady_number w32 at) (λ size at_size o is low_size. steady_where (eqb size 2) at_size why.Length (omega arith) (
    steady_then (steady_number w16 o) (λ i at_place end is_place low_place. steady_where (has_constant_of pool desc i) at_place why.Constant (omega arith) (steady_is (Some i) end)))))

steady_other_attribute : (constant : Option ℕ) (at : ℕ) → Steady at (other_attribute constant)
unfolding other_attribute
steady_other_attribute constant at = steady_then (steady_number w32 at) (λ size _ o _ _. steady_then (steady_run size o) (λ inside _ end _ _. steady_is constant end))

steady_field_attribute : (pool : List PoolEntry) (static : Bool) (desc : List ℕ) (constant : Option ℕ) (at : ℕ) → Steady at (field_attribute pool static desc constant)
unfolding field_attribute
steady_field_attribute pool static desc constant at =
    steady_then (steady_number w16 at) (λ n place o is low. steady_given (text_at pool n) place why.Index (omega arith) (λ name.
    steady_choice (static && bytes_eq name (codes "ConstantValue")) (steady_constant_value pool desc constant place o (omega arith)) (steady_other_attribute constant o)))

steady_field : (pool : List PoolEntry) (met : List Key) (at : ℕ) → Steady at (field pool met)
unfolding field
steady_field pool met at =
    steady_then (steady_number w16 at) (λ flags _ o _ _. steady_then (steady_number w16 o) (λ n at_name behind_name is_name low_name.
    steady_given (text_at pool n) at_name why.Index (omega arith) (λ name. steady_where (is_field_name name) at_name why.Name (omega arith) (
    steady_then (steady_number w16 behind_name) (λ d at_desc behind_desc is_desc low_desc.
    steady_given (text_at pool d) at_desc why.Index (omega arith) (λ desc. steady_where (is_field_descriptor desc) at_desc why.Descriptor (omega arith) (
    steady_where (not (list_any (is_key name desc) met)) at_desc why.Twice (omega arith) (
    steady_then (steady_counted_on (steady_field_attribute pool (is_static flags) desc) None behind_desc) (λ constant _ end _ _. steady_is _ end)))))))))

-- ---- methods

steady_handler : (at : ℕ) → Steady at handler
unfolding handler
steady_handler at =
    steady_then (steady_number w16 at) (λ start _ a _ _. steady_then (steady_number w16 a) (λ end _ b _ _. steady_then (steady_number w16 b) (λ target _ c _ _. steady_then (steady_number w16 c) (λ class _ d _ _. steady_is _ d))))

steady_code : (pool : List PoolEntry) (at : ℕ) → Steady at (code pool)
unfolding code
steady_code pool at =
    steady_then (steady_number w16 at) (λ stack _ a _ _. steady_then (steady_number w16 a) (λ locals _ b _ _. steady_then (steady_number w32 b) (λ size at_size c is low. steady_where _ at_size why.Code (omega arith) (
    steady_then (steady_run size c) (λ bytes _ d _ _. steady_then (steady_counted steady_handler d) (λ table _ e _ _. steady_then (steady_counted_on (steady_skipped pool) tt e) (λ u _ end _ _. steady_is _ end)))))))

-- a fault of what is read as a whole lies at its length or within its bytes
whole_within : {X : Type 0} (at place : ℕ) (left : List ℕ) (r : Result (X × Place) Fault) (fault : Fault) → at ≤ place → Lies place left r → whole at r ≡ Err fault → fault.offset ≤ place + length left
whole_within {X = X} at place left (Ok (x, q)) fault low lies e = by_rest (eqb (length q.left) 0) e
  where
    by_rest : (b : Bool) → cond b (Ok x) (Err (bad at why.Length)) ≡ Err fault → fault.offset ≤ place + length left
    by_rest true h = absurd cc
    by_rest false h = let is : bad at why.Length ≡ fault = cc in omega (arith, ap (λ (f : Fault). f.offset) is)
whole_within {X = X} at place left (Err met) fault low lies e = by_cut (is_cut met.why) e
  where
    given : Fault → Result X Fault
    given f = Err f

    by_cut : (b : Bool) → cond b (given (bad at why.Length)) (given met) ≡ given fault → fault.offset ≤ place + length left
    by_cut true h = let is : bad at why.Length ≡ fault = cc in omega (arith, ap (λ (f : Fault). f.offset) is)
    by_cut false h = let is : met ≡ fault = cc in omega (arith, ap (λ (f : Fault). f.offset) is)

err_from : {A B : Type 0} (r : Result A Fault) (f : A → B) (fault : Fault) → (r >>= λ x. Ok (f x)) ≡ Err fault → r ≡ Err fault
err_from (Ok x) f fault e = absurd cc
err_from (Err met) f fault e = let is : met ≡ fault = cc in ap (λ z. Err z) is

attribute_within : (pool : List PoolEntry) (is_code : Bool) (at place : ℕ) (inside : List ℕ) (fault : Fault) → at ≤ place → method_attribute_as pool is_code at (spot place inside) ≡ Err fault → fault.offset ≤ place + length inside
unfolding method_attribute_as
attribute_within pool false at place inside fault low e = absurd cc
attribute_within pool true at place inside fault low e =
    whole_within at place inside (code pool (spot place inside)) fault low ((steady_code pool place).lies inside) (err_from (whole at (code pool (spot place inside))) (λ c. Some c) fault e)

steady_method_attribute : (pool : List PoolEntry) (at : ℕ) → Steady at (method_attribute pool)
unfolding method_attribute
steady_method_attribute pool at =
    steady_then (steady_number w16 at) (λ n place o is low. steady_given (text_at pool n) place why.Index (omega arith) (λ name.
    steady_then (steady_number w32 o) (λ size at_size start is_size low_size. steady_run_then size start (λ inside at_inside end is_inside goes.
    steady_value (method_attribute_as pool (bytes_eq name (codes "Code")) at_size (spot at_inside inside)) (λ fault e.
    omega (arith, attribute_within pool (bytes_eq name (codes "Code")) at_size at_inside inside fault (omega arith) e))))))

steady_method : (pool : List PoolEntry) (met : List Key) (at : ℕ) → Steady at (method pool met)
unfolding method
steady_method pool met at =
    steady_then (steady_number w16 at) (λ flags start o is_start low. steady_then (steady_number w16 o) (λ n at_name behind_name is_name low_name.
    steady_given (text_at pool n) at_name why.Index (omega arith) (λ name. steady_where (is_method_name name) at_name why.Name (omega arith) (
    steady_then (steady_number w16 behind_name) (λ d at_desc behind_desc is_desc low_desc.
    steady_given (text_at pool d) at_desc why.Index (omega arith) (λ desc. steady_where (is_method_descriptor (parameter_slots flags) desc) at_desc why.Descriptor (omega arith) (
    steady_where (not (list_any (is_key name desc) met)) at_desc why.Twice (omega arith) (
    steady_then (steady_counted (steady_method_attribute pool) behind_desc) (λ attributes _ end _ low_end.
    steady_given (only_code (is_native_or_abstract flags) (filter_map (λ a. a) attributes)) start why.Code (omega arith) (λ code. steady_is _ end))))))))))

-- ---- the class

steady_super : (pool : List PoolEntry) (flags : ℕ) (name : List ℕ) (at : ℕ) → Steady at (super_class pool flags name)
unfolding super_class
steady_super pool flags name at =
    steady_then (steady_number w16 at) (λ i place o is low. steady_choice (eqb i 0) (steady_where _ place why.Super (omega arith) (steady_is None o))
    (steady_given (class_at pool i) place why.Index (omega arith) (λ super. steady_where _ place why.Super (omega arith) (steady_is (Some super) o))))

steady_class_named : (pool : List PoolEntry) (at : ℕ) → Steady at (class_named pool)
unfolding class_named
steady_class_named pool at = steady_then (steady_number w16 at) (λ i place o is low. steady_given (class_at pool i) place why.Index (omega arith) (λ name. steady_is name o))

steady_class_behind : (major : ℕ) (pool : List PoolEntry) (at : ℕ) → Steady at (class_behind major pool)
unfolding class_behind
steady_class_behind major pool at =
    steady_then (steady_number w16 at) (λ flags _ a _ _. steady_then (steady_class_named pool a) (λ name at_name b is low. steady_where (is_class_name name) at_name why.Name (omega arith) (
    steady_then (steady_super pool flags name b) (λ super _ c _ _. steady_then (steady_counted (steady_class_named pool) c) (λ interfaces _ d _ _.
    steady_then (steady_number w16 d) (λ n _ e _ _. steady_then (steady_many_on (steady_field pool) n [] e) (λ fields _ f _ _.
    steady_then (steady_number w16 f) (λ m _ g _ _. steady_then (steady_many_on (steady_method pool) m [] g) (λ methods _ h _ _.
    steady_then (steady_counted_on (steady_skipped pool) tt h) (λ u _ end _ _. steady_is _ end))))))))))

steady_class_file : (at : ℕ) → Steady at class_file
unfolding class_file
steady_class_file at =
    steady_then (steady_number w32 at) (λ magic start a is low. steady_where (eqb magic 0xCAFEBABE) start why.Magic (omega arith) (
    steady_then (steady_number w16 a) (λ minor _ b _ _. steady_then (steady_number w16 b) (λ major at_major c is_major low_major. steady_where (nat_le 45 major && nat_le major 52) at_major why.Version (omega arith) (
    steady_then (steady_pool c) (λ pool _ d _ _. steady_class_behind major pool d))))))

-- ---- the first fault

-- what is behind the class alone is a fault, and it stays one
ended_stays : (more : List ℕ) (a b : Result (ClassInfo × Place) Fault) (fault : Fault) → Stays more a b → is_cut fault.why ≡ false
    → (a >>= λ x. wanted (eqb (length x.1.left) 0) x.1.at why.Trailing >>= λ u. Ok x.0) ≡ Err fault
    → (b >>= λ x. wanted (eqb (length x.1.left) 0) x.1.at why.Trailing >>= λ u. Ok x.0) ≡ Err fault
ended_stays more (Ok x) b fault same cut e = rw same (by_rest x.1.left e)
  where
    by_rest : (left : List ℕ) → (wanted (eqb (length left) 0) x.1.at why.Trailing >>= λ u. Ok x.0) ≡ Err fault → (wanted (eqb (length (left ++ more)) 0) x.1.at why.Trailing >>= λ u. Ok x.0) ≡ Err fault
    by_rest [] h = absurd cc
    by_rest (c ∷ left) h = rw (eqb-suc-zero (length (left ++ more))) (rw (eqb-suc-zero (length left)) at h)
ended_stays more (Err met) b fault same cut e =
    let is : met ≡ fault = cc in
    let given : b ≡ Err met = same (rw is cut) in
    rw (given, is) refl

pub fault_stays : (bytes more : List ℕ) (fault : Fault) → class_of bytes ≡ Err fault → is_cut fault.why ≡ false → class_of (bytes ++ more) ≡ Err fault
unfolding class_of
fault_stays bytes more fault e cut = ended_stays more (class_file (spot 0 bytes)) (class_file (spot 0 (bytes ++ more))) fault ((steady_class_file 0).stays bytes more) cut e

ended_within : (left : List ℕ) (a : Result (ClassInfo × Place) Fault) (fault : Fault) → Lies 0 left a
    → (a >>= λ x. wanted (eqb (length x.1.left) 0) x.1.at why.Trailing >>= λ u. Ok x.0) ≡ Err fault → fault.offset ≤ length left
ended_within left (Ok x) fault lies e = by_rest (eqb (length x.1.left) 0) e
  where
    by_rest : (b : Bool) → (wanted b x.1.at why.Trailing >>= λ u. Ok x.0) ≡ Err fault → fault.offset ≤ length left
    by_rest true h = absurd cc
    by_rest false h = let is : bad x.1.at why.Trailing ≡ fault = cc in omega (arith, ap (λ (f : Fault). f.offset) is, lies.1)
ended_within left (Err met) fault lies e = let is : met ≡ fault = cc in omega (arith, lies, ap (λ (f : Fault). f.offset) is)

pub fault_within : (bytes : List ℕ) (fault : Fault) → class_of bytes ≡ Err fault → fault.offset ≤ length bytes
unfolding class_of
fault_within bytes fault e = ended_within bytes (class_file (spot 0 bytes)) fault ((steady_class_file 0).lies bytes) e
