-- The functions that read class files are exact for the grammar, piece by piece.
use Rattle.std.proofs.Common.{◌≡◌, ℕ, ◌+◌, Bool, true, false, not, ◌&&◌, ◌⊎◌, cond, eqb, List, [], ◌++◌, length, Option, Some, None, Result, Ok, Err, refl, sym, ap, subst, ◌∙◌, inl, inr}
use Rattle.std.specs.Prelude.{codes, nat_le, is_some}
use Rattle.std.specs.List.{list_any, filter_map}
use Rattle.std.specs.Str.{bytes_eq}
use Rattle.std.proofs.lemmas.Bool.{eqb-true}
use Rattle.std.proofs.lemmas.List.{append-nil, nil_from_length}
use Rattle.wf_data.specs.declared.class_info.ClassInfo.{ClassInfo}
use Rattle.wf_data.specs.declared.class_info.CodeInfo.{CodeInfo}
use Rattle.wf_data.specs.declared.class_info.PoolEntry.{PoolEntry}
use Rattle.wf_bytes.specs.declared.fault.Why.TheVariants as why
use Rattle.wf_bytes.specs.Place.{Place, spot}
use Rattle.wf_descriptor.specs.Descriptors.{is_field_descriptor, is_method_descriptor}
use Rattle.wf_names.specs.Names.{is_class_name, is_field_name, is_method_name}
use Rattle.wf_base.specs.Bytes.{IsBytes}
use Rattle.wf_bytes.specs.Grammar.{U4, Run, Is, Then}
use Rattle.wf_data.specs.Pool.{text_at, class_at}
use Rattle.wf_grammar.specs.ClassFile.{Skipped, Key, is_key, ConstantIs, has_constant_of, FieldAttribute, FieldIs, HandlerIs, CodeIs, MethodAttributeAs, MethodAttribute, only_code, parameter_slots, MethodIs, SuperIs, ClassNamed, ClassBehind, Spells}
use Rattle.wf_data.specs.Flags.{is_static, is_native_or_abstract}
use Rattle.wf_bytes.specs.Reading.{Fault, bad, ◌>>=◌, wanted, is_cut, whole}
use Rattle.wf_grammar.specs.Reading.{skipped, constant_value, other_attribute, field_attribute, field, handler, code, method_attribute_as, method_attribute, method, super_class, class_named, class_behind, class_file, class_of}
use Rattle.wf_bytes.proofs.Exact.{Exact, bind_ok, ok_is, wanted_ok, exact_u2, exact_u4, exact_run, exact_is, exact_then, exact_where, exact_that, exact_given, exact_choice, exact_counted, exact_many_on, exact_counted_on, exact_inside}
use Rattle.wf_grammar.proofs.PoolLaws.{exact_pool}
use Rattle.wf_descriptor.proofs.DescriptorLaws.{field_tests, method_tests}

-- ---- attributes and fields

exact_skipped : (pool : List PoolEntry) (u : Unit {0}) → Exact (Skipped pool u) (skipped pool u)
unfolding skipped
exact_skipped pool u =
    exact_then exact_u2 (λ n place. exact_given (text_at pool n) place why.Index (λ name. exact_then exact_u4 (λ size _. exact_then (exact_run size) (λ inside _. exact_is tt))))

exact_constant_value : (pool : List PoolEntry) (desc : List ℕ) (constant : Option ℕ) (at : ℕ) → Exact (ConstantIs pool desc constant) (constant_value pool desc constant at)
unfolding constant_value
exact_constant_value pool desc constant at =
    exact_where (not (is_some constant)) at why.Twice (exact_then exact_u4 (λ size at_size. exact_where (eqb size 2) at_size why.Length (
    exact_then exact_u2 (λ i at_place. exact_where (has_constant_of pool desc i) at_place why.Constant (exact_is (Some i))))))

exact_other_attribute : (constant : Option ℕ) → Exact (Then U4 (λ size. Then (Run size) (λ inside. Is constant))) (other_attribute constant)
unfolding other_attribute
exact_other_attribute constant = exact_then exact_u4 (λ size _. exact_then (exact_run size) (λ inside _. exact_is constant))

exact_field_attribute : (pool : List PoolEntry) (static : Bool) (desc : List ℕ) (constant : Option ℕ) → Exact (FieldAttribute pool static desc constant) (field_attribute pool static desc constant)
unfolding field_attribute
exact_field_attribute pool static desc constant =
    exact_then exact_u2 (λ n place. exact_given (text_at pool n) place why.Index (λ name.
    exact_choice (static && bytes_eq name (codes "ConstantValue")) (exact_constant_value pool desc constant place) (exact_other_attribute constant)))

exact_field : (pool : List PoolEntry) (met : List Key) → Exact (FieldIs pool met) (field pool met)
unfolding field
exact_field pool met =
    exact_then exact_u2 (λ flags _. exact_then exact_u2 (λ n at_name. exact_given (text_at pool n) at_name why.Index (λ name. exact_where (is_field_name name) at_name why.Name (
    exact_then exact_u2 (λ d at_desc. exact_given (text_at pool d) at_desc why.Index (λ desc. exact_that (is_field_descriptor desc) at_desc why.Descriptor (field_tests desc) (exact_where (not (list_any (is_key name desc) met)) at_desc why.Twice (
    exact_then (exact_counted_on (exact_field_attribute pool (is_static flags) desc) None) (λ constant _.
    exact_is _)))))))))

-- ---- methods

exact_handler : Exact HandlerIs handler
unfolding handler
exact_handler = exact_then exact_u2 (λ start _. exact_then exact_u2 (λ end _. exact_then exact_u2 (λ target _. exact_then exact_u2 (λ class _. exact_is _))))

exact_code : (pool : List PoolEntry) → Exact (CodeIs pool) (code pool)
unfolding code
exact_code pool =
    exact_then exact_u2 (λ stack _. exact_then exact_u2 (λ locals _. exact_then exact_u4 (λ size place. exact_where _ place why.Code (
    exact_then (exact_run size) (λ bytes _. exact_then (exact_counted exact_handler) (λ table _. exact_then (exact_counted_on (exact_skipped pool) tt) (λ attributes _. exact_is _)))))))

-- a branch that was taken
chosen : {A : Type 0} (b : Bool) (x y z : A) → cond b x y ≡ z → ((b ≡ true) × (x ≡ z)) ⊎ ((b ≡ false) × (y ≡ z))
chosen true x y z e = inl (refl, e)
chosen false x y z e = inr (refl, e)

-- what was read as a whole left nothing
whole_ok : {X : Type 0} (at : ℕ) (r : Result (X × Place) Fault) (x : X) → whole at r ≡ Ok x → (q : Place) × (r ≡ Ok (x, q)) × (q.left ≡ [])
whole_ok at (Ok (y, q)) x e =
    elim (chosen (eqb (length q.left) 0) _ _ _ e) [
      | inl a ↦ (q, ap (λ z. Ok (z, q)) (ok_is y x a.1), nil_from_length q.left (eqb-true _ _ a.0))
      | inr b ↦ absurd (apart (bad at why.Length) x b.1)
    ]
  where
    apart : {X : Type 0} (d : Fault) (x : X) → Err d ≡ Ok x → ⊥
    apart d x e = cc
whole_ok at (Err fault) x e = absurd (never (is_cut fault.why) (bad at why.Length) fault x e)
  where
    never : {X : Type 0} (b : Bool) (c d : Fault) (x : X) → cond b (Err c) (Err d) ≡ Ok x → ⊥
    never true c d x e = cc
    never false c d x e = cc

code_inside : (pool : List PoolEntry) (is_code : Bool) (inside : List ℕ) (at o : ℕ) (c : Option CodeInfo) → IsBytes inside → method_attribute_as pool is_code at (spot o inside) ≡ Ok c → MethodAttributeAs pool is_code inside c
unfolding method_attribute_as
code_inside pool false inside at o c fits e = sym (ok_is None c e)
code_inside pool true inside at o c fits e =
    let two = bind_ok (whole at (code pool (spot o inside))) (λ x. Ok (Some x)) c e in
    let all = whole_ok at (code pool (spot o inside)) two.0 two.1 in
    let t = (exact_code pool).found (spot o inside) all.0 two.0 fits all.1 in
    let same : inside ≡ t.text = t.left ∙ ap (λ (rest : List ℕ). t.text ++ rest) all.2 ∙ append-nil t.text in
    let spelled : MethodAttributeAs pool true inside (Some two.0) = subst (λ (z : List ℕ). CodeIs pool z two.0) (sym same) t.spelled in
    subst (λ (z : Option CodeInfo). MethodAttributeAs pool true inside z) (ok_is (Some two.0) c two.2) spelled

code_again : (pool : List PoolEntry) (is_code : Bool) (inside : List ℕ) (at o : ℕ) (c : Option CodeInfo) → MethodAttributeAs pool is_code inside c → method_attribute_as pool is_code at (spot o inside) ≡ Ok c
unfolding method_attribute_as
code_again pool false inside at o c g = ap (λ z. Ok z) (sym g)
code_again pool true inside at o None g = absurd g
code_again pool true inside at o (Some c) g =
    let one : code pool (spot o inside) ≡ Ok (c, spot (o + length inside) []) = ap (λ (t : List ℕ). code pool (spot o t)) (sym (append-nil inside)) ∙ (exact_code pool).again o inside [] c g in
    ap (λ z. whole at z >>= λ x. Ok (Some x)) one

exact_method_attribute : (pool : List PoolEntry) → Exact (MethodAttribute pool) (method_attribute pool)
unfolding method_attribute
exact_method_attribute pool =
    exact_then exact_u2 (λ n place. exact_given (text_at pool n) place why.Index (λ name. exact_then exact_u4 (λ size o.
    exact_inside size (λ inside at c fits e. code_inside pool (bytes_eq name (codes "Code")) inside o at c fits e) (λ inside at c g. code_again pool (bytes_eq name (codes "Code")) inside o at c g))))

exact_method : (pool : List PoolEntry) (met : List Key) → Exact (MethodIs pool met) (method pool met)
unfolding method
exact_method pool met =
    exact_then exact_u2 (λ flags start. exact_then exact_u2 (λ n at_name. exact_given (text_at pool n) at_name why.Index (λ name. exact_where (is_method_name name) at_name why.Name (
    exact_then exact_u2 (λ d at_desc. exact_given (text_at pool d) at_desc why.Index (λ desc. exact_that (is_method_descriptor (parameter_slots flags) desc) at_desc why.Descriptor (method_tests (parameter_slots flags) desc) (exact_where (not (list_any (is_key name desc) met)) at_desc why.Twice (
    exact_then (exact_counted (exact_method_attribute pool)) (λ attributes _. exact_given (only_code (is_native_or_abstract flags) (filter_map (λ a. a) attributes)) start why.Code (λ code.
    exact_is _))))))))))

-- ---- the class

exact_super : (pool : List PoolEntry) (flags : ℕ) (name : List ℕ) → Exact (SuperIs pool flags name) (super_class pool flags name)
unfolding super_class
exact_super pool flags name =
    exact_then exact_u2 (λ i place. exact_choice (eqb i 0) (exact_where _ place why.Super (exact_is None))
    (exact_given (class_at pool i) place why.Index (λ super. exact_where _ place why.Super (exact_is (Some super)))))

exact_class_named : (pool : List PoolEntry) → Exact (ClassNamed pool) (class_named pool)
unfolding class_named
exact_class_named pool = exact_then exact_u2 (λ i place. exact_given (class_at pool i) place why.Index (λ name. exact_is name))

exact_class_behind : (major : ℕ) (pool : List PoolEntry) → Exact (ClassBehind major pool) (class_behind major pool)
unfolding class_behind
exact_class_behind major pool =
    exact_then exact_u2 (λ flags _. exact_then (exact_class_named pool) (λ name at_name. exact_where (is_class_name name) at_name why.Name (
    exact_then (exact_super pool flags name) (λ super _. exact_then (exact_counted (exact_class_named pool)) (λ interfaces _.
    exact_then exact_u2 (λ n _. exact_then (exact_many_on (exact_field pool) n []) (λ fields _.
    exact_then exact_u2 (λ m _. exact_then (exact_many_on (exact_method pool) m []) (λ methods _. exact_then (exact_counted_on (exact_skipped pool) tt) (λ attributes _.
    exact_is _))))))))))

exact_class_file : Exact Spells class_file
unfolding class_file
exact_class_file =
    exact_then exact_u4 (λ magic start. exact_where (eqb magic 0xCAFEBABE) start why.Magic (
    exact_then exact_u2 (λ minor _. exact_then exact_u2 (λ major at_major. exact_where (nat_le 45 major && nat_le major 52) at_major why.Version (
    exact_then exact_pool (λ pool _. exact_class_behind major pool))))))

-- what spells a class is read as it
pub spelled_is_read : (bytes : List ℕ) (class : ClassInfo) → Spells bytes class → class_of bytes ≡ Ok class
unfolding class_of
spelled_is_read bytes class g =
    let one : class_file (spot 0 bytes) ≡ Ok (class, spot (0 + length bytes) []) = ap (λ (t : List ℕ). class_file (spot 0 t)) (sym (append-nil bytes)) ∙ exact_class_file.again 0 bytes [] class g in
    ap (λ z. z >>= λ x. wanted (eqb (length x.1.left) 0) x.1.at why.Trailing >>= λ u. Ok x.0) one

-- what is read as a class spells it
pub read_is_spelled : (bytes : List ℕ) (class : ClassInfo) → IsBytes bytes → class_of bytes ≡ Ok class → Spells bytes class
unfolding class_of
read_is_spelled bytes class fits e =
    let one = bind_ok (class_file (spot 0 bytes)) (λ x. wanted (eqb (length x.1.left) 0) x.1.at why.Trailing >>= λ u. Ok x.0) class e in
    let x = one.0 in
    let two = bind_ok (wanted (eqb (length x.1.left) 0) x.1.at why.Trailing) (λ u. Ok x.0) class one.2 in
    let ended : x.1.left ≡ [] = nil_from_length x.1.left (eqb-true _ _ (wanted_ok _ _ _ two.0 two.1)) in
    let t = exact_class_file.found (spot 0 bytes) x.1 x.0 fits one.1 in
    let same : bytes ≡ t.text = t.left ∙ ap (λ (rest : List ℕ). t.text ++ rest) ended ∙ append-nil t.text in
    subst (λ (c : ClassInfo). Spells bytes c) (ok_is x.0 class two.2) (subst (λ (z : List ℕ). Spells z x.0) (sym same) t.spelled)
