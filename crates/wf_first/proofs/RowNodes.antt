-- The nodes of a program's rows, and of its root, are among its nodes.
use Rattle.std.proofs.Common.{◌≡◌, ℕ, ◌-◌, ℤ, true, List, [], ◌∷◌, ◌++◌, Some, length, sym, ap, subst, ◌∙◌, inl, inr}
use Rattle.std.specs.Prelude.{Contains, not, ◌&&◌, ◌==◌}
use Rattle.std.specs.List.{list_all}
use Rattle.std.specs.Str.{bytes_eq}
use Rattle.std.proofs.lemmas.List.Elements.{Contains-append_cases, Contains-append_left, Contains-append_right}
use Rattle.std.proofs.lemmas.Option.{slice_get_within, get_or_from_slice_get}
use Rattle.std.proofs.lemmas.Slice.Eq.{bytes_eq-Decides}
use Rattle.wf_data.specs.declared.class_info.ClassInfo.{ClassInfo}
use Rattle.wf_data.specs.declared.class_info.MethodInfo.{MethodInfo}
use Rattle.wf_data.specs.declared.class_info.PoolEntry.{PoolEntry}
use Rattle.wf_names.specs.declared.member.MemberName.{MemberName}
use Rattle.wf_data.specs.Flags.{is_interface, is_static}
use Rattle.wf_names.specs.Names.{object_name}
use Rattle.wf_first.specs.declared.code.Operation.{Operation}
use Rattle.wf_first.specs.declared.code.Operation.TheVariants.{IntConstant, InvokeStatic}
use Rattle.wf_first.specs.declared.code.Placed.{Placed}
use Rattle.wf_first.specs.Code.{operations}
use Rattle.wf_first.specs.FirstForm.{is_method_of_form, is_class_of_form, is_super_of_form, is_ordinary}
use Rattle.wf_sys.specs.declared.inequality.Guard.TheVariants.{NonEmpty}
use Rattle.wf_sys.specs.declared.inequality.ValueOp.TheVariants.{Token, IntIs, Copy}
use Rattle.wf_sys.specs.declared.inequality.Inequality.{Inequality}
use Rattle.wf_sys.specs.Names.{method_name}
use Rattle.wf_sys.specs.Nodes.{Node, Inst, Start, Nothing, Initialized, Entered, Returned, Result}
use Rattle.wf_sys.specs.Program as program
use Rattle.wf_sys.specs.Program.{Row, HasCode, Before, CallsStatic, ResolvesStatic, DeclaresStatic, in_named_class, at_entry, behind_constant, behind_void_call, behind_int_call}
use Rattle.wf_first.specs.Form.{IsOfForm}
use Rattle.wf_first.specs.Nodes.{receiver_nodes, method_nodes, shared_nodes, result_nodes, found_nodes, code_nodes, own_method_nodes, own_nodes, nodes_of}
use Rattle.wf_first.specs.Rows.{token_row, constant_row, copy_row, rows_of, HasNodesOf}
use Rattle.wf_first.proofs.ListLaws.{and_both, contains_head, contains_tail, contains_cases, contains_nothing, any_where}
use Rattle.wf_first.proofs.FormLaws.{all_found}
use Rattle.wf_first.proofs.PathLaws.{Stands, what_begins, goes_on, from_first}
use Rattle.wf_first.proofs.RowLaws.{id_, along, only_one, listed_is_row}

-- ---- nodes that methods share

method_shared : (class : ClassInfo) (methods : List MethodInfo) (m : MethodInfo) (n : Node) → Contains methods m → Contains (Entered (method_name class m) ∷ Returned (method_name class m) ∷ []) n → Contains (method_nodes class methods) n
method_shared class [] m n there h = absurd (contains_nothing m there)
method_shared class (k ∷ methods) m n there h = elim (contains_cases m k methods there) [
  | inl same ↦ Contains-append_left (Entered (method_name class k) ∷ Returned (method_name class k) ∷ []) (receiver_nodes (is_static k.flags) (method_name class k) ++ method_nodes class methods) n
      (subst (λ (i : MethodInfo). Contains (Entered (method_name class i) ∷ Returned (method_name class i) ∷ []) n) (sym same) h)
  | inr later ↦ Contains-append_right (Entered (method_name class k) ∷ Returned (method_name class k) ∷ receiver_nodes (is_static k.flags) (method_name class k)) (method_nodes class methods) n (method_shared class methods m n later h)
]

class_shared : (classes : List ClassInfo) (class : ClassInfo) (n : Node) → Contains classes class → Contains (Initialized class.name ∷ method_nodes class class.methods) n → Contains (shared_nodes classes) n
class_shared [] class n there h = absurd (contains_nothing class there)
class_shared (c ∷ classes) class n there h = elim (contains_cases class c classes there) [
  | inl same ↦ Contains-append_left (Initialized c.name ∷ method_nodes c c.methods) (shared_nodes classes) n (subst (λ (k : ClassInfo). Contains (Initialized k.name ∷ method_nodes k k.methods) n) (sym same) h)
  | inr later ↦ Contains-append_right (Initialized c.name ∷ method_nodes c c.methods) (shared_nodes classes) n (class_shared classes class n later h)
]

shared_there : (classes : List ClassInfo) (n : Node) → Contains (shared_nodes classes) n → Contains (nodes_of classes) n
shared_there classes n h = Contains-append_right (Inst ∷ Start ∷ Nothing ∷ []) (shared_nodes classes ++ own_nodes classes) n (Contains-append_left (shared_nodes classes) (own_nodes classes) n h)

own_there : (classes : List ClassInfo) (n : Node) → Contains (own_nodes classes) n → Contains (nodes_of classes) n
own_there classes n h = Contains-append_right (Inst ∷ Start ∷ Nothing ∷ shared_nodes classes) (own_nodes classes) n h

class_there : (classes : List ClassInfo) (class : ClassInfo) → Contains classes class → Contains (nodes_of classes) (Initialized class.name)
class_there classes class h = shared_there classes (Initialized class.name) (class_shared classes class (Initialized class.name) h (contains_head (Initialized class.name) (method_nodes class class.methods)))

-- a method is entered, and it returns
method_there : (classes : List ClassInfo) (class : ClassInfo) (m : MethodInfo) (n : Node) → Contains classes class → Contains class.methods m → Contains (Entered (method_name class m) ∷ Returned (method_name class m) ∷ []) n
    → Contains (nodes_of classes) n
method_there classes class m n of_class of_method h =
    shared_there classes n (class_shared classes class n of_class (contains_tail n (Initialized class.name) (method_nodes class class.methods) (method_shared class class.methods m n of_method h)))

entered_there : (classes : List ClassInfo) (class : ClassInfo) (m : MethodInfo) (name : MemberName) → Contains classes class → Contains class.methods m → name ≡ method_name class m → Contains (nodes_of classes) (Entered name)
entered_there classes class m name of_class of_method named =
    subst (λ (k : MemberName). Contains (nodes_of classes) (Entered k)) (sym named)
    (method_there classes class m (Entered (method_name class m)) of_class of_method (contains_head (Entered (method_name class m)) (Returned (method_name class m) ∷ [])))

returned_there : (classes : List ClassInfo) (class : ClassInfo) (m : MethodInfo) (name : MemberName) → Contains classes class → Contains class.methods m → name ≡ method_name class m → Contains (nodes_of classes) (Returned name)
returned_there classes class m name of_class of_method named =
    subst (λ (k : MemberName). Contains (nodes_of classes) (Returned k)) (sym named)
    (method_there classes class m (Returned (method_name class m)) of_class of_method
    (contains_tail (Returned (method_name class m)) (Entered (method_name class m)) (Returned (method_name class m) ∷ []) (contains_head (Returned (method_name class m)) [])))

initialized_there : (classes : List ClassInfo) (name : MemberName) → DeclaresStatic classes name → Contains (nodes_of classes) (Initialized name.class)
initialized_there classes name d = subst (λ (c : List ℕ). Contains (nodes_of classes) (Initialized c)) (sym (ap (λ (k : MemberName). k.class) d.named)) (class_there classes d.class d.class_there)

-- java/lang/Object is initialized
object_there : (classes : List ClassInfo) (root : MemberName) → IsOfForm classes root → Contains (nodes_of classes) (Initialized object_name)
object_there classes root form =
    let w = any_where (λ (class : ClassInfo). bytes_eq class.name object_name) classes form.object in
    let same : w.0.name ≡ object_name = (bytes_eq-Decides w.0.name object_name).0 w.2 in
    subst (λ (name : List ℕ). Contains (nodes_of classes) (Initialized name)) same (class_there classes w.0 w.1)

super_is_object : (class : ClassInfo) (super : List ℕ) → is_class_of_form class ≡ true → class.superclass ≡ Some super → super ≡ object_name
super_is_object class super e is =
    let most = and_both (not (is_interface class.flags) && length class.interfaces == 0 && length class.fields == 0 && is_super_of_form class.superclass) (is_ordinary class.name) e in
    let of_form = (and_both (not (is_interface class.flags) && length class.interfaces == 0 && length class.fields == 0) (is_super_of_form class.superclass) most.0).1 in
    (bytes_eq-Decides super object_name).0 (ap is_super_of_form (sym is) ∙ of_form)

-- ---- a method's own nodes

method_own : (class : ClassInfo) (methods : List MethodInfo) (m : MethodInfo) (n : Node) → Contains methods m → Contains (code_nodes (method_name class m) m.code) n → Contains (own_method_nodes class methods) n
method_own class [] m n there h = absurd (contains_nothing m there)
method_own class (k ∷ methods) m n there h = elim (contains_cases m k methods there) [
  | inl same ↦ Contains-append_left (code_nodes (method_name class k) k.code) (own_method_nodes class methods) n (subst (λ (i : MethodInfo). Contains (code_nodes (method_name class i) i.code) n) (sym same) h)
  | inr later ↦ Contains-append_right (code_nodes (method_name class k) k.code) (own_method_nodes class methods) n (method_own class methods m n later h)
]

class_own : (classes : List ClassInfo) (class : ClassInfo) (n : Node) → Contains classes class → Contains (own_method_nodes class class.methods) n → Contains (own_nodes classes) n
class_own [] class n there h = absurd (contains_nothing class there)
class_own (c ∷ classes) class n there h = elim (contains_cases class c classes there) [
  | inl same ↦ Contains-append_left (own_method_nodes c c.methods) (own_nodes classes) n (subst (λ (k : ClassInfo). Contains (own_method_nodes k k.methods) n) (sym same) h)
  | inr later ↦ Contains-append_right (own_method_nodes c c.methods) (own_nodes classes) n (class_own classes class n later h)
]

code_own : (classes : List ClassInfo) (name : MemberName) (pool : List PoolEntry) (code : List ℕ) (all : List Placed) (n : Node) → HasCode classes name pool code → operations code ≡ Some all → Contains (result_nodes name all) n
    → Contains (nodes_of classes) n
code_own classes name pool code all n has found h =
    own_there classes n (class_own classes has.class n has.class_there (method_own has.class has.class.methods has.info n has.method_there (subst (λ (ns : List Node). Contains ns n) (sym same) h)))
  where
    same : code_nodes (method_name has.class has.info) has.info.code ≡ result_nodes name all
    same =
        ap (code_nodes (method_name has.class has.info)) has.has_body
        ∙ ap (λ (bytes : List ℕ). found_nodes (method_name has.class has.info) (operations bytes)) (sym has.is_code)
        ∙ ap (found_nodes (method_name has.class has.info)) found
        ∙ ap (λ (k : MemberName). result_nodes k all) (sym has.named)

-- the result of a place that is reached
result_there : (classes : List ClassInfo) (root name : MemberName) (pool : List PoolEntry) (code : List ℕ) (pc : ℕ) (predicate : Node) (stack : List Node) (o : Operation)
    → IsOfForm classes root → HasCode classes name pool code → Before classes name pool code pc predicate stack → Stands code pc o
    → ((rest : List Placed) → Contains (result_nodes name (record { pc = pc; operation = o } ∷ rest)) (Result name pc)) → Contains (nodes_of classes) (Result name pc)
result_there classes root name pool code pc predicate stack o form has before stands gives =
    let f = all_found classes root name pool code form has in
    let a = along classes pool name code f.0 (from_first code f.0 f.1) pc predicate stack before in
    let b = goes_on code pc o a.os (what_begins code pc o stands) a.found in
    code_own classes name pool code f.0 (Result name pc) has f.1 (a.results (Result name pc) (subst (λ (os : List Placed). Contains (result_nodes name os) (Result name pc)) (sym b.is) (gives b.rest)))

constant_there : (classes : List ClassInfo) (root name : MemberName) (pool : List PoolEntry) (code : List ℕ) (pc : ℕ) (predicate : Node) (stack : List Node) (c : ℤ)
    → IsOfForm classes root → HasCode classes name pool code → Before classes name pool code pc predicate stack → program.IsIntConstant code pc c → Contains (nodes_of classes) (Result name pc)
constant_there classes root name pool code pc predicate stack c form has before is =
    result_there classes root name pool code pc predicate stack (IntConstant c) form has before is (λ rest. contains_head (Result name pc) (result_nodes name rest))

call_result_there : (classes : List ClassInfo) (root name : MemberName) (pool : List PoolEntry) (code : List ℕ) (pc : ℕ) (predicate : Node) (stack : List Node) (callee : MemberName)
    → IsOfForm classes root → HasCode classes name pool code → Before classes name pool code pc predicate stack → CallsStatic classes pool code pc callee → Contains (nodes_of classes) (Result name pc)
call_result_there classes root name pool code pc predicate stack callee form has before call =
    result_there classes root name pool code pc predicate stack (InvokeStatic call.place) form has before (call.opcode, call.operand) (λ rest. contains_head (Result name pc) (result_nodes name rest))

-- what is known before a place is among the nodes
record NodesAt (nodes : List Node) (predicate : Node) (stack : List Node) : Type 0 where
  predicate_there : Contains nodes predicate
  stack_there : (n : Node) → Contains stack n → Contains nodes n

pushed : (nodes stack : List Node) (top : Node) → ((n : Node) → Contains stack n → Contains nodes n) → Contains nodes top → (n : Node) → Contains (stack ++ top ∷ []) n → Contains nodes n
pushed nodes stack top below there n h = elim (Contains-append_cases stack (top ∷ []) n h) [
  | inl k ↦ below n k
  | inr k ↦ subst (Contains nodes) (only_one n top k) there
]

before_nodes : (classes : List ClassInfo) (root name : MemberName) (pool : List PoolEntry) (code : List ℕ) (pc : ℕ) (predicate : Node) (stack : List Node)
    → IsOfForm classes root → HasCode classes name pool code → Before classes name pool code pc predicate stack → NodesAt (nodes_of classes) predicate stack
before_nodes classes root name pool code _ _ _ form has at_entry = record {
  predicate_there = entered_there classes has.class has.info name has.class_there has.method_there has.named;
  stack_there = λ n h. absurd (contains_nothing n h);
}
before_nodes classes root name pool code _ _ _ form has (behind_constant pc predicate stack c before is) =
    let earlier = before_nodes classes root name pool code pc predicate stack form has before in
    let result = constant_there classes root name pool code pc predicate stack c form has before is in
    record { predicate_there = earlier.predicate_there; stack_there = pushed (nodes_of classes) stack (Result name pc) earlier.stack_there result }
before_nodes classes root name pool code _ _ _ form has (behind_void_call pc predicate stack callee before call void) =
    let earlier = before_nodes classes root name pool code pc predicate stack form has before in
    record { predicate_there = call_result_there classes root name pool code pc predicate stack callee form has before call; stack_there = earlier.stack_there }
before_nodes classes root name pool code _ _ _ form has (behind_int_call pc predicate stack callee before call int) =
    let earlier = before_nodes classes root name pool code pc predicate stack form has before in
    let result = call_result_there classes root name pool code pc predicate stack callee form has before call in
    record { predicate_there = result; stack_there = pushed (nodes_of classes) stack (Result name pc) earlier.stack_there result }

-- ---- the nodes of a row

same_guard : (g n : Node) → NonEmpty g ≡ NonEmpty n → g ≡ n
same_guard g n e = cc

same_source : (s n : Node) → Copy s ≡ Copy n → s ≡ n
same_source s n e = cc

token_nodes : (nodes : List Node) (guard target : Node) → Contains nodes guard → Contains nodes target → HasNodesOf nodes (token_row guard target)
token_nodes nodes guard target g t = record { target = t; guard = λ n e. subst (Contains nodes) (same_guard guard n e) g; value = λ n e. absurd (other n e) }
  where
    other : (n : Node) → Token ≡ Copy n → ⊥
    other n e = cc

constant_nodes : (nodes : List Node) (guard : Node) (c : ℤ) (target : Node) → Contains nodes guard → Contains nodes target → HasNodesOf nodes (constant_row guard c target)
constant_nodes nodes guard c target g t = record { target = t; guard = λ n e. subst (Contains nodes) (same_guard guard n e) g; value = λ n e. absurd (other n e) }
  where
    other : (n : Node) → IntIs c ≡ Copy n → ⊥
    other n e = cc

copy_nodes : (nodes : List Node) (guard source target : Node) → Contains nodes guard → Contains nodes source → Contains nodes target → HasNodesOf nodes (copy_row guard source target)
copy_nodes nodes guard source target g s t = record { target = t; guard = λ n e. subst (Contains nodes) (same_guard guard n e) g; value = λ n e. subst (Contains nodes) (same_source source n e) s }

callee_declared : (classes : List ClassInfo) (name callee : MemberName) → ResolvesStatic classes name callee → DeclaresStatic classes callee
callee_declared classes name callee (in_named_class _ d) = d

pub row_nodes : (classes : List ClassInfo) (root : MemberName) (q : Inequality Node) → IsOfForm classes root → Row classes q → HasNodesOf (nodes_of classes) q
row_nodes classes root _ form (program.initializes_superclass class super there no_interface is) =
    let of_class = (and_both (is_class_of_form class) (list_all (is_method_of_form class.pool) class.methods) (form.form class there)).0 in
    let same = super_is_object class super of_class is in
    token_nodes (nodes_of classes) (Initialized class.name) (Initialized super) (class_there classes class there)
    (subst (λ (name : List ℕ). Contains (nodes_of classes) (Initialized name)) (sym same) (object_there classes root form))
row_nodes classes root _ form (program.constant name pool code pc predicate stack c has before is) =
    constant_nodes (nodes_of classes) predicate c (Result name pc) (before_nodes classes root name pool code pc predicate stack form has before).predicate_there
    (constant_there classes root name pool code pc predicate stack c form has before is)
row_nodes classes root _ form (program.call_initializes name pool code pc predicate stack callee has before call) =
    token_nodes (nodes_of classes) predicate (Initialized callee.class) (before_nodes classes root name pool code pc predicate stack form has before).predicate_there
    (initialized_there classes callee (callee_declared classes call.name callee call.resolves))
row_nodes classes root _ form (program.call_enters name pool code pc predicate stack callee has before call) =
    let d = callee_declared classes call.name callee call.resolves in
    token_nodes (nodes_of classes) predicate (Entered callee) (before_nodes classes root name pool code pc predicate stack form has before).predicate_there
    (entered_there classes d.class d.method callee d.class_there d.method_there d.named)
row_nodes classes root _ form (program.call_returns name pool code pc predicate stack callee has before call) =
    let d = callee_declared classes call.name callee call.resolves in
    copy_nodes (nodes_of classes) predicate (Returned callee) (Result name pc) (before_nodes classes root name pool code pc predicate stack form has before).predicate_there
    (returned_there classes d.class d.method callee d.class_there d.method_there d.named) (call_result_there classes root name pool code pc predicate stack callee form has before call)
row_nodes classes root _ form (program.returns_int name pool code pc predicate top stack has before is stands) =
    let known = before_nodes classes root name pool code pc predicate stack form has before in
    let k = length stack - 1 in
    let on_stack : Contains stack top = (k, slice_get_within stack k top is, get_or_from_slice_get stack k top top is) in
    copy_nodes (nodes_of classes) predicate top (Returned name) known.predicate_there (known.stack_there top on_stack) (returned_there classes has.class has.info name has.class_there has.method_there has.named)
row_nodes classes root _ form (program.returns name pool code pc predicate stack has before stands) =
    token_nodes (nodes_of classes) predicate (Returned name) (before_nodes classes root name pool code pc predicate stack form has before).predicate_there
    (returned_there classes has.class has.info name has.class_there has.method_there has.named)

pub nodes_are_there : (classes : List ClassInfo) (root : MemberName) (q : Inequality Node) → IsOfForm classes root → Contains (rows_of id_ classes) q → HasNodesOf (nodes_of classes) q
nodes_are_there classes root q form h = row_nodes classes root q form (listed_is_row classes root q form h)

-- ---- the root

pub root_is_there : (classes : List ClassInfo) (root : MemberName) → IsOfForm classes root → Contains (nodes_of classes) (Entered root) × Contains (nodes_of classes) (Initialized root.class) × Contains (nodes_of classes) Start
root_is_there classes root form =
    let d = form.declared in (
      entered_there classes d.class d.method root d.class_there d.method_there d.named,
      initialized_there classes root d,
      contains_tail Start Inst (Start ∷ Nothing ∷ shared_nodes classes ++ own_nodes classes) (contains_head Start (Nothing ∷ shared_nodes classes ++ own_nodes classes)),
    )
