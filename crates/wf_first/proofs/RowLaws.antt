-- The rows of a program are those of its list.
use Rattle.std.proofs.Common.{◌≡◌, ◌↔◌, ◌⊎◌, ℕ, ◌+◌, Bool, true, false, cond, List, [], ◌∷◌, ◌++◌, Option, Some, None, drop, refl, sym, ap, ap₂, subst, ◌∙◌, inl, inr}
use Rattle.std.specs.Prelude.{Contains, codes, ◌||◌, ◌&&◌, nat_lt}
use Rattle.std.specs.List.{list_all}
use Rattle.std.specs.Str.{bytes_eq}
use Rattle.std.proofs.lemmas.List.Elements.{Contains-append_cases, Contains-append_left, Contains-append_right}
use Rattle.std.proofs.lemmas.Slice.Eq.{bytes_eq-Decides}
use Rattle.wf_data.specs.declared.class_info.ClassInfo.{ClassInfo}
use Rattle.wf_data.specs.declared.class_info.CodeInfo.{CodeInfo}
use Rattle.wf_data.specs.declared.class_info.MethodInfo.{MethodInfo}
use Rattle.wf_data.specs.declared.class_info.PoolEntry.{PoolEntry}
use Rattle.wf_names.specs.declared.member.MemberName.{MemberName}
use Rattle.wf_data.specs.Flags.{is_interface}
use Rattle.wf_data.specs.Pool.{method_at}
use Rattle.wf_first.specs.declared.code.Operation.{Operation}
use Rattle.wf_first.specs.declared.code.Operation.TheVariants.{IntConstant, InvokeStatic, IntReturn, Return}
use Rattle.wf_first.specs.declared.code.Placed.{Placed}
use Rattle.wf_first.specs.Code.{size_of, operations_from, operations}
use Rattle.wf_first.specs.FirstForm.{are_of_form, is_step_of_form, is_call_of_form, depth_after, pushed_by}
use Rattle.wf_sys.specs.declared.inequality.Inequality.{Inequality}
use Rattle.wf_sys.specs.Names.{method_name}
use Rattle.wf_sys.specs.Nodes.{Node, Initialized, Entered, Returned, Result}
use Rattle.wf_sys.specs.Program as program
use Rattle.wf_sys.specs.Program.{Row, HasCode, Before, CallsStatic, ResolvesStatic, top_of, in_named_class, at_entry, behind_constant, behind_void_call, behind_int_call}
use Rattle.wf_first.specs.Calls.{statics_of, calls_known, is_known}
use Rattle.wf_first.specs.Form.{IsOfForm}
use Rattle.wf_first.specs.Nodes.{result_nodes}
use Rattle.wf_first.specs.Rows.{At, token_row, constant_row, copy_row, rows_at, call_rows, return_rows, behind, behind_call, rows_along, found_rows, code_rows, method_rows, super_rows, rows_of}
use Rattle.wf_first.proofs.ListLaws.{and_both, contains_head, contains_tail, contains_cases, contains_nothing}
use Rattle.wf_first.proofs.FormLaws.{member_declared, code_form, all_found}
use Rattle.wf_first.proofs.PathLaws.{Stands, what_stands, what_begins, goes_on, first_found, from_first}

abbrev pub id_ : Node → Node
id_ = λ (n : Node). n

-- what is known where a method is entered
abbrev pub at_start : MemberName → At Node
at_start name = record { predicate = Entered name; stack = [] }

pub only_one : {X : Type 0} (x y : X) → Contains (y ∷ []) x → y ≡ x
only_one x y h = elim (contains_cases x y [] h) [ inl same ↦ same | inr k ↦ absurd (contains_nothing x k) ]

same_callee : {classes : List ClassInfo} (name callee : MemberName) → ResolvesStatic classes name callee → name ≡ callee
same_callee name callee (in_named_class _ _) = refl

-- a call's place of the pool names the method to which it resolves
callee_named : (classes : List ClassInfo) (pool : List PoolEntry) (code : List ℕ) (pc : ℕ) (callee : MemberName) (call : CallsStatic classes pool code pc callee) → method_at pool call.place ≡ Some callee
callee_named classes pool code pc callee call = call.named ∙ ap Some (same_callee call.name callee call.resolves)

-- ---- what is listed is a row

call_there : (classes : List ClassInfo) (pool : List PoolEntry) (code : List ℕ) (pc place : ℕ) (callee : MemberName)
    → Stands code pc (InvokeStatic place) → method_at pool place ≡ Some callee → is_known (statics_of classes) (Some callee) ≡ true → CallsStatic classes pool code pc callee
call_there classes pool code pc place callee h is known = record {
  opcode = h.0;
  place = place;
  operand = h.1;
  name = callee;
  named = is;
  resolves = in_named_class callee (member_declared classes callee known);
}

module _ (classes : List ClassInfo) (name : MemberName) (pool : List PoolEntry) (code : List ℕ) (has : HasCode classes name pool code) (desc : List ℕ) (room : ℕ) (q : Inequality Node) where
  abbrev Reached : ℕ → At Node → Type 0
  Reached pc at = Before classes name pool code pc at.predicate at.stack

  -- the rows of a place
  step_row : (pc : ℕ) (at : At Node) (o : Operation) → Reached pc at → Stands code pc o → calls_known (statics_of classes) pool (record { pc = pc; operation = o }) ≡ true
      → Contains (rows_at id_ pool name at pc o) q → Row classes q
  step_row pc at (IntConstant c) before stands known h = subst (Row classes) (only_one q (constant_row at.predicate c (Result name pc)) h) (program.constant name pool code pc at.predicate at.stack c has before stands)
  step_row pc at (InvokeStatic place) before stands known h = go (method_at pool place) refl known h
    where
      go : (r : Option MemberName) → method_at pool place ≡ r → is_known (statics_of classes) r ≡ true → Contains (call_rows id_ at.predicate name pc r) q → Row classes q
      go None is known h = absurd cc
      go (Some callee) is known h =
          let call = call_there classes pool code pc place callee stands is known in
          let initializes = token_row at.predicate (Initialized callee.class) in
          let enters = token_row at.predicate (Entered callee) in
          let returns = copy_row at.predicate (Returned callee) (Result name pc) in
          elim (contains_cases q initializes (enters ∷ returns ∷ []) h) [
            | inl same ↦ subst (Row classes) same (program.call_initializes name pool code pc at.predicate at.stack callee has before call)
            | inr h1 ↦ elim (contains_cases q enters (returns ∷ []) h1) [
              | inl same ↦ subst (Row classes) same (program.call_enters name pool code pc at.predicate at.stack callee has before call)
              | inr h2 ↦ subst (Row classes) (only_one q returns h2) (program.call_returns name pool code pc at.predicate at.stack callee has before call)
            ]
          ]
  step_row pc at IntReturn before stands known h = go (top_of at.stack) refl h
    where
      go : (r : Option Node) → top_of at.stack ≡ r → Contains (return_rows id_ at.predicate name r) q → Row classes q
      go None is h = absurd (contains_nothing q h)
      go (Some top) is h = subst (Row classes) (only_one q (copy_row at.predicate top (Returned name)) h) (program.returns_int name pool code pc at.predicate top at.stack has before is stands)
  step_row pc at Return before stands known h = subst (Row classes) (only_one q (token_row at.predicate (Returned name)) h) (program.returns name pool code pc at.predicate at.stack has before stands)

  -- the rows from a place on, of these instructions
  abbrev Listed : List Placed → Type 0
  Listed os = (pc : ℕ) (at : At Node) (depth : ℕ) → operations_from 0 pc (drop pc code) ≡ Some os → are_of_form pool desc room (Some depth) os ≡ true → Reached pc at
      → Contains (rows_along id_ pool name (Some at) os) q → Row classes q

  -- the path goes on
  behind_row : (os : List Placed) → Listed os → (pc : ℕ) (at : At Node) (depth : ℕ) (o : Operation) → Reached pc at → Stands code pc o
      → is_step_of_form pool desc room depth o ≡ true → calls_known (statics_of classes) pool (record { pc = pc; operation = o }) ≡ true
      → operations_from 0 (pc + size_of o) (drop (pc + size_of o) code) ≡ Some os → are_of_form pool desc room (depth_after pool depth o) os ≡ true
      → Contains (rows_along id_ pool name (behind id_ pool name at pc o) os) q → Row classes q
  behind_row os later pc at depth (IntConstant c) before stands step known found path h =
      later (pc + 1) (record { predicate = at.predicate; stack = at.stack ++ Result name pc ∷ [] }) (depth + 1) found path (behind_constant pc at.predicate at.stack c before stands) h
  behind_row os later pc at depth (InvokeStatic place) before stands step known found path h = go (method_at pool place) refl step known path h
    where
      go : (r : Option MemberName) → method_at pool place ≡ r → is_call_of_form room depth r ≡ true → is_known (statics_of classes) r ≡ true → are_of_form pool desc room (Some (depth + pushed_by r)) os ≡ true
          → Contains (rows_along id_ pool name (behind_call id_ at (Result name pc) r) os) q → Row classes q
      go None is step known path h = absurd cc
      go (Some callee) is step known path h = kind (bytes_eq callee.desc (codes "()V")) refl step h
        where
          call : CallsStatic classes pool code pc callee
          call = call_there classes pool code pc place callee stands is known

          kind : (t : Bool) → bytes_eq callee.desc (codes "()V") ≡ t → (t || bytes_eq callee.desc (codes "()I") && nat_lt depth room) ≡ true
              → Contains (rows_along id_ pool name (Some (record { predicate = Result name pc; stack = cond t at.stack (at.stack ++ Result name pc ∷ []) })) os) q → Row classes q
          kind true void step h =
              later (pc + 3) (record { predicate = Result name pc; stack = at.stack }) (depth + pushed_by (Some callee)) found path
              (behind_void_call pc at.predicate at.stack callee before call ((bytes_eq-Decides callee.desc (codes "()V")).0 void)) h
          kind false other step h =
              let int = (and_both (bytes_eq callee.desc (codes "()I")) (nat_lt depth room) step).0 in
              later (pc + 3) (record { predicate = Result name pc; stack = at.stack ++ Result name pc ∷ [] }) (depth + pushed_by (Some callee)) found path
              (behind_int_call pc at.predicate at.stack callee before call ((bytes_eq-Decides callee.desc (codes "()I")).0 int)) h
  behind_row os later pc at depth IntReturn before stands step known found path h = absurd (contains_nothing q h)
  behind_row os later pc at depth Return before stands step known found path h = absurd (contains_nothing q h)

  along_row : (os : List Placed) → list_all (calls_known (statics_of classes) pool) os ≡ true → Listed os
  along_row [] calls pc at depth found path before h = absurd (contains_nothing q h)
  along_row (o ∷ os) calls pc at depth found path before h =
      let first = first_found code pc o os found in
      let stands = what_stands code pc o.operation first.begins in
      let steps = and_both (is_step_of_form pool desc room depth o.operation) (are_of_form pool desc room (depth_after pool depth o.operation) os) path in
      let known = and_both (calls_known (statics_of classes) pool o) (list_all (calls_known (statics_of classes) pool) os) calls in
      let there = subst (λ (k : ℕ). Contains (rows_at id_ pool name at k o.operation ++ rows_along id_ pool name (behind id_ pool name at k o.operation) os) q) first.at h in
      elim (Contains-append_cases (rows_at id_ pool name at pc o.operation) (rows_along id_ pool name (behind id_ pool name at pc o.operation) os) q there) [
        | inl here ↦ step_row pc at o.operation before stands known.0 here
        | inr behind_it ↦ behind_row os (along_row os known.1) pc at depth o.operation before stands steps.0 known.0 first.found steps.1 behind_it
      ]

-- the class and the method that a row of the list comes from
row_class : (classes : List ClassInfo) (q : Inequality Node) → Contains (rows_of id_ classes) q
    → (class : ClassInfo) × Contains classes class × (Contains (super_rows id_ class class.superclass) q ⊎ Contains (method_rows id_ class class.methods) q)
row_class [] q h = absurd (contains_nothing q h)
row_class (class ∷ classes) q h = elim (Contains-append_cases (super_rows id_ class class.superclass ++ method_rows id_ class class.methods) (rows_of id_ classes) q h) [
  | inl here ↦ (class, contains_head class classes, Contains-append_cases (super_rows id_ class class.superclass) (method_rows id_ class class.methods) q here)
  | inr later ↦ let w = row_class classes q later in (w.0, contains_tail w.0 class classes w.1, w.2)
]

row_method : (class : ClassInfo) (methods : List MethodInfo) (q : Inequality Node) → Contains (method_rows id_ class methods) q
    → (m : MethodInfo) × Contains methods m × Contains (code_rows id_ class.pool (method_name class m) m.code) q
row_method class [] q h = absurd (contains_nothing q h)
row_method class (m ∷ methods) q h = elim (Contains-append_cases (code_rows id_ class.pool (method_name class m) m.code) (method_rows id_ class methods) q h) [
  | inl here ↦ (m, contains_head m methods, here)
  | inr later ↦ let w = row_method class methods q later in (w.0, contains_tail w.0 m methods w.1, w.2)
]

super_row : (classes : List ClassInfo) (class : ClassInfo) (q : Inequality Node) → Contains classes class → Contains (super_rows id_ class class.superclass) q → Row classes q
super_row classes class q class_there h = go class.superclass refl h
  where
    kind : (super : List ℕ) → class.superclass ≡ Some super → (t : Bool) → is_interface class.flags ≡ t → Contains (cond t [] (token_row (Initialized class.name) (Initialized super) ∷ [])) q → Row classes q
    kind super is true interface h = absurd (contains_nothing q h)
    kind super is false interface h = subst (Row classes) (only_one q (token_row (Initialized class.name) (Initialized super)) h) (program.initializes_superclass class super class_there interface is)

    go : (r : Option (List ℕ)) → class.superclass ≡ r → Contains (super_rows id_ class r) q → Row classes q
    go None is h = absurd (contains_nothing q h)
    go (Some super) is h = kind super is (is_interface class.flags) refl h

code_row : (classes : List ClassInfo) (root : MemberName) (class : ClassInfo) (m : MethodInfo) (q : Inequality Node) → IsOfForm classes root → Contains classes class → Contains class.methods m
    → Contains (code_rows id_ class.pool (method_name class m) m.code) q → Row classes q
code_row classes root class m q form class_there method_there h = go m.code refl h
  where
    go : (r : Option CodeInfo) → m.code ≡ r → Contains (code_rows id_ class.pool (method_name class m) r) q → Row classes q
    go None is h = absurd (contains_nothing q h)
    go (Some body) is h =
        let f = code_form classes root class m body form class_there method_there is in
        let has : HasCode classes (method_name class m) class.pool body.code =
        record { class = class; info = m; body = body; class_there = class_there; method_there = method_there; named = refl; has_body = is; is_code = refl; is_pool = refl } in
        let there = subst (λ (r : Option (List Placed)). Contains (found_rows id_ class.pool (method_name class m) r) q) f.found h in
        along_row classes (method_name class m) class.pool body.code has m.desc body.max_stack q f.all f.calls 0 (at_start (method_name class m)) 0 (from_first body.code f.all f.found) f.path at_entry there

pub listed_is_row : (classes : List ClassInfo) (root : MemberName) (q : Inequality Node) → IsOfForm classes root → Contains (rows_of id_ classes) q → Row classes q
listed_is_row classes root q form h =
    let w = row_class classes q h in
    elim w.2 [
      | inl super ↦ super_row classes w.0 q w.1 super
      | inr methods ↦ let v = row_method w.0 w.0.methods q methods in code_row classes root w.0 v.0 q form w.1 v.1 v.2
    ]

-- ---- a row is listed

-- the walk comes to a place that is reached: what it finds from there on is part of what it finds in all
pub record Along (pool : List PoolEntry) (name : MemberName) (code : List ℕ) (all : List Placed) (pc : ℕ) (at : At Node) : Type 0 where
  pub os : List Placed
  pub found : operations_from 0 pc (drop pc code) ≡ Some os
  pub rows : (q : Inequality Node) → Contains (rows_along id_ pool name (Some at) os) q → Contains (rows_along id_ pool name (Some (at_start name)) all) q
  pub results : (n : Node) → Contains (result_nodes name os) n → Contains (result_nodes name all) n

further : (pool : List PoolEntry) (name : MemberName) (code : List ℕ) (all : List Placed) (pc : ℕ) (at next : At Node) (o : Operation) → Along pool name code all pc at → Stands code pc o → behind id_ pool name at pc o ≡ Some next
    → Along pool name code all (pc + size_of o) next
further pool name code all pc at next o along stands goes =
    let b = goes_on code pc o along.os (what_begins code pc o stands) along.found in
    record {
      os = b.rest;
      found = b.found;
      rows = λ q h. along.rows q (subst (λ (os : List Placed). Contains (rows_along id_ pool name (Some at) os) q) (sym b.is) (later q b.rest h));
      results = λ n h. along.results n (subst (λ (os : List Placed). Contains (result_nodes name os) n) (sym b.is) (after n b.rest o goes h));
    }
  where
    later : (q : Inequality Node) (rest : List Placed) → Contains (rows_along id_ pool name (Some next) rest) q → Contains (rows_at id_ pool name at pc o ++ rows_along id_ pool name (behind id_ pool name at pc o) rest) q
    later q rest h = Contains-append_right (rows_at id_ pool name at pc o) (rows_along id_ pool name (behind id_ pool name at pc o) rest) q (subst (λ (r : Option (At Node)). Contains (rows_along id_ pool name r rest) q) (sym goes) h)

    after : (n : Node) (rest : List Placed) (o : Operation) → behind id_ pool name at pc o ≡ Some next → Contains (result_nodes name rest) n → Contains (result_nodes name (record { pc = pc; operation = o } ∷ rest)) n
    after n rest (IntConstant c) goes h = contains_tail n (Result name pc) (result_nodes name rest) h
    after n rest (InvokeStatic place) goes h = contains_tail n (Result name pc) (result_nodes name rest) h
    after n rest IntReturn goes h = absurd cc
    after n rest Return goes h = absurd cc

-- where a path goes on behind a call
behind_is : (classes : List ClassInfo) (pool : List PoolEntry) (name : MemberName) (code : List ℕ) (pc : ℕ) (at : At Node) (callee : MemberName) (call : CallsStatic classes pool code pc callee)
    (t : Bool) → bytes_eq callee.desc (codes "()V") ≡ t
    → behind id_ pool name at pc (InvokeStatic call.place) ≡ Some (record { predicate = Result name pc; stack = cond t at.stack (at.stack ++ Result name pc ∷ []) })
behind_is classes pool name code pc at callee call t is =
    ap (behind_call id_ at (Result name pc)) (callee_named classes pool code pc callee call)
    ∙ ap (λ (b : Bool). Some (record { predicate = Result name pc; stack = cond b at.stack (at.stack ++ Result name pc ∷ []) })) is

pub along : (classes : List ClassInfo) (pool : List PoolEntry) (name : MemberName) (code : List ℕ) (all : List Placed) → operations_from 0 0 code ≡ Some all
    → (pc : ℕ) (predicate : Node) (stack : List Node) → Before classes name pool code pc predicate stack → Along pool name code all pc (record { predicate = predicate; stack = stack })
along classes pool name code all found pc predicate stack at_entry = record { os = all; found = found; rows = λ q h. h; results = λ n h. h }
along classes pool name code all found _ _ _ (behind_constant pc predicate stack c before is) =
    further pool name code all pc (record { predicate = predicate; stack = stack }) (record { predicate = predicate; stack = stack ++ Result name pc ∷ [] }) (IntConstant c)
    (along classes pool name code all found pc predicate stack before) is refl
along classes pool name code all found _ _ _ (behind_void_call pc predicate stack callee before call void) =
    further pool name code all pc (record { predicate = predicate; stack = stack }) (record { predicate = Result name pc; stack = stack }) (InvokeStatic call.place)
    (along classes pool name code all found pc predicate stack before) (call.opcode, call.operand)
    (behind_is classes pool name code pc (record { predicate = predicate; stack = stack }) callee call true (ap (λ (d : List ℕ). bytes_eq d (codes "()V")) void))
along classes pool name code all found _ _ _ (behind_int_call pc predicate stack callee before call int) =
    further pool name code all pc (record { predicate = predicate; stack = stack }) (record { predicate = Result name pc; stack = stack ++ Result name pc ∷ [] }) (InvokeStatic call.place)
    (along classes pool name code all found pc predicate stack before) (call.opcode, call.operand)
    (behind_is classes pool name code pc (record { predicate = predicate; stack = stack }) callee call false (ap (λ (d : List ℕ). bytes_eq d (codes "()V")) int))

-- the rows of a method are among those of the program
method_listed : (class : ClassInfo) (methods : List MethodInfo) (m : MethodInfo) (q : Inequality Node) → Contains methods m → Contains (code_rows id_ class.pool (method_name class m) m.code) q → Contains (method_rows id_ class methods) q
method_listed class [] m q there h = absurd (contains_nothing m there)
method_listed class (n ∷ methods) m q there h = elim (contains_cases m n methods there) [
  | inl same ↦ Contains-append_left (code_rows id_ class.pool (method_name class n) n.code) (method_rows id_ class methods) q
      (subst (λ (k : MethodInfo). Contains (code_rows id_ class.pool (method_name class k) k.code) q) (sym same) h)
  | inr later ↦ Contains-append_right (code_rows id_ class.pool (method_name class n) n.code) (method_rows id_ class methods) q (method_listed class methods m q later h)
]

class_listed : (classes : List ClassInfo) (class : ClassInfo) (q : Inequality Node) → Contains classes class
    → Contains (super_rows id_ class class.superclass ++ method_rows id_ class class.methods) q → Contains (rows_of id_ classes) q
class_listed [] class q there h = absurd (contains_nothing class there)
class_listed (c ∷ classes) class q there h = elim (contains_cases class c classes there) [
  | inl same ↦ Contains-append_left (super_rows id_ c c.superclass ++ method_rows id_ c c.methods) (rows_of id_ classes) q
      (subst (λ (k : ClassInfo). Contains (super_rows id_ k k.superclass ++ method_rows id_ k k.methods) q) (sym same) h)
  | inr later ↦ Contains-append_right (super_rows id_ c c.superclass ++ method_rows id_ c c.methods) (rows_of id_ classes) q (class_listed classes class q later h)
]

code_listed : (classes : List ClassInfo) (name : MemberName) (pool : List PoolEntry) (code : List ℕ) (all : List Placed) (q : Inequality Node) → HasCode classes name pool code → operations code ≡ Some all
    → Contains (rows_along id_ pool name (Some (at_start name)) all) q → Contains (rows_of id_ classes) q
code_listed classes name pool code all q has found h =
    class_listed classes has.class q has.class_there (Contains-append_right (super_rows id_ has.class has.class.superclass) (method_rows id_ has.class has.class.methods) q
    (method_listed has.class has.class.methods has.info q has.method_there (subst (λ (qs : List (Inequality Node)). Contains qs q) (sym same) h)))
  where
    same : code_rows id_ has.class.pool (method_name has.class has.info) has.info.code ≡ rows_along id_ pool name (Some (at_start name)) all
    same =
        ap (code_rows id_ has.class.pool (method_name has.class has.info)) has.has_body
        ∙ ap (λ (bytes : List ℕ). found_rows id_ has.class.pool (method_name has.class has.info) (operations bytes)) (sym has.is_code)
        ∙ ap (found_rows id_ has.class.pool (method_name has.class has.info)) found
        ∙ ap₂ (λ (p : List PoolEntry) (n : MemberName). rows_along id_ p n (Some (at_start n)) all) (sym has.is_pool) (sym has.named)

-- the rows of a place that is reached
place_listed : (classes : List ClassInfo) (root name : MemberName) (pool : List PoolEntry) (code : List ℕ) (pc : ℕ) (predicate : Node) (stack : List Node) (o : Operation) (q : Inequality Node)
    → IsOfForm classes root → HasCode classes name pool code → Before classes name pool code pc predicate stack → Stands code pc o
    → Contains (rows_at id_ pool name (record { predicate = predicate; stack = stack }) pc o) q → Contains (rows_of id_ classes) q
place_listed classes root name pool code pc predicate stack o q form has before stands h =
    let f = all_found classes root name pool code form has in
    let a = along classes pool name code f.0 (from_first code f.0 f.1) pc predicate stack before in
    let b = goes_on code pc o a.os (what_begins code pc o stands) a.found in
    let at : At Node = record { predicate = predicate; stack = stack } in
    let first = Contains-append_left (rows_at id_ pool name at pc o) (rows_along id_ pool name (behind id_ pool name at pc o) b.rest) q h in
    code_listed classes name pool code f.0 q has f.1 (a.rows q (subst (λ (os : List Placed). Contains (rows_along id_ pool name (Some at) os) q) (sym b.is) first))

-- those of a call
call_listed : (classes : List ClassInfo) (root name : MemberName) (pool : List PoolEntry) (code : List ℕ) (pc : ℕ) (predicate : Node) (stack : List Node) (callee : MemberName) (q : Inequality Node)
    → IsOfForm classes root → HasCode classes name pool code → Before classes name pool code pc predicate stack → CallsStatic classes pool code pc callee
    → Contains (call_rows id_ predicate name pc (Some callee)) q → Contains (rows_of id_ classes) q
call_listed classes root name pool code pc predicate stack callee q form has before call h =
    place_listed classes root name pool code pc predicate stack (InvokeStatic call.place) q form has before (call.opcode, call.operand)
    (subst (λ (r : Option MemberName). Contains (call_rows id_ predicate name pc r) q) (sym (callee_named classes pool code pc callee call)) h)

pub row_is_listed : (classes : List ClassInfo) (root : MemberName) (q : Inequality Node) → IsOfForm classes root → Row classes q → Contains (rows_of id_ classes) q
row_is_listed classes root _ form (program.initializes_superclass class super there no_interface is) =
    let q = token_row (Initialized class.name) (Initialized super) in
    let same : super_rows id_ class class.superclass ≡ q ∷ [] = ap (super_rows id_ class) is ∙ ap (λ (t : Bool). cond t [] (q ∷ [])) no_interface in
    class_listed classes class q there (Contains-append_left (super_rows id_ class class.superclass) (method_rows id_ class class.methods) q (subst (λ (qs : List (Inequality Node)). Contains qs q) (sym same) (contains_head q [])))
row_is_listed classes root _ form (program.constant name pool code pc predicate stack c has before is) =
    place_listed classes root name pool code pc predicate stack (IntConstant c) (constant_row predicate c (Result name pc)) form has before is (contains_head (constant_row predicate c (Result name pc)) [])
row_is_listed classes root _ form (program.call_initializes name pool code pc predicate stack callee has before call) =
    call_listed classes root name pool code pc predicate stack callee (token_row predicate (Initialized callee.class)) form has before call
    (contains_head (token_row predicate (Initialized callee.class)) (token_row predicate (Entered callee) ∷ copy_row predicate (Returned callee) (Result name pc) ∷ []))
row_is_listed classes root _ form (program.call_enters name pool code pc predicate stack callee has before call) =
    let q = token_row predicate (Entered callee) in
    let rest = copy_row predicate (Returned callee) (Result name pc) ∷ [] in
    call_listed classes root name pool code pc predicate stack callee q form has before call (contains_tail q (token_row predicate (Initialized callee.class)) (q ∷ rest) (contains_head q rest))
row_is_listed classes root _ form (program.call_returns name pool code pc predicate stack callee has before call) =
    let q = copy_row predicate (Returned callee) (Result name pc) in
    call_listed classes root name pool code pc predicate stack callee q form has before call
    (contains_tail q (token_row predicate (Initialized callee.class)) (token_row predicate (Entered callee) ∷ q ∷ []) (contains_tail q (token_row predicate (Entered callee)) (q ∷ []) (contains_head q [])))
row_is_listed classes root _ form (program.returns_int name pool code pc predicate top stack has before is stands) =
    let q = copy_row predicate top (Returned name) in
    place_listed classes root name pool code pc predicate stack IntReturn q form has before stands (subst (λ (r : Option Node). Contains (return_rows id_ predicate name r) q) (sym is) (contains_head q []))
row_is_listed classes root _ form (program.returns name pool code pc predicate stack has before stands) =
    place_listed classes root name pool code pc predicate stack Return (token_row predicate (Returned name)) form has before stands (contains_head (token_row predicate (Returned name)) [])

pub rows_are_rows : (classes : List ClassInfo) (root : MemberName) (q : Inequality Node) → IsOfForm classes root → Row classes q ↔ Contains (rows_of (λ (n : Node). n) classes) q
rows_are_rows classes root q form = (row_is_listed classes root q form, listed_is_row classes root q form)
