-- What a program of the form has.
use Rattle.std.proofs.Common.{◌≡◌, ℕ, Bool, true, false, cond, List, [], ◌∷◌, Option, Some, None, length, refl, sym, ap, subst, ◌∙◌, inl, inr}
use Rattle.std.specs.Prelude.{◌==◌, Contains}
use Rattle.std.specs.List.{list_all}
use Rattle.std.proofs.lemmas.List.Elements.{Contains-append_cases}
use Rattle.wf_data.specs.declared.class_info.ClassInfo.{ClassInfo}
use Rattle.wf_data.specs.declared.class_info.CodeInfo.{CodeInfo}
use Rattle.wf_data.specs.declared.class_info.MethodInfo.{MethodInfo}
use Rattle.wf_data.specs.declared.class_info.PoolEntry.{PoolEntry}
use Rattle.wf_names.specs.declared.member.MemberName.{MemberName}
use Rattle.wf_data.specs.Flags.{is_static}
use Rattle.wf_names.specs.Members.{same_member}
use Rattle.wf_first.specs.declared.code.Placed.{Placed}
use Rattle.wf_first.specs.Code.{operations}
use Rattle.wf_first.specs.FirstForm.{are_of_form, are_found_of_form, is_code_of_form, is_kind_of_form, has_code_of_form, is_method_of_form, is_class_of_form}
use Rattle.wf_sys.specs.Names.{method_name}
use Rattle.wf_sys.specs.Program.{DeclaresStatic, HasCode}
use Rattle.wf_first.specs.Calls.{statics_in, statics_of, has_member, calls_known, found_call_known, code_calls_known, class_calls_known}
use Rattle.wf_first.specs.Form.{IsOfForm}
use Rattle.wf_first.proofs.FormKept.{IsStaticOf}
use Rattle.wf_first.proofs.MemberLists.{member_is}
use Rattle.wf_first.proofs.ListLaws.{and_both, contains_head, contains_tail, contains_cases, contains_nothing, all_at, any_where}

-- ---- static methods

static_in : (class : ClassInfo) (methods : List MethodInfo) (name : MemberName) → Contains (statics_in class methods) name → IsStaticOf class methods name
static_in class [] name h = absurd (contains_nothing name h)
static_in class (m ∷ methods) name h = go (λ k. static_in class methods name k) (is_static m.flags) refl h
  where
    later : IsStaticOf class methods name → IsStaticOf class (m ∷ methods) name
    later s = record { method = s.method; there = contains_tail s.method m methods s.there; static = s.static; named = s.named }

    go : (Contains (statics_in class methods) name → IsStaticOf class methods name) → (t : Bool) → is_static m.flags ≡ t
        → Contains (cond t (method_name class m ∷ statics_in class methods) (statics_in class methods)) name → IsStaticOf class (m ∷ methods) name
    go rest true is h = elim (contains_cases name (method_name class m) (statics_in class methods) h) [
      | inl same ↦ record { method = m; there = contains_head m methods; static = is; named = sym same }
      | inr k ↦ later (rest k)
    ]
    go rest false is h = later (rest h)

static_declared : (classes : List ClassInfo) (name : MemberName) → Contains (statics_of classes) name → DeclaresStatic classes name
static_declared [] name h = absurd (contains_nothing name h)
static_declared (class ∷ classes) name h = elim (Contains-append_cases (statics_in class class.methods) (statics_of classes) name h) [
  | inl here ↦ first (static_in class class.methods name here)
  | inr k ↦ later (static_declared classes name k)
]
  where
    first : IsStaticOf class class.methods name → DeclaresStatic (class ∷ classes) name
    first s = record { class = class; method = s.method; class_there = contains_head class classes; method_there = s.there; static = s.static; named = s.named }

    later : DeclaresStatic classes name → DeclaresStatic (class ∷ classes) name
    later d = record { class = d.class; method = d.method; class_there = contains_tail d.class class classes d.class_there; method_there = d.method_there; static = d.static; named = d.named }

-- a name among the static methods is declared
pub member_declared : (classes : List ClassInfo) (name : MemberName) → has_member (statics_of classes) name ≡ true → DeclaresStatic classes name
member_declared classes name e =
    let w = any_where (same_member name) (statics_of classes) e in
    subst (DeclaresStatic classes) (sym (member_is name w.0 w.2)) (static_declared classes w.0 w.1)

-- ---- codes

-- the instructions of a method's code are of the form, and name known methods
pub record CodeForm (classes : List ClassInfo) (class : ClassInfo) (m : MethodInfo) (body : CodeInfo) : Type 0 where
  pub all : List Placed
  pub found : operations body.code ≡ Some all
  pub path : are_of_form class.pool m.desc body.max_stack (Some 0) all ≡ true
  pub calls : list_all (calls_known (statics_of classes) class.pool) all ≡ true

pub code_form : (classes : List ClassInfo) (root : MemberName) (class : ClassInfo) (m : MethodInfo) (body : CodeInfo) → IsOfForm classes root → Contains classes class → Contains class.methods m → m.code ≡ Some body
    → CodeForm classes class m body
code_form classes root class m body form class_there method_there has_body = go (operations body.code) refl path calls
  where
    of_method : has_code_of_form class.pool m m.code ≡ true
    of_method = all_at (is_method_of_form class.pool) class.methods m (and_both (is_class_of_form class) (list_all (is_method_of_form class.pool) class.methods) (form.form class class_there)).1 method_there

    of_code : is_code_of_form class.pool m.desc body ≡ true
    of_code = (and_both (is_kind_of_form m body) (is_code_of_form class.pool m.desc body) (ap (has_code_of_form class.pool m) (sym has_body) ∙ of_method)).1

    path : are_found_of_form class.pool m.desc body.max_stack (operations body.code) ≡ true
    path = (and_both (length body.table == 0) (are_found_of_form class.pool m.desc body.max_stack (operations body.code)) of_code).1

    of_class : class_calls_known (statics_of classes) class ≡ true
    of_class = all_at (class_calls_known (statics_of classes)) classes class form.calls class_there

    calls : found_call_known (statics_of classes) class.pool (operations body.code) ≡ true
    calls = ap (code_calls_known (statics_of classes) class.pool) (sym has_body) ∙ all_at (λ (n : MethodInfo). code_calls_known (statics_of classes) class.pool n.code) class.methods m of_class method_there

    go : (r : Option (List Placed)) → operations body.code ≡ r → are_found_of_form class.pool m.desc body.max_stack r ≡ true → found_call_known (statics_of classes) class.pool r ≡ true → CodeForm classes class m body
    go None is p c = absurd cc
    go (Some all) is p c = record { all = all; found = is; path = p; calls = c }

-- each code has its instructions
pub all_found : (classes : List ClassInfo) (root name : MemberName) (pool : List PoolEntry) (code : List ℕ) → IsOfForm classes root → HasCode classes name pool code → (all : List Placed) × (operations code ≡ Some all)
all_found classes root name pool code form h =
    let f = code_form classes root h.class h.info h.body form h.class_there h.method_there h.has_body in
    (f.all, ap operations h.is_code ∙ f.found)
