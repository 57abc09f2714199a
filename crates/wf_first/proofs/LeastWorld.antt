-- The world of the least solution: what is read off it, where no type, field or place can be in it.
use Rattle.std.proofs.Common.{◌≡◌, ℕ, Bool, true, false, List, [], ◌∷◌, length, if◌then◌else◌, refl, sym, subst, arith, inl, inr}
use Rattle.std.specs.Prelude.{Contains}
use Rattle.std.specs.declared.cmp.Ordering.{Ordering}
use Rattle.std.specs.List.Sorted.{IsStrictlySortedBy}
use Rattle.std.proofs.lemmas.Bool.Decides.{Decides-eqb}
use Rattle.std.proofs.lemmas.List.Elements.{Contains-append_left, Contains-append_right, Contains-append_cases}
use Rattle.wf_data.specs.declared.class_info.ClassInfo.{ClassInfo}
use Rattle.wf_data.specs.declared.class_info.FieldInfo.{FieldInfo}
use Rattle.wf_data.specs.declared.class_info.MethodInfo.{MethodInfo}
use Rattle.wf_names.specs.declared.member.MemberName.{MemberName}
use Rattle.wf_first.specs.FirstForm.{is_first_form}
use Rattle.wf_sys.specs.declared.flow.Flow.{Flow}
use Rattle.wf_sys.specs.declared.flow.Flow.TheVariants.{Empty, Set, Is, Any}
use Rattle.wf_sys.specs.Values.{is_empty, IsNonEmpty, HoldsType}
use Rattle.wf_sys.specs.System.{Least}
use Rattle.wf_sys.specs.Names.{method_name, DeclaresField, Lists, name_cmp, member_cmp, place_cmp}
use Rattle.wf_sys.specs.Nodes.{Node, Inst, Entered}
use Rattle.wf_sys.specs.Program.{Row, Seed}
use Rattle.wf_sys.specs.WorldOf.{IsEntered, IsTouched, IsUnresolved, IsLeastWorld}
use Rattle.wf_first.specs.Form.{IsOfForm}
use Rattle.wf_first.specs.Solution.{entered_among, entered_in}
use Rattle.wf_first.proofs.ListLaws.{and_both, contains_head, contains_tail, contains_cases, contains_nothing}

-- ---- the methods that are entered

-- what the test on values says
abbrev EmptyTest : Type 0
EmptyTest = (v : Flow) → (is_empty v ≡ false → IsNonEmpty v) × (IsNonEmpty v → is_empty v ≡ false)

-- a method of a list that is entered
record IsEnteredOf (x : Node → Flow) (class : ClassInfo) (methods : List MethodInfo) (name : MemberName) : Type 0 where
  method : MethodInfo
  there : Contains methods method
  named : name ≡ method_name class method
  entered : IsNonEmpty (x (Entered name))

module _ (test : EmptyTest) (x : Node → Flow) (class : ClassInfo) where
  later : (m : MethodInfo) (methods : List MethodInfo) (name : MemberName) → IsEnteredOf x class methods name → IsEnteredOf x class (m ∷ methods) name
  later m methods name e = record { method = e.method; there = contains_tail e.method m methods e.there; named = e.named; entered = e.entered }

  among_entered : (methods : List MethodInfo) (name : MemberName) → Contains (entered_among x class methods) name → IsEnteredOf x class methods name
  among_entered [] name h = absurd (contains_nothing name h)
  among_entered (m ∷ methods) name h = go (λ h. among_entered methods name h) (is_empty (x (Entered (method_name class m)))) refl h
    where
      go : (Contains (entered_among x class methods) name → IsEnteredOf x class methods name) → (b : Bool) → is_empty (x (Entered (method_name class m))) ≡ b
          → Contains (if b then entered_among x class methods else method_name class m ∷ entered_among x class methods) name → IsEnteredOf x class (m ∷ methods) name
      go rest true is h = later m methods name (rest h)
      go rest false is h = elim (contains_cases name (method_name class m) (entered_among x class methods) h) [
        | inl same ↦ record {
          method = m;
          there = contains_head m methods;
          named = sym same;
          entered = subst (λ (n : MemberName). IsNonEmpty (x (Entered n))) same ((test (x (Entered (method_name class m)))).0 is);
        }
        | inr behind ↦ later m methods name (rest behind)
      ]

  entered_listed : (methods : List MethodInfo) (m : MethodInfo) → Contains methods m → IsNonEmpty (x (Entered (method_name class m))) → Contains (entered_among x class methods) (method_name class m)
  entered_listed [] m there h = absurd (contains_nothing m there)
  entered_listed (k ∷ methods) m there h = elim (contains_cases m k methods there) [
    | inl same ↦ here (subst (λ (n : MethodInfo). IsNonEmpty (x (Entered (method_name class n)))) (sym same) h) same
    | inr behind ↦ skip (is_empty (x (Entered (method_name class k)))) (entered_listed methods m behind h)
  ]
    where
      here : IsNonEmpty (x (Entered (method_name class k))) → k ≡ m → Contains (entered_among x class (k ∷ methods)) (method_name class m)
      here flows same = go (is_empty (x (Entered (method_name class k)))) ((test (x (Entered (method_name class k)))).1 flows)
        where
          go : (b : Bool) → b ≡ false → Contains (if b then entered_among x class methods else method_name class k ∷ entered_among x class methods) (method_name class m)
          go true e = absurd cc
          go false e = subst (λ (n : MethodInfo). Contains (method_name class k ∷ entered_among x class methods) (method_name class n)) same (contains_head (method_name class k) (entered_among x class methods))

      skip : (b : Bool) → Contains (entered_among x class methods) (method_name class m) → Contains (if b then entered_among x class methods else method_name class k ∷ entered_among x class methods) (method_name class m)
      skip true c = c
      skip false c = contains_tail (method_name class m) (method_name class k) (entered_among x class methods) c

in_classes : (test : EmptyTest) (x : Node → Flow) (classes : List ClassInfo) (name : MemberName) → Contains (entered_in x classes) name → IsEntered classes x name
in_classes test x [] name h = absurd (contains_nothing name h)
in_classes test x (class ∷ classes) name h = elim (Contains-append_cases (entered_among x class class.methods) (entered_in x classes) name h) [
  | inl own ↦
      let e = among_entered test x class class.methods name own in
      record { declared = record { class = class; method = e.method; class_there = contains_head class classes; method_there = e.there; named = e.named }; entered = e.entered }
  | inr other ↦
      let e = in_classes test x classes name other in
      let d = e.declared in
      record { declared = record { class = d.class; method = d.method; class_there = contains_tail d.class class classes d.class_there; method_there = d.method_there; named = d.named }; entered = e.entered }
]

classes_in : (test : EmptyTest) (x : Node → Flow) (classes : List ClassInfo) (class : ClassInfo) (m : MethodInfo) → Contains classes class → Contains class.methods m → IsNonEmpty (x (Entered (method_name class m)))
    → Contains (entered_in x classes) (method_name class m)
classes_in test x [] class m there own h = absurd (contains_nothing class there)
classes_in test x (k ∷ classes) class m there own h = elim (contains_cases class k classes there) [
  | inl same ↦ Contains-append_left (entered_among x k k.methods) (entered_in x classes) (method_name class m)
      (subst (λ (c : ClassInfo). Contains (entered_among x c c.methods) (method_name class m)) (sym same) (entered_listed test x class class.methods m own h))
  | inr behind ↦ Contains-append_right (entered_among x k k.methods) (entered_in x classes) (method_name class m) (classes_in test x classes class m behind own h)
]

entered_all : (test : EmptyTest) (x : Node → Flow) (classes : List ClassInfo) (name : MemberName) → IsEntered classes x name → Contains (entered_in x classes) name
entered_all test x classes name e =
    let d = e.declared in
    subst (λ (n : MemberName). Contains (entered_in x classes) n) (sym d.named)
    (classes_in test x classes d.class d.method d.class_there d.method_there (subst (λ (n : MemberName). IsNonEmpty (x (Entered n))) d.named e.entered))

-- ---- what can't be in it

nothing_listed : {X : Type 0} (cmp : X → X → Ordering) (P : X → Type 0) → ((x : X) → P x → ⊥) → Lists cmp P []
unfolding IsStrictlySortedBy
nothing_listed cmp P none = record { in_order = tt; only = λ x h. absurd (contains_nothing x h); all = λ x h. absurd (none x h) }

no_type : (v : Flow) (name : List ℕ) → HoldsType v name → ⊥
no_type Empty name h = h
no_type Set name h = h
no_type (Is c) name h = h
no_type Any name h = h

empty_of_length : {X : Type 0} (xs : List X) → length xs ≡ 0 → xs ≡ []
empty_of_length [] e = refl
empty_of_length (x ∷ xs) e = absurd (omega (arith, e))

no_fields : (class : ClassInfo) → is_first_form class ≡ true → class.fields ≡ []
no_fields class form =
    let whole = and_both _ _ form in
    let a = and_both _ _ whole.0 in
    let b = and_both _ _ a.0 in
    let c = and_both _ _ b.0 in
    empty_of_length class.fields ((Decides-eqb (length class.fields) 0).0 c.1)

no_field : (classes : List ClassInfo) (root : MemberName) → IsOfForm classes root → (name : MemberName) → DeclaresField classes name → ⊥
no_field classes root form name d = contains_nothing d.field (subst (λ (fs : List FieldInfo). Contains fs d.field) (no_fields d.class (form.form d.class d.class_there)) d.field_there)

-- ---- the world

pub least_world : (classes : List ClassInfo) (root : MemberName) → IsOfForm classes root → EmptyTest → (x : Node → Flow) → Least (Row classes) (Seed root) x
    → (entered methods : List MemberName) → entered ≡ entered_in x classes → Lists member_cmp (Contains entered) methods
    → IsLeastWorld classes root (record { types = []; methods = methods; fields = []; unresolved = [] })
least_world classes root form test x least entered methods is l = record {
  solution = x;
  least = least;
  world_of = record {
    types = nothing_listed name_cmp (HoldsType (x Inst)) (no_type (x Inst));
    methods = record {
      in_order = l.in_order;
      only = λ m h. in_classes test x classes m (subst (λ (ms : List MemberName). Contains ms m) is (l.only m h));
      all = λ m e. l.all m (subst (λ (ms : List MemberName). Contains ms m) (sym is) (entered_all test x classes m e));
    };
    fields = nothing_listed member_cmp (IsTouched classes x) (λ f t. no_field classes root form f t.declared);
    unresolved = nothing_listed place_cmp (IsUnresolved classes x) (λ u h. h.fails);
  };
}
