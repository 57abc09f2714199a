-- The arrays that instructions make, at each opcode.
use Rattle.std.proofs.Common.{◌≡◌, ℕ, ◌<◌, ◌≤◌, List, [], ◌∷◌, length, drop, Some, None, refl, sym, ap, subst, ◌∙◌, arith, min, inl, inr, ◌⊎◌}
use Rattle.std.specs.Prelude.{slice_get}
use Rattle.std.proofs.lemmas.Bool.{cases_lt}
use Rattle.std.proofs.lemmas.List.{length-drop}
use Rattle.wf_data.specs.declared.class_info.ClassInfo.{ClassInfo}
use Rattle.wf_data.specs.declared.class_info.CodeInfo.{CodeInfo}
use Rattle.wf_data.specs.declared.class_info.MethodInfo.{MethodInfo}
use Rattle.wf_data.specs.declared.class_info.PoolEntry.{PoolEntry}
use Rattle.wf_data.specs.declared.instr.Instr.{Instr}
use Rattle.wf_data.specs.declared.instr.Placed.{Placed}
use Rattle.wf_opcode.specs.Instructions.{Instructions, IsBadAt, place_of}
use Rattle.wf_opcode.proofs.InstructionLaws.{one_list, not_both}
use Rattle.wf_classes.specs.World.{IsClosedWorld, IsAscending}
use Rattle.wf_subtype.specs.References.{IsArray}
use Rattle.wf_subtype.specs.Universe.{letter_of, array_name, operand_name, Makes, MakesOne, CodeMakes, MethodMakes, ClassMakes, IsMade, IsAmong, IsInstantiable, IsType, IsUniverse, IsComponent, Inserts, InsertsArrays}
use Rattle.wf_subtype.specs.Universe.IsType.{class, made, given}
use Rattle.wf_subtype.specs.Universe.Makes.{primitives, references, components}
use Rattle.wf_subtype.proofs.Naming.{name_brackets}
use Rattle.wf_subtype.proofs.Collecting.{none_added, added_alike, added_over, Below, At}

pub primitives_made : (classes : List ClassInfo) (xs ys : List (List ℕ)) (pool : List PoolEntry) (i : Instr) (code : ℕ) → i.op ≡ 0xBC → place_of i.a ≡ Some code → InsertsArrays classes xs ys (λ t. t ≡ 91 ∷ letter_of code ∷ []) → InsertsArrays classes xs ys (Makes pool i)
primitives_made classes xs ys pool i code op at h = added_alike classes xs ys (λ t. t ≡ 91 ∷ letter_of code ∷ []) (Makes pool i) (λ t e. primitives code op at e) (λ t a m. back t m) h where
  back : (t : List ℕ) → Makes pool i t → t ≡ 91 ∷ letter_of code ∷ []
  back t (primitives other o p e) = e ∙ (let same : other ≡ code = cc (p, at) in ap (λ n. 91 ∷ letter_of n ∷ []) same)
  back t (references component o n e) = absurd (omega (arith, o, op))
  back t (components outer lengths n o p q l e) = absurd (omega (arith, o, op))

pub no_primitives : (classes : List ClassInfo) (xs : List (List ℕ)) (pool : List PoolEntry) (i : Instr) → i.op ≡ 0xBC → place_of i.a ≡ None → InsertsArrays classes xs xs (Makes pool i)
no_primitives classes xs pool i op none = none_added classes xs (Makes pool i) (λ t a m. not t m) where
  not : (t : List ℕ) → Makes pool i t → ⊥
  not t (primitives other o p e) = absurd (cc (p, none))
  not t (references component o n e) = absurd (omega (arith, o, op))
  not t (components outer lengths n o p q l e) = absurd (omega (arith, o, op))

pub references_made : (classes : List ClassInfo) (xs ys : List (List ℕ)) (pool : List PoolEntry) (i : Instr) (component : List ℕ) → i.op ≡ 0xBD → operand_name pool i ≡ Some component → InsertsArrays classes xs ys (λ t. t ≡ array_name component) → InsertsArrays classes xs ys (Makes pool i)
references_made classes xs ys pool i component op at h = added_alike classes xs ys (λ t. t ≡ array_name component) (Makes pool i) (λ t e. references component op at e) (λ t a m. back t m) h where
  back : (t : List ℕ) → Makes pool i t → t ≡ array_name component
  back t (primitives other o p e) = absurd (omega (arith, o, op))
  back t (references other o p e) = e ∙ (let same : other ≡ component = cc (p, at) in ap array_name same)
  back t (components outer lengths n o p q l e) = absurd (omega (arith, o, op))

pub no_references : (classes : List ClassInfo) (xs : List (List ℕ)) (pool : List PoolEntry) (i : Instr) → i.op ≡ 0xBD → operand_name pool i ≡ None → InsertsArrays classes xs xs (Makes pool i)
no_references classes xs pool i op none = none_added classes xs (Makes pool i) (λ t a m. not t m) where
  not : (t : List ℕ) → Makes pool i t → ⊥
  not t (primitives other o p e) = absurd (omega (arith, o, op))
  not t (references other o p e) = absurd (cc (p, none))
  not t (components outer lengths n o p q l e) = absurd (omega (arith, o, op))

pub components_made : (classes : List ClassInfo) (xs ys : List (List ℕ)) (pool : List PoolEntry) (i : Instr) (outer : List ℕ) (lengths : ℕ) → i.op ≡ 0xC5 → operand_name pool i ≡ Some outer → place_of i.b ≡ Some lengths → InsertsArrays classes xs ys (IsComponent outer lengths) → InsertsArrays classes xs ys (Makes pool i)
components_made classes xs ys pool i outer lengths op at by h = added_alike classes xs ys (IsComponent outer lengths) (Makes pool i) (λ t c. components outer lengths c.n op at by c.within c.is) (λ t a m. back t m) h where
  back : (t : List ℕ) → Makes pool i t → IsComponent outer lengths t
  back t (primitives other o p e) = absurd (omega (arith, o, op))
  back t (references other o p e) = absurd (omega (arith, o, op))
  back t (components other count n o p q l e) =
      let same : other ≡ outer = cc (p, at) in
      let counted : count ≡ lengths = cc (q, by) in
      record { n = n; within = subst (λ k. n < k) counted l; is = e ∙ ap (drop n) same }

pub no_components : (classes : List ClassInfo) (xs : List (List ℕ)) (pool : List PoolEntry) (i : Instr) → i.op ≡ 0xC5 → ((outer : List ℕ) (lengths : ℕ) → operand_name pool i ≡ Some outer → place_of i.b ≡ Some lengths → ⊥) → InsertsArrays classes xs xs (Makes pool i)
no_components classes xs pool i op none = none_added classes xs (Makes pool i) (λ t a m. not t m) where
  not : (t : List ℕ) → Makes pool i t → ⊥
  not t (primitives other o p e) = absurd (omega (arith, o, op))
  not t (references other o p e) = absurd (omega (arith, o, op))
  not t (components other count n o p q l e) = none other count p q

pub nothing_made : (classes : List ClassInfo) (xs : List (List ℕ)) (pool : List PoolEntry) (i : Instr) → (i.op ≡ 0xBC → ⊥) → (i.op ≡ 0xBD → ⊥) → (i.op ≡ 0xC5 → ⊥) → InsertsArrays classes xs xs (Makes pool i)
nothing_made classes xs pool i a b c = none_added classes xs (Makes pool i) (λ t x m. not t m) where
  not : (t : List ℕ) → Makes pool i t → ⊥
  not t (primitives other o p e) = a o
  not t (references other o p e) = b o
  not t (components other count n o p q l e) = c o

-- no array has the empty name
no_empty : (classes : List ClassInfo) (name : List ℕ) → IsClosedWorld classes → length name ≡ 0 → IsArray classes name → ⊥
no_empty classes [] world e a = absurd (omega (arith, a.dims, name_brackets classes a.reference.dims a.reference.inner [] world a.refers.text))
no_empty classes (b ∷ name) world e a = absurd (omega arith)

pub all_components : (classes : List ClassInfo) (xs ys : List (List ℕ)) (name : List ℕ) (lengths count : ℕ) → IsClosedWorld classes → count ≡ min (length name) lengths → InsertsArrays classes xs ys (Below (λ n t. t ≡ drop n name) count) → InsertsArrays classes xs ys (IsComponent name lengths)
all_components classes xs ys name lengths count world e h = added_alike classes xs ys (Below (λ n t. t ≡ drop n name) count) (IsComponent name lengths) (λ t b. record { n = b.place; within = omega (arith, b.within, e); is = b.is }) (λ t a c. back t a c (cases_lt c.n count)) h where
  back : (t : List ℕ) → IsArray classes t → (c : IsComponent name lengths t) → ((c.n < count) ⊎ (count ≤ c.n)) → Below (λ n t. t ≡ drop n name) count t
  back t a c (inl l) = record { place = c.n; within = l; is = c.is }
  back t a c (inr o) = absurd (no_empty classes t world (omega (arith, ap length c.is, length-drop c.n name, o, e, c.within)) a)

-- ---- codes

pub code_makes : (classes : List ClassInfo) (xs ys : List (List ℕ)) (pool : List PoolEntry) (code : List ℕ) (placed : List Placed) → Instructions 0 code placed → InsertsArrays classes xs ys (MakesOne pool placed) → InsertsArrays classes xs ys (CodeMakes pool code)
code_makes classes xs ys pool code placed decoded h = added_alike classes xs ys (MakesOne pool placed) (CodeMakes pool code) (λ t m. record { placed = placed; decoded = decoded; makes = m })
    (λ t a m. subst (λ (q : List Placed). MakesOne pool q t) (one_list code m.placed placed m.decoded decoded) m.makes) h

pub no_code : (classes : List ClassInfo) (xs : List (List ℕ)) (pool : List PoolEntry) (code : List ℕ) (pc : ℕ) → IsBadAt code pc → InsertsArrays classes xs xs (CodeMakes pool code)
no_code classes xs pool code pc bad = none_added classes xs (CodeMakes pool code) (λ t a m. not_both code pc m.placed bad m.decoded)

pub method_makes : (classes : List ClassInfo) (xs ys : List (List ℕ)) (pool : List PoolEntry) (method : MethodInfo) (info : CodeInfo) → method.code ≡ Some info → InsertsArrays classes xs ys (CodeMakes pool info.code) → InsertsArrays classes xs ys (MethodMakes pool method)
method_makes classes xs ys pool method info has h = added_alike classes xs ys (CodeMakes pool info.code) (MethodMakes pool method) (λ t m. record { code = info; has = has; makes = m })
    (λ t a m. subst (λ (q : CodeInfo). CodeMakes pool q.code t) (same m.code (sym m.has ∙ has)) m.makes) h where
      same : (q : CodeInfo) → Some q ≡ Some info → q ≡ info
      same q e = cc

pub no_method : (classes : List ClassInfo) (xs : List (List ℕ)) (pool : List PoolEntry) (method : MethodInfo) → method.code ≡ None → InsertsArrays classes xs xs (MethodMakes pool method)
no_method classes xs pool method none = none_added classes xs (MethodMakes pool method) (λ t a m. not m.code (sym m.has ∙ none)) where
  not : (q : CodeInfo) → Some q ≡ None → ⊥
  not q e = cc

-- ---- lists

pub class_makes : (classes : List ClassInfo) (xs ys : List (List ℕ)) (k : ClassInfo) (methods : List MethodInfo) (pool : List PoolEntry) (n : ℕ) → methods ≡ k.methods → pool ≡ k.pool → length methods ≤ n → InsertsArrays classes xs ys (Below (At methods (MethodMakes pool)) n) → InsertsArrays classes xs ys (ClassMakes k)
class_makes classes xs ys k methods pool n e f all h =
    added_over classes xs ys methods (MethodMakes pool) (ClassMakes k) n all
    (λ place x t there m. record { place = place; method = x; there = ap (λ (ms : List MethodInfo). slice_get ms place) (sym e) ∙ there; makes = subst (λ (p : List PoolEntry). MethodMakes p x t) f m })
    (λ t m. (m.place, m.method, ap (λ (ms : List MethodInfo). slice_get ms m.place) e ∙ m.there, subst (λ (p : List PoolEntry). MethodMakes p m.method t) (sym f) m.makes)) h

pub world_makes : (classes : List ClassInfo) (xs ys : List (List ℕ)) (items : List ClassInfo) (n : ℕ) → items ≡ classes → length items ≤ n → InsertsArrays classes xs ys (Below (At items ClassMakes) n) → InsertsArrays classes xs ys (IsMade classes)
world_makes classes xs ys items n e all h =
    added_over classes xs ys items ClassMakes (IsMade classes) n all
    (λ place x t there m. record { place = place; class = x; there = ap (λ (ks : List ClassInfo). slice_get ks place) (sym e) ∙ there; makes = m })
    (λ t m. (m.place, m.class, ap (λ (ks : List ClassInfo). slice_get ks m.place) e ∙ m.there, m.makes)) h

pub named_among : (classes : List ClassInfo) (xs ys named : List (List ℕ)) (n : ℕ) → length named ≤ n → InsertsArrays classes xs ys (Below (At named (λ (x t : List ℕ). t ≡ x)) n) → InsertsArrays classes xs ys (IsAmong named)
named_among classes xs ys named n all h =
    added_over classes xs ys named (λ (x t : List ℕ). t ≡ x) (IsAmong named) n all
    (λ place x t there e. record { place = place; there = there ∙ ap (λ (y : List ℕ). Some y) (sym e) })
    (λ t m. (m.place, t, m.there, refl)) h

-- ---- the universe

pub universe_is : (classes : List ClassInfo) (named a b c : List (List ℕ)) → Inserts [] a (IsInstantiable classes) → InsertsArrays classes a b (IsMade classes) → InsertsArrays classes b c (IsAmong named) → IsAscending c → IsUniverse classes named c
universe_is classes named a b c first second third up = record {
  ascending = up;
  all = λ t h. every t h;
  only = λ t h. elim (third.only t h) [
    | inl p ↦ (elim (second.only t p) [
      | inl q ↦ (elim (first.only t q) [ inl r ↦ absurd (nothing t r.place r.there) | inr r ↦ class r ])
      | inr q ↦ made q.0 q.1
    ])
    | inr p ↦ given p.0 p.1
  ];
} where
  nothing : (t : List ℕ) (i : ℕ) → slice_get {X = List ℕ} [] i ≡ Some t → ⊥
  nothing t i e = cc

  every : (t : List ℕ) → IsType classes named t → IsAmong c t
  every t (class h) = third.kept t (second.kept t (first.all t h))
  every t (made array h) = third.kept t (second.all t array h)
  every t (given array h) = third.all t array h

pub empty_list : (xs : List (List ℕ)) → length xs ≡ 0 → xs ≡ []
empty_list [] e = refl
empty_list (x ∷ xs) e = absurd (omega arith)
