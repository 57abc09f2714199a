-- Rows over numbers and over names, the places of nodes, and how the least solution by number is that by name.
use Rattle.std.proofs.Common.{◌≡◌, ℕ, suc, ◌-◌, ◌<◌, ◌≤◌, Bool, true, false, cond, ◌&&◌, ◌⊎◌, List, [], ◌∷◌, ◌++◌, length, map, Option, Some, None, slice_index_or, refl, sym, ap, subst, ◌∙◌, arith, inl, inr}
use Rattle.std.specs.Prelude.{Contains, nat_eq, slice_set, slice_get, replicate, option_map, codes}
use Rattle.std.specs.Str.{bytes_eq}
use Rattle.std.proofs.lemmas.Bool.{cases_eq, cases_lt}
use Rattle.std.proofs.lemmas.Bool.Decides.{Decides-eqb}
use Rattle.std.proofs.lemmas.List.{map-append, length-map, get_or-map, get_or_past, get_or-set_same, get_or-set_other, get_or-replicate, length-set, length-replicate}
use Rattle.std.proofs.lemmas.List.Elements.{All-map, Contains-get_or, Contains-append_left, Contains-push}
use Rattle.std.proofs.lemmas.Option.{slice_get-map}
use Rattle.std.proofs.lemmas.Slice.Eq.{bytes_eq-Decides}
use Rattle.wf_data.specs.declared.class_info.ClassInfo.{ClassInfo}
use Rattle.wf_data.specs.declared.class_info.CodeInfo.{CodeInfo}
use Rattle.wf_data.specs.declared.class_info.MethodInfo.{MethodInfo}
use Rattle.wf_data.specs.declared.class_info.PoolEntry.{PoolEntry}
use Rattle.wf_names.specs.declared.member.MemberName.{MemberName}
use Rattle.wf_data.specs.Flags.{is_interface}
use Rattle.wf_data.specs.Pool.{method_at}
use Rattle.wf_names.specs.Members.{same_member}
use Rattle.wf_first.specs.declared.code.Operation.{Operation}
use Rattle.wf_first.specs.declared.code.Operation.TheVariants.{IntConstant, InvokeStatic, IntReturn, Return}
use Rattle.wf_first.specs.declared.code.Placed.{Placed}
use Rattle.wf_first.specs.Code.{operations}
use Rattle.wf_sys.specs.declared.flow.Flow.{Flow}
use Rattle.wf_sys.specs.declared.flow.Flow.TheVariants.{Empty, Set}
use Rattle.wf_sys.specs.declared.inequality.Guard.{Guard}
use Rattle.wf_sys.specs.declared.inequality.Guard.TheVariants.{Always, NonEmpty}
use Rattle.wf_sys.specs.declared.inequality.ValueOp.{ValueOp}
use Rattle.wf_sys.specs.declared.inequality.ValueOp.TheVariants.{Token, IntIs, Copy}
use Rattle.wf_sys.specs.declared.inequality.Inequality.{Inequality}
use Rattle.wf_sys.specs.Values.{◌⊑◌, IsNonEmpty}
use Rattle.wf_sys.specs.System.{GuardHolds, value_in, IsMet, Solves, Least}
use Rattle.wf_sys.specs.Assignments.{value_at, IsSeedOf, TargetsFit}
use Rattle.wf_sys.specs.Names.{method_name}
use Rattle.wf_sys.specs.Nodes.{Node, Inst, Start, Nothing, Initialized, Entered, Parameter, Returned, Result, Touched}
use Rattle.wf_sys.specs.Program.{top_of, Seed, start, entered, initialized}
use Rattle.wf_first.specs.Nodes.{same_node, has_node, place_of, with_node, with_nodes}
use Rattle.wf_first.specs.Rows.{At, token_row, call_rows, return_rows, rows_at, behind_call, behind, rows_along, found_rows, code_rows, method_rows, super_rows, rows_of, renamed_guard, renamed_value, renamed, HasNodesOf}
use Rattle.wf_first.specs.Solution.{seeded, by_name}
use Rattle.wf_first.proofs.MemberLists.{member_is}
use Rattle.wf_first.proofs.ListLaws.{and_both, contains_head, contains_tail, contains_cases, contains_nothing, any_where}

-- ---- rows over other nodes: the rows that are made for the numbers are those that are made for the names, renamed

module _ {M N : Type 0} (μ : M → N) (ν : Node → M) where
  abbrev to : Node → N
  to n = μ (ν n)

  -- what is known of the other nodes
  abbrev moved : At M → At N
  moved at = record { predicate = μ at.predicate; stack = map μ at.stack }

  abbrev known : N → List N → Option (At N)
  known predicate stack = Some (record { predicate = predicate; stack = stack })

  top_moved : (stack : List M) → top_of (map μ stack) ≡ option_map μ (top_of stack)
  top_moved stack = ap (λ k. slice_get (map μ stack) (k - 1)) (length-map stack μ) ∙ slice_get-map μ stack (length stack - 1)

  call_renamed : (predicate : M) (name : MemberName) (pc : ℕ) (callee : Option MemberName) → call_rows to (μ predicate) name pc callee ≡ map (renamed μ) (call_rows ν predicate name pc callee)
  call_renamed predicate name pc None = refl
  call_renamed predicate name pc (Some callee) = refl

  return_renamed : (predicate : M) (name : MemberName) (top : Option M) → return_rows to (μ predicate) name (option_map μ top) ≡ map (renamed μ) (return_rows ν predicate name top)
  return_renamed predicate name None = refl
  return_renamed predicate name (Some top) = refl

  at_renamed : (pool : List PoolEntry) (name : MemberName) (at : At M) (pc : ℕ) (o : Operation) → rows_at to pool name (moved at) pc o ≡ map (renamed μ) (rows_at ν pool name at pc o)
  at_renamed pool name at pc (IntConstant c) = refl
  at_renamed pool name at pc (InvokeStatic place) = call_renamed at.predicate name pc (method_at pool place)
  at_renamed pool name at pc IntReturn = ap (return_rows to (μ at.predicate) name) (top_moved at.stack) ∙ return_renamed at.predicate name (top_of at.stack)
  at_renamed pool name at pc Return = refl

  -- a stack with one flow more
  pushed : (stack : List M) (top : M) → map μ stack ++ μ top ∷ [] ≡ map μ (stack ++ top ∷ [])
  pushed stack top = sym (map-append μ stack (top ∷ []))

  behind_call_moved : (at : At M) (result : M) (callee : Option MemberName) → behind_call to (moved at) (μ result) callee ≡ option_map moved (behind_call ν at result callee)
  behind_call_moved at result None = refl
  behind_call_moved at result (Some callee) = go (bytes_eq callee.desc (codes "()V"))
    where
      go : (void : Bool) → known (μ result) (cond void (map μ at.stack) (map μ at.stack ++ μ result ∷ [])) ≡ known (μ result) (map μ (cond void at.stack (at.stack ++ result ∷ [])))
      go true = refl
      go false = ap (known (μ result)) (pushed at.stack result)

  behind_moved : (pool : List PoolEntry) (name : MemberName) (at : At M) (pc : ℕ) (o : Operation) → behind to pool name (moved at) pc o ≡ option_map moved (behind ν pool name at pc o)
  behind_moved pool name at pc (IntConstant c) = ap (known (μ at.predicate)) (pushed at.stack (ν (Result name pc)))
  behind_moved pool name at pc (InvokeStatic place) = behind_call_moved at (ν (Result name pc)) (method_at pool place)
  behind_moved pool name at pc IntReturn = refl
  behind_moved pool name at pc Return = refl

  -- rows before others
  both_renamed : (xs ys : List (Inequality M)) (vs ws : List (Inequality N)) → vs ≡ map (renamed μ) xs → ws ≡ map (renamed μ) ys → vs ++ ws ≡ map (renamed μ) (xs ++ ys)
  both_renamed xs ys vs ws p q = ap (λ (l : List (Inequality N)). l ++ ws) p ∙ ap (λ (l : List (Inequality N)). map (renamed μ) xs ++ l) q ∙ sym (map-append (renamed μ) xs ys)

  along_renamed : (pool : List PoolEntry) (name : MemberName) (at : Option (At M)) (os : List Placed) → rows_along to pool name (option_map moved at) os ≡ map (renamed μ) (rows_along ν pool name at os)
  along_renamed pool name None os = refl
  along_renamed pool name (Some at) [] = refl
  along_renamed pool name (Some at) (o ∷ os) =
      let next = behind ν pool name at o.pc o.operation in
      both_renamed (rows_at ν pool name at o.pc o.operation) (rows_along ν pool name next os) (rows_at to pool name (moved at) o.pc o.operation) (rows_along to pool name (behind to pool name (moved at) o.pc o.operation) os)
      (at_renamed pool name at o.pc o.operation)
      (ap (λ (b : Option (At N)). rows_along to pool name b os) (behind_moved pool name at o.pc o.operation) ∙ along_renamed pool name next os)

  found_renamed : (pool : List PoolEntry) (name : MemberName) (os : Option (List Placed)) → found_rows to pool name os ≡ map (renamed μ) (found_rows ν pool name os)
  found_renamed pool name None = refl
  found_renamed pool name (Some os) = along_renamed pool name (Some (record { predicate = ν (Entered name); stack = [] })) os

  code_renamed : (pool : List PoolEntry) (name : MemberName) (code : Option CodeInfo) → code_rows to pool name code ≡ map (renamed μ) (code_rows ν pool name code)
  code_renamed pool name None = refl
  code_renamed pool name (Some code) = found_renamed pool name (operations code.code)

  method_renamed : (class : ClassInfo) (methods : List MethodInfo) → method_rows to class methods ≡ map (renamed μ) (method_rows ν class methods)
  method_renamed class [] = refl
  method_renamed class (m ∷ methods) = both_renamed (code_rows ν class.pool (method_name class m) m.code) (method_rows ν class methods) (code_rows to class.pool (method_name class m) m.code) (method_rows to class methods)
      (code_renamed class.pool (method_name class m) m.code) (method_renamed class methods)

  super_renamed : (class : ClassInfo) (super : Option (List ℕ)) → super_rows to class super ≡ map (renamed μ) (super_rows ν class super)
  super_renamed class None = refl
  super_renamed class (Some super) = go (is_interface class.flags)
    where
      go : (interface : Bool) → cond interface [] (token_row (to (Initialized class.name)) (to (Initialized super)) ∷ []) ≡ map (renamed μ) (cond interface [] (token_row (ν (Initialized class.name)) (ν (Initialized super)) ∷ []))
      go true = refl
      go false = refl

  pub rows_moved : (classes : List ClassInfo) → rows_of to classes ≡ map (renamed μ) (rows_of ν classes)
  rows_moved [] = refl
  rows_moved (class ∷ classes) =
      both_renamed (super_rows ν class class.superclass ++ method_rows ν class class.methods) (rows_of ν classes) (super_rows to class class.superclass ++ method_rows to class class.methods) (rows_of to classes)
      (both_renamed (super_rows ν class class.superclass) (method_rows ν class class.methods) (super_rows to class class.superclass) (method_rows to class class.methods) (super_renamed class class.superclass) (method_renamed class class.methods))
      (rows_moved classes)

-- the names themselves
abbrev pub id_ : Node → Node
id_ n = n

pub rows_renamed : {N : Type 0} (ν : Node → N) (classes : List ClassInfo) → rows_of ν classes ≡ map (renamed ν) (rows_of id_ classes)
rows_renamed ν classes = rows_moved ν id_ classes

-- ---- places of nodes

both_true : (a b : Bool) → a ≡ true → b ≡ true → (a && b) ≡ true
both_true true b p q = q
both_true false b p q = absurd cc

bytes_itself : (xs : List ℕ) → bytes_eq xs xs ≡ true
bytes_itself xs = (bytes_eq-Decides xs xs).1 refl

pub member_itself : (a : MemberName) → same_member a a ≡ true
member_itself a = both_true (bytes_eq a.class a.class) (bytes_eq a.name a.name && bytes_eq a.desc a.desc) (bytes_itself a.class)
    (both_true (bytes_eq a.name a.name) (bytes_eq a.desc a.desc) (bytes_itself a.name) (bytes_itself a.desc))

-- a member and a number
member_and : {X : Type 0} (f : MemberName → ℕ → X) (m n : MemberName) (i j : ℕ) → (same_member m n && nat_eq i j) ≡ true → f m i ≡ f n j
member_and f m n i j e =
    let both = and_both (same_member m n) (nat_eq i j) e in
    ap (λ (x : MemberName). f x i) (member_is m n both.0) ∙ ap (λ (k : ℕ). f n k) ((Decides-eqb i j).0 both.1)

itself_and : (m : MemberName) (i : ℕ) → (same_member m m && nat_eq i i) ≡ true
itself_and m i = both_true (same_member m m) (nat_eq i i) (member_itself m) ((Decides-eqb i i).1 refl)

pub node_is : (a b : Node) → same_node a b ≡ true → a ≡ b
node_is Inst Inst e = refl
node_is Start Start e = refl
node_is Nothing Nothing e = refl
node_is (Initialized a) (Initialized b) e = ap (λ (c : List ℕ). Initialized c) ((bytes_eq-Decides a b).0 e)
node_is (Entered m) (Entered n) e = ap (λ (x : MemberName). Entered x) (member_is m n e)
node_is (Parameter m i) (Parameter n j) e = member_and (λ (x : MemberName) (k : ℕ). Parameter x k) m n i j e
node_is (Returned m) (Returned n) e = ap (λ (x : MemberName). Returned x) (member_is m n e)
node_is (Result m i) (Result n j) e = member_and (λ (x : MemberName) (k : ℕ). Result x k) m n i j e
node_is (Touched m) (Touched n) e = ap (λ (x : MemberName). Touched x) (member_is m n e)
node_is a b e = absurd cc

pub node_itself : (a : Node) → same_node a a ≡ true
node_itself Inst = refl
node_itself Start = refl
node_itself Nothing = refl
node_itself (Initialized a) = bytes_itself a
node_itself (Entered m) = member_itself m
node_itself (Parameter m i) = itself_and m i
node_itself (Returned m) = member_itself m
node_itself (Result m i) = itself_and m i
node_itself (Touched m) = member_itself m

-- the place of a node that is there
pub place_below : (nodes : List Node) (n : Node) → Contains nodes n → place_of nodes n < length nodes
place_below [] n h = absurd (contains_nothing n h)
place_below (m ∷ nodes) n h = go (λ later. place_below nodes n later) (same_node n m) refl
  where
    go : (Contains nodes n → place_of nodes n < length nodes) → (b : Bool) → same_node n m ≡ b → cond b 0 (suc (place_of nodes n)) < length (m ∷ nodes)
    go rest true e = omega arith
    go rest false e = elim (contains_cases n m nodes h) [
      | inl same ↦ let t : same_node n m ≡ true = subst (λ (k : Node). same_node n k ≡ true) (sym same) (node_itself n) in absurd cc
      | inr later ↦ let lt = rest later in omega arith
    ]

-- what stands at a node's place is the node
pub place_is : (nodes : List Node) (n d : Node) → place_of nodes n < length nodes → slice_index_or nodes (place_of nodes n) d ≡ n
place_is [] n d lt = absurd (omega (arith, lt))
place_is (m ∷ nodes) n d lt = go (λ below. place_is nodes n d below) (same_node n m) refl lt
  where
    go : (place_of nodes n < length nodes → slice_index_or nodes (place_of nodes n) d ≡ n) → (b : Bool) → same_node n m ≡ b → cond b 0 (suc (place_of nodes n)) < length (m ∷ nodes)
        → slice_index_or (m ∷ nodes) (cond b 0 (suc (place_of nodes n))) d ≡ n
    go rest true e below = sym (node_is n m e)
    go rest false e below = rest (omega arith)

pub place_holds : (nodes : List Node) (n d : Node) → Contains nodes n → slice_index_or nodes (place_of nodes n) d ≡ n
place_holds nodes n d h = place_is nodes n d (place_below nodes n h)

-- a node is past the end, or there
pub place_cases : (nodes : List Node) (n : Node) → (place_of nodes n ≡ length nodes) ⊎ Contains nodes n
place_cases [] n = inl refl
place_cases (m ∷ nodes) n = go (place_cases nodes n) (same_node n m) refl
  where
    go : (place_of nodes n ≡ length nodes) ⊎ Contains nodes n → (b : Bool) → same_node n m ≡ b → (cond b 0 (suc (place_of nodes n)) ≡ length (m ∷ nodes)) ⊎ Contains (m ∷ nodes) n
    go rest true e = inr (subst (λ (k : Node). Contains (m ∷ nodes) k) (sym (node_is n m e)) (contains_head m nodes))
    go (inl past) false e = inl (ap (λ (k : ℕ). suc k) past)
    go (inr later) false e = inr (contains_tail n m nodes later)

-- ---- nodes with more

pub with_node_old : (nodes : List Node) (n m : Node) → Contains nodes m → Contains (with_node nodes n) m
with_node_old nodes n m h = go (has_node nodes n)
  where
    go : (b : Bool) → Contains (cond b nodes (nodes ++ n ∷ [])) m
    go true = h
    go false = Contains-append_left nodes (n ∷ []) m h

pub with_node_new : (nodes : List Node) (n : Node) → Contains (with_node nodes n) n
with_node_new nodes n = go (has_node nodes n) refl
  where
    go : (b : Bool) → has_node nodes n ≡ b → Contains (cond b nodes (nodes ++ n ∷ [])) n
    go true e = let w = any_where (same_node n) nodes e in subst (λ (k : Node). Contains nodes k) (sym (node_is n w.0 w.2)) w.1
    go false e = Contains-push nodes n

pub with_nodes_old : (nodes more : List Node) (n : Node) → Contains nodes n → Contains (with_nodes nodes more) n
with_nodes_old nodes [] n h = h
with_nodes_old nodes (m ∷ more) n h = with_nodes_old (with_node nodes m) more n (with_node_old nodes m n h)

pub with_nodes_new : (nodes more : List Node) (n : Node) → Contains more n → Contains (with_nodes nodes more) n
with_nodes_new nodes [] n h = absurd (contains_nothing n h)
with_nodes_new nodes (m ∷ more) n h = elim (contains_cases n m more h) [
  | inl same ↦ with_nodes_old (with_node nodes m) more n (subst (λ (k : Node). Contains (with_node nodes m) k) same (with_node_new nodes m))
  | inr later ↦ with_nodes_new (with_node nodes m) more n later
]

-- ---- elements of a mapped list

pub contains_map : {X Y : Type 0} (f : X → Y) (xs : List X) (x : X) → Contains xs x → Contains (map f xs) (f x)
contains_map f xs x h =
    let long = length-map xs f in
    (h.0, omega (arith, h.1, long), get_or-map f xs h.0 x (f x) h.1 ∙ ap f h.2)

pub map_contains : {X Y : Type 0} (f : X → Y) (xs : List X) (y : Y) → Contains (map f xs) y → (x : X) × Contains xs x × (y ≡ f x)
map_contains f [] y h = absurd (contains_nothing y h)
map_contains f (x ∷ xs) y h = elim (contains_cases y (f x) (map f xs) h) [
  | inl same ↦ (x, contains_head x xs, sym same)
  | inr later ↦ let w = map_contains f xs y later in (w.0, contains_tail w.0 x xs w.1, w.2)
]

-- ---- inequalities over other nodes

guard_renamed : {M N : Type 0} (μ : M → N) (guard : Guard M) (x : N → Flow) → GuardHolds guard (λ (m : M). x (μ m)) → GuardHolds (renamed_guard μ guard) x
guard_renamed μ Always x h = tt
guard_renamed μ (NonEmpty n) x h = h

value_renamed : {M N : Type 0} (μ : M → N) (value : ValueOp M) (x : N → Flow) → value_in (renamed_value μ value) x ≡ value_in value (λ (m : M). x (μ m))
value_renamed μ Token x = refl
value_renamed μ (IntIs c) x = refl
value_renamed μ (Copy n) x = refl

met_renamed : {M N : Type 0} (μ : M → N) (q : Inequality M) (x : N → Flow) → IsMet (renamed μ q) x → IsMet q (λ (m : M). x (μ m))
met_renamed μ q x met h = subst (λ (v : Flow). v ⊑ x (μ q.target)) (value_renamed μ q.value x) (met (guard_renamed μ q.guard x h))

-- ---- assignments by number and by name

-- the value of a node of this number, by an assignment to the names
abbrev numbered : List Node → (Node → Flow) → ℕ → Flow
numbered nodes y k = y (slice_index_or nodes k Nothing)

numbered_is : (nodes : List Node) (y : Node → Flow) (n : Node) → Contains nodes n → numbered nodes y (place_of nodes n) ≡ y n
numbered_is nodes y n h = ap y (place_holds nodes n Nothing h)

renamed_guard_holds : (nodes : List Node) (y : Node → Flow) (guard : Guard Node) → ((n : Node) → guard ≡ NonEmpty n → Contains nodes n) → GuardHolds (renamed_guard (place_of nodes) guard) (numbered nodes y) → GuardHolds guard y
renamed_guard_holds nodes y Always there h = tt
renamed_guard_holds nodes y (NonEmpty n) there h = subst (λ (v : Flow). IsNonEmpty v) (numbered_is nodes y n (there n refl)) h

renamed_value_is : (nodes : List Node) (y : Node → Flow) (value : ValueOp Node) → ((n : Node) → value ≡ Copy n → Contains nodes n) → value_in (renamed_value (place_of nodes) value) (numbered nodes y) ≡ value_in value y
renamed_value_is nodes y Token there = refl
renamed_value_is nodes y (IntIs c) there = refl
renamed_value_is nodes y (Copy n) there = numbered_is nodes y n (there n refl)

renamed_met : (nodes : List Node) (y : Node → Flow) (q : Inequality Node) → HasNodesOf nodes q → IsMet q y → IsMet (renamed (place_of nodes) q) (numbered nodes y)
renamed_met nodes y q has met h =
    let below : value_in q.value y ⊑ y q.target = met (renamed_guard_holds nodes y q.guard has.guard h) in
    let target : value_in q.value y ⊑ numbered nodes y (place_of nodes q.target) = subst (λ (v : Flow). value_in q.value y ⊑ v) (sym (numbered_is nodes y q.target has.target)) below in
    subst (λ (v : Flow). v ⊑ numbered nodes y (place_of nodes q.target)) (sym (renamed_value_is nodes y q.value has.value)) target

-- ---- seeds

pub seeded_length : (nodes : List Node) (root : MemberName) → length (seeded nodes root) ≡ length nodes
seeded_length nodes root =
    let none = replicate (length nodes) Empty in
    let one = slice_set none (place_of nodes Start) Set in
    let two = slice_set one (place_of nodes (Entered root)) Set in
    length-set two (place_of nodes (Initialized root.class)) Set ∙ length-set one (place_of nodes (Entered root)) Set ∙ length-set none (place_of nodes Start) Set ∙ length-replicate (length nodes) Empty

-- a node that is set, or has the value that it had
set_here : (xs : List Flow) (i : ℕ) → i < length xs → value_at (slice_set xs i Set) i ≡ Set
set_here xs i lt = get_or-set_same xs i Set Empty lt

set_kept : (xs : List Flow) (i j : ℕ) → j < length xs → value_at xs j ≡ Set → value_at (slice_set xs i Set) j ≡ Set
set_kept xs i j lt is = elim (cases_eq j i) [
  | inl same ↦ subst (λ (k : ℕ). value_at (slice_set xs k Set) j ≡ Set) same (set_here xs j lt)
  | inr other ↦ get_or-set_other xs i j Set Empty other ∙ is
]

-- a value of the seeds is below one that is at least what was set, where it was set
set_below : (xs : List Flow) (i k : ℕ) (v : Flow) → (i ≡ k → i < length xs → Set ⊑ v) → (value_at xs k ⊑ v) → value_at (slice_set xs i Set) k ⊑ v
set_below xs i k v here other = elim (cases_eq k i) [
  | inl same ↦ go same (cases_lt i (length xs))
  | inr apart ↦ subst (λ (w : Flow). w ⊑ v) (sym (get_or-set_other xs i k Set Empty apart)) other
]
  where
    go : k ≡ i → (i < length xs) ⊎ (length xs ≤ i) → value_at (slice_set xs i Set) k ⊑ v
    go same (inl lt) = subst (λ (w : Flow). w ⊑ v) (sym (ap (value_at (slice_set xs i Set)) same ∙ set_here xs i lt)) (here (sym same) lt)
    go same (inr past) =
        let long = length-set xs i Set in
        subst (λ (w : Flow). w ⊑ v) (sym (get_or_past (slice_set xs i Set) k Empty (omega arith))) tt

-- the places of the seeds
pub record SeedsAt (nodes : List Node) (root : MemberName) : Type 0 where
  pub at_start : value_at (seeded nodes root) (place_of nodes Start) ≡ Set
  pub at_entered : value_at (seeded nodes root) (place_of nodes (Entered root)) ≡ Set
  pub at_initialized : value_at (seeded nodes root) (place_of nodes (Initialized root.class)) ≡ Set

pub seeds_at : (nodes : List Node) (root : MemberName) → Contains nodes Start → Contains nodes (Entered root) → Contains nodes (Initialized root.class) → SeedsAt nodes root
seeds_at nodes root s e i =
    let none = replicate (length nodes) Empty in
    let one = slice_set none (place_of nodes Start) Set in
    let two = slice_set one (place_of nodes (Entered root)) Set in
    let long-none : length none ≡ length nodes = length-replicate (length nodes) Empty in
    let long-one : length one ≡ length nodes = length-set none (place_of nodes Start) Set ∙ long-none in
    let long-two : length two ≡ length nodes = length-set one (place_of nodes (Entered root)) Set ∙ long-one in
    let at-s = place_below nodes Start s in
    let at-e = place_below nodes (Entered root) e in
    let at-i = place_below nodes (Initialized root.class) i in
    record {
      at_start = set_kept two (place_of nodes (Initialized root.class)) (place_of nodes Start) (omega arith)
          (set_kept one (place_of nodes (Entered root)) (place_of nodes Start) (omega arith) (set_here none (place_of nodes Start) (omega arith)));
      at_entered = set_kept two (place_of nodes (Initialized root.class)) (place_of nodes (Entered root)) (omega arith) (set_here one (place_of nodes (Entered root)) (omega arith));
      at_initialized = set_here two (place_of nodes (Initialized root.class)) (omega arith);
    }

-- each seed by number is one by name, or empty
seeded_below : (nodes : List Node) (root : MemberName) (y : Node → Flow) → ((n : Node) (v : Flow) → Seed root n v → v ⊑ y n) → (k : ℕ) → value_at (seeded nodes root) k ⊑ numbered nodes y k
seeded_below nodes root y above k =
    let none = replicate (length nodes) Empty in
    let one = slice_set none (place_of nodes Start) Set in
    let two = slice_set one (place_of nodes (Entered root)) Set in
    let long-none : length none ≡ length nodes = length-replicate (length nodes) Empty in
    let long-one : length one ≡ length nodes = length-set none (place_of nodes Start) Set ∙ long-none in
    let long-two : length two ≡ length nodes = length-set one (place_of nodes (Entered root)) Set ∙ long-one in
    set_below two (place_of nodes (Initialized root.class)) k (numbered nodes y k) (λ same lt. there (Initialized root.class) (above (Initialized root.class) Set initialized) same (omega arith))
    (set_below one (place_of nodes (Entered root)) k (numbered nodes y k) (λ same lt. there (Entered root) (above (Entered root) Set entered) same (omega arith))
    (set_below none (place_of nodes Start) k (numbered nodes y k) (λ same lt. there Start (above Start Set start) same (omega arith))
    (subst (λ (w : Flow). w ⊑ numbered nodes y k) (sym (none_there (length nodes) k)) tt)))
  where
    none_there : (n k : ℕ) → value_at (replicate n Empty) k ≡ Empty
    none_there n k = elim (cases_lt k n) [
      | inl lt ↦ get_or-replicate n k Empty Empty lt
      | inr past ↦ let long = length-replicate n Empty in get_or_past (replicate n Empty) k Empty (omega arith)
    ]

    there : (n : Node) → Set ⊑ y n → place_of nodes n ≡ k → place_of nodes n < length nodes → Set ⊑ numbered nodes y k
    there n le same lt = subst (λ (j : ℕ). Set ⊑ numbered nodes y j) same (subst (λ (v : Flow). Set ⊑ v) (sym (ap y (place_is nodes n Nothing lt))) le)

-- ---- the least solution by number is that by name

-- each row has its nodes among these
abbrev HaveNodes : List Node → List (Inequality Node) → Type 0
HaveNodes nodes rows = (q : Inequality Node) → Contains rows q → HasNodesOf nodes q

solves_by_number : (nodes : List Node) (rows : List (Inequality Node)) (root : MemberName) (y : Node → Flow) → HaveNodes nodes rows
    → Solves (Contains rows) (Seed root) y → Solves (Contains (map (renamed (place_of nodes)) rows)) (IsSeedOf (seeded nodes root)) (numbered nodes y)
solves_by_number nodes rows root y have solves = record {
  above = λ k v is. subst (λ (w : Flow). w ⊑ numbered nodes y k) (sym is) (seeded_below nodes root y solves.above k);
  meets = λ q h.
      let w = map_contains (renamed (place_of nodes)) rows q h in
      subst (λ (r : Inequality ℕ). IsMet r (numbered nodes y)) (sym w.2) (renamed_met nodes y w.0 (have w.0 w.1) (solves.meets w.0 w.1));
}

seeds_above : (nodes : List Node) (root : MemberName) (x : ℕ → Flow) → SeedsAt nodes root → ((k : ℕ) (v : Flow) → IsSeedOf (seeded nodes root) k v → v ⊑ x k) → (n : Node) (v : Flow) → Seed root n v → v ⊑ x (place_of nodes n)
seeds_above nodes root x at above _ _ start = above (place_of nodes Start) Set (sym at.at_start)
seeds_above nodes root x at above _ _ entered = above (place_of nodes (Entered root)) Set (sym at.at_entered)
seeds_above nodes root x at above _ _ initialized = above (place_of nodes (Initialized root.class)) Set (sym at.at_initialized)

pub least_by_name : (nodes : List Node) (rows : List (Inequality Node)) (root : MemberName) (values : List Flow)
    → ((q : Inequality Node) → Contains rows q → HasNodesOf nodes q)
    → Contains nodes Start → Contains nodes (Entered root) → Contains nodes (Initialized root.class)
    → length values ≡ length nodes
    → Least (Contains (map (renamed (place_of nodes)) rows)) (IsSeedOf (seeded nodes root)) (value_at values)
    → Least (Contains rows) (Seed root) (by_name nodes values)
least_by_name nodes rows root values have s e i long least = record {
  solves = record {
    above = seeds_above nodes root (value_at values) (seeds_at nodes root s e i) least.solves.above;
    meets = λ q h. met_renamed (place_of nodes) q (value_at values) (least.solves.meets (renamed (place_of nodes) q) (contains_map (renamed (place_of nodes)) rows q h));
  };
  least = λ y solves n.
      let below : value_at values (place_of nodes n) ⊑ numbered nodes y (place_of nodes n) = least.least (numbered nodes y) (solves_by_number nodes rows root y have solves) (place_of nodes n) in
      elim (place_cases nodes n) [
        | inl past ↦ subst (λ (w : Flow). w ⊑ y n) (sym (get_or_past values (place_of nodes n) Empty (omega arith))) tt
        | inr there ↦ subst (λ (w : Flow). value_at values (place_of nodes n) ⊑ w) (numbered_is nodes y n there) below
      ];
}

pub targets_fit : (nodes : List Node) (rows : List (Inequality Node)) → HaveNodes nodes rows → TargetsFit (length nodes) (map (renamed (place_of nodes)) rows)
targets_fit nodes rows have = All-map (λ (q : Inequality ℕ). q.target < length nodes) (renamed (place_of nodes)) rows
    (λ k d lt. let q = slice_index_or rows k d in place_below nodes q.target ((have q (Contains-get_or rows k d lt)).target))

-- the least solution of a system is that of one with the same inequalities
pub least_along : {S T : Inequality Node → Type 0} {seeds : Node → Flow → Type 0} {x : Node → Flow} → ((q : Inequality Node) → S q → T q) → ((q : Inequality Node) → T q → S q) → Least S seeds x → Least T seeds x
least_along to from least = record {
  solves = record { above = least.solves.above; meets = λ q t. least.solves.meets q (from q t) };
  least = λ y solves. least.least y (record { above = solves.above; meets = λ q s. solves.meets q (to q s) });
}
