-- The rows of lists: each element of a list has its rows.
use Rattle.std.proofs.Common.{◌≡◌, ℕ, zero, suc, ◌+◌, ◌<◌, Bool, false, List, [], ◌∷◌, ◌++◌, length, take, Option, Some, Ok, inl, inr, refl, sym, subst, arith}
use Rattle.std.specs.Prelude.{slice_get, if◌then◌else◌}
use Rattle.std.specs.List.{Contains}
use Rattle.std.proofs.lemmas.List.Elements.{Contains-append_left, Contains-append_right}
use Rattle.std.proofs.lemmas.Bool.{cases_lt}
use Rattle.wf_base.specs.declared.ids.MethodId.{MethodId}
use Rattle.wf_base.specs.declared.ids.TargetId.{TargetId}
use Rattle.wf_base.specs.declared.ids.TypeId.{TypeId}
use Rattle.wf_data.specs.declared.instr.Case.{Case}
use Rattle.wf_names.specs.declared.world.LinkError.{LinkError}
use Rattle.wf_operation.specs.declared.next.Next.{Next}
use Rattle.wf_operation.specs.declared.next.Next.TheVariants as next
use Rattle.wf_operation.specs.declared.slot.SlotKind.{SlotKind}
use Rattle.wf_operation.specs.declared.slot.SlotKind.TheVariants.{Unused}
use Rattle.wf_operation.specs.Nexts.{edge_count}
use Rattle.wf_operation.specs.Slots.{same_kind}
use Rattle.wf_system.specs.declared.inequality.Guard.{Guard}
use Rattle.wf_system.specs.declared.inequality.Guard.TheVariants.{NonEmpty, Linked}
use Rattle.wf_system.specs.declared.inequality.ValueOp.TheVariants.{Token, Copy, OneType, AllUnder, Picked, Picks, IfHolds}
use Rattle.wf_system.specs.declared.inequality.Inequality.{Inequality}
use Rattle.wf_rows.specs.declared.action.Action.{Action}
use Rattle.wf_rows.specs.declared.action.Action.TheVariants as action
use Rattle.wf_rows.specs.declared.action.ArrayUse.TheVariants as array
use Rattle.wf_rows.specs.declared.action.SelectedCall.{SelectedCall}
use Rattle.wf_rows.specs.declared.action.StaticCall.{StaticCall}
use Rattle.wf_rows.specs.declared.context.ArrayType.{ArrayType}
use Rattle.wf_rows.specs.declared.joins.HandlerEntry.{HandlerEntry}
use Rattle.wf_rows.specs.declared.node.Node.{Node}
use Rattle.wf_rows.specs.declared.node.Node.TheVariants.{In, Inst, Entered, Parameter, Returned, Element, Initialized}
use Rattle.wf_rows.specs.declared.node.Own.{Own}
use Rattle.wf_rows.specs.declared.node.Own.TheVariants as own
use Rattle.wf_rows.specs.declared.throwable.Throwable.{Throwable}
use Rattle.wf_rows.specs.Before.{Before, given, links, operand, row, row_under}
use Rattle.wf_rows.specs.Each.{each_from}
use Rattle.wf_rows.specs.Branches.{along_rows, case_rows, branch_rows}
use Rattle.wf_rows.specs.Arrays.{stored_rows}
use Rattle.wf_rows.specs.Calls.{argument_rows, candidate_rows, selected_rows, static_rows}
use Rattle.wf_rows.specs.Errors.{throwable_of, thrown_rows, error_at, error_rows, failing_rows, machine_rows, own_errors, link_error}
use Rattle.wf_rows.specs.Joins.{merged_rows, edge_rows, covered_under, covered_rows}
use Rattle.wf_rows.specs.Table.{rows_at, place_rows}
use Rattle.wf_rows.specs.OwnNodes.{merged_nodes, block_nodes}
use Rattle.wf_rows.proofs.Membership.{each-has, slice_get-front}

module _ (k : Before) where
  -- ---- calls

  pub candidate : (c : SelectedCall) (j : ℕ) (m : MethodId) (q : Inequality (Node Own))
      → slice_get c.candidates j ≡ Some m → Contains (candidate_rows k c j m) q → Contains (selected_rows k (Ok c)) q
  candidate c j m q g h =
      Contains-append_right (row k (links k) (Picks (operand k c.receiver) c.site) ∷ []) (each_from (candidate_rows k c) 0 c.candidates) q
      (each-has (candidate_rows k c) 0 j j c.candidates m q (omega arith) g h)

  argument-here : (guard : Guard (Node Own)) (m : MethodId) (first i n depth : ℕ) (depths : List ℕ)
      → first + i ≡ n → slice_get depths i ≡ Some depth → Contains (each_from (argument_rows k guard m) first depths) (row_under guard (Parameter m n) (Copy (operand k depth)))
  argument-here guard m first i n depth depths e g =
      each-has (argument_rows k guard m) first i n depths depth (row_under guard (Parameter m n) (Copy (operand k depth))) e g (0, omega arith, refl)

  pub argument : (c : SelectedCall) (j i depth : ℕ) (m : MethodId)
      → slice_get c.arguments i ≡ Some depth → Contains (candidate_rows k c j m) (row_under (Linked (links k) j) (Parameter m (1 + i)) (Copy (operand k depth)))
  argument c j i depth m g =
      Contains-append_right (
      row_under (Linked (links k) j) (Entered m) Token
      ∷ row_under (Linked (links k) j) (Parameter m 0) (Picked (operand k c.receiver) c.site j)
      ∷ row_under (Linked (links k) j) (given k) (Copy (Returned m)) ∷ [])
      (each_from (argument_rows k (Linked (links k) j) m) 1 c.arguments)
      (row_under (Linked (links k) j) (Parameter m (1 + i)) (Copy (operand k depth)))
      (argument-here (Linked (links k) j) m 1 i (1 + i) depth c.arguments refl g)

  pub static_argument : (c : StaticCall) (i depth : ℕ)
      → slice_get c.arguments i ≡ Some depth → Contains (static_rows k (Ok c)) (row k (Parameter c.method i) (Copy (operand k depth)))
  static_argument c i depth g =
      Contains-append_right (row k (Initialized c.class) Token ∷ row k (Entered c.method) Token ∷ row k (given k) (Copy (Returned c.method)) ∷ [])
      (each_from (argument_rows k (NonEmpty k.predicate) c.method) 0 c.arguments)
      (row k (Parameter c.method i) (Copy (operand k depth)))
      (argument-here (NonEmpty k.predicate) c.method 0 i i depth c.arguments (omega arith) g)

  -- ---- branches

  none-along : (q : Inequality (Node Own)) {R : Type 0} → Contains [] q → R
  none-along q h = absurd (omega (arith, h.1))

  case-here : (n : Next) (keys first i edge : ℕ) (cases : List Case) (q : Inequality (Node Own))
      → first + i ≡ edge → i < length cases → Contains (along_rows k n keys edge) q → Contains (each_from (case_rows k n keys) first cases) q
  case-here n keys first i edge [] q e l h = absurd (omega arith)
  case-here n keys first zero edge (c ∷ cs) q e l h =
      let m : edge ≡ first = omega arith in
      let P : ℕ → Type 0 = λ j. Contains (along_rows k n keys j) q in
      Contains-append_left (along_rows k n keys first) (each_from (case_rows k n keys) (first + 1) cs) q (subst P m h)
  case-here n keys first (suc i) edge (c ∷ cs) q e l h =
      Contains-append_right (along_rows k n keys first) (each_from (case_rows k n keys) (first + 1) cs) q
      (case-here n keys (first + 1) i edge cs q (omega arith) (omega arith) h)

  switch-here : (n : Next) (keys edge : ℕ) (cases : List Case) (q : Inequality (Node Own))
      → edge < length cases + 1 → Contains (along_rows k n keys edge) q
      → Contains (each_from (case_rows k n keys) 0 cases ++ along_rows k n keys (length cases)) q
  switch-here n keys edge cases q l h =
      elim (cases_lt edge (length cases)) [
        | inl a ↦ Contains-append_left (each_from (case_rows k n keys) 0 cases) (along_rows k n keys (length cases)) q (case-here n keys 0 edge edge cases q (omega arith) a h)
        | inr b ↦
            let m : edge ≡ length cases = omega arith in
            let P : ℕ → Type 0 = λ j. Contains (along_rows k n keys j) q in
            Contains-append_right (each_from (case_rows k n keys) 0 cases) (along_rows k n keys (length cases)) q (subst P m h)
      ]

  two-here : (n : Next) (keys edge : ℕ) (q : Inequality (Node Own))
      → edge < 2 → Contains (along_rows k n keys edge) q → Contains (along_rows k n keys 0 ++ along_rows k n keys 1) q
  two-here n keys zero q l h = Contains-append_left (along_rows k n keys 0) (along_rows k n keys 1) q h
  two-here n keys (suc zero) q l h = Contains-append_right (along_rows k n keys 0) (along_rows k n keys 1) q h
  two-here n keys (suc (suc edge)) q l h = absurd (omega arith)

  pub along : (n : Next) (keys edge : ℕ) (q : Inequality (Node Own))
      → edge < edge_count n → Contains (along_rows k n keys edge) q → Contains (branch_rows k n keys) q
  along (next.Branches test to) keys edge q l h = two-here (next.Branches test to) keys edge q l h
  along (next.Switches cases default) keys edge q l h = switch-here (next.Switches cases default) keys edge cases q l h
  along next.Falls keys edge q l h = none-along q h
  along (next.Jumps to) keys edge q l h = none-along q h
  along (next.Returns kind) keys edge q l h = none-along q h
  along next.Throws keys edge q l h = none-along q h

  -- ---- arrays and errors

  pub store : (arrays : List ArrayType) (i : ℕ) (t : ArrayType)
      → slice_get arrays i ≡ Some t → Contains (rows_at k arrays (action.Array array.StoreRef)) (row k (Element t.array) (IfHolds (operand k 2) t.array (operand k 0) t.component))
  store arrays i t g =
      each-has (stored_rows (NonEmpty k.predicate) (operand k 2) (operand k 0)) 0 i i arrays t
      (row k (Element t.array) (IfHolds (operand k 2) t.array (operand k 0) t.component)) (omega arith) g (0, omega arith, refl)

  error-here : (thrown : Throwable → Option TypeId) (i : ℕ) (error : Throwable) (t : TypeId) → thrown error ≡ Some t → Contains (error_at (NonEmpty k.predicate) thrown i error) (row k Inst (OneType t))
  error-here thrown i error t e =
      let P : Option TypeId → Type 0 = λ o. Contains (thrown_rows (NonEmpty k.predicate) o) (row k Inst (OneType t)) in
      subst P (sym e) (0, omega arith, refl)

  thrown-here : (thrown : Throwable → Option TypeId) (a : Action) (i : ℕ) (error : Throwable) (t : TypeId)
      → slice_get (own_errors a) i ≡ Some error → thrown error ≡ Some t → Contains (machine_rows k thrown a) (row k Inst (OneType t))
  thrown-here thrown a i e t g made =
      let q : Inequality (Node Own) = row k Inst (OneType t) in
      Contains-append_left (error_rows (NonEmpty k.predicate) thrown (own_errors a)) (failing_rows (NonEmpty k.predicate) thrown (link_error a)) q
      (each-has (error_at (NonEmpty k.predicate) thrown) 0 i i (own_errors a) e q (omega arith) g (error-here thrown i e t made))

  failure-here : (thrown : Throwable → Option TypeId) (a : Action) (error : LinkError) (t : TypeId)
      → link_error a ≡ Some error → thrown (throwable_of error) ≡ Some t → Contains (machine_rows k thrown a) (row k Inst (OneType t))
  failure-here thrown a e t failing made =
      let q : Inequality (Node Own) = row k Inst (OneType t) in
      let P : Option LinkError → Type 0 = λ o. Contains (failing_rows (NonEmpty k.predicate) thrown o) q in
      Contains-append_right (error_rows (NonEmpty k.predicate) thrown (own_errors a)) (failing_rows (NonEmpty k.predicate) thrown (link_error a)) q
      (subst P (sym failing) (error-here thrown 0 (throwable_of e) t made))

  -- ---- all of a place

  module _ (arrays : List ArrayType) (thrown : Throwable → Option TypeId) (keys : ℕ) (n : Next) (a : Action) where
    pub place-edge : (edge : ℕ) (q : Inequality (Node Own)) → edge < edge_count n → Contains (along_rows k n keys edge) q → Contains (place_rows k arrays thrown keys n a) q
    place-edge edge q l h =
        Contains-append_left (branch_rows k n keys ++ rows_at k arrays a) (machine_rows k thrown a) q
        (Contains-append_left (branch_rows k n keys) (rows_at k arrays a) q (along n keys edge q l h))

    pub place-act : (q : Inequality (Node Own)) → Contains (rows_at k arrays a) q → Contains (place_rows k arrays thrown keys n a) q
    place-act q h =
        Contains-append_left (branch_rows k n keys ++ rows_at k arrays a) (machine_rows k thrown a) q
        (Contains-append_right (branch_rows k n keys) (rows_at k arrays a) q h)

    place-machine : (q : Inequality (Node Own)) → Contains (machine_rows k thrown a) q → Contains (place_rows k arrays thrown keys n a) q
    place-machine q h =
        Contains-append_right (branch_rows k n keys ++ rows_at k arrays a) (machine_rows k thrown a) q h

    pub place-error : (i : ℕ) (error : Throwable) (t : TypeId)
        → slice_get (own_errors a) i ≡ Some error → thrown error ≡ Some t → Contains (place_rows k arrays thrown keys n a) (row k Inst (OneType t))
    place-error i error t g made = place-machine (row k Inst (OneType t)) (thrown-here thrown a i error t g made)

    pub place-failure : (error : LinkError) (t : TypeId)
        → link_error a ≡ Some error → thrown (throwable_of error) ≡ Some t → Contains (place_rows k arrays thrown keys n a) (row k Inst (OneType t))
    place-failure error t failing made = place-machine (row k Inst (OneType t)) (failure-here thrown a error t failing made)

  -- ---- blocks and handlers

  merge-here : (guard : Guard (Node Own)) (to slot : ℕ) (flow : Node Own) (slots : List (Node Own))
      → slice_get slots slot ≡ Some flow → Contains (each_from (merged_rows guard to) 0 slots) (row_under guard (In (own.Merged to slot)) (Copy flow))
  merge-here guard to slot flow slots g =
      each-has (merged_rows guard to) 0 slot slot slots flow (row_under guard (In (own.Merged to slot)) (Copy flow)) (omega arith) g (0, omega arith, refl)

  pub merge : (slot : ℕ) (flow : Node Own)
      → slice_get k.slots slot ≡ Some flow → Contains (edge_rows k) (row k (In (own.Merged k.pc slot)) (Copy flow))
  merge slot flow g =
      let q : Inequality (Node Own) = row k (In (own.Merged k.pc slot)) (Copy flow) in
      Contains-append_right (row k (In (own.Block k.pc)) Token ∷ []) (each_from (merged_rows (NonEmpty k.predicate) k.pc) 0 k.slots) q
      (merge-here (NonEmpty k.predicate) k.pc slot flow k.slots g)

  pub cover : (h : HandlerEntry) (u : TargetId) (slot : ℕ) (flow : Node Own)
      → h.catches ≡ Some u → slot < h.locals → slice_get k.slots slot ≡ Some flow → Contains (covered_rows k h) (row k (In (own.Merged h.target slot)) (Copy flow))
  cover h u slot flow caught l g =
      let q : Inequality (Node Own) = row k (In (own.Merged h.target slot)) (Copy flow) in
      let P : Option TargetId → Type 0 = λ o. Contains (covered_under k h o) q in
      subst P (sym caught)
      (Contains-append_right (row k (In (own.Caught h.entry)) (AllUnder u) ∷ []) (each_from (merged_rows (NonEmpty k.predicate) h.target) 0 (take h.locals k.slots)) q
      (merge-here (NonEmpty k.predicate) h.target slot flow (take h.locals k.slots) (slice_get-front k.slots h.locals slot flow l g)))

-- ---- nodes of blocks

merged-here : (pc slot : ℕ) (kind : SlotKind) → same_kind kind Unused ≡ false → Contains (merged_nodes pc slot kind) (own.Merged pc slot)
merged-here pc slot kind used =
    let P : Bool → Type 0 = λ b. Contains (if b then [] else own.Merged pc slot ∷ []) (own.Merged pc slot) in
    subst P (sym used) (0, omega arith, refl)

pub merged : (pc slot : ℕ) (kind : SlotKind) (kinds : List SlotKind)
    → slice_get kinds slot ≡ Some kind → same_kind kind Unused ≡ false → Contains (block_nodes pc kinds) (own.Merged pc slot)
merged pc slot kind kinds g used =
    Contains-append_right (own.Block pc ∷ []) (each_from (merged_nodes pc) 0 kinds) (own.Merged pc slot)
    (each-has (merged_nodes pc) 0 slot slot kinds kind (own.Merged pc slot) (omega arith) g (merged-here pc slot kind used))
