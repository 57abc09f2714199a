-- A node that bodies share has a number, where it is there.
use Rattle.std.proofs.Common.{◌≡◌, ℕ, zero, suc, ◌+◌, ◌<◌, Bool, true, false, true≢false, ◌&&◌, not, cond, List, [], ◌∷◌, length, get_or, Some, None, refl, sym, ap, ◌∙◌, arith, inl, inr, ◌⊎◌, ◌≤◌}
use Rattle.std.specs.Prelude.{nat_lt, option_map, position, if◌then◌else◌}
use Rattle.std.specs.List.{position_or_len}
use Rattle.std.proofs.lemmas.Bool.{cases_lt, lt-ltb, eq-eqb}
use Rattle.std.proofs.lemmas.List.{get_or_past}
use Rattle.wf_base.specs.declared.ids.MethodId.{MethodId}
use Rattle.wf_base.specs.declared.ids.TypeId.{TypeId}
use Rattle.wf_data.specs.declared.class_info.MethodInfo.{MethodInfo}
use Rattle.wf_subtype.specs.Subtypes.{AllTypes}
use Rattle.wf_rows.specs.declared.node.Node.{Node}
use Rattle.wf_rows.specs.declared.node.Node.TheVariants.{Inst, Start, Nothing, Initialized, Entered, Parameter, Returned, Held, Touched, Element, Copied, In}
use Rattle.wf_rows.specs.declared.node.Own.{Own}
use Rattle.wf_rows.specs.Nodes.{MethodNodes, Shared, method_nodes, IsThere, no_nodes}
use Rattle.wf_nodes.specs.Sharing.{AreNodesOf, IsShared}
use Rattle.wf_nodes.specs.Sharing.AreNodesOf.{spelled, unspelled}
use Rattle.wf_nodes.specs.Numbering.{some_if, is_array, shared_number, method_first, field_first, first_array, first_class, first_copy, AreWhole}

first_below : {A : Type 0} (p : A → Bool) (xs : List A) (k : ℕ) (d : A) → k < length xs → p (get_or xs k d) ≡ true → position_or_len p xs < length xs
first_below p [] k d l e = absurd (omega (arith, l))
first_below p (x ∷ xs) k d l e = at (p x) refl k l e (λ j m f. first_below p xs j d m f) where
  at : (b : Bool) → p x ≡ b → (k : ℕ) → k < length (x ∷ xs) → p (get_or (x ∷ xs) k d) ≡ true → ((j : ℕ) → j < length xs → p (get_or xs j d) ≡ true → position_or_len p xs < length xs) → position_or_len p (x ∷ xs) < length (x ∷ xs)
  at true t k l e on = (let none = ap {B = ℕ} (λ (b : Bool). cond (not b) (1 + position_or_len p xs) 0) t in omega (arith, none))
  at false t zero l e on = absurd (true≢false (sym e ∙ t))
  at false t (suc j) l e on = (let more = ap {B = ℕ} (λ (b : Bool). cond (not b) (1 + position_or_len p xs) 0) t in let rest = on j (omega (arith, l)) e in omega (arith, more, rest))

-- an element that passes is found
pub position_there : {A : Type 0} (p : A → Bool) (xs : List A) (k : ℕ) (d : A) → k < length xs → p (get_or xs k d) ≡ true → position p xs ≡ Some (position_or_len p xs)
position_there p xs k d l e = ap (λ (b : Bool). cond b (Some (position_or_len p xs)) None) (lt-ltb (position_or_len p xs) (length xs) (first_below p xs k d l e))

-- a method that has a parameter, or a node of what it returns, is entered
entered : (s : Shared) (m : MethodId) → AreWhole s → ((method_nodes s m).entered ≡ false → false ≡ true) → (method_nodes s m).entered ≡ true
entered s m whole other = at (method_nodes s m).entered refl where
  at : (b : Bool) → (method_nodes s m).entered ≡ b → b ≡ true
  at true e = refl
  at false e = other e

pub shared_there : (s : Shared) (node : Node Own) → AreWhole s → IsThere s [] node → (n : ℕ) × (shared_number s node ≡ Some n)
shared_there s Inst whole h = (0, refl)
shared_there s Start whole h = (1, refl)
shared_there s Nothing whole h = (2, refl)
shared_there s (Initialized c) whole h = (first_class + c.0, ap (λ b. some_if b (first_class + c.0)) (lt-ltb c.0 s.classes h))
shared_there s (Entered m) whole h = (method_first s m, ap (λ b. some_if b (method_first s m)) h)
shared_there s (Parameter m i) whole h =
    let nodes = method_nodes s m in
    let here = entered s m whole (λ e. absurd (let none = ap (λ (n : MethodNodes). n.parameters) (whole.each m e) in omega (arith, h, none))) in
    (method_first s m + 1 + i, ap (λ b. some_if (b && nat_lt i nodes.parameters) (method_first s m + 1 + i)) here ∙ ap (λ b. some_if b (method_first s m + 1 + i)) (lt-ltb i nodes.parameters h))
shared_there s (Returned m) whole h =
    let nodes = method_nodes s m in
    let here = entered s m whole (λ e. sym (ap (λ (n : MethodNodes). n.returned) (whole.each m e)) ∙ h) in
    (method_first s m + 1 + nodes.parameters, ap (λ b. some_if (b && nodes.returned) (method_first s m + 1 + nodes.parameters)) here ∙ ap (λ b. some_if b (method_first s m + 1 + nodes.parameters)) h)
shared_there s (Held f) whole h = (field_first s f.0, ap (λ b. some_if b (field_first s f.0)) h)
shared_there s (Touched f) whole h = (field_first s f.0 + 1, ap (λ b. some_if b (field_first s f.0 + 1)) h)
shared_there s (Element t) whole h =
    let at = h.there in
    let here = ap (is_array t) at.2 ∙ eq-eqb t.0 h.type_of.array.0 (ap (λ (u : TypeId). u.0) (sym h.is)) in
    (first_array s + position_or_len (is_array t) s.arrays, ap (option_map (λ i. first_array s + i)) (position_there (is_array t) s.arrays at.0 h.type_of at.1 here))
shared_there s (Copied line) whole h = (first_copy s + line, ap (λ b. some_if b (first_copy s + line)) (lt-ltb line s.copies h))
shared_there s (In own) whole h = absurd (let at = h.1 in omega (arith, at))

whole_if : (c : Bool) (nodes : MethodNodes) → nodes.entered ≡ true → (if c then no_nodes else nodes).entered ≡ false → (if c then no_nodes else nodes) ≡ no_nodes
whole_if true nodes there e = refl
whole_if false nodes there e = absurd (true≢false (sym there ∙ e))

whole_of : (info : MethodInfo) (nodes : MethodNodes) → AreNodesOf info nodes → nodes.entered ≡ false → nodes ≡ no_nodes
whole_of info nodes (spelled desc spells is) e = is ∙ whole_if _ _ refl (ap (λ (n : MethodNodes). n.entered) (sym is) ∙ e)
whole_of info nodes (unspelled none is) e = is

pub shared_whole : (types : AllTypes) (copies : ℕ) (s : Shared) → IsShared types copies s → AreWhole s
shared_whole types copies s h = record { each = λ m e. at m e (cases_lt m.0 (length s.methods)) } where
  at : (m : MethodId) → (method_nodes s m).entered ≡ false → ((m.0 < length s.methods) ⊎ (length s.methods ≤ m.0)) → method_nodes s m ≡ no_nodes
  at m e (inl l) = (let has = h.methods m.0 (omega (arith, l, h.methods_count)) in whole_of has.info (method_nodes s m) has.nodes e)
  at m e (inr l) = get_or_past s.methods m.0 no_nodes l
