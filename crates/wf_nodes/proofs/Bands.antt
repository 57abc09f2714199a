-- The numbers of the nodes that bodies share: each node stands at a place of an element of one of eight bands, which stand one
-- behind another.
use Rattle.std.proofs.Common.{◌≡◌, ℕ, zero, suc, ◌+◌, ◌<◌, ◌≤◌, Bool, true, false, ◌&&◌, length, get_or, Option, Some, None, refl, sym, ap, subst, ◌∙◌, arith, inl, inr, ◌⊎◌}
use Rattle.std.specs.Prelude.{nat_lt, option_map, position, if◌then◌else◌}
use Rattle.std.specs.List.{sum_by}
use Rattle.std.proofs.lemmas.Bool.{cases_lt, and_parts, ltb-true, le-ltb, eqb-true}
use Rattle.std.proofs.lemmas.List.Quantifiers.{position-Some}
use Rattle.std.proofs.lemmas.Option.{same_Some}
use Rattle.wf_base.specs.declared.ids.TypeId.{TypeId}
use Rattle.wf_rows.specs.declared.context.ArrayType.{ArrayType}
use Rattle.wf_rows.specs.declared.node.Node.{Node}
use Rattle.wf_rows.specs.declared.node.Node.TheVariants.{Inst, Start, Nothing, Initialized, Entered, Parameter, Returned, Held, Touched, Element, Copied, In}
use Rattle.wf_rows.specs.declared.node.Own.{Own}
use Rattle.wf_rows.specs.Nodes.{MethodNodes, Shared, no_nodes, method_nodes}
use Rattle.wf_nodes.specs.Numbering.{before, method_count, field_count, is_array, some_if, first_array, shared_number, shared_count}
use Rattle.wf_nodes.proofs.Counts.{before_within, before_later}

-- ---- bands

-- how many nodes a band has
abbrev width : Shared → ℕ → ℕ
width s zero = 1
width s (suc zero) = 1
width s (suc (suc zero)) = 1
width s (suc (suc (suc zero))) = s.classes
width s (suc (suc (suc (suc zero)))) = sum_by method_count s.methods
width s (suc (suc (suc (suc (suc zero))))) = sum_by field_count s.fields
width s (suc (suc (suc (suc (suc (suc zero)))))) = length s.arrays
width s (suc (suc (suc (suc (suc (suc (suc k))))))) = s.copies

-- where it begins
abbrev first : Shared → ℕ → ℕ
first s zero = 0
first s (suc k) = first s k + width s k

-- how many nodes stand in front of an element
abbrev offset : Shared → ℕ → ℕ → ℕ
offset s (suc (suc (suc (suc zero)))) e = before method_count e s.methods
offset s (suc (suc (suc (suc (suc zero))))) e = before field_count e s.fields
offset s k e = e

-- how many it has
abbrev size : Shared → ℕ → ℕ → ℕ
size s (suc (suc (suc (suc zero)))) e = method_count (get_or s.methods e no_nodes)
size s (suc (suc (suc (suc (suc zero))))) e = field_count (get_or s.fields e false)
size s k e = 1

first_later : (s : Shared) (j k : ℕ) → j < k → first s j + width s j ≤ first s k
first_later s j zero l = absurd (omega arith)
first_later s j (suc k) l = at (cases_lt j k) (λ m. first_later s j k m) where
  at : ((j < k) ⊎ (k ≤ j)) → (j < k → first s j + width s j ≤ first s k) → first s j + width s j ≤ first s k + width s k
  at (inl m) on = (let h = on m in omega (arith, h))
  at (inr m) on = (let same : k ≡ j = omega (arith, l, m) in subst (λ i. first s i + width s i ≤ first s k + width s k) same (omega arith))

offset_later : (s : Shared) (k e f : ℕ) → e < f → offset s k e + size s k e ≤ offset s k f
offset_later s (suc (suc (suc (suc zero)))) e f l = before_later method_count no_nodes refl s.methods e f l
offset_later s (suc (suc (suc (suc (suc zero))))) e f l = before_later field_count false refl s.fields e f l
offset_later s k e f l = omega (arith, l)

-- ---- nodes

no_array : ArrayType
no_array = record { array = record { 0 = 0 }; component = record { 0 = 0 } }

-- the node at a place of an element
abbrev node_at : Shared → ℕ → ℕ → ℕ → Node Own
node_at s zero e p = Inst
node_at s (suc zero) e p = Start
node_at s (suc (suc zero)) e p = Nothing
node_at s (suc (suc (suc zero))) e p = Initialized (record { 0 = e })
node_at s (suc (suc (suc (suc zero)))) e zero = Entered (record { 0 = e })
node_at s (suc (suc (suc (suc zero)))) e (suc i) = if nat_lt i (get_or s.methods e no_nodes).parameters then Parameter (record { 0 = e }) i else Returned (record { 0 = e })
node_at s (suc (suc (suc (suc (suc zero))))) e zero = Held (record { 0 = e })
node_at s (suc (suc (suc (suc (suc zero))))) e (suc i) = Touched (record { 0 = e })
node_at s (suc (suc (suc (suc (suc (suc zero)))))) e p = Element (get_or s.arrays e no_array).array
node_at s (suc (suc (suc (suc (suc (suc (suc k))))))) e p = Copied e

-- where a node stands that has a number
record Spot (s : Shared) (node : Node Own) (n : ℕ) : Type 0 where
  band : ℕ
  element : ℕ
  place : ℕ
  known : band < 8
  is : n ≡ first s band + (offset s band element + place)
  inside : place < size s band element
  below : offset s band element + size s band element ≤ width s band
  node_is : node ≡ node_at s band element place

if_parts : (b : Bool) (v n : ℕ) → some_if b v ≡ Some n → (b ≡ true) × (v ≡ n)
if_parts true v n e = (refl, same_Some v n e)
if_parts false v n e = absurd cc

entered_count : (m : MethodNodes) → m.entered ≡ true → method_count m ≡ 1 + m.parameters + (if m.returned then 1 else 0)
entered_count m h = ap (λ b. if b then 1 + m.parameters + (if m.returned then 1 else 0) else 0) h

followed_count : (b : Bool) → b ≡ true → field_count b ≡ 2
followed_count b h = ap field_count h

element_spot : (s : Shared) (t : TypeId) (n : ℕ) (r : Option ℕ) → position (is_array t) s.arrays ≡ r → option_map (λ i. first_array s + i) r ≡ Some n → Spot s (Element t) n
element_spot s t n None p e = absurd cc
element_spot s t n (Some i) p e =
    let at = position-Some (is_array t) s.arrays i no_array p in
    let is = same_Some (first_array s + i) n e in
    let number : t.0 ≡ (get_or s.arrays i no_array).array.0 = eqb-true t.0 (get_or s.arrays i no_array).array.0 at.1 in
    record { band = 6; element = i; place = 0; known = omega arith; is = omega (arith, is); inside = omega arith; below = omega (arith, at.0); node_is = ap (λ k. Element (record { 0 = k })) number }

spot : (s : Shared) (node : Node Own) (n : ℕ) → shared_number s node ≡ Some n → Spot s node n
spot s Inst n e = record { band = 0; element = 0; place = 0; known = omega arith; is = sym (same_Some 0 n e); inside = omega arith; below = omega arith; node_is = refl }
spot s Start n e = record { band = 1; element = 0; place = 0; known = omega arith; is = sym (same_Some 1 n e); inside = omega arith; below = omega arith; node_is = refl }
spot s Nothing n e = record { band = 2; element = 0; place = 0; known = omega arith; is = sym (same_Some 2 n e); inside = omega arith; below = omega arith; node_is = refl }
spot s (Initialized c) n e =
    let h = if_parts (nat_lt c.0 s.classes) (3 + c.0) n e in
    record { band = 3; element = c.0; place = 0; known = omega arith; is = omega (arith, h.1); inside = omega arith; below = omega (arith, ltb-true c.0 s.classes h.0); node_is = refl }
spot s (Entered m) n e =
    let h = if_parts (method_nodes s m).entered _ n e in
    record { band = 4; element = m.0; place = 0; known = omega arith; is = omega (arith, h.1); inside = omega (arith, entered_count (method_nodes s m) h.0); below = before_within method_count no_nodes refl s.methods m.0; node_is = refl }
spot s (Parameter m i) n e =
    let nodes = method_nodes s m in
    let h = if_parts (nodes.entered && nat_lt i nodes.parameters) _ n e in
    let there = and_parts nodes.entered (nat_lt i nodes.parameters) h.0 in
    let less = ltb-true i nodes.parameters there.1 in
    record {
      band = 4;
      element = m.0;
      place = suc i;
      known = omega arith;
      is = omega (arith, h.1);
      inside = omega (arith, entered_count nodes there.0, less);
      below = before_within method_count no_nodes refl s.methods m.0;
      node_is = sym (ap (λ (b : Bool). if b then Parameter m i else Returned m) there.1);
    }
spot s (Returned m) n e =
    let nodes = method_nodes s m in
    let h = if_parts (nodes.entered && nodes.returned) _ n e in
    let there = and_parts nodes.entered nodes.returned h.0 in
    let one = ap {B = ℕ} (λ (b : Bool). if b then 1 else 0) there.1 in
    record {
      band = 4;
      element = m.0;
      place = suc nodes.parameters;
      known = omega arith;
      is = omega (arith, h.1);
      inside = omega (arith, entered_count nodes there.0, one);
      below = before_within method_count no_nodes refl s.methods m.0;
      node_is = sym (ap (λ (b : Bool). if b then Parameter m nodes.parameters else Returned m) (le-ltb nodes.parameters nodes.parameters (omega arith)));
    }
spot s (Held f) n e =
    let h = if_parts (get_or s.fields f.0 false) _ n e in
    record { band = 5; element = f.0; place = 0; known = omega arith; is = omega (arith, h.1); inside = omega (arith, followed_count (get_or s.fields f.0 false) h.0); below = before_within field_count false refl s.fields f.0; node_is = refl }
spot s (Touched f) n e =
    let h = if_parts (get_or s.fields f.0 false) _ n e in
    record { band = 5; element = f.0; place = 1; known = omega arith; is = omega (arith, h.1); inside = omega (arith, followed_count (get_or s.fields f.0 false) h.0); below = before_within field_count false refl s.fields f.0; node_is = refl }
spot s (Element t) n e = element_spot s t n (position (is_array t) s.arrays) refl e
spot s (Copied line) n e =
    let h = if_parts (nat_lt line s.copies) _ n e in
    record { band = 7; element = line; place = 0; known = omega arith; is = omega (arith, h.1); inside = omega arith; below = omega (arith, ltb-true line s.copies h.0); node_is = refl }
spot s (In own) n e = absurd cc

-- ---- laws

-- a number is below the count
pub shared_below : (s : Shared) (node : Node Own) (n : ℕ) → shared_number s node ≡ Some n → n < shared_count s
shared_below s node n e =
    let p = spot s node n e in
    omega (arith, p.is, p.inside, p.below, first_later s p.band 8 p.known)

one_band : (s : Shared) (a b : Node Own) (n : ℕ) (p : Spot s a n) (q : Spot s b n) → p.band ≡ q.band
one_band s a b n p q = at (cases_lt p.band q.band) (cases_lt q.band p.band) where
  at : ((p.band < q.band) ⊎ (q.band ≤ p.band)) → ((q.band < p.band) ⊎ (p.band ≤ q.band)) → p.band ≡ q.band
  at (inl l) other = absurd (let h = first_later s p.band q.band l in omega (arith, h, p.is, p.inside, p.below, q.is))
  at (inr m) (inl l) = absurd (let h = first_later s q.band p.band l in omega (arith, h, q.is, q.inside, q.below, p.is))
  at (inr m) (inr l) = omega (arith, m, l)

one_element : (s : Shared) (k e f x y : ℕ) → offset s k e + x ≡ offset s k f + y → x < size s k e → y < size s k f → e ≡ f
one_element s k e f x y same l m = at (cases_lt e f) (cases_lt f e) where
  at : ((e < f) ⊎ (f ≤ e)) → ((f < e) ⊎ (e ≤ f)) → e ≡ f
  at (inl i) other = absurd (let h = offset_later s k e f i in omega (arith, h, same, l))
  at (inr j) (inl i) = absurd (let h = offset_later s k f e i in omega (arith, h, same, m))
  at (inr j) (inr i) = omega (arith, i, j)

-- two nodes with one number are one
pub one_shared : (s : Shared) (a b : Node Own) (n : ℕ) → shared_number s a ≡ Some n → shared_number s b ≡ Some n → a ≡ b
one_shared s a b n e f = p.node_is ∙ at q.band (one_band s a b n p q) q.element q.place q.is q.inside ∙ sym q.node_is where
  p : Spot s a n
  p = spot s a n e

  q : Spot s b n
  q = spot s b n f

  at : (k : ℕ) → p.band ≡ k → (i x : ℕ) → n ≡ first s k + (offset s k i + x) → x < size s k i → node_at s p.band p.element p.place ≡ node_at s k i x
  at k bands i x is inside =
      let own = subst (λ j. n ≡ first s j + (offset s j p.element + p.place)) bands p.is in
      let within = subst (λ j. p.place < size s j p.element) bands p.inside in
      let same : offset s k p.element + p.place ≡ offset s k i + x = omega (arith, own, is) in
      let elements = one_element s k p.element i p.place x same within inside in
      let places : p.place ≡ x = omega (arith, same, ap (offset s k) elements) in
      ap (λ j. node_at s j p.element p.place) bands ∙ ap (λ j. node_at s k j p.place) elements ∙ ap (node_at s k i) places
