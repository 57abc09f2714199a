-- The plan of each value lies between what the value is in lower and in upper bounds.
use Rattle.std.proofs.Common.{◌≡◌, ◌≢◌, ℕ, zero, suc, ◌+◌, ◌*◌, ◌-◌, ◌^◌, ◌<◌, ◌≤◌, Bool, true, false, not, ◌&&◌, ◌||◌, ◌==◌, if◌then◌else◌, ◌⊎◌, inl, inr, List, length, Option, Some, None, slice_index_or, [], nat_lt, bit_and, bit_or, pos, refl, sym, ap, ◌∙◌, subst, subst₂, arith, ltb-true, lt-ltb, le-ltb}
use Rattle.std.specs.Int.{bit_not, w64}
use Rattle.std.proofs.lemmas.Bool.{true≢false, and_parts, and_from, or_cases, or_left, or_right, cases_lt, cond-true, cond-false, not-true, not_from_false}
use Rattle.std.proofs.lemmas.List.{get_or_past}
use Rattle.wf_base.specs.declared.ids.NodeId.{NodeId}
use Rattle.wf_lattice.specs.declared.kind.NodeKind.{NodeKind}
use Rattle.wf_lattice.specs.declared.kind.NodeKind.TheVariants as kinds
use Rattle.wf_lattice.specs.Words.{IsIn, IsWithin, words_of, has_bit, has_type, is_empty, counted, types_of, flags_of, both, either, without, one_word, nothing}
use Rattle.wf_lattice.specs.Ints.{constant_word}
use Rattle.wf_lattice.specs.Order.{is_saturated}
use Rattle.wf_lattice.specs.Meaning.{means_null, types_if}
use Rattle.wf_lattice.specs.Filters.{set_words}
use Rattle.wf_lattice.proofs.BitLaws.{in_itself, or_grows, and_grows}
use Rattle.wf_lattice.proofs.RowLaws.{within_itself, either_grows, both_grows, nothing_within, counted_grows}
use Rattle.wf_lattice.proofs.FilterLaws.{types_if_grow, flags_grow, over_grows}
use Rattle.wf_lattice.proofs.JoinLaws.{counted_nothing}
use Rattle.wf_system.specs.declared.node_shape.NodeShape.{NodeShape}
use Rattle.wf_system.specs.declared.side.Side.{Side}
use Rattle.wf_system.specs.Shapes.{no_node, shape_at, all_words, IsLaidOut}
use Rattle.wf_system.specs.System.{ref_words}
use Rattle.wf_system.specs.Fits.{HasKind, HasTypes, AreShaped}
use Rattle.wf_system.specs.Bodies.{tables_of}
use Rattle.wf_system.proofs.ShapeLaws.{node_within}
use Rattle.wf_system.proofs.GrowLaws.{typed_refs, some_words}
use Rattle.wf_eval.specs.declared.plan.Meaning.{Meaning}
use Rattle.wf_eval.specs.declared.plan.TypeSet.{TypeSet}
use Rattle.wf_eval.specs.declared.plan.Plan.TheVariants.{First, Row, OneType, IfMade, Types, Candidates, Elements}
use Rattle.wf_eval.specs.Said.{Seen, Said}
use Rattle.wf_eval.specs.Reading.{span_row, rows_of, IsInside}
use Rattle.wf_eval.specs.Plans.{set_row, planned, meant_row, ElementsFit}
use Rattle.wf_eval.proofs.SaidLaws.{said_then, said_so}

-- two things said one after the other, together
pub said_pair : {L H M I : (ℕ → ℕ) → Type 0} {a b c : Seen} → Said L H a b → Said M I b c → Said (λ x. L x × M x) (λ x. H x × I x) a c
said_pair p q = said_then p q (λ x h i. (h, i)) (λ x h i. (h, i))

-- ---- where nodes of references are

-- a node of a kind other than a token's is there
pub kind_there : (nodes : List NodeShape) (n : ℕ) (kind : NodeKind) → (kinds.Token ≡ kind → ⊥) → (shape_at nodes n).kind ≡ kind → n < length nodes
kind_there nodes n kind other e = go (cases_lt n (length nodes))
  where
    go : ((n < length nodes) ⊎ (length nodes ≤ n)) → n < length nodes
    go (inl lt) = lt
    go (inr past) = absurd (other (sym (ap (λ (s : NodeShape). s.kind) (get_or_past nodes n no_node past)) ∙ e))

pub record RefsAt (nodes : List NodeShape) (side : Side) (a : NodeId) : Type 0 where
  pub there : a.0 < length nodes
  pub inst_there : side.inst.0 < length nodes
  pub inside : IsInside nodes (shape_at nodes a.0)
  pub made : IsInside nodes (shape_at nodes side.inst.0)
  pub same : (shape_at nodes a.0).words ≡ (shape_at nodes side.inst.0).words
  pub some : 0 < (shape_at nodes side.inst.0).words
  pub bits : length side.elems + 1 ≤ 64 * (shape_at nodes side.inst.0).words

pub refs_at : (nodes : List NodeShape) (most : ℕ) (side : Side) (a : NodeId) → IsLaidOut nodes → AreShaped (tables_of nodes most side) → HasKind (tables_of nodes most side) a kinds.Refs → RefsAt nodes side a
refs_at nodes most side a laid shaped e =
    let has : HasTypes (tables_of nodes most side) = typed_refs (tables_of nodes most side) shaped a e in
    let here : a.0 < length nodes = kind_there nodes a.0 kinds.Refs (λ h. absurd cc) e in
    let made : side.inst.0 < length nodes = kind_there nodes side.inst.0 kinds.Inst (λ h. absurd cc) has.inst in
    record {
      there = here;
      inst_there = made;
      inside = node_within nodes a.0 laid here;
      made = node_within nodes side.inst.0 laid made;
      same = has.refs a e;
      some = omega (arith, has.bits);
      bits = has.bits;
    }

-- ---- sets

module _ (nodes : List NodeShape) (side : Side) (most n : ℕ) (set : TypeSet) (x : ℕ → ℕ) (T : ℕ → ℕ) (had null over : Bool) where
  pub set_low : IsWithin T (set_row side set x) → (had ≡ true → null ≡ true) → (nat_lt most (counted n (set_row side set x)) ≡ true → over ≡ true)
      → IsWithin (set_words most n T had) (planned nodes side (Types set over null) x)
  set_low p q r = either_grows T (flags_of (nat_lt most (counted n T)) had) (set_row side set x) (flags_of over null) p
      (flags_grow (nat_lt most (counted n T)) over had null (λ e. r (over_grows most n T (set_row side set x) p e)) q)

  pub set_high : IsWithin (set_row side set x) T → (null ≡ true → had ≡ true) → (over ≡ true → nat_lt most (counted n (set_row side set x)) ≡ true)
      → IsWithin (planned nodes side (Types set over null) x) (set_words most n T had)
  set_high p q r = either_grows (set_row side set x) (flags_of over null) T (flags_of (nat_lt most (counted n T)) had) p
      (flags_grow over (nat_lt most (counted n T)) null had (λ e. over_grows most n (set_row side set x) T p (r e)) q)

-- the types of a meaning, by what is said of whether the value is saturated
pub meant_low : (m : Meaning) (x : ℕ → ℕ) (full : Bool) → (full ≡ true → m.saturated ≡ true) → IsWithin (types_if full (span_row x m.of) (span_row x m.made)) (types_of (meant_row m x))
meant_low m x full up = types_if_grow full m.saturated (span_row x m.of) (span_row x m.of) (span_row x m.made) (span_row x m.made) up (inr (within_itself (span_row x m.of))) (within_itself (span_row x m.made))

pub meant_high : (m : Meaning) (x : ℕ → ℕ) (full : Bool) → (m.saturated ≡ true → full ≡ true) → IsWithin (types_of (meant_row m x)) (types_if full (span_row x m.of) (span_row x m.made))
meant_high m x full up = types_if_grow m.saturated full (span_row x m.of) (span_row x m.of) (span_row x m.made) (span_row x m.made) up (inr (within_itself (span_row x m.of))) (within_itself (span_row x m.made))

-- null of a meaning
pub null_up : (s full b null : Bool) → (full ≡ true → s ≡ true) → ((s || b) ≡ true → null ≡ true) → (full || b) ≡ true → null ≡ true
null_up s true b null up h e = h (or_left s b (up refl))
null_up s false b null up h e = h (or_right s b e)

pub null_down : (s full b null : Bool) → (s ≡ true → full ≡ true) → (null ≡ true → (s || b) ≡ true) → null ≡ true → (full || b) ≡ true
null_down s full b null down h e = go (or_cases s b (h e))
  where
    go : ((s ≡ true) ⊎ (b ≡ true)) → (full || b) ≡ true
    go (inl i) = or_left full b (down i)
    go (inr i) = or_right full b i

-- from the places of a meaning to those of the nodes
pub along : (F : NodeShape → NodeShape → ℕ → ℕ) (r : ℕ → ℕ) (o i p j : NodeShape) → o ≡ p → i ≡ j → IsWithin (F o i) r → IsWithin (F p j) r
along F r o i p j e f h = subst₂ (λ (a b : NodeShape). IsWithin (F a b) r) e f h

pub along_back : (F : NodeShape → NodeShape → ℕ → ℕ) (r : ℕ → ℕ) (o i p j : NodeShape) → o ≡ p → i ≡ j → IsWithin r (F o i) → IsWithin r (F p j)
along_back F r o i p j e f h = subst₂ (λ (a b : NodeShape). IsWithin r (F a b)) e f h

-- the nodes of elements have the words of references
pub elements_fit : (nodes : List NodeShape) (most : ℕ) (side : Side) (a : NodeId) → AreShaped (tables_of nodes most side) → HasKind (tables_of nodes most side) a kinds.Refs → ElementsFit nodes side (ref_words (tables_of nodes most side))
elements_fit nodes most side a shaped e = record {
  each = λ c at is.
      let has : HasTypes (tables_of nodes most side) = typed_refs (tables_of nodes most side) shaped a e in
      let kind : HasKind (tables_of nodes most side) at kinds.Refs = has.elem c at is in
      (kind_there nodes at.0 kinds.Refs (λ h. absurd cc) kind, omega (arith, has.refs at kind));
}
