-- The shape that a system has, node by node.
use Rattle.std.proofs.Common.{◌≡◌, ◌≢◌, ℕ, ◌*◌, ◌+◌, ◌<◌, ◌≤◌, List, [], length, Some, None, slice_index_or, Contains, sym, ap, ◌∙◌, refl, subst, ◌⊎◌, inl, inr, arith}
use Rattle.std.proofs.lemmas.Bool.{cases_eq, cases_lt}
use Rattle.std.proofs.lemmas.List.{get_or_default, get_or_past}
use Rattle.wf_base.specs.declared.ids.NodeId.{NodeId}
use Rattle.wf_lattice.specs.declared.kind.NodeKind.{NodeKind}
use Rattle.wf_lattice.specs.declared.kind.NodeKind.TheVariants as kinds
use Rattle.wf_lattice.specs.Words.{AreWords, words_of}
use Rattle.wf_system.specs.declared.node_shape.NodeShape.{NodeShape}
use Rattle.wf_system.specs.declared.side.Side.{Side}
use Rattle.wf_system.specs.declared.inequality.Guard.TheVariants.{Always}
use Rattle.wf_system.specs.declared.inequality.Inequality.{Inequality}
use Rattle.wf_system.specs.Shapes.{shape_at}
use Rattle.wf_system.specs.Shaped.{HasItsWords, FitsTypes}
use Rattle.wf_system.specs.Fits.{IsOfTypes, HasTypes, AreShaped, Fits}
use Rattle.wf_system.specs.Bodies.{tables_of}

node_is : (a b : NodeId) → a.0 ≡ b.0 → a ≡ b
node_is a b e = λ i. record { 0 = e i }

module _ (nodes : List NodeShape) (most : ℕ) (side : Side) where
  kind_at : ℕ → NodeKind
  kind_at n = (shape_at nodes n).kind

  -- ---- what a system with types has

  pub has_types : (row : ℕ) → row ≡ (shape_at nodes side.inst.0).words → (shape_at nodes side.inst.0).kind ≡ kinds.Inst → ((n : ℕ) → FitsTypes (shape_at nodes n).kind side.inst.0 n row (shape_at nodes n).words)
      → length side.elems < 64 * row → ((c : ℕ) (n : NodeId) → slice_index_or side.elems c None ≡ Some n → (shape_at nodes n.0).kind ≡ kinds.Refs) → HasTypes (tables_of nodes most side)
  has_types row is kind types bits elems = record {
    inst = kind;
    one_inst = λ n e. node_is n side.inst (subst (λ (k : NodeKind). FitsTypes k side.inst.0 n.0 row (shape_at nodes n.0).words) e (types n.0));
    refs = λ n e. subst (λ (k : NodeKind). FitsTypes k side.inst.0 n.0 row (shape_at nodes n.0).words) e (types n.0) ∙ is;
    bits = omega (arith, bits, is);
    elem = elems;
  }

  pub types_are : HasTypes (tables_of nodes most side) → (row : ℕ) → row ≡ (shape_at nodes side.inst.0).words → (n : ℕ) → FitsTypes (shape_at nodes n).kind side.inst.0 n row (shape_at nodes n).words
  types_are h row is n = go (shape_at nodes n).kind refl
    where
      go : (k : NodeKind) → (shape_at nodes n).kind ≡ k → FitsTypes k side.inst.0 n row (shape_at nodes n).words
      go kinds.Token e = tt
      go kinds.Int e = tt
      go kinds.Long e = tt
      go kinds.Refs e = h.refs (record { 0 = n }) e ∙ sym is
      go kinds.Inst e = ap (λ (m : NodeId). m.0) (h.one_inst (record { 0 = n }) e)
      go kinds.Links e = tt

  -- ---- the nodes

  pub are_shaped : ((u : ℕ) → AreWords (words_of (slice_index_or side.masks u []))) → ((n : ℕ) → HasItsWords (shape_at nodes n).kind (shape_at nodes n).words)
      → ((n : NodeId) → IsOfTypes (shape_at nodes n.0).kind → HasTypes (tables_of nodes most side)) → AreShaped (tables_of nodes most side)
  are_shaped masks words types = record {
    token = λ n e. subst (λ (k : NodeKind). HasItsWords k (shape_at nodes n.0).words) e (words n.0);
    int = λ n e. subst (λ (k : NodeKind). HasItsWords k (shape_at nodes n.0).words) e (words n.0);
    long = λ n e. subst (λ (k : NodeKind). HasItsWords k (shape_at nodes n.0).words) e (words n.0);
    links = λ n e. subst (λ (k : NodeKind). HasItsWords k (shape_at nodes n.0).words) e (words n.0);
    types = types;
    masks = masks;
  }

  pub words_are : AreShaped (tables_of nodes most side) → (n : ℕ) → HasItsWords (shape_at nodes n).kind (shape_at nodes n).words
  words_are h n = go (shape_at nodes n).kind refl
    where
      go : (k : NodeKind) → (shape_at nodes n).kind ≡ k → HasItsWords k (shape_at nodes n).words
      go kinds.Token e = h.token (record { 0 = n }) e
      go kinds.Int e = h.int (record { 0 = n }) e
      go kinds.Long e = h.long (record { 0 = n }) e
      go kinds.Refs e = tt
      go kinds.Inst e = tt
      go kinds.Links e = h.links (record { 0 = n }) e

  -- ---- the inequalities

  -- an inequality fits, and asks for something
  abbrev pub IsRow : Inequality NodeId → Type 0
  IsRow q = Fits (tables_of nodes most side) q × (q.guard ≢ Always)

  pub rows_from : (rows : List (Inequality NodeId)) → ((i : ℕ) (d : Inequality NodeId) → i < length rows → IsRow (slice_index_or rows i d)) → (q : Inequality NodeId) → Contains rows q → IsRow q
  rows_from rows each q there = subst IsRow there.2 (each there.0 q there.1)

  pub row_more : (rows : List (Inequality NodeId)) (n : ℕ) (e : Inequality NodeId) → n < length rows → IsRow (slice_index_or rows n e)
      → ((i : ℕ) (d : Inequality NodeId) → i < n → IsRow (slice_index_or rows i d)) → (i : ℕ) (d : Inequality NodeId) → i < n + 1 → IsRow (slice_index_or rows i d)
  row_more rows n e lt here below i d less = go (cases_eq i n)
    where
      go : ((i ≡ n) ⊎ (i ≡ n → ⊥)) → IsRow (slice_index_or rows i d)
      go (inl same) = subst (λ (k : ℕ). IsRow (slice_index_or rows k d)) (sym same) (subst IsRow (get_or_default rows n e d lt) here)
      go (inr other) = below i d (omega (arith, less, other))

  pub row_at : (rows : List (Inequality NodeId)) → ((q : Inequality NodeId) → Contains rows q → IsRow q) → (i : ℕ) (d : Inequality NodeId) → i < length rows → IsRow (slice_index_or rows i d)
  row_at rows all i d lt = all (slice_index_or rows i d) (i, lt, get_or_default rows i (slice_index_or rows i d) d lt)

-- rows of types are rows of words where those that are there are
pub masks_are_words : (masks : List (List ℕ)) → ((u : ℕ) → u < length masks → AreWords (words_of (slice_index_or masks u []))) → (u : ℕ) → AreWords (words_of (slice_index_or masks u []))
masks_are_words masks each u = go (cases_lt u (length masks))
  where
    go : ((u < length masks) ⊎ (length masks ≤ u)) → AreWords (words_of (slice_index_or masks u []))
    go (inl lt) = each u lt
    go (inr past) = record { each = λ k. omega (arith, ap (λ (l : List ℕ). words_of l k) (get_or_past masks u [] past), get_or_past {X = ℕ} [] k 0 (omega arith)) }
