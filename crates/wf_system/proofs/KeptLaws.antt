-- What putting an inequality into lists of readers does.
use Rattle.std.proofs.Common.{◌≡◌, ℕ, zero, suc, Option, None, length-append, take, drop, ◌<◌, ◌+◌, Bool, true, false, ◌||◌, ◌⊎◌, inl, inr, List, [], ◌∷◌, ◌++◌, length, slice_index_or, Contains, Result, OnOk, refl, sym, ap, ◌∙◌, subst, arith}
use Rattle.std.proofs.lemmas.Bool.{cases_eq, or_left, or_right, true≢false}
use Rattle.std.proofs.lemmas.List.{get_or_default, get_or_past}
use Rattle.std.proofs.Math.Seq.{take-append_seam}
use Rattle.wf_base.specs.declared.ids.NodeId.{NodeId}
use Rattle.wf_system.specs.declared.node_shape.NodeShape.{NodeShape}
use Rattle.wf_system.specs.declared.side.Side.{Side}
use Rattle.wf_system.specs.declared.inequality.Inequality.{Inequality}
use Rattle.wf_lattice.specs.declared.kind.NodeKind.{NodeKind}
use Rattle.wf_lattice.specs.declared.kind.NodeKind.TheVariants as kinds
use Rattle.wf_system.specs.declared.inequality.Guard.{Guard}
use Rattle.wf_system.specs.declared.inequality.ValueOp.{ValueOp}
use Rattle.wf_system.specs.System.{Tables}
use Rattle.wf_system.specs.Bodies.{guard_reads, type_reads, elem_is, is_element, value_reads, System, tables, tables_of, is_node, reads, AreReaders, SystemFits}
use Rattle.wf_system.specs.Kept.{list_at, node_at, PutsWhere, AreEmpty, AreListed, AreKept}

pub puts_none : (q : Inequality NodeId) (lists : List (List (Inequality NodeId))) → PutsWhere (λ n. false) q lists lists
puts_none q lists = record { same = refl; kept = λ n p there. there; there = λ n lt e. absurd (true≢false (sym e)); only = λ n p there. inl there }

or_cases : (a b : Bool) → (a || b) ≡ true → (a ≡ true) ⊎ (b ≡ true)
or_cases true b e = inl refl
or_cases false b e = inr e

pub puts_both : (P Q : NodeId → Bool) (q : Inequality NodeId) (a b c : List (List (Inequality NodeId))) → PutsWhere P q a b → PutsWhere Q q b c → PutsWhere (λ n. P n || Q n) q a c
puts_both P Q q a b c f g = record {
  same = g.same ∙ f.same;
  kept = λ n p there. g.kept n p (f.kept n p there);
  there = λ n lt e. go n lt (or_cases (P (node_at n)) (Q (node_at n)) e);
  only = λ n p there. back n p (g.only n p there);
}
  where
    go : (n : ℕ) → n < length a → ((P (node_at n) ≡ true) ⊎ (Q (node_at n) ≡ true)) → Contains (list_at c n) q
    go n lt (inl e) = g.kept n q (f.there n lt e)
    go n lt (inr e) = g.there n (omega (arith, lt, f.same)) e

    back : (n : ℕ) (p : Inequality NodeId) → (Contains (list_at b n) p ⊎ ((p ≡ q) × (Q (node_at n) ≡ true))) → Contains (list_at a n) p ⊎ ((p ≡ q) × ((P (node_at n) || Q (node_at n)) ≡ true))
    back n p (inr e) = inr (e.0, or_right (P (node_at n)) (Q (node_at n)) e.1)
    back n p (inl there) = first (f.only n p there)
      where
        first : (Contains (list_at a n) p ⊎ ((p ≡ q) × (P (node_at n) ≡ true))) → Contains (list_at a n) p ⊎ ((p ≡ q) × ((P (node_at n) || Q (node_at n)) ≡ true))
        first (inl h) = inl h
        first (inr e) = inr (e.0, or_left (P (node_at n)) (Q (node_at n)) e.1)

-- what is put for a guard or a value is put for what equals it
pub puts_for_guard : {X E : Type 0} (r : Result X E) (t : Tables NodeId) (q : Inequality NodeId) (a b : List (List (Inequality NodeId))) (g h : Guard NodeId) → g ≡ h
    → OnOk r (PutsWhere (λ n. guard_reads is_node t h n) q a b) → OnOk r (PutsWhere (λ n. guard_reads is_node t g n) q a b)
puts_for_guard r t q a b g h e p = subst (λ (k : Guard NodeId). OnOk r (PutsWhere (λ n. guard_reads is_node t k n) q a b)) (sym e) p

pub puts_for_value : {X E : Type 0} (r : Result X E) (t : Tables NodeId) (kind : NodeKind) (q : Inequality NodeId) (a b : List (List (Inequality NodeId))) (v w : ValueOp NodeId) → v ≡ w
    → OnOk r (PutsWhere (λ n. value_reads is_node t w kind n) q a b) → OnOk r (PutsWhere (λ n. value_reads is_node t v kind n) q a b)
puts_for_value r t kind q a b v w e p = subst (λ (k : ValueOp NodeId). OnOk r (PutsWhere (λ n. value_reads is_node t k kind n) q a b)) (sym e) p

-- one type reads what is made wherever it flows but into that itself
types_read : (to : NodeKind) → (to ≡ kinds.Inst → ⊥) → (made : Bool) → type_reads to made ≡ made
types_read kinds.Token other made = refl
types_read kinds.Int other made = refl
types_read kinds.Long other made = refl
types_read kinds.Refs other made = refl
types_read kinds.Inst other made = absurd (other refl)
types_read kinds.Links other made = refl

pub type_put : {X E : Type 0} (r : Result X E) (q : Inequality NodeId) (a b : List (List (Inequality NodeId))) (to : NodeKind) (inst : NodeId) → (to ≡ kinds.Inst → ⊥)
    → OnOk r (PutsWhere (λ n. is_node inst n) q a b) → OnOk r (PutsWhere (λ n. type_reads to (is_node inst n)) q a b)
type_put r q a b to inst other p = subst (λ (P : NodeId → Bool). OnOk r (PutsWhere P q a b)) (sym (λ i. λ (n : NodeId). types_read to other (is_node inst n) i)) p

pub type_as : {X E : Type 0} (r : Result X E) (q : Inequality NodeId) (a b : List (List (Inequality NodeId))) (to kind : NodeKind) (inst : NodeId) → to ≡ kind
    → OnOk r (PutsWhere (λ n. type_reads to (is_node inst n)) q a b) → OnOk r (PutsWhere (λ n. type_reads kind (is_node inst n)) q a b)
type_as r q a b to kind inst e p = subst (λ (k : NodeKind). OnOk r (PutsWhere (λ n. type_reads k (is_node inst n)) q a b)) e p

-- one more node of elements
pub puts_element : (nodes : List NodeShape) (most : ℕ) (side : Side) (q : Inequality NodeId) (a b c : List (List (Inequality NodeId))) (k : ℕ) (elem : Option NodeId) → elem ≡ slice_index_or side.elems k None
    → PutsWhere (λ n. is_element is_node (tables_of nodes most side) k n) q a b → PutsWhere (λ n. elem_is is_node elem n) q b c → PutsWhere (λ n. is_element is_node (tables_of nodes most side) (k + 1) n) q a c
puts_element nodes most side q a b c k elem e f g =
    let more : suc k ≡ k + 1 = omega arith in
    subst (λ (m : ℕ). PutsWhere (λ n. is_element is_node (tables_of nodes most side) m n) q a c) more
    (puts_both (λ n. is_element is_node (tables_of nodes most side) k n) (λ n. elem_is is_node (slice_index_or side.elems k None) n) q a b c f
    (subst (λ (o : Option NodeId). PutsWhere (λ n. elem_is is_node o n) q b c) e g))

-- ---- empty lists

pub empty_none : (lists : List (List (Inequality NodeId))) → lists ≡ [] → AreEmpty 0 lists
empty_none lists e = subst (λ (l : List (List (Inequality NodeId))). AreEmpty 0 l) (sym e) (record { many = refl; none = λ n. get_or_past [] n [] (omega arith) })

at_end : (lists : List (List (Inequality NodeId))) (n : ℕ) → list_at (lists ++ [] ∷ []) n ≡ list_at lists n
at_end [] zero = refl
at_end [] (suc n) = refl
at_end (x ∷ rest) zero = refl
at_end (x ∷ rest) (suc n) = at_end rest n

pub empty_more : (k : ℕ) (a b : List (List (Inequality NodeId))) → AreEmpty k a → b ≡ a ++ [] ∷ [] → AreEmpty (k + 1) b
empty_more k a b empty e = subst (λ (l : List (List (Inequality NodeId))). AreEmpty (k + 1) l) (sym e)
    (record { many = omega (arith, length-append a ([] ∷ []), empty.many); none = λ n. at_end a n ∙ empty.none n })

-- ---- the readers of all nodes

pub listed_none : (s : System) (count : ℕ) (lists : List (List (Inequality NodeId))) → count ≡ length s.nodes → AreEmpty count lists → AreListed s 0 lists
listed_none s count lists e empty = record {
  many = empty.many ∙ e;
  all = λ n i d ln li read. absurd (omega (arith, li));
  only = λ n p there. absurd (omega (arith, there.1, ap (λ (l : List (Inequality NodeId)). length l) (empty.none n)));
}

pub listed_more : (s : System) (k : ℕ) (q d : Inequality NodeId) (a b : List (List (Inequality NodeId))) → q ≡ slice_index_or s.rows k d → k < length s.rows
    → AreListed s k a → PutsWhere (λ n. reads is_node (tables s) q n) q a b → AreListed s (k + 1) b
listed_more s k q d a b e lt l p = record {
  many = p.same ∙ l.many;
  all = λ n i f ln li read. go n i f ln li read (cases_eq i k);
  only = λ n r there. back n r (p.only n r there);
}
  where
    here : (f : Inequality NodeId) → slice_index_or s.rows k f ≡ q
    here f = sym (e ∙ get_or_default s.rows k d f lt)

    go : (n i : ℕ) (f : Inequality NodeId) → n < length s.nodes → i < k + 1 → reads is_node (tables s) (slice_index_or s.rows i f) (node_at n) ≡ true → ((i ≡ k) ⊎ (i ≡ k → ⊥)) → Contains (list_at b n) (slice_index_or s.rows i f)
    go n i f ln li read (inr other) = p.kept n (slice_index_or s.rows i f) (l.all n i f ln (omega (arith, li, other)) read)
    go n i f ln li read (inl same) =
        let is : slice_index_or s.rows i f ≡ q = ap (λ (j : ℕ). slice_index_or s.rows j f) same ∙ here f in
        subst (λ (r : Inequality NodeId). Contains (list_at b n) r) (sym is) (p.there n (omega (arith, ln, l.many)) (subst (λ (r : Inequality NodeId). reads is_node (tables s) r (node_at n) ≡ true) is read))

    back : (n : ℕ) (r : Inequality NodeId) → (Contains (list_at a n) r ⊎ ((r ≡ q) × (reads is_node (tables s) q (node_at n) ≡ true))) → Contains s.rows r × (reads is_node (tables s) r (node_at n) ≡ true)
    back n r (inl h) = l.only n r h
    back n r (inr h) = subst (λ (x : Inequality NodeId). Contains s.rows x × (reads is_node (tables s) x (node_at n) ≡ true)) (sym h.0) ((k, lt, here q), h.1)

pub all_kept : (s : System) (lists : List (List (Inequality NodeId))) → SystemFits s → AreListed s (length s.rows) lists → AreKept s lists
all_kept s lists fits l = record {
  fits = fits;
  many = l.many;
  each = λ n lt. record {
    all = λ q there read. subst (λ (x : Inequality NodeId). Contains (list_at lists n) x) there.2
        (l.all n there.0 q lt there.1 (subst (λ (x : Inequality NodeId). reads is_node (tables s) x (node_at n) ≡ true) (sym there.2) read));
    only = λ q there. l.only n q there;
  };
}

pub readers_kept : (s : System) (lists : List (List (Inequality NodeId))) (node : NodeId) (list given : List (Inequality NodeId)) → AreKept s lists → node.0 < length s.nodes
    → list ≡ slice_index_or lists node.0 list → given ≡ list → AreReaders s node given
readers_kept s lists node list given kept lt e f = subst (λ (l : List (Inequality NodeId)). AreReaders s node l) (sym (f ∙ e ∙ get_or_default lists node.0 list [] (omega (arith, lt, kept.many)))) (kept.each node.0 lt)

-- lists that were lent whole are what was written
pub written_whole : (old written : List (List (Inequality NodeId))) → length written ≡ length old → take (length old) (written ++ drop (length written) old) ≡ written
written_whole old written same = ap (λ (k : ℕ). take k (written ++ drop (length written) old)) (sym same) ∙ take-append_seam written (drop (length written) old)

pub listed_written : (s : System) (k : ℕ) (q d : Inequality NodeId) (a given b : List (List (Inequality NodeId))) → q ≡ slice_index_or s.rows k d → k < length s.rows
    → AreListed s k a → given ≡ a → PutsWhere (λ n. reads is_node (tables s) q n) q given b → AreListed s (k + 1) (take (length a) (b ++ drop (length b) a))
listed_written s k q d a given b e lt l same p =
    let from : PutsWhere (λ n. reads is_node (tables s) q n) q a b = subst (λ (x : List (List (Inequality NodeId))). PutsWhere (λ n. reads is_node (tables s) q n) q x b) same p in
    subst (λ (x : List (List (Inequality NodeId))). AreListed s (k + 1) x) (sym (written_whole a b from.same)) (listed_more s k q d a b e lt l from)
