use Rattle.std.proofs.Common.{◌≡◌, ℕ, ◌<◌, not, length, nat_lt, IsTrue, refl, sym, subst, ltb-true, slice_index_or, []}
use Rattle.wf_base.specs.declared.ids.NodeId.{NodeId}
use Rattle.wf_lattice.specs.Words.{words_of, is_empty, types_of, both}
use Rattle.wf_system.specs.declared.inequality.Guard.{Guard}
use Rattle.wf_system.specs.declared.node_shape.NodeShape.{NodeShape}
use Rattle.wf_system.specs.System.{guard_holds}
use Rattle.wf_system.specs.Fits.{GuardIsThere}
use Rattle.wf_system.specs.Bodies.{tables_of}
use Rattle.wf_eval.specs.Said.{SaidBool}
use Rattle.wf_eval.specs.Reading.{span_row, rows_of}
use Rattle.wf_eval.proofs.WordLaws.{inside_at}
use Rattle.wf_eval.proofs.lookup.Lookup.guard.Goals as goal

pub any_of-requires-clause-place : goal.any_of-requires-clause-place
any_of-requires-clause-place g c =
    let there : IsTrue (nat_lt c.in-NonEmpty.n.0 (length c.args.self.now.shape.now)) = subst (λ (q : Guard NodeId). GuardIsThere (tables_of c.args.self.now.shape.now c.args.self.now.most c.args.self.now.side.now) q) c.in-NonEmpty.is c.requires.there in
    inside_at c.args.self.now.shape.now c.in-NonEmpty.n.0 c.node.result c.args.self.now.laid c.node.ensures (ltb-true c.in-NonEmpty.n.0 (length c.args.self.now.shape.now) there)

pub bit_of-requires-clause-place : goal.bit_of-requires-clause-place
bit_of-requires-clause-place g c =
    let there : IsTrue (nat_lt c.args.self.now.side.now.inst.0 (length c.args.self.now.shape.now)) = subst (λ (q : Guard NodeId). GuardIsThere (tables_of c.args.self.now.shape.now c.args.self.now.most c.args.self.now.side.now) q) c.in-HasType.is c.requires.there in
    inside_at c.args.self.now.shape.now c.args.self.now.side.now.inst.0 c.node-in-HasType.result c.args.self.now.laid c.node-in-HasType.ensures (ltb-true c.args.self.now.side.now.inst.0 (length c.args.self.now.shape.now) there)

pub has_types-requires-clause-fits : goal.has_types-requires-clause-fits
has_types-requires-clause-fits g c =
    let there : IsTrue (nat_lt c.args.self.now.side.now.inst.0 (length c.args.self.now.shape.now)) × (c.in-HasUnder.u.0 < length c.args.self.now.side.now.masks) = subst (λ (q : Guard NodeId). GuardIsThere (tables_of c.args.self.now.shape.now c.args.self.now.most c.args.self.now.side.now) q) c.in-HasUnder.is c.requires.there in
    record {
      from = inside_at c.args.self.now.shape.now c.args.self.now.side.now.inst.0 c.node-made.result c.args.self.now.laid c.node-made.ensures (ltb-true c.args.self.now.side.now.inst.0 (length c.args.self.now.shape.now) there.0);
      words = refl;
      mask = there.1;
    }

pub bit_of-requires-in-Linked-clause-place : goal.bit_of-requires-in-Linked-clause-place
bit_of-requires-in-Linked-clause-place g c =
    let there : IsTrue (nat_lt c.in-Linked.n.0 (length c.args.self.now.shape.now)) = subst (λ (q : Guard NodeId). GuardIsThere (tables_of c.args.self.now.shape.now c.args.self.now.most c.args.self.now.side.now) q) c.in-Linked.is c.requires.there in
    inside_at c.args.self.now.shape.now c.in-Linked.n.0 c.node-in-Linked.result c.args.self.now.laid c.node-in-Linked.ensures (ltb-true c.in-Linked.n.0 (length c.args.self.now.shape.now) there)

pub returns-in-HasUnder : goal.returns-in-HasUnder
returns-in-HasUnder g c = subst (λ (q : Guard NodeId). SaidBool (λ (x : ℕ → ℕ). guard_holds (tables_of c.args.self.now.shape.now c.args.self.now.most c.args.self.now.side.now) q (rows_of c.args.self.now.shape.now x)) (g.W.Words.seen c.args.words.now) (g.W.Words.seen c.has_types.new.words) c.has_types.result) (sym c.in-HasUnder.is)
    (subst (λ (i : NodeShape). SaidBool (λ (x : ℕ → ℕ). not (is_empty i.words (both (types_of (span_row x i)) (words_of (slice_index_or c.args.self.now.side.now.masks c.in-HasUnder.u.0 []))))) (g.W.Words.seen c.args.words.now) (g.W.Words.seen c.has_types.new.words) c.has_types.result)
    c.node-made.ensures c.has_types.ensures)
