use Rattle.std.proofs.Common.{◌≡◌, Option, Some, None, slice_index_or, List, sym, ap, ◌∙◌}
use Rattle.wf_base.specs.declared.ids.NodeId.{NodeId}
use Rattle.wf_eval.specs.Plans.{has_meaning}
use Rattle.wf_eval.proofs.WordLaws.{inside_at, elem_there, elem_none}
use Rattle.wf_eval.proofs.lookup.Lookup.element_word.Goals as goal

pub node-requires : goal.node-requires
node-requires g c = let is : slice_index_or c.args.self.now.side.now.elems c.args.c None ≡ Some c.in-Some.node = sym (ap (λ (l : List (Option NodeId)). slice_index_or l c.args.c None) c.as_slice.ensures) ∙ c.in-Some.is in
    (c.requires.elements.each c.args.c c.in-Some.node is).0

pub word_of-requires-clause-place : goal.word_of-requires-clause-place
word_of-requires-clause-place g c = let is : slice_index_or c.args.self.now.side.now.elems c.args.c None ≡ Some c.in-Some.node = sym (ap (λ (l : List (Option NodeId)). slice_index_or l c.args.c None) c.as_slice.ensures) ∙ c.in-Some.is in
    inside_at c.args.self.now.shape.now c.in-Some.node.0 c.node.result c.args.self.now.laid c.node.ensures (c.requires.elements.each c.args.c c.in-Some.node is).0

pub returns-then-has_meaning : goal.returns-then-has_meaning
returns-then-has_meaning g c = let is : slice_index_or c.args.self.now.side.now.elems c.args.c None ≡ Some c.in-Some.node = sym (ap (λ (l : List (Option NodeId)). slice_index_or l c.args.c None) c.as_slice.ensures) ∙ c.in-Some.is in
    elem_there c.args.self.now.shape.now (slice_index_or c.args.self.now.side.now.elems c.args.c None) c.in-Some.node c.node.result c.args.k c.word_of.result c.has_meaning.result is c.node.ensures c.if-has_meaning.true c.has_meaning.ensures c.word_of.ensures

pub returns-in-None : goal.returns-in-None
returns-in-None g c = let is : slice_index_or c.args.self.now.side.now.elems c.args.c None ≡ None = sym (ap (λ (l : List (Option NodeId)). slice_index_or l c.args.c None) c.as_slice.ensures) ∙ c.in-None.is in
    elem_none c.args.self.now.shape.now (slice_index_or c.args.self.now.side.now.elems c.args.c None) c.args.k (has_meaning c.args.m) (λ x. c.args.c) (g.W.Words.seen c.args.words.now) is
