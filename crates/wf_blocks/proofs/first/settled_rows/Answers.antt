use Rattle.std.proofs.Common.{ℕ, ◌<◌, List, [], ◌∷◌, ◌++◌, length, arith, sym, ap, subst, ◌∙◌, Option, Some, None, Ok, Bool, Result}
use Rattle.std.proofs.lemmas.Bool.{eqb-true, eqb-false}
use Rattle.std.specs.declared.alloc.AllocError.{AllocError}
use Rattle.wf_blocks.specs.declared.seen.Seen.{Seen}
use Rattle.wf_blocks.specs.Advancing.{Ready}
use Rattle.wf_blocks.specs.Bodies.{graph_of, inner_of}
use Rattle.wf_blocks.specs.Methods.{filled}
use Rattle.wf_blocks.specs.Rows.{entry_row}
use Rattle.wf_blocks.specs.Walking.{Working}
use Rattle.wf_blocks.proofs.FirstLemmas.{nothing_bad, first_ready, first_working}
use Rattle.wf_blocks.proofs.first.settled_rows.Goals as goal

pub returns-then-is_empty-clause-bad : goal.returns-then-is_empty-clause-bad
returns-then-is_empty-clause-bad c = λ e. nothing_bad c.args.body.now (eqb-true (length c.args.body.now.steps) 0 (sym c.is_empty.ensures ∙ c.if-is_empty.true))

pub returns-else-branch-clause-bad : goal.returns-else-branch-clause-bad
returns-else-branch-clause-bad c = λ e. let ok : Bool → Result Bool AllocError = λ t. Ok t in c.in_ok-settle.ensures.bad (ap ok c.if-branch.false)

pub settle-requires-clause-ready : goal.settle-requires-clause-ready
settle-requires-clause-ready c =
    let b = c.args.body.now in
    let some : 0 < length b.steps = omega (arith, eqb-false (length b.steps) 0 (sym c.is_empty.ensures ∙ c.if-is_empty.false)) in
    subst (λ (rs : List (Option (List Seen))). Ready b rs c.push.new.self.items) (sym (c.deref_mut.ensures.value ∙ c.in_ok-rows.ensures))
    (subst (λ (q : List ℕ). Ready b (filled (Some (entry_row (graph_of b)) ∷ []) None (length b.steps)) q) (sym (c.in_ok-push.ensures.items ∙ ap (λ (q : List ℕ). q ++ 0 ∷ []) c.in_ok-queue.ensures.items)) (first_ready b some))

pub settle-requires-clause-working : goal.settle-requires-clause-working
settle-requires-clause-working c =
    let b = c.args.body.now in
    subst (λ (rs : List (Option (List Seen))). Working (graph_of b) (inner_of b) rs c.push.new.self.items) (sym (c.deref_mut.ensures.value ∙ c.in_ok-rows.ensures))
    (subst (λ (q : List ℕ). Working (graph_of b) (inner_of b) (filled (Some (entry_row (graph_of b)) ∷ []) None (length b.steps)) q) (sym (c.in_ok-push.ensures.items ∙ ap (λ (q : List ℕ). q ++ 0 ∷ []) c.in_ok-queue.ensures.items)) (first_working b))
