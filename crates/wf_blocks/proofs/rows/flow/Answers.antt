use Rattle.std.proofs.Common.{◌≡◌, sym, ◌∙◌, ap, subst, get_or, set, length, ◌<◌, ◌∷◌, [], List, ℕ, Option, Some, None}
use Rattle.std.proofs.lemmas.List.{get_or_read}
use Rattle.wf_blocks.specs.declared.rows.Grown.{Grown}
use Rattle.wf_blocks.specs.declared.seen.Seen.{Seen}
use Rattle.wf_blocks.specs.Rows.{row_in, grown}
use Rattle.wf_blocks.specs.Flowing.{Flowed, IsLess}
use Rattle.wf_blocks.proofs.FlowLemmas.{differs_there, flowed_same, flowed_more, less_more}
use Rattle.wf_blocks.proofs.rows.flow.Goals as goal

-- what came of the row that stands in the list
of_list : (rows : List (Option (List Seen))) (to : ℕ) (r : Option (List Seen)) (after : List Seen) (g : Grown)
    → to < length rows → r ≡ get_or rows to r → g ≡ grown (get_or rows to r) after → grown (row_in rows to) after ≡ g
of_list rows to r after g lt e is = ap (λ (q : Option (List Seen)). grown q after) (sym (get_or_read rows to r lt e None) ∙ e) ∙ sym is

pub returns-in-Differs-clause-differs : goal.returns-in-Differs-clause-differs
returns-in-Differs-clause-differs c =
    λ e. differs_there c.args.to c.args.after.now c.args.rows.now
    (of_list c.args.rows.now c.args.to c.index-rows-to.result c.args.after.now _ c.requires c.index-rows-to.is (sym c.in-Differs.is ∙ c.in_ok-grow.ensures))

pub returns-in-Same-clause-flows : goal.returns-in-Same-clause-flows
returns-in-Same-clause-flows c =
    λ e. flowed_same c.args.to c.args.after.now c.args.rows.now c.args.queue.now.items
    (of_list c.args.rows.now c.args.to c.index-rows-to.result c.args.after.now _ c.requires c.index-rows-to.is (sym c.in-Same.is ∙ c.in_ok-grow.ensures))

pub returns-in_ok-push-in-More-clause-flows : goal.returns-in_ok-push-in-More-clause-flows
returns-in_ok-push-in-More-clause-flows c =
    λ e. let is = of_list c.args.rows.now c.args.to c.index-rows-to.result c.args.after.now _ c.requires c.index-rows-to.is (sym c.in-More.is ∙ c.in_ok-grow.ensures) in
    subst (λ (q : List ℕ). Flowed (c.args.to ∷ []) c.args.after.now c.args.rows.now (set c.args.rows.now c.args.to (Some c.in-More.row)) c.args.queue.now.items q)
    (sym c.in_ok-push-in-More.ensures.items)
    (flowed_more c.args.to c.args.after.now c.in-More.row c.args.rows.now c.args.queue.now.items c.requires is)

pub returns-in_ok-push-in-More-clause-less : goal.returns-in_ok-push-in-More-clause-less
returns-in_ok-push-in-More-clause-less c =
    λ width e fits low. let is = of_list c.args.rows.now c.args.to c.index-rows-to.result c.args.after.now _ c.requires c.index-rows-to.is (sym c.in-More.is ∙ c.in_ok-grow.ensures) in
    subst (λ (q : List ℕ). IsLess width c.args.rows.now (set c.args.rows.now c.args.to (Some c.in-More.row)) c.args.queue.now.items q)
    (sym c.in_ok-push-in-More.ensures.items)
    (less_more width c.args.to c.args.after.now c.in-More.row c.args.rows.now c.args.queue.now.items c.requires is fits low)
