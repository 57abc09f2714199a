use Rattle.std.proofs.Common.{◌≡◌, ◌∙◌, ◌∷◌, ◌++◌, [], List, ℕ, sym, ap, subst, append_assoc, append-nil}
use Rattle.wf_classes.specs.World.{IsAscending}
use Rattle.wf_subtype.proofs.universe.in_order.Goals as goal

pub loop-name-preserved : goal.loop-name-preserved
loop-name-preserved c =
    ap (λ (xs : List (List ℕ)). xs ++ c.next.new.self) c.in_ok-push.ensures.items
    ∙ append_assoc c.loop-name.names.items (c.in-Some.name ∷ []) c.next.new.self
    ∙ ap (λ (xs : List (List ℕ)). c.loop-name.names.items ++ xs) (sym c.in-Some.ensures.steps)
    ∙ c.loop-name.invariant

all_of : (c : goal.After-drop-name-iterator-2) → c.loop-name.names.items ≡ c.args.types.keys
all_of c =
    sym (append-nil c.loop-name.names.items) ∙ ap (λ (xs : List (List ℕ)). c.loop-name.names.items ++ xs) (sym c.in-None.ensures.steps.0) ∙ c.loop-name.invariant ∙ c.into_iter-name-iterator.ensures.into_iter_gives.0

pub returns-clause-keys : goal.returns-clause-keys
returns-clause-keys c = all_of c

pub returns-clause-ascending : goal.returns-clause-ascending
returns-clause-ascending c = subst IsAscending (sym (all_of c)) c.into_iter-name-iterator.ensures.into_iter_gives.4
