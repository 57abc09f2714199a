-- The members of a program have the nodes that bodies share.
use Rattle.std.proofs.Common.{◌≡◌, ℕ, Bool, false, List, map, get_or, sym, ap, subst, ◌∙◌}
use Rattle.wf_subtype.specs.Subtypes.{AllTypes}
use Rattle.wf_rows.specs.Nodes.{MethodNodes, Shared, no_nodes}
use Rattle.wf_nodes.specs.declared.fields.FieldPlace.{FieldPlace}
use Rattle.wf_nodes.specs.declared.methods.MethodPlace.{MethodPlace}
use Rattle.wf_nodes.specs.Sharing.{AreNodesOf, HasFieldNodes, HasMethodNodes, IsFollowed}
use Rattle.wf_nodes.specs.Tables.{IsFieldWith, IsMethodWith, nodes_at, followed_at, no_method, no_field}
use Rattle.wf_nodes.proofs.Placing.{get_seen}

pub method_has_nodes : (types : AllTypes) (s : Shared) (places : List MethodPlace) (m : ℕ) → s.methods ≡ map nodes_at places → IsMethodWith types m (nodes_at (get_or places m no_method)) → HasMethodNodes types s m
method_has_nodes types s places m e h =
    let seen = ap (λ (ms : List MethodNodes). get_or ms m no_nodes) e ∙ get_seen nodes_at places m no_method in
    record { class = h.class; info = h.info; is = h.is; nodes = subst (AreNodesOf h.info) (sym seen) h.nodes_are }

pub field_has_nodes : (types : AllTypes) (s : Shared) (places : List FieldPlace) (f : ℕ) → s.fields ≡ map followed_at places → IsFieldWith types f (followed_at (get_or places f no_field)) → HasFieldNodes types s f
field_has_nodes types s places f e h =
    let seen = ap (λ (fs : List Bool). get_or fs f false) e ∙ get_seen followed_at places f no_field in
    record { class = h.class; info = h.info; is = h.is; followed = subst (IsFollowed h.info) (sym seen) h.followed_is }
