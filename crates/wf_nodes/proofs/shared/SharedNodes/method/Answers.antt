use Rattle.std.proofs.Common.{◌≡◌, ◌+◌, ◌∙◌, List, true, ap, subst, get_or}
use Rattle.std.specs.List.{sum_by}
use Rattle.wf_rows.specs.Nodes.{Shared, method_nodes}
use Rattle.wf_nodes.specs.declared.methods.MethodPlace.{MethodPlace}
use Rattle.wf_nodes.specs.Numbering.{first_class, method_first}
use Rattle.wf_nodes.specs.Tables.{count_at_method, no_method}
use Rattle.wf_nodes.proofs.Lookups.{method_is_placed}
use Rattle.wf_nodes.proofs.shared.SharedNodes.method.Goals as goal

pub returns-clause-first : goal.returns-clause-first
returns-clause-first c =
    let inside = c.self.inside in
    let methods = inside.methods.items in
    let m = c.args.m in
    let read : c.method_in.result ≡ get_or methods m.0 no_method = c.method_in.ensures ∙ ap (λ (ms : List MethodPlace). get_or ms m.0 no_method) c.as_slice.ensures.value in
    let first = first_class + inside.classes in
    subst (λ (s : Shared). (method_nodes s m).entered ≡ true → c.method_in.result.first ≡ method_first s m) c.self.view_is
    (λ on. ap (λ (p : MethodPlace). p.first) read ∙ method_is_placed first (first + sum_by count_at_method methods) methods m.0 c.self.invariant.methods_placed on)
