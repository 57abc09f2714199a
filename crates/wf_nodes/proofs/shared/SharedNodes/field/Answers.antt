use Rattle.std.proofs.Common.{◌≡◌, ◌+◌, ◌∙◌, List, ℕ, true, false, sym, ap, subst, get_or, map}
use Rattle.std.specs.List.{sum_by}
use Rattle.wf_rows.specs.Nodes.{Shared}
use Rattle.wf_nodes.specs.declared.fields.FieldPlace.{FieldPlace}
use Rattle.wf_nodes.specs.Numbering.{before, field_count, field_first, first_class, method_count}
use Rattle.wf_nodes.specs.Tables.{count_at_method, followed_at, nodes_at, no_field}
use Rattle.wf_nodes.proofs.Lookups.{field_is_placed}
use Rattle.wf_nodes.proofs.Placing.{sum_seen}
use Rattle.wf_nodes.proofs.shared.SharedNodes.field.Goals as goal

pub returns-clause-first : goal.returns-clause-first
returns-clause-first c =
    let inside = c.self.inside in
    let methods = inside.methods.items in
    let fields = inside.fields.items in
    let f : ℕ = c.args.f.0 in
    let read : c.field_in.result ≡ get_or fields f no_field = c.field_in.ensures ∙ ap (λ (fs : List FieldPlace). get_or fs f no_field) c.as_slice.ensures.value in
    let first = first_class + inside.classes in
    subst (λ (s : Shared). get_or s.fields f false ≡ true → c.field_in.result.first ≡ field_first s f) c.self.view_is
    (λ on. ap (λ (p : FieldPlace). p.first) read ∙ field_is_placed (first + sum_by count_at_method methods) inside.first_array fields f c.self.invariant.fields_placed on
    ∙ ap (λ (k : ℕ). first + k + before field_count f (map followed_at fields)) (sym (sum_seen nodes_at method_count methods)))
