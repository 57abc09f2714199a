use Rattle.std.proofs.Common.{◌≡◌, ◌∙◌, List, ℕ, get_or, sym, ap, subst}
use Rattle.std.proofs.lemmas.Option.{get_or_from_slice_get}
use Rattle.wf_descriptor.specs.Descriptors.{SpellsField, kind_of}
use Rattle.wf_operation.specs.PoolSlots.{is_followed}
use Rattle.wf_nodes.specs.Sharing.IsFollowed.{spelled}
use Rattle.wf_nodes.proofs.fields.is_followed_field.Goals as goal

pub returns-in-Some : goal.returns-in-Some
returns-in-Some c =
    let bytes = c.as_slice-desc.result.now in
    let passed = c.if-not-is_field_descriptor.false in
    let h = (c.tests_are_the_grammar.ensures.field bytes).0 (sym c.is_field_descriptor.ensures ∙ passed) in
    let first : get_or bytes 0 0 ≡ c.in-Some.first.now = get_or_from_slice_get bytes 0 c.in-Some.first.now 0 (sym c.in-Some.ensures.value) in
    let kind : h.desc.kind ≡ c.kind_of.result = h.spelled.is_desc.kind ∙ ap (λ (bs : List ℕ). kind_of (get_or bs 0 0)) (sym h.spelled.text) ∙ ap kind_of first ∙ sym c.kind_of.ensures in
    spelled h.desc (subst (λ (bs : List ℕ). SpellsField bs h.desc) c.as_slice-desc.ensures h.spelled) (c.is_followed.ensures ∙ ap is_followed (sym kind))
