-- The words of what is printed, one part behind the other.
use Rattle.std.proofs.Common.{◌≡◌, ℕ, List, [], ◌∷◌, ◌++◌, sym, ap, ◌∙◌, append_assoc}
use Rattle.std.proofs.lemmas.List.{append-nil}
use Rattle.std.proofs.lemmas.List.Concat.{flat_map-append}
use Rattle.wf_names.specs.declared.member.MemberName.{MemberName}
use Rattle.wf_names.specs.NameForm.{member_text}
use Rattle.wf_lines.specs.Lines.{spaced}
use Rattle.wf_lines.specs.Members.{member_words}
use Rattle.wf_inputs.specs.declared.summary.Value.{Value}
use Rattle.wf_inputs.specs.Printing.{value_words, setting_words}

pub spaced_member : (m : MemberName) → spaced (member_text m ∷ []) ≡ spaced (member_words m)
spaced_member m = simp (append_assoc, append-nil)

pub spaced_setting : (out middle new : List ℕ) (field : MemberName) (value : Value) → middle ≡ out ++ spaced (member_words field) → new ≡ middle ++ spaced (value_words value)
    → new ≡ out ++ spaced (setting_words field value)
spaced_setting out middle new field value first second = second ∙ ap (λ (x : List ℕ). x ++ spaced (value_words value)) first ∙ append_assoc out (spaced (member_words field)) (spaced (value_words value))
    ∙ ap (λ (x : List ℕ). out ++ x) (sym (flat_map-append (λ word. 32 ∷ word) (member_words field) (value_words value)))
