-- What is looked up of a member.
use Rattle.std.proofs.Common.{◌≡◌, ℕ, ◌+◌, ◌<◌, ◌≤◌, true, false, true≢false, List, length, map, get_or, sym, ap, ◌∙◌, arith, inl, inr, ◌⊎◌}
use Rattle.std.proofs.lemmas.Bool.{cases_lt}
use Rattle.std.proofs.lemmas.List.{get_or_past}
use Rattle.std.proofs.lemmas.List.Sums.{sum_by-take-le}
use Rattle.wf_rows.specs.Nodes.{MethodNodes, no_nodes}
use Rattle.wf_nodes.specs.declared.fields.FieldPlace.{FieldPlace}
use Rattle.wf_nodes.specs.declared.methods.MethodPlace.{MethodPlace}
use Rattle.wf_nodes.specs.Numbering.{before, method_count, field_count}
use Rattle.wf_nodes.specs.Tables.{ArePlaced, nodes_at, followed_at, no_method, no_field, method_begins, field_begins, count_at_method, count_at_field}
use Rattle.wf_nodes.proofs.Placing.{get_seen, before_seen}

pub method_is_placed : (first next : ℕ) (methods : List MethodPlace) (m : ℕ) → ArePlaced method_begins count_at_method first methods next → (get_or (map nodes_at methods) m no_nodes).entered ≡ true → (get_or methods m no_method).first ≡ first + before method_count m (map nodes_at methods)
method_is_placed first next methods m h on = at (cases_lt m (length methods)) where
  at : ((m < length methods) ⊎ (length methods ≤ m)) → (get_or methods m no_method).first ≡ first + before method_count m (map nodes_at methods)
  at (inl l) = h.each m no_method l ∙ ap (λ (k : ℕ). first + k) (sym (before_seen nodes_at method_count m methods))
  at (inr k) = absurd (let past = get_seen nodes_at methods m no_method ∙ ap nodes_at (get_or_past methods m no_method k) in true≢false (sym on ∙ ap (λ (n : MethodNodes). n.entered) past))

pub field_is_placed : (first next : ℕ) (fields : List FieldPlace) (f : ℕ) → ArePlaced field_begins count_at_field first fields next → get_or (map followed_at fields) f false ≡ true → (get_or fields f no_field).first ≡ first + before field_count f (map followed_at fields)
field_is_placed first next fields f h on = at (cases_lt f (length fields)) where
  at : ((f < length fields) ⊎ (length fields ≤ f)) → (get_or fields f no_field).first ≡ first + before field_count f (map followed_at fields)
  at (inl l) = h.each f no_field l ∙ ap (λ (k : ℕ). first + k) (sym (before_seen followed_at field_count f fields))
  at (inr k) = absurd (let past = get_seen followed_at fields f no_field ∙ ap followed_at (get_or_past fields f no_field k) in true≢false (sym on ∙ past))

-- none begins behind all of them
pub begins_within : {P : Type 0} (begins count : P → ℕ) (first next : ℕ) (places : List P) (i : ℕ) (d : P) → begins d ≡ 0 → ArePlaced begins count first places next → begins (get_or places i d) ≤ next
begins_within begins count first next places i d none h = at (cases_lt i (length places)) where
  at : ((i < length places) ⊎ (length places ≤ i)) → begins (get_or places i d) ≤ next
  at (inl l) = omega (arith, h.each i d l, h.next_is, sum_by-take-le count places i)
  at (inr k) = omega (arith, ap begins (get_or_past places i d k), none)
