-- What joining an inequality into its target's words does.
use Rattle.std.specs.Prelude.{◌≡◌, ◌≢◌, ℕ, ◌+◌, ◌<◌, ◌≤◌, Bool, true, false, ◌⊎◌, List, length, slice_index, bit_or}
use Rattle.wf_base.specs.declared.ids.NodeId.{NodeId}
use Rattle.wf_lattice.specs.Words.{IsWithin, words_of, counted}
use Rattle.wf_system.specs.declared.node_shape.NodeShape.{NodeShape}
use Rattle.wf_system.specs.declared.inequality.Inequality.{Inequality}
use Rattle.wf_system.specs.System.{Tables, guard_holds, given, IsBelow, IsMet}
use Rattle.wf_system.specs.Shapes.{shape_at}
use Rattle.wf_eval.specs.Reading.{rows_of}

-- The words are raised by an inequality: where the guard held, its target has what the inequality joined in the words before;
-- they are below every assignment that they were below and that meets the inequality; the other words stay, and so do
-- all where nothing changed; where something did, more bits are set.
pub record Raises (nodes : List NodeShape) (t : Tables NodeId) (q : Inequality NodeId) (old new : List ℕ) (changed : Bool) : Type 0 where
  pub same : length new ≡ length old
  pub grown : IsWithin (words_of old) (words_of new)
  pub meets : guard_holds t q.guard (rows_of nodes (words_of old)) ≡ true → IsWithin (given t q.value (rows_of nodes (words_of old)) q.target) (rows_of nodes (words_of new) q.target)
  pub below : (y : NodeId → ℕ → ℕ) → IsBelow t (rows_of nodes (words_of old)) y → IsMet t q y → IsBelow t (rows_of nodes (words_of new)) y
  pub others : (i : ℕ) → ((i < (shape_at nodes q.target.0).first_word) ⊎ ((shape_at nodes q.target.0).first_word + (shape_at nodes q.target.0).words ≤ i)) → slice_index new i ≡ slice_index old i
  pub still : changed ≡ false → new ≡ old
  pub more : changed ≡ true → counted (length old) (words_of old) < counted (length old) (words_of new)

-- Bits are joined into the word at a place, which says whether it rose, and the others stay.
pub record JoinsWord (place bits : ℕ) (old new : List ℕ) (rose : Bool) : Type 0 where
  pub same : length new ≡ length old
  pub word : slice_index new place ≡ bit_or (slice_index old place) bits
  pub others : (i : ℕ) → i ≢ place → slice_index new i ≡ slice_index old i
  pub still : rose ≡ false → new ≡ old
  pub more : rose ≡ true → slice_index old place ≢ slice_index new place
