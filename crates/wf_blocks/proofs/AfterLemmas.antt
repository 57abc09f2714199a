-- The rows behind an instruction, slot by slot.
use Rattle.std.proofs.Common.{◌≡◌, ℕ, ◌+◌, List, [], ◌∷◌, ◌++◌, ap, ◌∙◌, arith}
use Rattle.std.specs.Prelude.{map}
use Rattle.std.specs.List.{range_with_len}
use Rattle.std.proofs.lemmas.List.{map-append}
use Rattle.std.proofs.lemmas.List.FromFn.{map-range_with_len_more}
use Rattle.wf_operation.specs.declared.slot.SlotKind.TheVariants.{Ref}
use Rattle.wf_operation.specs.declared.slot.Source.{Source}
use Rattle.wf_operation.specs.declared.slot.Source.TheVariants.{Keep, Gives}
use Rattle.wf_blocks.specs.declared.seen.Seen.{Seen}
use Rattle.wf_blocks.specs.SeenKinds.{only}
use Rattle.wf_blocks.specs.Graphs.{caught_sources}
use Rattle.wf_blocks.specs.Rows.{seen_from, seen_after}

pub after_more : (row : List Seen) (f : ℕ → Source) (i : ℕ)
    → seen_after row (map f (range_with_len 0 (i + 1))) ≡ seen_after row (map f (range_with_len 0 i)) ++ seen_from row (f i) ∷ []
after_more row f i = ap (seen_after row) (map-range_with_len_more f 0 i i (omega arith)) ∙ map-append (seen_from row) (map f (range_with_len 0 i)) (f i ∷ [])

pub after_caught : (row : List Seen) (locals : ℕ) → seen_after row (caught_sources locals) ≡ seen_after row (map Keep (range_with_len 0 locals)) ++ only Ref ∷ []
after_caught row locals = map-append (seen_from row) (map Keep (range_with_len 0 locals)) (Gives Ref ∷ [])
