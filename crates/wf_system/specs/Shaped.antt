-- What the right shape of a system asks of each node alone.
use Rattle.std.specs.Prelude.{◌≡◌, ℕ, ◌<◌}
use Rattle.wf_lattice.specs.declared.kind.NodeKind.{NodeKind}
use Rattle.wf_lattice.specs.declared.kind.NodeKind.TheVariants as kinds

-- a node of a kind has as many words as that kind wants
abbrev pub HasItsWords : NodeKind → ℕ → Type 0
HasItsWords kinds.Token words = words ≡ 1
HasItsWords kinds.Int words = words ≡ 1
HasItsWords kinds.Long words = words ≡ 1
HasItsWords kinds.Refs words = Unit {0}
HasItsWords kinds.Inst words = Unit {0}
HasItsWords kinds.Links words = 0 < words

-- where a node is of the types that are made it is that one node, and where it is of references it has so many words
abbrev pub FitsTypes : NodeKind → ℕ → ℕ → ℕ → ℕ → Type 0
FitsTypes kinds.Token inst n row words = Unit {0}
FitsTypes kinds.Int inst n row words = Unit {0}
FitsTypes kinds.Long inst n row words = Unit {0}
FitsTypes kinds.Refs inst n row words = words ≡ row
FitsTypes kinds.Inst inst n row words = n ≡ inst
FitsTypes kinds.Links inst n row words = Unit {0}
