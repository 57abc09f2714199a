-- Paths through the places of a method (JVMS 4.10.1, read with all finite paths in place of one merged state).
use Rattle.std.specs.Prelude.{◌≡◌, ℕ, ◌<◌, Bool, true, false, List, [], ◌∷◌, ◌++◌, map, length, slice_index_or, Contains}
use Rattle.std.specs.List.{range_with_len}
use Rattle.wf_operation.specs.declared.slot.SlotKind.{SlotKind}
use Rattle.wf_operation.specs.declared.slot.SlotKind.TheVariants.{Ref, Unused}
use Rattle.wf_operation.specs.declared.slot.Source.{Source}
use Rattle.wf_operation.specs.declared.slot.Source.TheVariants.{Keep, Gives}
use Rattle.wf_operation.specs.declared.slot.Wanted.{Wanted}
use Rattle.wf_operation.specs.Slots.{allows, moved, named_by}

-- a way from a place to another: where it leads, and where each slot there comes from
pub record Edge : Type 0 where
  pub to : ℕ
  pub sources : List Source

-- The places of a method, numbered from its entry on. What is known of a place depends on how many slots there are
-- in front of it, its locals and the cells of its stack.
pub record Graph : Type 0 where
  -- what stands in each slot at the entry
  pub entry : List SlotKind
  -- whether a path with so many slots meets a fault there, whatever they hold
  pub fails : ℕ → ℕ → Bool
  -- what is wanted of a slot
  pub wants : ℕ → ℕ → ℕ → Wanted
  -- the ways on: over jumps and fall-through, and into handlers
  pub edges : ℕ → ℕ → List Edge

-- the kind in a slot; nothing stands past the end
abbrev pub kind_at : List SlotKind → ℕ → SlotKind
kind_at slots i = slice_index_or slots i Unused

-- where a slot comes from along a way; nothing stands past the end
abbrev pub source_in : Edge → ℕ → Source
source_in e i = slice_index_or e.sources i (Gives Unused)

-- the kind behind a way of a slot with this source
abbrev pub moved_from : List SlotKind → Source → SlotKind
moved_from slots s = moved s (kind_at slots (named_by s))

-- A path from the entry to a place, with the kind that it leaves in each slot there. Paths go on behind faults; the
-- first fault on them is what counts.
pub data Path (g : Graph) : ℕ → List SlotKind → Type 0 where
  entry : Path g 0 g.entry
  along : (place : ℕ) (slots : List SlotKind) (e : Edge)
      → Path g place slots → Contains (g.edges place (length slots)) e → Path g e.to (map (moved_from slots) e.sources)

-- a path that leaves these kinds meets a fault at the place
pub data Faulty (g : Graph) : ℕ → List SlotKind → Type 0 where
  fails : (place : ℕ) (slots : List SlotKind) → g.fails place (length slots) ≡ true → Faulty g place slots
  unmet : (place : ℕ) (slots : List SlotKind) (i : ℕ)
      → i < length slots → allows (g.wants place (length slots) i) (kind_at slots i) ≡ false → Faulty g place slots

-- some path meets a fault, or two paths reach a place with different depths
pub data BadPaths (g : Graph) : Type 0 where
  fault : (place : ℕ) (slots : List SlotKind) → Path g place slots → Faulty g place slots → BadPaths g
  depths : (place : ℕ) (one other : List SlotKind) → Path g place one → Path g place other → (length one ≡ length other → ⊥) → BadPaths g

-- a path leads to the place
pub record Reached (g : Graph) (place : ℕ) : Type 0 where
  pub slots : List SlotKind
  pub path : Path g place slots

-- every path leaves this kind in the slot
pub record HasKind (g : Graph) (place slot : ℕ) (k : SlotKind) : Type 0 where
  pub every : (slots : List SlotKind) → Path g place slots → kind_at slots slot ≡ k

-- The kind of a slot: the one that every path leaves there, else unused.
pub record KindIs (g : Graph) (place slot : ℕ) (k : SlotKind) : Type 0 where
  pub used : (k ≡ Unused → ⊥) → HasKind g place slot k
  pub unused : k ≡ Unused → (j : SlotKind) → HasKind g place slot j → j ≡ Unused

-- ways to all these places, on which slots come from the same sources
abbrev pub edge_by : List Source → ℕ → Edge
edge_by sources to = record { to = to; sources = sources }

abbrev pub edges_by : List Source → List ℕ → List Edge
edges_by sources targets = map (edge_by sources) targets

-- Into a handler: the locals are kept, and the stack is the thrown object alone (JVMS 2.10).
abbrev pub caught_sources : ℕ → List Source
caught_sources locals = map Keep (range_with_len 0 locals) ++ Gives Ref ∷ []
