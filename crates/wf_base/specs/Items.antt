-- A list that is lent out as a slice.
use Rattle.std.specs.Prelude.{List, ◌++◌, length, take, drop}
use Rattle.std.specs.Borrow.{Lends, MutBor, Fml, Array, RattleType}
use Rattle.wf_base.specs.contracts.items.Items.{the_row}

-- the list after the slice was left as written: a slice keeps its length
abbrev pub overlaid : {X : Type 0} → List X → List X → List X
overlaid xs written = take (length xs) (written ++ drop (length written) xs)

-- the list is lent as a slice of all its elements
abbrev pub LendsAll : (T : RattleType) → MutBor (List T.Denot) → MutBor (List T.Denot) → Fml
LendsAll T s r = Lends (the_row T) (Array T 0) s r (overlaid s.now)
