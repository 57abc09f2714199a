-- The numbers of the nodes of a body (this project's own), in the order of their list.
use Rattle.std.specs.Prelude.{ℕ, ◌+◌, Bool, false, ◌&&◌, ◌==◌, List, position, Option, option_map}
use Rattle.wf_rows.specs.declared.node.Own.{Own}
use Rattle.wf_rows.specs.declared.node.Own.TheVariants.{Result, Refined, Block, Merged, Caught, Links}

abbrev pub same_own : Own → Own → Bool
same_own (Result p) (Result q) = p == q
same_own (Refined p e o) (Refined q f r) = p == q && e == f && o == r
same_own (Block p) (Block q) = p == q
same_own (Merged p i) (Merged q j) = p == q && i == j
same_own (Caught e) (Caught f) = e == f
same_own (Links p) (Links q) = p == q
same_own a b = false

-- the number of a node of a body whose nodes begin at a number
abbrev pub own_number : ℕ → List Own → Own → Option ℕ
own_number first owns own = option_map (λ i. first + i) (position (same_own own) owns)
