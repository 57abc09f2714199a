-- The constants of a pool, and how many bytes they take together (this project's own).
use Rattle.std.specs.Prelude.{ℕ, ◌+◌, List, [], ◌∷◌, drop}
use Rattle.wf_data.specs.declared.class_info.PoolEntry.{PoolEntry}
use Rattle.wf_grammar.specs.Reading.{size_of}

-- what stands behind place 0
abbrev pub constants : List PoolEntry → List PoolEntry
constants pool = drop 1 pool

abbrev pub sizes : List PoolEntry → ℕ
sizes [] = 0
sizes (e ∷ es) = size_of e + sizes es
