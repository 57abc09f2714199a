-- What a tree of files means: a list of files, each with its path and its bytes.
use Rattle.std.specs.Prelude.{ℕ, true, false, List, [], ◌∷◌, Option, Some, None, ◌==◌, if◌then◌else◌, option_map}
use Rattle.std.specs.Cmp.Lexicographic.{slice_cmp}
use Rattle.std.specs.Option.{option_map_or}
use Rattle.std.specs.declared.cmp.Ordering.{Ordering}
use Rattle.std.specs.Ordering.{nat_cmp, bool_cmp, ordering_then, match_ordering}
use Rattle.std.specs.Str.{bytes_eq}
use Rattle.wf_io.specs.declared.tree.MemFile.{MemFile}
use Rattle.wf_io.specs.declared.tree.Entry.{Entry}

-- what a path has behind a directory and a slash
abbrev pub rest_of : List ℕ → List ℕ → Option (List ℕ)
rest_of [] [] = None
rest_of [] (b ∷ path) = if b == 47 then Some path else None
rest_of (d ∷ dir) [] = None
rest_of (d ∷ dir) (b ∷ path) = if d == b then rest_of dir path else None

-- an entry with one more byte at the front of its name
abbrev pub named_by : ℕ → Entry → Entry
named_by b e = record { name = b ∷ e.name; is_dir = e.is_dir }

-- The entry that such a rest belongs to: a file where it has no slash, and else the directory before the
-- first slash.
abbrev pub entry_at : List ℕ → Entry
entry_at [] = record { name = []; is_dir = false }
entry_at (b ∷ rest) = if b == 47 then record { name = []; is_dir = true } else named_by b (entry_at rest)

-- the entry directly below a directory through which a path leads
abbrev pub entry_of : List ℕ → List ℕ → Option Entry
entry_of dir path = option_map entry_at (rest_of dir path)

-- by the bytes of the names, and of two with one name the file first
abbrev pub entry_cmp : Entry → Entry → Ordering
entry_cmp a b = ordering_then (slice_cmp nat_cmp a.name b.name) (bool_cmp a.is_dir b.is_dir)

-- entries in order, each once, and one more
abbrev pub with_entry : Entry → List Entry → List Entry
with_entry e [] = e ∷ []
with_entry e (x ∷ xs) = match_ordering (entry_cmp e x) (e ∷ x ∷ xs) (x ∷ xs) (x ∷ with_entry e xs)

-- The entries in order, each once. It doesn't matter in which order they came, or how often.
abbrev pub in_order : List Entry → List Entry
in_order [] = []
in_order (e ∷ entries) = with_entry e (in_order entries)

-- the entries directly below a directory, in order, each once
abbrev pub listing : List MemFile → List ℕ → List Entry
listing [] dir = []
listing (file ∷ files) dir = option_map_or (λ e. with_entry e (listing files dir)) (entry_of dir file.path) (listing files dir)

-- the bytes of a file: of two with one path the first counts
abbrev pub content : List MemFile → List ℕ → Option (List ℕ)
content [] path = None
content (file ∷ files) path = if bytes_eq file.path path then Some file.bytes else content files path
