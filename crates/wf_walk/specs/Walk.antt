-- The walk of a directory: what it lists, and which class files it notes, in which order.
use Rattle.std.specs.Prelude.{ℕ, zero, suc, ◌+◌, ◌-◌, Bool, true, false, not, ◌&&◌, List, [], ◌∷◌, ◌++◌, nat_lt, nat_eq, length, codes, if◌then◌else◌}
use Rattle.std.specs.List.{ends_with}
use Rattle.std.specs.Str.{bytes_eq}
use Rattle.wf_io.specs.declared.tree.Entry.{Entry}
use Rattle.wf_runs.specs.declared.fault.Refusal.TheVariants.{Unbuilt}
use Rattle.wf_runs.specs.Run.{Run, Gives, Refuses, Lists, ◌>>=◌, each}
use Rattle.wf_walk.specs.declared.limits.TheConstants.{MAX_ENTRIES, MAX_FILES, MAX_DEPTH}
use Rattle.wf_walk.specs.declared.walk.Listing.{Listing}
use Rattle.wf_walk.specs.declared.walk.Walked.{Walked}

-- the path of an entry of a directory
abbrev pub path_in : List ℕ → List ℕ → List ℕ
path_in dir name = dir ++ 47 ∷ name

-- a class file that is noted: every `.class` but `module-info.class`
abbrev pub is_noted : List ℕ → Bool
is_noted name = ends_with nat_eq name (codes ".class") && not (bytes_eq name (codes "module-info.class"))

-- one more file is noted, or the limit is passed
abbrev pub note : List ℕ → Walked → Run Walked
note path w = if nat_lt (length w.noted) MAX_FILES then Gives (record { left = w.left; noted = w.noted ++ path ∷ [] }) else Refuses Unbuilt

-- An entry of a directory: directories are gone into, by below, and class files noted. A directory
-- `META-INF` directly below the named one, at the top, is passed over.
abbrev pub visit : Bool → (List ℕ → Walked → Run Walked) → List ℕ → Entry → Walked → Run Walked
visit top below dir e w =
    if e.is_dir then (if top && bytes_eq e.name (codes "META-INF") then Gives w else below (path_in dir e.name) w)
    else (if is_noted e.name then note (path_in dir e.name) w else Gives w)

-- so many more entries were listed
abbrev pub listed : ℕ → Walked → Walked
listed n w = record { left = w.left - n; noted = w.noted }

-- the entries of a directory, no more than are left
abbrev pub entries_in : List ℕ → ℕ → Run Listing
entries_in dir left = Lists dir left Unbuilt (λ entries. Gives (record { dir = dir; entries = entries }))

-- the entries of a directory in turn, where directories are gone into by below
abbrev pub visit_all : Bool → (List ℕ → Walked → Run Walked) → Listing → Walked → Run Walked
visit_all top below listing w = each (visit top below listing.dir) listing.entries (listed (length listing.entries) w)

-- The walk of a directory, below which directories may lie `depth - 1` deep. It goes over the entries in
-- the order of their names. A directory that lies too deep isn't listed.
unfoldable pub walk : ℕ → Bool → List ℕ → Walked → Run Walked
walk zero top dir w = Refuses Unbuilt
walk (suc depth) top dir w = entries_in dir w.left >>= λ (listing : Listing). visit_all top (walk depth false) listing w

-- nothing was met yet
abbrev pub at_start : Walked
at_start = record { left = MAX_ENTRIES; noted = [] }

-- the class files that the walk of the named directory notes, in their order
abbrev pub noted_from : List ℕ → Run (List (List ℕ))
noted_from dir = walk (MAX_DEPTH + 1) true dir at_start >>= λ (w : Walked). Gives w.noted
