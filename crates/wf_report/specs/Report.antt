-- The text of a world (this project's own).
use Rattle.std.specs.Prelude.{ℕ, Bool, List, [], ◌∷◌, ◌++◌, length, codes, if◌then◌else◌}
use Rattle.std.specs.List.{flat_map}
use Rattle.std.specs.Fmt.{decimal}
use Rattle.wf_names.specs.declared.world.Unresolved.{Unresolved}
use Rattle.wf_names.specs.declared.world.World.{World}
use Rattle.wf_names.specs.Words.{link_error_word}
use Rattle.wf_names.specs.NameForm.{escaped, member_text}
use Rattle.wf_lines.specs.Lines.{line}

-- a place: its method, its place in the code in decimal, and the error
abbrev pub unresolved_text : Unresolved → List ℕ
unresolved_text u = member_text u.method ++ 32 ∷ [] ++ decimal u.pc ++ 32 ∷ [] ++ link_error_word u.error

-- the line that says how many lines follow
abbrev pub count_line : List ℕ → ℕ → List ℕ
count_line title count = line (title ++ 32 ∷ [] ++ decimal count)

-- a title with the number of its lines, and these lines
abbrev pub section : {X : Type 0} → List ℕ → (X → List ℕ) → List X → List ℕ
section title text xs = count_line title (length xs) ++ flat_map (λ x. line (text x)) xs

-- the report of a world
abbrev pub report_text : World → List ℕ
report_text world =
    line (codes "world 1") ++ section (codes "types") escaped world.types ++ section (codes "methods") member_text world.methods
    ++ section (codes "fields") member_text world.fields ++ section (codes "unresolved") unresolved_text world.unresolved ++ line (codes "end")

-- the brief form: the first line, the counts, and the last line
abbrev pub brief_text : World → List ℕ
brief_text world =
    line (codes "world 1") ++ count_line (codes "types") (length world.types) ++ count_line (codes "methods") (length world.methods)
    ++ count_line (codes "fields") (length world.fields) ++ count_line (codes "unresolved") (length world.unresolved) ++ line (codes "end")

-- what is written of a world
abbrev pub text_of : Bool → World → List ℕ
text_of brief world = if brief then brief_text world else report_text world
