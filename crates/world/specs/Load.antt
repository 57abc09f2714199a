-- What is read of a tree: the classes of the noted files, and the root.
use Rattle.std.specs.Prelude.{ℕ, ◌-◌, List, [], ◌∷◌, ◌++◌, Option, Some, None, Result, Ok, Err, nat_lt, length, codes, if◌then◌else◌}
use Rattle.std.specs.Str.{bytes_eq}
use Rattle.wf_bytes.specs.Reading.{Fault}
use Rattle.wf_data.specs.declared.class_info.ClassInfo.{ClassInfo}
use Rattle.wf_grammar.specs.Reading.{class_of}
use Rattle.wf_first.specs.declared.program.Program.{Program}
use Rattle.wf_first.specs.Calls.{calls_are_known}
use Rattle.wf_first.specs.FirstForm.{is_first_form}
use Rattle.wf_first.specs.Roots.{has_object, only_line, root_in, is_within_limits}
use Rattle.wf_names.specs.declared.member.MemberName.{MemberName}
use Rattle.wf_runs.specs.declared.fault.Refusal.TheVariants.{Unbuilt, BadClass, WrongName, NoObject}
use Rattle.wf_runs.specs.Run.{Run, Gives, Refuses, ◌>>=◌, each}
use Rattle.wf_walk.specs.declared.file.File.{File}
use Rattle.wf_walk.specs.declared.limits.TheConstants.{MAX_BYTES}
use Rattle.wf_walk.specs.File.{read_file}
use Rattle.wf_walk.specs.Walk.{path_in, noted_from}
use Rattle.world.specs.declared.load.ReadSoFar.{ReadSoFar}

-- the path at which a class has to stand
abbrev pub class_path : List ℕ → List ℕ → List ℕ
class_path dir name = path_in dir name ++ codes ".class"

-- The class of a file has to stand at the path of its name, and to be of the first form.
abbrev pub add_class : List ℕ → File → ReadSoFar → ClassInfo → Run ReadSoFar
add_class dir file so_far class =
    if bytes_eq file.path (class_path dir class.name)
    then (if is_first_form class then Gives (record { left = so_far.left - length file.bytes; classes = so_far.classes ++ class ∷ [] }) else Refuses Unbuilt)
    else Refuses (WrongName file.path class.name)

-- what the bytes of a file spell; a fault is told with the file's path
abbrev pub class_in : List ℕ → Result ClassInfo Fault → Run ClassInfo
class_in path (Ok class) = Gives class
class_in path (Err fault) = Refuses (BadClass path fault.offset fault.why)

-- A file that was read: first the sum of the lengths, then the grammar, and then its class's name and form.
abbrev pub take_file : List ℕ → File → ReadSoFar → Run ReadSoFar
take_file dir file so_far = if nat_lt so_far.left (length file.bytes) then Refuses Unbuilt else class_in file.path (class_of file.bytes) >>= add_class dir file so_far

-- a noted file
abbrev pub load_file : List ℕ → List ℕ → ReadSoFar → Run ReadSoFar
load_file dir path so_far = read_file path >>= λ (file : File). take_file dir file so_far

-- the classes of the noted files, in their order
abbrev pub classes_run : List ℕ → List (List ℕ) → Run (List ClassInfo)
classes_run dir paths = each (load_file dir) paths (record { left = MAX_BYTES; classes = [] }) >>= λ (r : ReadSoFar). Gives r.classes

-- the program of these classes and this root: the calls, and then the limits
abbrev pub with_root : List ClassInfo → Option MemberName → Run Program
with_root classes None = Refuses Unbuilt
with_root classes (Some root) =
    if calls_are_known classes then (if is_within_limits classes then Gives (record { classes = classes; root = root }) else Refuses Unbuilt) else Refuses Unbuilt

-- the root that the bytes of the roots file name
abbrev pub rooted : List ClassInfo → List ℕ → Run Program
rooted classes bytes = with_root classes (root_in classes (only_line bytes))

-- the roots file
abbrev pub roots_run : List ℕ → List ClassInfo → Run Program
roots_run roots classes = read_file roots >>= λ (file : File). rooted classes file.bytes

-- java/lang/Object, before the roots file is read
abbrev pub with_classes : List ℕ → List ClassInfo → Run Program
with_classes roots classes = if has_object classes then roots_run roots classes else Refuses NoObject

-- the noted files, and what follows them
abbrev pub with_paths : List ℕ → List ℕ → List (List ℕ) → Run Program
with_paths roots dir paths = classes_run dir paths >>= with_classes roots

-- The whole order of the work: the walk; the noted files; java/lang/Object; the roots file; the calls; the limits of
-- the program.
abbrev pub load_run : List ℕ → List ℕ → Run Program
load_run roots dir = noted_from dir >>= with_paths roots dir
