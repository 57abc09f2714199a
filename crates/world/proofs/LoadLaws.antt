-- What is read is of the form, whatever a tree answers.
use Rattle.std.proofs.Common.{◌≡◌, ℕ, true, false, List, [], Option, Some, None, refl, length}
use Rattle.std.specs.Prelude.{nat_lt}
use Rattle.std.specs.Str.{bytes_eq}
use Rattle.wf_data.specs.declared.class_info.ClassInfo.{ClassInfo}
use Rattle.wf_grammar.specs.Reading.{class_of}
use Rattle.wf_first.specs.declared.program.Program.{Program}
use Rattle.wf_first.specs.Calls.{calls_are_known}
use Rattle.wf_first.specs.FirstForm.{is_first_form}
use Rattle.wf_first.specs.Form.{AllOfForm, IsOfForm}
use Rattle.wf_first.specs.Roots.{has_object, only_line, root_in, is_within_limits}
use Rattle.wf_first.proofs.FormKept.{none_of_form, one_more_of_form, root_declared}
use Rattle.wf_names.specs.declared.member.MemberName.{MemberName}
use Rattle.wf_runs.specs.Every.{Every}
use Rattle.wf_runs.specs.Run.{Gives, Refuses, ◌>>=◌, each}
use Rattle.wf_runs.specs.declared.fault.Refusal.TheVariants.{NoObject}
use Rattle.wf_runs.proofs.EveryLaws.{every_any, every_if, every-bind, every-each}
use Rattle.wf_walk.specs.declared.file.File.{File}
use Rattle.wf_walk.specs.declared.limits.TheConstants.{MAX_BYTES}
use Rattle.wf_walk.specs.Walk.{noted_from}
use Rattle.world.specs.declared.load.ReadSoFar.{ReadSoFar}
use Rattle.world.specs.Load.{class_path, add_class, class_in, take_file, load_file, classes_run, with_root, rooted, roots_run, with_classes, with_paths, load_run}

-- the classes that were read are of the form
abbrev KeepsForm : ReadSoFar → Type 0
KeepsForm r = AllOfForm r.classes

-- the program is of the form
abbrev pub MakesForm : Program → Type 0
MakesForm p = IsOfForm p.classes p.root

add_class_form : (dir : List ℕ) (file : File) (so_far : ReadSoFar) (class : ClassInfo) → KeepsForm so_far → Every KeepsForm (add_class dir file so_far class)
add_class_form dir file so_far class all =
    every_if KeepsForm (bytes_eq file.path (class_path dir class.name)) _ _
    (λ here. every_if KeepsForm (is_first_form class) _ _ (λ form. one_more_of_form so_far.classes class form all) (λ other. tt))
    (λ elsewhere. tt)

take_file_form : (dir : List ℕ) (file : File) (so_far : ReadSoFar) → KeepsForm so_far → Every KeepsForm (take_file dir file so_far)
take_file_form dir file so_far all =
    every_if KeepsForm (nat_lt so_far.left (length file.bytes)) _ _ (λ over. tt)
    (λ within. every-bind (λ (c : ClassInfo). Unit {0}) KeepsForm (class_in file.path (class_of file.bytes)) (add_class dir file so_far) (every_any _) (λ class h. add_class_form dir file so_far class all))

load_file_form : (dir path : List ℕ) (so_far : ReadSoFar) → KeepsForm so_far → Every KeepsForm (load_file dir path so_far)
load_file_form dir path so_far all = λ bytes. take_file_form dir (record { path = path; bytes = bytes }) so_far all

classes_form : (dir : List ℕ) (paths : List (List ℕ)) → Every AllOfForm (classes_run dir paths)
classes_form dir paths =
    let start : ReadSoFar = record { left = MAX_BYTES; classes = [] } in
    every-bind KeepsForm AllOfForm (each (load_file dir) paths start) (λ (r : ReadSoFar). Gives r.classes)
    (every-each KeepsForm (load_file dir) paths start none_of_form (λ path so_far all. load_file_form dir path so_far all)) (λ r all. all)

rooted_form : (classes : List ClassInfo) (bytes : List ℕ) → AllOfForm classes → has_object classes ≡ true → Every MakesForm (rooted classes bytes)
rooted_form classes bytes all object = go (root_in classes (only_line bytes)) refl
  where
    go : (found : Option MemberName) → root_in classes (only_line bytes) ≡ found → Every MakesForm (with_root classes found)
    go None is = tt
    go (Some root) is =
        every_if MakesForm (calls_are_known classes) _ _
        (λ known. every_if MakesForm (is_within_limits classes) _ _
        (λ few. record { form = all.each_class; object = object; declared = root_declared classes (only_line bytes) root is; calls = known }) (λ many. tt))
        (λ unknown. tt)

with_classes_form : (roots : List ℕ) (classes : List ClassInfo) → AllOfForm classes → Every MakesForm (with_classes roots classes)
with_classes_form roots classes all =
    every_if MakesForm (has_object classes) (roots_run roots classes) _ (λ object. λ bytes. rooted_form classes bytes all object) (λ none. tt)

with_paths_form : (roots dir : List ℕ) (paths : List (List ℕ)) → Every MakesForm (with_paths roots dir paths)
with_paths_form roots dir paths = every-bind AllOfForm MakesForm (classes_run dir paths) (with_classes roots) (classes_form dir paths) (λ classes all. with_classes_form roots classes all)

pub load_form : (roots dir : List ℕ) → Every MakesForm (load_run roots dir)
load_form roots dir = every-bind (λ (paths : List (List ℕ)). Unit {0}) MakesForm (noted_from dir) (with_paths roots dir) (every_any _) (λ paths h. with_paths_form roots dir paths)

-- ---- java/lang/Object

pub no_object : (roots : List ℕ) (classes : List ClassInfo) → has_object classes ≡ false → with_classes roots classes ≡ Refuses NoObject
no_object roots classes is = rw is refl

pub object_is_there : (roots : List ℕ) (classes : List ClassInfo) → has_object classes ≡ true → with_classes roots classes ≡ roots_run roots classes
object_is_there roots classes is = rw is refl
