-- Assignments to the numbered nodes of a program, and what is read off them.
use Rattle.std.specs.Prelude.{List, [], ◌∷◌, ◌++◌, length, slice_set, replicate, if◌then◌else◌}
use Rattle.wf_data.specs.declared.class_info.ClassInfo.{ClassInfo}
use Rattle.wf_data.specs.declared.class_info.MethodInfo.{MethodInfo}
use Rattle.wf_names.specs.declared.member.MemberName.{MemberName}
use Rattle.wf_sys.specs.declared.flow.Flow.{Flow}
use Rattle.wf_sys.specs.declared.flow.Flow.TheVariants.{Empty, Set}
use Rattle.wf_sys.specs.Assignments.{value_at}
use Rattle.wf_sys.specs.Names.{method_name}
use Rattle.wf_sys.specs.Nodes.{Node, Start, Initialized, Entered}
use Rattle.wf_sys.specs.Values.{is_empty}
use Rattle.wf_first.specs.Nodes.{place_of}

-- the seeds of a root, by number
abbrev pub seeded : List Node → MemberName → List Flow
seeded nodes root =
    slice_set (slice_set (slice_set (replicate (length nodes) Empty) (place_of nodes Start) Set) (place_of nodes (Entered root)) Set) (place_of nodes (Initialized root.class)) Set

-- an assignment by number, as one by name
abbrev pub by_name : List Node → List Flow → Node → Flow
by_name nodes values n = value_at values (place_of nodes n)

-- the methods that are entered, in the order of the classes
abbrev pub entered_among : (Node → Flow) → ClassInfo → List MethodInfo → List MemberName
entered_among x class [] = []
entered_among x class (m ∷ methods) = if is_empty (x (Entered (method_name class m))) then entered_among x class methods else method_name class m ∷ entered_among x class methods

abbrev pub entered_in : (Node → Flow) → List ClassInfo → List MemberName
entered_in x [] = []
entered_in x (class ∷ classes) = entered_among x class class.methods ++ entered_in x classes
