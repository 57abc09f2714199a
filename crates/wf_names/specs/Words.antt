-- The words that are printed for link errors, limits and faults of inputs (this project's own).
use Rattle.std.specs.Prelude.{ℕ, List, codes}
use Rattle.wf_names.specs.declared.input.InputWhy.{InputWhy}
use Rattle.wf_names.specs.declared.input.InputWhy.TheVariants as why
use Rattle.wf_names.specs.declared.limit.Limit.{Limit}
use Rattle.wf_names.specs.declared.limit.Limit.TheVariants as limit
use Rattle.wf_names.specs.declared.world.LinkError.{LinkError}
use Rattle.wf_names.specs.declared.world.LinkError.TheVariants as error

-- the error of the Java platform that the machine would throw at a place that fails to link
abbrev pub link_error_word : LinkError → List ℕ
link_error_word error.NoClassDefFound = codes "NoClassDefFoundError"
link_error_word error.NoSuchField = codes "NoSuchFieldError"
link_error_word error.NoSuchMethod = codes "NoSuchMethodError"
link_error_word error.IncompatibleClassChange = codes "IncompatibleClassChangeError"
link_error_word error.Instantiation = codes "InstantiationError"

-- the fault of a line
abbrev pub input_why_word : InputWhy → List ℕ
input_why_word why.Form = codes "form"
input_why_word why.Place = codes "place"
input_why_word why.Absent = codes "absent"
input_why_word why.Kind = codes "kind"
input_why_word why.Twice = codes "twice"

-- a limit
abbrev pub limit_word : Limit → List ℕ
limit_word limit.Entries = codes "entries"
limit_word limit.Depth = codes "depth"
limit_word limit.Files = codes "files"
limit_word limit.FileBytes = codes "file bytes"
limit_word limit.Bytes = codes "bytes"
limit_word limit.Types = codes "types"
limit_word limit.Methods = codes "methods"
limit_word limit.Fields = codes "fields"
limit_word limit.Nodes = codes "nodes"
limit_word limit.Words = codes "words"
limit_word limit.SummaryLines = codes "summary lines"
limit_word limit.Roots = codes "roots"
