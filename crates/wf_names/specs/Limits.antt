-- How much a run takes (this project's own).
use Rattle.std.specs.Prelude.{ℕ}
use Rattle.wf_names.specs.declared.limit.Limit.{Limit}
use Rattle.wf_names.specs.declared.limit.Limit.TheVariants as limit

-- the most that a run takes of each
abbrev pub most_of : Limit → ℕ
most_of limit.Entries = 65536
most_of limit.Depth = 64
most_of limit.Files = 20000
most_of limit.FileBytes = 16777216
most_of limit.Bytes = 536870912
most_of limit.Types = 8192
most_of limit.Methods = 65536
most_of limit.Fields = 65536
most_of limit.Nodes = 4194304
most_of limit.Words = 67108864
most_of limit.SummaryLines = 65536
most_of limit.Roots = 4096
