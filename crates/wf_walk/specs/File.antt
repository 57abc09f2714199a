-- The bytes of a file.
use Rattle.std.specs.Prelude.{ℕ, List}
use Rattle.wf_runs.specs.declared.fault.Refusal.TheVariants.{Unbuilt}
use Rattle.wf_runs.specs.Run.{Run, Gives, Reads}
use Rattle.wf_walk.specs.declared.file.File.{File}
use Rattle.wf_walk.specs.declared.limits.TheConstants.{MAX_FILE_BYTES}

-- a file is read, within the limit of its length
abbrev pub read_file : List ℕ → Run File
read_file path = Reads path MAX_FILE_BYTES Unbuilt (λ bytes. Gives (record { path = path; bytes = bytes }))
