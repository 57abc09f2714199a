-- Lines.
use Rattle.std.specs.Prelude.{ℕ, List}
use Rattle.wf_runs.specs.declared.fault.Line.{Line}
use Rattle.wf_runs.specs.declared.fault.Line.TheVariants.{Fixed, Made}

-- the bytes of a line
abbrev pub bytes_of : Line → List ℕ
bytes_of (Fixed bytes) = bytes.now
bytes_of (Made text) = text
