use Rattle.std.proofs.Common.{◌≡◌, ◌<◌, ◌^◌, drop}
use Rattle.std.specs.Prelude.{option_and_then}
use Rattle.wf_lines.specs.Decimals.{value_from, in_word}
use Rattle.wf_lines.proofs.decimals.value_of.Given as goal

abbrev pub invariant-loop-b : goal.invariant-loop-b
invariant-loop-b l = (option_and_then in_word (value_from l.value (drop l.b-index l.digits)) ≡ option_and_then in_word (value_from 0 l.digits)) × (l.value < 2 ^ 64)
