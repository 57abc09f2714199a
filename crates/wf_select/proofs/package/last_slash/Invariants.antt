use Rattle.std.proofs.Common.{◌≡◌, ◌≤◌, drop}
use Rattle.wf_select.specs.Packages.{last_slash}
use Rattle.wf_select.proofs.package.last_slash.Given as goal

abbrev pub invariant-loop-at : goal.invariant-loop-at
invariant-loop-at l = record { place : last_slash l.at l.last (drop l.at l.name) ≡ last_slash 0 0 l.name; within : l.last ≤ l.at }
