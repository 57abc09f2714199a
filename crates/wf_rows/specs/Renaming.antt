-- Inequalities with numbers for the names of their nodes. One is left out where a node of it has none (this project's own).
use Rattle.std.specs.Prelude.{Option, option_map, option_and_then, option_to_list, List}
use Rattle.std.specs.List.{flat_map}
use Rattle.wf_system.specs.declared.inequality.Guard.{Guard}
use Rattle.wf_system.specs.declared.inequality.ValueOp.{ValueOp}
use Rattle.wf_system.specs.declared.inequality.Inequality.{Inequality}
use Rattle.wf_system.specs.Numbers.{renamed_guard, renamed_value}

abbrev pub inequality : {N : Type 0} → N → Guard N → ValueOp N → Inequality N
inequality target guard value = record { target = target; guard = guard; value = value }

-- the inequality, where all its nodes have numbers
abbrev pub renamed : {N K : Type 0} → (N → Option K) → Inequality N → Option (Inequality K)
renamed number q =
    option_and_then (λ target. option_and_then (λ guard. option_map (inequality target guard) (renamed_value number q.value)) (renamed_guard number q.guard)) (number q.target)

-- the same as a list of at most one
abbrev pub listed : {N K : Type 0} → (N → Option K) → Inequality N → List (Inequality K)
listed number q = option_to_list (renamed number q)

-- all of a list that are not left out
abbrev pub all_renamed : {N K : Type 0} → (N → Option K) → List (Inequality N) → List (Inequality K)
all_renamed number rows = flat_map (listed number) rows
