-- Passes over a system: each inequality in turn raises the value of its target, if it isn't met.
use Rattle.std.specs.Prelude.{ℕ, Bool, true, not, cond, ◌&&◌, ◌||◌, List, [], ◌∷◌, slice_set}
use Rattle.wf_sys.specs.declared.flow.Flow.{Flow}
use Rattle.wf_sys.specs.declared.inequality.Guard.{Guard}
use Rattle.wf_sys.specs.declared.inequality.Guard.TheVariants.{Always, NonEmpty}
use Rattle.wf_sys.specs.declared.inequality.Inequality.{Inequality}
use Rattle.wf_sys.specs.Values.{is_below, join, is_empty}
use Rattle.wf_sys.specs.System.{value_in}
use Rattle.wf_sys.specs.Assignments.{value_at}

-- whether the guard holds
abbrev pub guard_holds : Guard ℕ → List Flow → Bool
guard_holds Always values = true
guard_holds (NonEmpty n) values = not (is_empty (value_at values n))

-- whether the inequality is met
abbrev pub is_met : Inequality ℕ → List Flow → Bool
is_met q values = not (guard_holds q.guard values) || is_below (value_in q.value (value_at values)) (value_at values q.target)

-- the assignment with the target raised, if need be
abbrev pub raised : Inequality ℕ → List Flow → List Flow
raised q values = cond (is_met q values) values (slice_set values q.target (join (value_at values q.target) (value_in q.value (value_at values))))

-- the assignment after a pass
abbrev pub passed : List (Inequality ℕ) → List Flow → List Flow
passed [] values = values
passed (q ∷ rest) values = passed rest (raised q values)

-- whether a pass raises nothing
abbrev pub is_quiet : List (Inequality ℕ) → List Flow → Bool
is_quiet [] values = true
is_quiet (q ∷ rest) values = is_met q values && is_quiet rest (raised q values)
