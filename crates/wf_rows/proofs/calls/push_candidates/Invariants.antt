use Rattle.std.proofs.Common.{◌≡◌, ◌++◌, drop}
use Rattle.wf_rows.specs.Renaming.{all_renamed}
use Rattle.wf_rows.specs.Each.{each_from}
use Rattle.wf_rows.specs.Calls.{candidate_rows}
use Rattle.wf_rows.proofs.calls.push_candidates.Given as goal

abbrev pub invariant-loop-candidate : goal.invariant-loop-candidate
invariant-loop-candidate g l =
    l.rows.items ++ all_renamed (g.C.Context.number l.context) (each_from (candidate_rows l.known l.call) l.candidate (drop l.candidate l.candidates))
    ≡ l.fn.rows.items ++ all_renamed (g.C.Context.number l.context) (each_from (candidate_rows l.known l.call) 0 l.candidates)
