use Rattle.std.proofs.Common.{◌≡◌, ◌++◌, drop}
use Rattle.wf_rows.specs.Renaming.{all_renamed}
use Rattle.wf_rows.specs.Each.{each_from}
use Rattle.wf_rows.specs.Values.{literal_field_rows}
use Rattle.wf_rows.proofs.values.push_literal_fields.Given as goal

abbrev pub invariant-loop-line : goal.invariant-loop-line
invariant-loop-line g l =
    l.rows.items ++ all_renamed (g.C.Context.number l.context) (each_from (literal_field_rows l.guard) l.line-index (drop l.line-index l.fields))
    ≡ l.fn.rows.items ++ all_renamed (g.C.Context.number l.context) (each_from (literal_field_rows l.guard) 0 l.fields)
