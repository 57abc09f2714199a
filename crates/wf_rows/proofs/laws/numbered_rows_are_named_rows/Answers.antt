use Rattle.wf_rows.proofs.Numbered.{renamed-only, renamed-all}
use Rattle.wf_rows.proofs.laws.numbered_rows_are_named_rows.Goals as goal

pub returns : goal.returns
returns c = λ number rows r. (renamed-only number rows r, renamed-all number rows r)
