use Rattle.std.proofs.Common.{Contains}
use Rattle.wf_system.specs.Numbers.{NumberedRow, by_number}
use Rattle.wf_system.proofs.NumberLaws.{least_by_name, least_alike}
use Rattle.wf_system.proofs.laws.numbers_stand_for_names.Goals as goal

pub returns : goal.returns
returns g c = λ b t u named numbered seeds x alike rows none least. least_by_name b t u alike (Contains named) seeds none x
    (least_alike u (Contains numbered) (NumberedRow b.number (Contains named)) (by_number b.name seeds) x rows.each rows.all least)
