use Rattle.std.specs.Prelude.{Contains}
use Rattle.wf_sys.specs.Assignments.{IsSeedOf}
use Rattle.wf_sys.specs.Program.{Row, Seed}
use Rattle.wf_sys.proofs.SystemLaws.{least_is_one}
use Rattle.wf_sys.proofs.laws.least_is_one.Goals as goal

pub returns : goal.returns
returns c = record {
  numbered = λ system seeds. least_is_one (Contains system) (IsSeedOf seeds);
  program = λ program root. least_is_one (Row program) (Seed root);
}
