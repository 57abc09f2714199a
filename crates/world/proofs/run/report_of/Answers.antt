use Rattle.wf_runs.proofs.EveryLaws.{answer_has}
use Rattle.world.proofs.ClauseLaws.{not_read, no_room, reported}
use Rattle.world.proofs.LoadLaws.{MakesForm, load_form}
use Rattle.world.proofs.run.report_of.Goals as goal

pub least_world-requires : goal.least_world-requires
least_world-requires g c = answer_has MakesForm _ _ _ _ c.in_ok-program.ensures (load_form _ _)

pub returns-in_err-program : goal.returns-in_err-program
returns-in_err-program g c = λ words is. not_read words _ _ _ _ _ _ is c.from_residual.ensures.1 c.in_err-program.ensures

pub returns-in_err-world : goal.returns-in_err-world
returns-in_err-world g c = λ words is. no_room words _ _ _ _ _ _ is c.from_residual-in_err-world.ensures.1 c.in_ok-program.ensures

pub returns-in_err-write_world : goal.returns-in_err-write_world
returns-in_err-write_world g c = λ words is. no_room words _ _ _ _ _ _ is c.from_residual-in_err-write_world.ensures.1 c.in_ok-program.ensures

pub returns : goal.returns
returns g c = λ words is. reported words _ _ _ _ _ _ is (record { world = c.in_ok-world.world; least = c.in_ok-world.ensures; is = c.in_ok-write_world.ensures }) c.in_ok-program.ensures
