use Rattle.wf_sys.specs.Program.{Row, Seed}
use Rattle.wf_sys.proofs.SystemLaws.{least_is_one}
use Rattle.wf_sys.proofs.WorldLaws.{world_kept}
use Rattle.wf_sys.proofs.laws.world_is_one.Goals as goal

pub returns : goal.returns
returns c = λ program root x y world p q. world_kept program x y (least_is_one (Row program) (Seed root) x y p q) world
