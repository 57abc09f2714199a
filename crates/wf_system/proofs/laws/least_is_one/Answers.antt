use Rattle.wf_system.proofs.laws.least_is_one.Goals as goal

pub returns : goal.returns
returns g c = λ t rows seeds x y p q. p.least y q.solves
