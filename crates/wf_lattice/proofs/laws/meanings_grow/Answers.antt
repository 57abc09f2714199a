use Rattle.wf_lattice.proofs.FilterLaws.{meant_grows, null_grows}
use Rattle.wf_lattice.proofs.SetLaws.{meant_type}
use Rattle.wf_lattice.proofs.laws.meanings_grow.Goals as goal

pub returns : goal.returns
returns c = record { types = meant_grows; null = null_grows; by_types = meant_type }
