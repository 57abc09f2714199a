use Rattle.wf_links.proofs.Callable.{object_there, known_there}
use Rattle.wf_links.proofs.callee.callee_of.Goals as goal

pub returns-in-Object-clause-within : goal.returns-in-Object-clause-within
returns-in-Object-clause-within c = rw (c.called.ensures, c.by_object.ensures) (object_there c.args.types.now c.args.u.0 c.requires.target_in c.args.resolved.method c.args.of_interface c.requires.resolved_in.2)

pub returns-in-Special-clause-within : goal.returns-in-Special-clause-within
returns-in-Special-clause-within c = rw c.known.ensures (known_there c.args.types.now c.args.u.0 c.requires.target_in _)
