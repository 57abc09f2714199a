use Rattle.std.proofs.Common.{sym, subst}
use Rattle.wf_binding.specs.Numbering.{AreNumbered, NumbersRootLine}
use Rattle.wf_binding.specs.Valid.{AreSoundRoots}
use Rattle.wf_binding.proofs.ValidLines.{sound_roots}
use Rattle.wf_binding.proofs.roots.lines_numbers.Goals as goal

pub roots_numbers-requires : goal.roots_numbers-requires
roots_numbers-requires c = subst (AreSoundRoots c.args.types.now) (sym c.as_slice.ensures) (sound_roots c.args.types.now c.args.roots.now.lines c.requires.valid c.requires.stands)
