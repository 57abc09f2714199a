use Rattle.std.proofs.Common.{sym, subst}
use Rattle.wf_binding.specs.Valid.{AreValidBlocks, AreValidLiterals}
use Rattle.wf_binding.proofs.ValidLines.{valid_blocks, valid_literals}
use Rattle.wf_binding.proofs.summary.summary_numbers.Goals as goal

pub blocks_numbers-requires : goal.blocks_numbers-requires
blocks_numbers-requires c = subst (AreValidBlocks c.args.types.now) (sym c.as_slice.ensures) (valid_blocks c.args.types.now c.args.summary.now c.requires.valid c.requires.stands)

pub literals_numbers-requires : goal.literals_numbers-requires
literals_numbers-requires c = subst (AreValidLiterals c.args.types.now) (sym c.as_slice-2.ensures) (valid_literals c.args.types.now c.args.summary.now c.requires.valid c.requires.stands)
