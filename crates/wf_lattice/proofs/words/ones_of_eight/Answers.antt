use Rattle.std.proofs.Common.{arith}
use Rattle.wf_lattice.specs.Words.{words_of}
use Rattle.wf_lattice.proofs.RowLaws.{eight_more}
use Rattle.wf_lattice.proofs.words.ones_of_eight.Goals as goal

pub returns : goal.returns
returns c =
    record {
      counts = omega (
        arith,
        eight_more c.args.k (words_of c.args.words.now) c.requires.behind_flags,
        c.ones.ensures.exact,
        c.ones-2.ensures.exact,
        c.ones-3.ensures.exact,
        c.ones-4.ensures.exact,
        c.ones-5.ensures.exact,
        c.ones-6.ensures.exact,
        c.ones-7.ensures.exact,
        c.ones-8.ensures.exact,
      );
      few = omega (arith, c.ones.ensures.few, c.ones-2.ensures.few, c.ones-3.ensures.few, c.ones-4.ensures.few, c.ones-5.ensures.few, c.ones-6.ensures.few, c.ones-7.ensures.few, c.ones-8.ensures.few);
    }
