use Rattle.std.proofs.Common.{ℕ, sym, length, arith, lt-ltb}
use Rattle.wf_lattice.specs.Words.{words_of, counted, both, types_of}
use Rattle.wf_lattice.proofs.RowLaws.{counted_more}
use Rattle.wf_lattice.proofs.words.has_more_of_both.Goals as goal

pub returns-then-count-most : goal.returns-then-count-most
returns-then-count-most c =
    let f : ℕ → ℕ = both (types_of (words_of c.args.inst.now)) (words_of c.args.mask.now) in
    sym (lt-ltb c.args.most (counted (length c.args.mask.now) f)
    (omega (arith, c.loop-k.invariant, counted_more c.loop-k.k (length c.args.mask.now) f (omega arith))))
