use Rattle.std.proofs.Common.{ℕ, ◌+◌, sym, length, arith, lt-ltb}
use Rattle.wf_lattice.specs.Words.{words_of, counted, types_of}
use Rattle.wf_lattice.proofs.RowLaws.{counted_more, eight_zeros}
use Rattle.wf_lattice.proofs.words.has_more_types.Goals as goal
use Rattle.wf_lattice.proofs.words.has_more_types.Goals.{then-not-are_zero+else-count-most, else-not-are_zero}

pub returns-then-count-most : goal.returns-then-count-most
returns-then-count-most c =
    let f : ℕ → ℕ = types_of (words_of c.args.words.now) in
    sym (lt-ltb c.args.most (counted (length c.args.words.now) f)
    (omega (arith, c.loop-k.invariant.counted, c.ones_of_eight-count.ensures.counts, counted_more (c.loop-k.k + 8) (length c.args.words.now) f (omega arith))))

pub loop-k-preserved : goal.loop-k-preserved
loop-k-preserved c =
    elim c.if-not-are_zero.branch [
      | then-not-are_zero+else-count-most w ↦ record {
        behind_flags = omega arith;
        inside = c.loop-k-test.true;
        few = omega (arith, w.count-is, w.if-count-most.false);
        counted = omega (arith, w.count-is, c.loop-k.invariant.counted, w.ones_of_eight-count.ensures.counts);
      }
      | else-not-are_zero w ↦ record {
        behind_flags = omega arith;
        inside = c.loop-k-test.true;
        few = omega (arith, w.count-is, c.loop-k.invariant.few);
        counted = omega (arith, w.count-is, c.loop-k.invariant.counted, eight_zeros c.loop-k.k (words_of c.args.words.now) c.loop-k.invariant.behind_flags (c.are_zero.ensures w.if-not-are_zero.false));
      }
    ]
