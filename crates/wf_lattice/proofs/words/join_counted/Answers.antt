use Rattle.std.proofs.Common.{ℕ, List, ◌+◌, false, length, nat_lt, sym, subst, arith, lt-ltb}
use Rattle.std.proofs.lemmas.Bool.{or_right}
use Rattle.wf_lattice.specs.Words.{words_of, has_bit, counted, types_of, both, JoinsBetween}
use Rattle.wf_lattice.specs.Meaning.{types_if}
use Rattle.wf_lattice.proofs.JoinLaws.{joined_on, zeros_joined, part_joined}
use Rattle.wf_lattice.proofs.RowLaws.{counted_more, eight_zeros}
use Rattle.wf_lattice.proofs.words.join_counted.Goals as goal
use Rattle.wf_lattice.proofs.words.join_counted.Goals.{then-not-are_zero+else-count-most, else-not-are_zero}

pub returns-then-count-most-clause-saturated : goal.returns-then-count-most-clause-saturated
returns-then-count-most-clause-saturated c =
    let f : ℕ → ℕ = types_of (words_of c.args.value.now) in
    let n : ℕ = length c.args.mask.now in
    sym (or_right (has_bit (words_of c.args.value.now) 0) (nat_lt c.args.most (counted n f)) (lt-ltb c.args.most (counted n f)
    (omega (arith, c.loop-k.invariant.counted, c.ones_of_eight-count.ensures.counts, counted_more (c.loop-k.k + 8) n f (omega arith)))))

pub returns-then-count-most-clause-some_joined : goal.returns-then-count-most-clause-some_joined
returns-then-count-most-clause-some_joined c =
    let f : ℕ → ℕ = both (types_if false (words_of c.args.value.now) (words_of c.args.inst.now)) (words_of c.args.mask.now) in
    part_joined (words_of c.args.value.now) (words_of c.args.inst.now) (words_of c.args.mask.now) (c.loop-k.k + 8) c.args.into.now c.join_between.new.into
    (joined_on f c.loop-k.k (c.loop-k.k + 8) c.args.into.now c.loop-k.into c.join_between.new.into (omega arith) c.loop-k.invariant.joined c.join_between.ensures)

pub loop-k-preserved : goal.loop-k-preserved
loop-k-preserved c =
    let f : ℕ → ℕ = both (types_if false (words_of c.args.value.now) (words_of c.args.inst.now)) (words_of c.args.mask.now) in
    let k : ℕ = c.loop-k.k in
    let old : List ℕ = c.args.into.now in
    elim c.if-not-are_zero.branch [
      | then-not-are_zero+else-count-most w ↦ record {
        behind_flags = omega arith;
        inside = c.loop-k-test.true;
        few = omega (arith, w.count-is, w.if-count-most.false);
        counted = omega (arith, w.count-is, c.loop-k.invariant.counted, w.ones_of_eight-count.ensures.counts);
        joined = subst (λ (into : List ℕ). JoinsBetween f 0 (k + 8) old into) (sym w.into-is)
            (joined_on f k (k + 8) old c.loop-k.into w.join_between.new.into (omega arith) c.loop-k.invariant.joined w.join_between.ensures);
      }
      | else-not-are_zero w ↦ record {
        behind_flags = omega arith;
        inside = c.loop-k-test.true;
        few = omega (arith, w.count-is, c.loop-k.invariant.few);
        counted = omega (arith, w.count-is, c.loop-k.invariant.counted, eight_zeros k (words_of c.args.value.now) c.loop-k.invariant.behind_flags (c.are_zero.ensures w.if-not-are_zero.false));
        joined = subst (λ (into : List ℕ). JoinsBetween f 0 (k + 8) old into) (sym w.into-is)
            (zeros_joined (words_of c.args.value.now) (words_of c.args.inst.now) (words_of c.args.mask.now) k old c.loop-k.into c.loop-k.invariant.behind_flags (c.are_zero.ensures w.if-not-are_zero.false) c.loop-k.invariant.joined);
      }
    ]

pub returns-clause-some_joined : goal.returns-clause-some_joined
returns-clause-some_joined c =
    let f : ℕ → ℕ = both (types_if false (words_of c.args.value.now) (words_of c.args.inst.now)) (words_of c.args.mask.now) in
    part_joined (words_of c.args.value.now) (words_of c.args.inst.now) (words_of c.args.mask.now) (length c.args.mask.now) c.args.into.now c.join_between-2.new.into
    (joined_on f c.loop-k.k (length c.args.mask.now) c.args.into.now c.loop-k.into c.join_between-2.new.into c.loop-k.invariant.inside c.loop-k.invariant.joined c.join_between-2.ensures)
