use Rattle.std.proofs.Common.{false, length, sym, subst, arith, Bool, ◌∙◌}
use Rattle.wf_lattice.specs.Words.{words_of, flags_of, JoinsRow}
use Rattle.wf_lattice.proofs.FilterLaws.{saturated_filtered, set_filtered}
use Rattle.wf_lattice.proofs.JoinLaws.{some_then_all}
use Rattle.wf_lattice.proofs.filter.join_set.Goals as goal

pub returns-then-join_counted : goal.returns-then-join_counted
returns-then-join_counted c =
    saturated_filtered c.args.v.threshold (length c.args.mask.now) (words_of c.args.v.words.now) (words_of c.args.inst.now) (words_of c.args.mask.now) c.args.keep c.has_more_of_both.result
    c.args.into.now c.join_both.new.into c.join_flags.new.into (sym c.join_counted.ensures.saturated ∙ c.if-join_counted.true) (omega arith)
    (some_then_all _ c.args.into.now c.join_counted.new.into c.join_both.new.into (omega arith) c.join_counted.ensures.some_joined c.join_both.ensures)
    c.has_more_of_both.ensures c.join_flags.ensures

pub returns-else-join_counted : goal.returns-else-join_counted
returns-else-join_counted c =
    set_filtered c.args.v.threshold (length c.args.mask.now) (words_of c.args.v.words.now) (words_of c.args.inst.now) (words_of c.args.mask.now) c.args.keep
    c.args.into.now c.join_counted.new.into c.join_flags-else-join_counted.new.into (sym c.join_counted.ensures.saturated ∙ c.if-join_counted.false) (omega arith)
    (c.join_counted.ensures.joined c.if-join_counted.false)
    (subst (λ (null : Bool). JoinsRow (flags_of false null) c.join_counted.new.into c.join_flags-else-join_counted.new.into) c.kept_null.ensures c.join_flags-else-join_counted.ensures)
