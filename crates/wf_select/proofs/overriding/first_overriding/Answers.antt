use Rattle.std.proofs.Common.{◌≡◌, ◌∙◌, ◌+◌, true, false, get_or, sym, arith}
use Rattle.wf_grammar.specs.ClassFile.{Key}
use Rattle.wf_classes.specs.World.{number}
use Rattle.wf_select.specs.Overriding.{Overrides}
use Rattle.wf_select.proofs.OverridingLaws.{first_none, overridden_instance}
use Rattle.wf_select.proofs.overriding.first_overriding.Goals as goal

clash : false ≡ true → ⊥
clash e = cc

pub returns-then-is_static-clause-first : goal.returns-then-is_static-clause-first
returns-then-is_static-clause-first c =
    let classes = c.args.classes.now in
    let key : Key = (c.args.name.now, c.args.desc.now) in
    let r = c.heights-ranks.result in
    let a = number c.args.a.class in
    first_none classes r.order.now r.heights.now (λ x. Overrides classes key x a) (get_or r.heights.now c.args.t.0 0 + 1) c.args.t.0 c.heights-ranks.ensures c.requires.t_in (omega arith)
    (λ x way h. clash (sym (overridden_instance classes key x a c.args.a.flags h c.requires.own.flagged) ∙ (sym c.is_static.ensures ∙ c.if-is_static.true)))
