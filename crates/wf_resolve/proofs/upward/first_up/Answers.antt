use Rattle.std.proofs.Common.{Some, None, sym, subst}
use Rattle.wf_base.specs.declared.ids.ClassId.{ClassId}
use Rattle.wf_classes.specs.World.{number}
use Rattle.wf_resolve.specs.Upward.{FirstUp, Offers, found, passed, ended}
use Rattle.wf_resolve.proofs.upward.first_up.Goals as goal

pub returns-in-Some-clause-first : goal.returns-in-Some-clause-first
returns-in-Some-clause-first c =
    let P = Offers c.args.classes.now (c.args.name.now, c.args.desc.now) c.args.wanted in
    subst (λ (k : ClassId). FirstUp c.args.classes.now P c.args.c.0 (Some (number k))) (sym c.in-Some.ensures.class)
    (c.upward.invariant.first (Some c.upward.d.0) (found c.upward.d.0 c.in-Some.ensures.some))

pub upward-preserved : goal.upward-preserved
upward-preserved c = record {
  in_there = c.in-Some-superclass_below.ensures.there;
  first = λ r h. c.upward.invariant.first r (passed c.upward.d.0 c.in-Some-superclass_below.s.0 r c.in-None.ensures.none (sym c.in-Some-superclass_below.ensures.number) h);
}

pub returns-in-None-superclass_below-clause-first : goal.returns-in-None-superclass_below-clause-first
returns-in-None-superclass_below-clause-first c =
    c.upward.invariant.first None (ended c.upward.d.0 c.in-None.ensures.none (sym c.in-None-superclass_below.ensures.number))
