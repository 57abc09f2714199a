use Rattle.std.proofs.Common.{ℕ, ◌∙◌, sym, ap, subst, Option, Some, arith}
use Rattle.std.specs.Option.{option_copied}
use Rattle.std.proofs.lemmas.Option.{slice_get-get_or}
use Rattle.wf_operation.specs.declared.operation.Operation.{Operation}
use Rattle.wf_body.specs.Methods.{IsActAt, IsActBy, site_at}
use Rattle.wf_body.proofs.Lists.{one_more}
use Rattle.wf_body.proofs.Sites.{more_sites}
use Rattle.wf_body.proofs.acts.acts_of.Goals as goal

pub loop-place-preserved : goal.loop-place-preserved
loop-place-preserved c =
    let p = c.args.parts.now in
    let s = c.args.source.now in
    let placed = c.args.placed.now in
    let body = c.args.body.now in
    let place = c.loop-place.place in
    let at = c.index-placed-place.result in
    let acts = c.in_ok-act_by.ensures in
    let by_site = subst (λ (site : ℕ). IsActBy p s site at (option_copied c.operation_at-operation.result) c.in_ok-act_by.field-0) c.loop-place.invariant.1 acts in
    let by_place = subst (λ (o : Option Operation). IsActBy p s (site_at s placed place) at o c.in_ok-act_by.field-0) c.operation_at-operation.ensures by_site in (
      one_more (IsActAt p s placed body) place c.loop-place.acts.items c.push.new.self.items c.in_ok-act_by.field-0 c.loop-place.invariant.0
          (record { at = at; there = slice_get-get_or placed place at c.loop-place-test.true ∙ ap Some (sym c.index-placed-place.is); acts = by_place })
          c.in_ok-push.ensures.items,
      c.site_behind-site.ensures ∙ omega (arith, c.loop-place.invariant.1, more_sites placed place at c.loop-place-test.true c.index-placed-place.is),
    )
