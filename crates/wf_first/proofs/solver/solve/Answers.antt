use Rattle.std.proofs.Common.{◌≡◌, ◌<◌, ◌*◌, ◌-◌, ℕ, List, length, sym, subst, ◌∙◌, arith}
use Rattle.std.specs.Prelude.{Contains}
use Rattle.wf_sys.specs.declared.flow.Flow.{Flow}
use Rattle.wf_sys.specs.declared.inequality.Inequality.{Inequality}
use Rattle.wf_sys.specs.System.{Least}
use Rattle.wf_sys.specs.Assignments.{value_at, IsSeedOf, TargetsFit}
use Rattle.wf_first.proofs.PassLaws.{Laws, height, height_small, pass_higher, Between, starts_between, stays_between, ends_least}
use Rattle.wf_first.proofs.solver.solve.Goals as goal

fits : (system : List (Inequality ℕ)) (a b : List Flow) → length b ≡ length a → TargetsFit (length a) system → TargetsFit (length b) system
fits system a b e fit = subst (λ (n : ℕ). TargetsFit n system) (sym e) fit

-- what the calls before the loop say
the_laws : goal.After-systems_are_monotone → Laws
the_laws c = record {
  reflexive = c.values_are_ordered.ensures.reflexive;
  transitive = c.values_are_ordered.ensures.transitive;
  tests = c.tests_decide.ensures.below;
  empty = c.tests_decide.ensures.empty;
  left = c.join_is_least.ensures.left;
  least = c.join_is_least.ensures.least;
  guards = c.systems_are_monotone.ensures.guards;
  values = c.systems_are_monotone.ensures.values;
}

pub loop-init : goal.loop-init
loop-init c = record { laws = the_laws c; between = starts_between (the_laws c) c.args.system.now c.args.values.now }

pub loop-smaller : goal.loop-smaller
loop-smaller c =
    let higher = pass_higher c.loop.invariant.laws c.args.system.now c.loop.values (fits c.args.system.now c.args.values.now c.loop.values c.loop.auto.values c.requires) (sym c.pass.ensures.quiet ∙ c.loop-test.true) in
    let more : height c.loop.values < height c.pass.new.values = subst (λ (xs : List Flow). height c.loop.values < height xs) (sym c.pass.ensures.passed) higher in
    let small = height_small c.pass.new.values in
    let falls : 2 * length c.pass.new.values - height c.pass.new.values < 2 * length c.loop.values - height c.loop.values = omega (arith, c.pass.auto.values) in
    falls

pub loop-preserved : goal.loop-preserved
loop-preserved c = record {
  laws = c.loop.invariant.laws;
  between = subst (λ (xs : List Flow). Between c.args.system.now c.args.values.now xs) (sym c.pass.ensures.passed)
      (stays_between c.loop.invariant.laws c.args.system.now c.args.values.now c.loop.values (fits c.args.system.now c.args.values.now c.loop.values c.loop.auto.values c.requires) c.loop.invariant.between);
}

pub returns : goal.returns
returns c = subst (λ (xs : List Flow). Least (Contains c.args.system.now) (IsSeedOf c.args.values.now) (value_at xs)) (sym c.pass.ensures.passed)
    (ends_least c.loop.invariant.laws c.args.system.now c.args.values.now c.loop.values c.loop.invariant.between (sym c.pass.ensures.quiet ∙ c.loop-test.false))
