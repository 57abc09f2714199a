use Rattle.std.proofs.Common.{◌≡◌, ℕ, suc, ◌+◌, ◌-◌, List, drop, Some, None, sym, ap, ◌∙◌, arith}
use Rattle.wf_base.specs.declared.ids.TypeId.{TypeId}
use Rattle.wf_actions.specs.Named.{type_named, with_components}
use Rattle.wf_actions.proofs.Components.{missing, more}
use Rattle.wf_actions.proofs.named.components.Goals as goal

pub returns-in-None : goal.returns-in-None
returns-in-None c =
    let types = c.args.types.now in
    let left = c.loop.left.now in
    let n : ℕ = c.args.count - c.loop.counter in
    let none : type_named types (drop 1 left) ≡ None = ap (type_named types) (sym c.behind-left.ensures) ∙ sym c.type_named.ensures ∙ c.in-None.is in
    sym (c.loop.invariant ∙ missing types c.loop.found.items n left (omega (arith, c.loop-test.true)) none)

pub loop-preserved : goal.loop-preserved
loop-preserved c =
    let types = c.args.types.now in
    let left = c.loop.left.now in
    let t = c.in-Some.t in
    let n : ℕ = c.args.count - (c.loop.counter + 1) in
    let some : type_named types (drop 1 left) ≡ Some t = ap (type_named types) (sym c.behind-left.ensures) ∙ sym c.type_named.ensures ∙ c.in-Some.is in
    let fewer : c.args.count - c.loop.counter ≡ suc n = omega (arith, c.loop-test.true) in
    c.loop.invariant ∙ ap (λ m. with_components types c.loop.found.items m left) fewer ∙ more types c.loop.found.items n left t some
    ∙ ap (λ (ts : List TypeId). with_components types ts n (drop 1 left)) (sym c.in_ok-push-in-Some.ensures.items)
    ∙ ap (λ (name : List ℕ). with_components types c.push.new.self.items n name) (sym c.behind-left.ensures)
