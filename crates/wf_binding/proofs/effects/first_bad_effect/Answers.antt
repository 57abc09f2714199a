use Rattle.std.proofs.Common.{◌+◌, ◌∙◌, ap, sym, subst, refl, length, arith}
use Rattle.std.proofs.lemmas.Option.{slice_get_read}
use Rattle.wf_binding.specs.Validity.{IsBadEffect}
use Rattle.wf_binding.specs.First.{IsFirst, Upto, at_line, earlier_of}
use Rattle.wf_binding.proofs.EffectLines.{more_effects, all_effects}
use Rattle.wf_binding.proofs.effects.first_bad_effect.Goals as goal

pub loop-effect-preserved : goal.loop-effect-preserved
loop-effect-preserved c =
    let h = c.loop-effect in
    let e = c.effect-item.result in
    let effects = c.args.effects.now in
    let there = slice_get_read effects (length effects) h.effect-index e refl c.loop-effect-test.true c.effect-item.is in
    subst (IsFirst (Upto (IsBadEffect c.args.classes.now c.args.shape.args.now c.args.shape.ret.now effects) (h.effect-index + 1)))
    (sym (c.earlier_of-found.ensures ∙ ap (earlier_of h.found) (c.at_line.ensures ∙ ap (at_line e.line) c.effect_word-word.ensures)))
    (more_effects c.args.classes.now c.args.shape.args.now c.args.shape.ret.now effects h.effect-index e h.found there h.invariant)

pub returns : goal.returns
returns c =
    let h = c.loop-effect in
    all_effects c.args.classes.now c.args.shape.args.now c.args.shape.ret.now c.args.effects.now h.effect-index h.found (omega arith) h.invariant
