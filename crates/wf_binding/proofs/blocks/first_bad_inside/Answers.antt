use Rattle.std.proofs.Common.{◌≡◌, ◌∙◌, ap, subst, List}
use Rattle.wf_base.specs.declared.kind.Kind.{Kind}
use Rattle.wf_descriptor.specs.declared.descriptor.FieldDesc.{FieldDesc}
use Rattle.wf_inputs.specs.declared.summary.EffectLine.{EffectLine}
use Rattle.wf_binding.specs.First.{IsFirst}
use Rattle.wf_binding.specs.Named.{argument_kinds}
use Rattle.wf_binding.specs.Validity.{Somewhere, IsBadEffect}
use Rattle.wf_binding.proofs.BlockLines.{inside_first}
use Rattle.wf_binding.proofs.blocks.first_bad_inside.Goals as goal

pub returns : goal.returns
returns c =
    let classes = c.args.classes.now in
    let d = c.in_ok-desc.desc in
    let found = c.first_bad_effect.result in
    let args : c.as_slice-2.result.now ≡ argument_kinds c.args.flags d.params =
    c.as_slice-2.ensures.value ∙ c.in_ok-args.ensures ∙ ap (argument_kinds c.args.flags) c.as_slice.ensures in
    let a = subst (λ (x : List Kind). IsFirst (Somewhere (IsBadEffect classes x d.ret c.as_slice-3.result.now)) found) args c.first_bad_effect.ensures in
    let e = subst (λ (x : List EffectLine). IsFirst (Somewhere (IsBadEffect classes (argument_kinds c.args.flags d.params) d.ret x)) found) c.as_slice-3.ensures a in
    inside_first classes c.args.block.now c.args.flags d found c.one_descriptor.ensures.method c.requires c.in_ok-desc.ensures e
