use Rattle.std.proofs.Common.{◌∷◌, []}
use Rattle.wf_data.specs.declared.class_info.MethodInfo.{MethodInfo}
use Rattle.wf_first.specs.Calls.{statics_in}
use Rattle.wf_first.proofs.StaticLaws.{gathered_next, one_before}
use Rattle.wf_first.proofs.calls.add_statics.Goals as goal

pub loop-method-preserved : goal.loop-method-preserved
loop-method-preserved c = gathered_next (λ (m : MethodInfo). statics_in c.args.class.now (m ∷ [])) (statics_in c.args.class.now) (one_before c.args.class.now)
    _ c.loop-method.method-index c.method-item.result _ _ _ c.loop-method-test.true c.method-item.is c.in_ok-add_static.ensures c.loop-method.invariant
