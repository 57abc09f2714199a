use Rattle.std.proofs.Common.{refl}
use Rattle.wf_data.specs.declared.class_info.ClassInfo.{ClassInfo}
use Rattle.wf_first.specs.Calls.{statics_in, statics_of}
use Rattle.wf_first.proofs.StaticLaws.{gathered_next}
use Rattle.wf_first.proofs.calls.statics_of.Goals as goal

pub loop-class-preserved : goal.loop-class-preserved
loop-class-preserved c = gathered_next (λ (class : ClassInfo). statics_in class class.methods) statics_of (λ class classes. refl)
    _ c.loop-class.class-index c.class-item.result _ _ _ c.loop-class-test.true c.class-item.is c.in_ok-add_statics.ensures c.loop-class.invariant
