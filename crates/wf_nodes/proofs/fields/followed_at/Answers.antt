use Rattle.std.proofs.Common.{List, subst}
use Rattle.wf_data.specs.declared.class_info.ClassInfo.{ClassInfo}
use Rattle.wf_classes.specs.Own.{IsField}
use Rattle.wf_nodes.proofs.fields.followed_at.Goals as goal

pub returns : goal.returns
returns c =
    let declared = c.declared_field.result in
    record {
      class = declared.class.0;
      info = declared.info.now;
      is = subst (λ (ks : List ClassInfo). IsField ks c.args.f.0 declared.class.0 declared.info.now) c.classes.ensures c.declared_field.ensures.is;
      followed_is = c.is_followed_field.ensures;
    }
