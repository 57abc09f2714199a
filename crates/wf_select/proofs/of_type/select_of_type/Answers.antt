use Rattle.std.proofs.Common.{◌<◌, List, length, sym, subst}
use Rattle.wf_data.specs.declared.class_info.ClassInfo.{ClassInfo}
use Rattle.wf_classes.specs.Members.{method_keys, member_count}
use Rattle.wf_select.specs.Selection.{Selects}
use Rattle.wf_select.proofs.of_type.select_of_type.Goals as goal

pub select-requires-clause-t_in : goal.select-requires-clause-t_in
select-requires-clause-t_in c = subst (λ (ks : List ClassInfo). c.class_of.result.0 < length ks) (sym c.classes.ensures) c.class_of.ensures.within

pub select-requires-clause-resolved_in : goal.select-requires-clause-resolved_in
select-requires-clause-resolved_in c = subst (λ (ks : List ClassInfo). c.args.resolved.0 < member_count (method_keys ks)) (sym c.classes.ensures) c.requires.resolved_in

pub returns : goal.returns
returns c = record {
  class = c.class_of.result.0;
  is = c.class_of.ensures.class;
  selects = subst (λ (ks : List ClassInfo). Selects ks c.class_of.result.0 c.args.resolved.0 c.args.by c.select.result) c.classes.ensures c.select.ensures;
}
