use Rattle.std.proofs.Common.{subst, List}
use Rattle.wf_data.specs.declared.class_info.ClassInfo.{ClassInfo}
use Rattle.wf_classes.specs.Members.{HaveKeysOfTheirOwn, method_keys, field_keys}
use Rattle.wf_classes.proofs.Spelled.{methods_apart, fields_apart}
use Rattle.wf_classes.proofs.classes.Classes.list.Goals as goal

pub returns-clause-methods_apart : goal.returns-clause-methods_apart
returns-clause-methods_apart c = subst (λ (xs : List ClassInfo). HaveKeysOfTheirOwn (method_keys xs)) c.self.view_is (methods_apart c.self.inside.list c.self.invariant.world.spelled)

pub returns-clause-fields_apart : goal.returns-clause-fields_apart
returns-clause-fields_apart c = subst (λ (xs : List ClassInfo). HaveKeysOfTheirOwn (field_keys xs)) c.self.view_is (fields_apart c.self.inside.list c.self.invariant.world.spelled)
