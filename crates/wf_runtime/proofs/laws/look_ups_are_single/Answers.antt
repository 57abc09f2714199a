use Rattle.std.proofs.Common.{◌∙◌, sym}
use Rattle.std.proofs.lemmas.Bool.Decides.{same_from_decides}
use Rattle.wf_runtime.proofs.Same.{same_classes, same_methods}
use Rattle.wf_runtime.proofs.laws.look_ups_are_single.Goals as goal

pub returns : goal.returns
returns c = record {
  under = λ p w v a b t u. same_from_decides (w.is_under t u) (v.is_under t u) (a.is_under t u) (b.is_under t u);
  arrays = λ p w v a b t. a.is_array t ∙ sym (b.is_array t);
  elements = λ p w v a b t e. same_from_decides (w.has_elements t e) (v.has_elements t e) (a.has_elements t e) (b.has_elements t e);
  stores = λ p w v a b array t. same_from_decides (w.may_hold array t) (v.may_hold array t) (a.may_hold array t) (b.may_hold array t);
  first_elements = λ p w v a b t. a.first_element t ∙ sym (b.first_element t);
  statics = λ p w v a b f k info is. a.is_static f k info is ∙ sym (b.is_static f k info is);
  initializers = λ p w v a b k. same_methods (w.initializer k) (v.initializer k) (a.initializer k ∙ sym (b.initializer k));
  before = λ p w v a b k inside. same_classes (w.before k) (v.before k) (c.orders_are_single.ensures _ _ _ _ (a.before k inside) (b.before k inside));
  errors = λ p w v a b t. same_from_decides (w.is_error t) (v.is_error t) (a.is_error t) (b.is_error t);
  thrown = λ p w v a b e. a.thrown e ∙ sym (b.thrown e);
  summaries = λ p w v a b m. a.summary m ∙ sym (b.summary m);
  entries = λ p w v a b m k info is. a.entry m k info is ∙ sym (b.entry m k info is);
}
