use Rattle.wf_runtime.proofs.Same.{same_classes}
use Rattle.wf_runtime.proofs.laws.init_order_is_the_machines.Goals as goal

pub returns : goal.returns
returns c = λ p w is k order inside o. same_classes (w.before k) order (c.orders_are_single.ensures _ _ _ _ (is.before k inside) o)
