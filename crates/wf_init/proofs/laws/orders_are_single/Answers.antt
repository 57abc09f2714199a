use Rattle.wf_init.proofs.OneOrder.{one_order}
use Rattle.wf_init.proofs.laws.orders_are_single.Goals as goal

pub returns : goal.returns
returns c = one_order
