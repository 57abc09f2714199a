use Rattle.wf_rows.proofs.Listed.{candidate, argument, static_argument, store}
use Rattle.wf_rows.proofs.laws.lists_have_their_rows.Goals as goal

pub returns : goal.returns
returns c = record { candidates = candidate; arguments = argument; static_arguments = static_argument; stores = store }
