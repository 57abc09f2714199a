use Rattle.std.proofs.Common.{subst}
use Rattle.wf_links.specs.Candidates.{AreMethodsOf, AreTableOf}
use Rattle.wf_links.proofs.Tables.{table_is}
use Rattle.wf_links.proofs.candidates.table_of.Goals as goal

pub returns : goal.returns
returns c =
    let chosen = c.in_ok-chosen.chosen.items in
    let candidates = c.in_ok-candidates.candidates.items in
    let picks = c.in_ok-picks.picks in
    rw c.from_vec.ensures (table_is c.args.types.now c.args.callee candidates chosen picks c.in_ok-chosen.ensures
    (subst (λ cs. AreMethodsOf cs candidates) c.as_slice.ensures.value c.in_ok-candidates.ensures)
    (subst (λ ms. AreTableOf ms chosen picks) c.as_slice-2.ensures.value (subst (λ cs. AreTableOf c.as_slice-2.result.now cs picks) c.as_slice-3.ensures.value c.in_ok-picks.ensures)))
