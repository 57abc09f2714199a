use Rattle.std.proofs.Common.{All, ap, sym, subst, ◌∙◌, length, arith}
use Rattle.wf_links.specs.Candidates.{AreTables, IsThereIfAny, IsPlaceOf}
use Rattle.wf_links.proofs.Linking.{tables_have, tables_long}
use Rattle.wf_links.proofs.SharedCalls.{shared_all}
use Rattle.wf_links.proofs.Tables.{zip_length}
use Rattle.wf_links.proofs.calls.links_of.Goals as goal

pub tables_of-requires : goal.tables_of-requires
tables_of-requires c =
    let P = IsThereIfAny c.args.types.now in
    let shared = c.in_ok-shared.shared in
    subst (All P) (sym c.as_slice-2.ensures.keys)
    (shared_all P c.as_slice.result.now shared.callees.keys shared.places.items c.in_ok-shared.ensures (subst (All P) (sym c.as_slice.ensures.value) c.in_ok-called.ensures.called.called.inside))

pub invariant_of-result : goal.invariant_of-result
invariant_of-result c =
    let types = c.args.types.now in
    let called = c.as_slice.result.now in
    let shared = c.in_ok-shared.shared in
    let callees = shared.callees.keys in
    let lists = c.in_ok-tables.tables.candidates in
    let picks = c.in_ok-tables.tables.picks in
    let tables = subst (λ cs. AreTables types cs lists picks) c.as_slice-2.ensures.keys c.in_ok-tables.ensures in
    let long = tables_long types callees lists picks tables in
    record {
      has_tables = rw c.from_vec.ensures (tables_have types called callees shared.places.items lists picks c.in_ok-shared.ensures tables);
      has_candidates = long.0 ∙ sym long.1;
      few = omega (arith, zip_length (IsPlaceOf callees) called shared.places.items c.in_ok-shared.ensures.each, ap length c.as_slice.ensures.value, ap length c.from_vec.ensures, c.in_ok-called.ensures.few);
    }
