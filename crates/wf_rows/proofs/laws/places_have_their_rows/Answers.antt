use Rattle.wf_rows.proofs.Listed.{place-edge, place-act, place-error, place-failure}
use Rattle.wf_rows.proofs.laws.places_have_their_rows.Goals as goal

pub returns : goal.returns
returns c = record { edges = place-edge; acts = place-act; errors = place-error; failures = place-failure }
