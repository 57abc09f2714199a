use Rattle.std.proofs.Common.{◌+◌, refl, sym, subst, take, arith}
use Rattle.std.proofs.lemmas.Option.{slice_get-get_or, slice_get_within}
use Rattle.std.proofs.lemmas.List.{get_or_default}
use Rattle.wf_links.specs.declared.picking.Chosen.{Chosen}
use Rattle.wf_links.specs.Candidates.{AreTableOf, IsPickOf}
use Rattle.wf_links.proofs.Pairing.{zip_on}
use Rattle.wf_links.proofs.candidates.picks_of.Goals as goal

none : Chosen
none = record { t = record { 0 = 0 }; method = record { 0 = 0 } }

pub place_of-candidate-requires-clause-there : goal.place_of-candidate-requires-clause-there
unfolding none
place_of-candidate-requires-clause-there c =
    let i = c.loop-choice.choice-index in
    c.requires.all.all i _ (slice_get-get_or c.args.chosen.now i none (omega arith))

pub overflow_cast-candidate : goal.overflow_cast-candidate
overflow_cast-candidate c = omega (arith, slice_get_within c.args.candidates.now c.place_of-candidate.result _ c.place_of-candidate.ensures)

pub loop-choice-preserved : goal.loop-choice-preserved
unfolding none
loop-choice-preserved c =
    let chosen = c.args.chosen.now in
    let i = c.loop-choice.choice-index in
    subst (λ picks. AreTableOf c.args.candidates.now (take (i + 1) chosen) picks) (sym c.in_ok-push.ensures.items)
    (zip_on (IsPickOf c.args.candidates.now) chosen c.loop-choice.picks.items i _ _ (omega arith) (get_or_default chosen i none _ (omega arith)) c.loop-choice.invariant
    (record { type = refl; there = c.place_of-candidate.ensures }))
