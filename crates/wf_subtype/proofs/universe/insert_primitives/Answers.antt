use Rattle.std.proofs.Common.{◌≡◌, ◌∙◌, ◌∷◌, [], ℕ, sym, subst}
use Rattle.wf_subtype.specs.Universe.{InsertsArrays, Makes}
use Rattle.wf_subtype.proofs.Collecting.{on_ok}
use Rattle.wf_subtype.proofs.Making.{primitives_made, no_primitives}
use Rattle.wf_subtype.proofs.universe.insert_primitives.Goals as goal

pub returns-in-Some : goal.returns-in-Some
returns-in-Some c =
    let classes = c.args.classes.now in
    let old = c.args.types.now.keys in
    let new = c.insert_array.new.types.keys in
    let code = c.in-Some.code in
    on_ok c.insert_array.result (InsertsArrays classes old new (λ n. n ≡ 91 ∷ c.letter_of.result ∷ [])) (InsertsArrays classes old new (Makes c.args.pool.now c.args.instr.now))
    (λ h. primitives_made classes old new c.args.pool.now c.args.instr.now code c.requires.op (sym c.first_operand.ensures ∙ c.in-Some.is)
    (subst (λ (letter : ℕ). InsertsArrays classes old new (λ n. n ≡ 91 ∷ letter ∷ [])) c.letter_of.ensures h))
    c.insert_array.ensures

pub returns-in-None : goal.returns-in-None
returns-in-None c = no_primitives c.args.classes.now c.args.types.now.keys c.args.pool.now c.args.instr.now c.requires.op (sym c.first_operand.ensures ∙ c.in-None.is)
