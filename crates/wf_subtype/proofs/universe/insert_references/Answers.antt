use Rattle.std.proofs.Common.{◌≡◌, ◌∙◌, List, ℕ, sym, subst}
use Rattle.wf_subtype.specs.Universe.{InsertsArrays, Makes}
use Rattle.wf_subtype.proofs.Collecting.{on_ok}
use Rattle.wf_subtype.proofs.Making.{references_made, no_references}
use Rattle.wf_subtype.proofs.universe.insert_references.Goals as goal

pub returns-in_ok-name-in-Some : goal.returns-in_ok-name-in-Some
returns-in_ok-name-in-Some c =
    let classes = c.args.classes.now in
    let old = c.args.types.now.keys in
    let new = c.insert_array.new.types.keys in
    on_ok c.insert_array.result (InsertsArrays classes old new (λ n. n ≡ c.as_slice.result.now)) (InsertsArrays classes old new (Makes c.args.pool.now c.args.instr.now))
    (λ h. references_made classes old new c.args.pool.now c.args.instr.now c.in-Some.component.now c.requires.op (sym c.in-Some.ensures)
    (subst (λ (name : List ℕ). InsertsArrays classes old new (λ n. n ≡ name)) (c.as_slice.ensures ∙ c.in_ok-name-in-Some.ensures) h))
    c.insert_array.ensures

pub returns-in-None : goal.returns-in-None
returns-in-None c = no_references c.args.classes.now c.args.types.now.keys c.args.pool.now c.args.instr.now c.requires.op (sym c.in-None.ensures)
